-- The report that `mg_bridge verify` prints, and its exit status.
use Rattle.std.specs.Prelude.{ℕ, ◌-◌, Bool, true, false, ◌&&◌, List, [], ◌++◌, bytes_eq, codes, decimal}
use Rattle.std.specs.Prelude.{Option, Some, None, if◌then◌else◌, is_none}
use Rattle.std.specs.Option.{option_map_or}
use Rattle.mg_chain.specs.declared.linked.Linked.{Linked}
use Rattle.mg_chain.specs.declared.seals.Seals.{Seals}
use Rattle.mg_options.specs.declared.status.Status.{Status}
use Rattle.mg_options.specs.declared.status.Status.TheVariants.{Done, BadLine, Unknown}

-- The report about seals, given the lines of the last valid seal and the first invalid seal. The report says nothing
-- about lines after an invalid seal.
abbrev pub reported : Seals → (right wrong : Option ℕ) → List ℕ
reported seals (Some right) (Some wrong) =
    codes "changed after line " ++ (decimal right ++ (codes ", up to line " ++ (decimal wrong ++ codes "\n")))
reported seals None (Some wrong) = codes "changed up to line " ++ (decimal wrong ++ codes "\n")
reported seals (Some right) None =
    codes "seals hold: " ++ (decimal seals.count ++ (codes ", the last in line " ++ (decimal right
    ++ (codes "; lines after it: " ++ (decimal (seals.lines - right) ++ codes "\n")))))
reported seals None None = codes "no seals in " ++ (decimal seals.lines ++ codes " lines\n")

abbrev pub report : Seals → List ℕ
report seals = reported seals seals.right seals.wrong

abbrev pub answer : (right wrong : Option ℕ) → Status
answer right (Some wrong) = BadLine
answer (Some right) None = Done
answer None None = Unknown

-- ## Several files, oldest first

-- Whether a file follows the one before it, given the end of the seal that would follow that one. True for the first
-- file, which has none before it.
abbrev pub is_next : (before : Option (List ℕ)) → Linked → Bool
is_next None linked = true
is_next (Some end) linked =
    option_map_or (λ follows. bytes_eq follows end) linked.seals.follows false

abbrev pub next_report : (name : List ℕ) → Linked → (is_next : Bool) → List ℕ
next_report name linked is_next =
    (name ++ (codes ": " ++ report linked.seals))
    ++ (if is_next then [] else name ++ codes ": doesn't follow the file before it\n")

abbrev pub next_answer : Linked → (is_next : Bool) → Status
next_answer linked is_next = if is_next && is_none linked.seals.wrong then Done else BadLine
