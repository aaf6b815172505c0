-- The number that a journal has reached. The fence of a resumed gateway starts with this number, unless an operator
-- sets it.
use Rattle.std.specs.Prelude.{◌≡◌, ℕ, max, List, [], ◌∷◌, codes, take, drop, Option, None, unwrap_or}
use Rattle.std.specs.Prelude.{if◌then◌else◌}
use Rattle.std.specs.Str.{bytes_eq}
use Rattle.mg_words.specs.Numbers.{number_of}
use Rattle.mg_core.specs.declared.event.Event.TheVariants.{Control}
use Rattle.mg_core.specs.Note.{Note, Comment, Happened}
use Rattle.mg_fence.specs.Number.{HasNumber}

-- The number in a comment such as `# fence 17`, in which an operator set the fence.
abbrev pub number_set : List ℕ → Option ℕ
number_set line = if bytes_eq (take 8 line) (codes "# fence ") then number_of (drop 8 line) else None

-- The number in a comment such as `# reached 17`, with which a renewed journal states the number that it had reached.
abbrev pub number_reached : List ℕ → Option ℕ
number_reached line =
    if bytes_eq (take 10 line) (codes "# reached ") then number_of (drop 10 line) else None

-- The number after a comment. An operator's number replaces the number, and a higher number that was reached raises it.
abbrev pub after_comment : (from : ℕ) → List ℕ → ℕ
after_comment from line = unwrap_or (number_set line) (max from (unwrap_or (number_reached line) 0))

-- The number that these notes reach, starting from the number `from`. A message raises the number to its own number, if
-- that is higher.
abbrev pub Reaches : (from : ℕ) → List Note → (last : ℕ) → Type 0
Reaches from [] last = last ≡ from
Reaches from (Comment line ∷ notes) last = Reaches (after_comment from line) notes last
Reaches from (Happened (Control source bytes) ∷ notes) last =
    (n : Option ℕ) × HasNumber bytes n × Reaches (max from (unwrap_or n 0)) notes last
Reaches from (note ∷ notes) last = Reaches from notes last
