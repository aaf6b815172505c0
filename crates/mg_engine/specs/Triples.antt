-- The triples of a topology descriptor in an edit, the members that their terms match, and the errors that they cause
-- (RFC 3525, section 7.1.18). The error numbers and the order of the checks are this project's own.
use Rattle.std.specs.Prelude.{ℕ, Bool, true, false, not, ◌&&◌, ◌||◌, List, [], ◌∷◌, Result, Ok}
use Rattle.std.specs.List.{list_any}
use Rattle.mg_words.specs.declared.error_number.ErrorNumber.{ErrorNumber}
use Rattle.mg_words.specs.declared.error_number.ErrorNumber.TheVariants as errors
use Rattle.mg_words.specs.ResultSteps.{◌>>=◌}
use Rattle.mg_topology.specs.Triple.{is_oneway}
use Rattle.mg_rooms.specs.Results.{passes}
use Rattle.mg_engine.specs.declared.triple_term.TripleTerm.{TripleTerm}
use Rattle.mg_engine.specs.declared.triple_term.TripleTerm.TheVariants.{Every, Number, Barred}
use Rattle.mg_engine.specs.declared.triple_term.TripleTerm.TheVariants.{Stranger}
use Rattle.mg_engine.specs.declared.topology_triple.TopologyTriple.{TopologyTriple}
use Rattle.mg_engine.specs.Gateway.{ContextEdit, Apply}
use Rattle.mg_engine.specs.Flow.{has}

-- The terminations that a term matches: all members, the termination that the term names, or none.
abbrev pub matched : List ℕ → TripleTerm → List ℕ
matched members Every = members
matched members (Number n) = n ∷ []
matched members _ = []

abbrev pub is_barred : TripleTerm → Bool
is_barred Barred = true
is_barred _ = false

-- Whether a term is the number of a termination that is not a member, or a name that no termination has.
abbrev pub names_others : List ℕ → TripleTerm → Bool
names_others members (Number n) = not (has members n)
names_others members Stranger = true
names_others members _ = false

-- Whether a triple is Oneway and some member matches both of its terms.
abbrev pub overlaps : List ℕ → TopologyTriple → Bool
overlaps members x =
    is_oneway x.association && list_any (has (matched members x.second)) (matched members x.first)

-- The first error in a triple.
abbrev pub check_triple : List ℕ → TopologyTriple → Result (Unit {0}) ErrorNumber
check_triple members x = do
  _ ← passes (not (is_barred x.first || is_barred x.second)) errors.IdentifierNotAllowed
  _ ← passes (not (names_others members x.first || names_others members x.second))
      errors.NotInContext
  passes (not (overlaps members x)) errors.IllegalCombination

-- The first error in the triples, in order.
abbrev pub check_triples : List ℕ → List TopologyTriple → Result (Unit {0}) ErrorNumber
check_triples members [] = Ok tt
check_triples members (x ∷ xs) = do
  _ ← check_triple members x
  check_triples members xs

-- The edits followed by the triples in order, each with the members that its terms match.
abbrev pub with_triples : List ℕ → List TopologyTriple → List ContextEdit → List ContextEdit
with_triples members [] es = es
with_triples members (x ∷ xs) es =
    with_triples members xs
    (Apply (matched members x.first) (matched members x.second) x.association ∷ es)
