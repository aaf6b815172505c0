-- The test on masks finds the triples whose sets share a seat.
use Rattle.std.proofs.Common.{◌≡◌, ◌↔◌, true, List, Any, IsTrue, refl, ap}
use Rattle.std.specs.List.{list_any}
use Rattle.std.proofs.lemmas.Bool.{not-true, not_from_false, and_parts, and_from}
use Rattle.std.proofs.lemmas.List.Folds.{Any-from_list_any, list_any-from_Any}
use Rattle.mg_topology.specs.declared.triple.Triple.{Triple}
use Rattle.mg_words.specs.declared.association.Association.{Association}
use Rattle.mg_words.specs.declared.association.Association.TheVariants.{Isolate, Oneway, Bothway}
use Rattle.mg_topology.specs.Triple.{is_oneway, overlaps, Overlaps}
use Rattle.mg_topology.proofs.MaskLemmas.{has_common_seat, is_disjoint-common}

oneway_from : (association : Association) → is_oneway association ≡ true → association ≡ Oneway
oneway_from Isolate e = cc
oneway_from Oneway e = refl
oneway_from Bothway e = cc

found : (triple : Triple) → overlaps triple ≡ true → Overlaps triple
found triple e =
    let parts = and_parts _ _ e in
    (oneway_from _ parts.0, has_common_seat triple.first triple.second (not-true _ parts.1))

tested : (triple : Triple) → Overlaps triple → overlaps triple ≡ true
tested triple h = and_from _ _ (ap is_oneway h.0) (not_from_false _ (is_disjoint-common triple.first triple.second h.1))

-- The test `overlaps` agrees with the predicate `Overlaps`.
pub overlaps-is : (triple : Triple) → IsTrue (overlaps triple) ↔ Overlaps triple
overlaps-is triple = (found triple, tested triple)

any_from : {P Q : Triple → Type 0} → ((triple : Triple) → P triple → Q triple) → (triples : List Triple) →
    Any P triples → Any Q triples
any_from step triples (k, triple, within, is, p) = (k, triple, within, is, step triple p)

-- The test `overlaps` finds a triple in a list if and only if some triple of the list overlaps.
pub list_any-overlaps : (triples : List Triple) → IsTrue (list_any overlaps triples) ↔ Any Overlaps triples
list_any-overlaps triples = (
  λ e. any_from found triples (Any-from_list_any overlaps triples e),
  λ h. list_any-from_Any overlaps triples (any_from tested triples h),
)
