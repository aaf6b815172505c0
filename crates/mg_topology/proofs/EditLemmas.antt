-- Lemmas about lists of edits.
use Rattle.std.proofs.Common.{◌≡◌, ℕ, true, false, ◌||◌, ◌==◌, Some, None, List, [], ◌∷◌, ◌++◌, if◌then◌else◌, inl, inr, refl, sym, ap, ◌∙◌, arith}
use Rattle.std.specs.List.{list_any}
use Rattle.std.proofs.lemmas.Bool.{false≢true, and_parts, cases_Bool}
use Rattle.mg_topology.specs.declared.triple.Triple.{Triple}
use Rattle.mg_words.specs.declared.association.Association.TheVariants.{Oneway}
use Rattle.mg_topology.specs.Triple.{is_forward, mentions, overlaps}
use Rattle.mg_topology.specs.Edits.{TopologyEdit, Enter, Leave, Apply, last_word, touches}
use Rattle.mg_topology.proofs.TripleLemmas.{overlaps-is}

-- The last word on a pair stays the same after newer edits that do not touch the pair.
pub last_word-append : (newer older : List TopologyEdit) (a b : ℕ) → list_any (λ edit. touches edit a b) newer ≡ false →
    last_word (newer ++ older) a b ≡ last_word older a b
last_word-append [] older a b p = refl
last_word-append (Enter n ∷ es) older a b p = grind (arith, last_word-append es older a b)
last_word-append (Leave n ∷ es) older a b p = last_word-append es older a b p
last_word-append (Apply triple ∷ es) older a b p = grind (arith, last_word-append es older a b)

-- After an Enter for either seat, there is no last word until a newer edit touches the pair.
pub last_word-entered : (newer older : List TopologyEdit) (n a b : ℕ) → ((a == n) || (b == n)) ≡ true →
    list_any (λ edit. touches edit a b) newer ≡ false → last_word (newer ++ Enter n ∷ older) a b ≡ None
last_word-entered newer older n a b p q = last_word-append newer (Enter n ∷ older) a b q ∙
    ap (λ x. if x then None else last_word older a b) p

-- A triple that mentions a pair is the last word on it until a newer edit touches the pair.
pub last_word-applied : (newer older : List TopologyEdit) (triple : Triple) (a b : ℕ) → mentions triple a b ≡ true →
    list_any (λ edit. touches edit a b) newer ≡ false → last_word (newer ++ Apply triple ∷ older) a b ≡ Some triple
last_word-applied newer older triple a b p q = last_word-append newer (Apply triple ∷ older) a b q ∙
    ap (λ x. if x then Some triple else last_word older a b) p

-- A Oneway triple that does not overlap never mentions a pair in both directions.
pub one_way_alone : (triple : Triple) (a b : ℕ) → triple.association ≡ Oneway → overlaps triple ≡ false →
    is_forward triple a b ≡ true → is_forward triple b a ≡ false
one_way_alone triple a b oneway apart p =
    elim (cases_Bool (is_forward triple b a)) [
      | inl back ↦ absurd (false≢true (sym apart ∙
          (overlaps-is triple).1 (
            oneway,
            record {
              seat = b;
              in_first = (and_parts _ _ back).0;
              in_second = (and_parts _ _ p).1;
            },
          )))
      | inr not_back ↦ not_back
    ]
