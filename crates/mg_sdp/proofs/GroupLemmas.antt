-- Lines divide into alternatives in exactly one way.
use Rattle.std.proofs.Common.{◌≡◌, ℕ, Bool, true, false, not, List, [], ◌∷◌, ◌++◌, drop, refl, sym, ap, ◌∙◌, append_assoc}
use Rattle.std.proofs.lemmas.List.{append-nil}
use Rattle.std.proofs.lemmas.List.Folds.{list_all-append}
use Rattle.std.proofs.lemmas.Grind.{flat_map-append}
use Rattle.std.proofs.lemmas.Bool.{and_parts}
use Rattle.std.specs.Prelude.{IsTrue}
use Rattle.std.specs.List.{list_all, flat_map, AllByRecursion}
use Rattle.mg_sdp.specs.Alternatives.{is_version, IsAlternative, BeginsWithVersion, AreAlternatives}
use Rattle.mg_sdp.specs.Sessions.{one_alternative, alternatives_after}

-- These lemmas show that `alternatives_after` computes alternatives of the lines.
joined_closing : (current : List (List ℕ)) → flat_map (λ ls. ls) (one_alternative current) ≡ current
joined_closing [] = refl
joined_closing (line ∷ lines) = append-nil (line ∷ lines)

joined_step : (current : List (List ℕ)) (line : List ℕ) (lines : List (List ℕ)) (version : Bool) →
    is_version line ≡ version
    → ((current' : List (List ℕ)) → flat_map (λ ls. ls) (alternatives_after current' lines) ≡ current' ++ lines)
    → flat_map (λ ls. ls) (alternatives_after current (line ∷ lines)) ≡ current ++ line ∷ lines
joined_step current line lines true e others =
    rw (
      e,
      flat_map-append (λ (ls : List (List ℕ)). ls) (one_alternative current)
          (alternatives_after (line ∷ []) lines),
      joined_closing current,
      others (line ∷ []),
    ) refl
joined_step current line lines false e others =
    rw e (others (current ++ line ∷ []) ∙ append_assoc current (line ∷ []) lines)

joined : (lines current : List (List ℕ)) → flat_map (λ ls. ls) (alternatives_after current lines) ≡ current ++ lines
joined [] current = joined_closing current ∙ sym (append-nil current)
joined (line ∷ lines) current = joined_step current line lines (is_version line) refl (joined lines)

abbrev continues : List ℕ → Bool
continues line = not (is_version line)

-- The lines of an unfinished alternative: only the first can be a v= line.
abbrev IsBegun : List (List ℕ) → Type 0
IsBegun [] = Unit {0}
IsBegun (line ∷ lines) = IsTrue (list_all continues lines)

each_push : (current : List (List ℕ)) (line : List ℕ) → is_version line ≡ false → IsBegun current →
    IsBegun (current ++ line ∷ [])
each_push [] line e h = refl
each_push (first ∷ lines) line e h = rw (list_all-append continues lines (line ∷ []), h, e) refl

each_closing : (current : List (List ℕ)) (others : List (List (List ℕ))) → IsBegun current →
    AllByRecursion IsAlternative others → AllByRecursion IsAlternative (one_alternative current ++ others)
each_closing [] others h rest = rest
each_closing (line ∷ lines) others h rest = (h, rest)

each_step : (current : List (List ℕ)) (line : List ℕ) (lines : List (List ℕ)) (version : Bool) →
    is_version line ≡ version → IsBegun current
    → ((current' : List (List ℕ)) → IsBegun current' → AllByRecursion IsAlternative (alternatives_after current' lines))
    → AllByRecursion IsAlternative (alternatives_after current (line ∷ lines))
each_step current line lines true e h others =
    rw e (each_closing current (alternatives_after (line ∷ []) lines) h (others (line ∷ []) refl))
each_step current line lines false e h others = rw e (others (current ++ line ∷ []) (each_push current line e h))

each : (lines current : List (List ℕ)) → IsBegun current →
    AllByRecursion IsAlternative (alternatives_after current lines)
each [] current h = rw (← append-nil (one_alternative current)) (each_closing current [] h tt)
each (line ∷ lines) current h = each_step current line lines (is_version line) refl h (each lines)

-- By these lemmas, each alternative after the first starts with a v= line. If the first one does, too, all alternatives
-- do.
begin_step : (first : List ℕ) (rest : List (List ℕ)) (line : List ℕ) (lines : List (List ℕ)) (version : Bool) →
    is_version line ≡ version → IsTrue (is_version first)
    → ((first' : List ℕ) (rest' : List (List ℕ)) → IsTrue (is_version first') →
    AllByRecursion BeginsWithVersion (alternatives_after (first' ∷ rest') lines))
    → AllByRecursion BeginsWithVersion (alternatives_after (first ∷ rest) (line ∷ lines))
begin_step first rest line lines true e h others = rw e (h, others line [] e)
begin_step first rest line lines false e h others = rw e (others first (rest ++ line ∷ []) h)

begin : (lines : List (List ℕ)) (first : List ℕ) (rest : List (List ℕ)) → IsTrue (is_version first) →
    AllByRecursion BeginsWithVersion (alternatives_after (first ∷ rest) lines)
begin [] first rest h = (h, tt)
begin (line ∷ lines) first rest h = begin_step first rest line lines (is_version line) refl h (begin lines)

later_rest : (alternatives : List (List (List ℕ))) → AllByRecursion BeginsWithVersion alternatives →
    AllByRecursion BeginsWithVersion (drop 1 alternatives)
later_rest [] h = tt
later_rest (first ∷ others) h = h.1

later_closing : (current : List (List ℕ)) (others : List (List (List ℕ))) → AllByRecursion BeginsWithVersion others →
    AllByRecursion BeginsWithVersion (drop 1 (one_alternative current ++ others))
later_closing [] others h = later_rest others h
later_closing (line ∷ lines) others h = h

later_step : (current : List (List ℕ)) (line : List ℕ) (lines : List (List ℕ)) (version : Bool) →
    is_version line ≡ version
    → ((current' : List (List ℕ)) → AllByRecursion BeginsWithVersion (drop 1 (alternatives_after current' lines)))
    → AllByRecursion BeginsWithVersion (drop 1 (alternatives_after current (line ∷ lines)))
later_step current line lines true e others =
    rw e (later_closing current (alternatives_after (line ∷ []) lines) (begin lines line [] e))
later_step current line lines false e others = rw e (others (current ++ line ∷ []))

later : (lines current : List (List ℕ)) → AllByRecursion BeginsWithVersion (drop 1 (alternatives_after current lines))
later [] current = rw (← append-nil (one_alternative current)) (later_closing current [] tt)
later (line ∷ lines) current = later_step current line lines (is_version line) refl (later lines)

pub are_alternatives : (lines : List (List ℕ)) → AreAlternatives lines (alternatives_after [] lines)
are_alternatives lines = record { joined = joined lines []; each = each lines [] tt; later = later lines [] }

-- The lines of alternatives, in order. By the lemmas below, lines have only the alternatives that `alternatives_after`
-- computes.
abbrev join : List (List (List ℕ)) → List (List ℕ)
join alternatives = flat_map (λ ls. ls) alternatives

plain_step : (current : List (List ℕ)) (line : List ℕ) (lines : List (List ℕ)) (plain : Bool) →
    is_version line ≡ plain → continues line ≡ true →
    alternatives_after current (line ∷ lines) ≡ alternatives_after (current ++ line ∷ []) lines
plain_step current line lines true e h = let bad : not true ≡ true = rw e at h in cc
plain_step current line lines false e h = rw e refl

-- Lines other than v= lines belong to the current alternative.
plain_lines : (plain current rest : List (List ℕ)) → list_all continues plain ≡ true →
    alternatives_after current (plain ++ rest) ≡ alternatives_after (current ++ plain) rest
plain_lines [] current rest h = rw (append-nil current) refl
plain_lines (line ∷ plain) current rest h =
    plain_step current line (plain ++ rest) (is_version line) refl
    (and_parts (continues line) (list_all continues plain) h).0
    ∙ plain_lines plain (current ++ line ∷ []) rest (and_parts (continues line) (list_all continues plain) h).1
    ∙ ap (λ (front : List (List ℕ)). alternatives_after front rest) (append_assoc current (line ∷ []) plain)

others_same : (others : List (List (List ℕ))) (line : List ℕ) (lines : List (List ℕ)) →
    AllByRecursion IsAlternative others → AllByRecursion BeginsWithVersion others
    → alternatives_after (line ∷ lines) (join others) ≡ (line ∷ lines) ∷ others
others_same [] line lines each begin = refl
others_same ([] ∷ others) line lines each begin = absurd each.0
others_same ((version ∷ plain) ∷ others) line lines each begin =
    let next : alternatives_after (version ∷ []) (plain ++ join others) ≡ (version ∷ plain) ∷ others =
    plain_lines plain (version ∷ []) (join others) each.0 ∙ others_same others version plain each.1 begin.1 in
    rw (begin.0, next) refl

first_line : (line : List ℕ) (lines : List (List ℕ)) (version : Bool) → is_version line ≡ version →
    alternatives_after [] (line ∷ lines) ≡ alternatives_after (line ∷ []) lines
first_line line lines true e = rw e refl
first_line line lines false e = rw e refl

joined_same : (alternatives : List (List (List ℕ))) → AllByRecursion IsAlternative alternatives →
    AllByRecursion BeginsWithVersion (drop 1 alternatives) → alternatives_after [] (join alternatives) ≡ alternatives
joined_same [] each later = refl
joined_same ([] ∷ others) each later = absurd each.0
joined_same ((line ∷ plain) ∷ others) each later =
    first_line line (plain ++ join others) (is_version line) refl ∙
    plain_lines plain (line ∷ []) (join others) each.0 ∙ others_same others line plain each.1 later

pub alternatives_same : (lines : List (List ℕ)) (alternatives : List (List (List ℕ))) →
    AreAlternatives lines alternatives → alternatives_after [] lines ≡ alternatives
alternatives_same lines alternatives h = rw (← h.joined) (joined_same alternatives h.each h.later)
