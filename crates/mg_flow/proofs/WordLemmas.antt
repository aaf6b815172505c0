-- A last word on one talker and one listener.
use Rattle.std.proofs.Common.{zero, suc, Result, Ok, Err, OnOk, IsErr, IsTrue, Any, ◌↔◌, List, [], ◌∷◌, ◌≡◌, ◌≢◌, ℕ, ◌&&◌, ◌||◌, ◌==◌, Bool, true, if◌then◌else◌, refl, sym, ap, subst, ◌∙◌, arith, inl, inr}
use Rattle.std.proofs.lemmas.Bool.{cases_Bool, eqb-true, eq-eqb, and_parts, true≢false}
use Rattle.std.proofs.lemmas.Bool.Decides.{nat_tests}
use Rattle.mg_topology.specs.declared.overlap.Overlap.{Overlap}
use Rattle.mg_topology.specs.declared.triple.Triple.{Triple}
use Rattle.mg_topology.specs.Triple.{mentions, word_of, Overlaps}
use Rattle.mg_flow.specs.declared.place.Place.{Place}
use Rattle.mg_flow.specs.Place.{are_together}
use Rattle.mg_flow.specs.aids.Table.{KeepsOthers, RoomFlows, hears, hears_after, holds}
use Rattle.mg_flow.specs.aids.Words.{SaysWord, are_at, is_pair}
use Rattle.mg_topology.specs.aids.Topology as topology

chosen : (m w p q f g did : Bool) → m ≡ (p || q) → (p ≡ true → w ≡ f) → (q ≡ true → w ≡ g) → (q ≡ true → g ≡ did) →
    (if m then w else did) ≡ (if p then f else did)
chosen m w p q f g did is first second same = grind (arith, is, first, second, same)

-- If the triple repeats what was the case in the other direction, it changes only one direction.
pub word_says : (x : Triple) (a b : ℕ) (f g : Bool) (t l : ℕ) (did : Bool) → SaysWord x a b f g →
    (is_pair b a t l ≡ true → g ≡ did) →
    (if mentions x t l then word_of x t l else did) ≡ (if is_pair a b t l then f else did)
word_says x a b f g t l did says same =
    chosen (mentions x t l) (word_of x t l) (is_pair a b t l) (is_pair b a t l) f g did (says.pairs t l)
    (λ p. grind (arith, nat_tests, p, says.there))
    (λ q. grind (arith, nat_tests, q, says.back)) same

alone : (x : Triple) → ¬ Overlaps x → ¬ Any Overlaps (x ∷ [])
alone x apart (zero, y, lt, is, overlap) = apart (subst Overlaps (sym is) overlap)
alone x apart (suc i, y, lt, is, overlap) = absurd (omega (arith, lt))

-- A triple that does not overlap is applied.
pub said : {T P : Type 0} (result : Result T Overlap) (x : Triple) → OnOk result P → (IsErr result ↔ Any Overlaps (x ∷ []))
    → ¬ Overlaps x → P
said (Ok done) x p overlap sound = p
said (Err e) x p overlap sound = absurd (alone x sound (overlap.0 refl))

one_room : (is_held : Place → Bool) (a b : Place) → IsTrue (are_together is_held a b) → a.room ≡ b.room
one_room is_held a b together =
    let first = and_parts (is_held a) _ together in
    let second = and_parts (is_held b) _ first.1 in
    eqb-true a.room b.room (and_parts (a.room == b.room) _ second.1).0

same_place : (a b : Place) → a.room ≡ b.room → a.seat ≡ b.seat → a ≡ b
same_place a b room seat = λ i. record { room = room i; seat = seat i }

-- A triple that says the word on one talker and one listener, and nothing new in the other direction, sets this word.
module _ (old new : List RoomFlows) (talker listener : Place) (is_heard back : Bool) (x : Triple)
    (together : IsTrue (are_together (holds old) talker listener)) (was : back ≡ hears old listener talker)
    (says : SaysWord x talker.seat listener.seat is_heard back)
    (after : (t l : Place) → t.room ≡ talker.room → IsTrue (are_together (holds old) t l) →
    hears new t l ≡ hears_after (x ∷ []) t.seat l.seat (hears old t l)) (others : KeepsOthers old new talker.room) where
  here : (t l : Place) → IsTrue (are_together (holds old) t l) → t.room ≡ talker.room →
      hears new t l ≡ (if is_pair talker.seat listener.seat t.seat l.seat then is_heard else hears old t l)
  here t l pair room = after t l room pair ∙
      word_says x talker.seat listener.seat is_heard back t.seat l.seat (hears old t l) says (λ e.
      let (at_t, at_l) = and_parts (t.seat == listener.seat) (l.seat == talker.seat) e in
      let first : t ≡ listener =
      same_place t listener (room ∙ one_room (holds old) talker listener together) (eqb-true t.seat listener.seat at_t) in
      let second : l ≡ talker =
      same_place l talker (sym (one_room (holds old) t l pair) ∙ room) (eqb-true l.seat talker.seat at_l) in
      was ∙ ap (λ (p : Place). hears old p talker) (sym first) ∙ ap (λ (q : Place). hears old t q) (sym second))

  elsewhere : (t l : Place) → t.room ≢ talker.room → hears new t l ≡ hears old t l
  elsewhere t l apart = ap (λ (r : RoomFlows). (t.room == l.room) && topology.hears r.topology t.seat l.seat)
      (others t.room apart)

  pub word_set : (t l : Place) → IsTrue (are_together (holds old) t l) →
      hears new t l ≡ (if are_at talker listener t l then is_heard else hears old t l)
  word_set t l pair = elim (cases_Bool (t.room == talker.room)) [
    | inl e ↦
        let room = eqb-true t.room talker.room e in
        let other = eq-eqb l.room listener.room (sym (one_room (holds old) t l pair) ∙ room ∙
        one_room (holds old) talker listener together) in
        rw (e, other) (here t l pair room)
    | inr e ↦ rw e (elsewhere t l (λ same. true≢false (sym (eq-eqb t.room talker.room same) ∙ e)))
  ]
