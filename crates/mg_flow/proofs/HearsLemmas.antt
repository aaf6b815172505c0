-- Who hears whom after an edit, in terms of who heard whom before.
use Rattle.std.proofs.Common.{◌≡◌, ℕ, Bool, true, false, not, ◌&&◌, ◌||◌, ◌==◌, cond, Option, Some, List, [], ◌∷◌, refl, sym, ap, ◌∙◌, arith}
use Rattle.std.proofs.Math.Bool.{Bool-set}
use Rattle.std.proofs.Math.Logic.{∥∥₁_elim}
use Rattle.std.proofs.lemmas.Bool.Decides.{nat_tests}
use Rattle.mg_topology.specs.declared.triple.Triple.{Triple}
use Rattle.mg_topology.specs.Triple.{mentions, word_of}
use Rattle.mg_topology.specs.aids.Edits.{apply_all}
use Rattle.mg_topology.specs.Edits as topology
use Rattle.mg_flow.specs.declared.place.Place.{Place}
use Rattle.mg_flow.specs.Place.{is_same_place, are_together}
use Rattle.mg_flow.specs.Edits.{FlowEdit, Enter, Leave, SetMode, Apply, edits_in, is_held, may_hear}
use Rattle.mg_flow.specs.aids.Edits.{apply_in_room}
use Rattle.mg_flow.specs.Edits.{hears_in}
use Rattle.mg_flow.specs.aids.Table.{RoomFlows, holds, hears, hears_after, StandsFor, StandsForSome}
use Rattle.mg_flow.proofs.TableLemmas.{own_triples, hears-stands}

-- If a table represents some list of edits, two values that are equal for each such list are equal.
from_edits : (old : List RoomFlows) (x y : Bool) → StandsForSome old → ((es : List FlowEdit) → StandsFor old es →
    x ≡ y) →
    x ≡ y
from_edits old x y some tells = ∥∥₁_elim some (Bool-set x y)
    (λ (e : (es : List FlowEdit) × StandsFor old es). tells e.0 e.1)

holds-stands : (table : List RoomFlows) (es : List FlowEdit) (p : Place) → StandsFor table es →
    holds table p ≡ is_held es p
holds-stands table es p h = (h.topologies p.room).seats p.seat

are_together-stands : (table : List RoomFlows) (es : List FlowEdit) (a b : Place) → StandsFor table es
    → are_together (holds table) a b ≡ are_together (is_held es) a b
are_together-stands table es a b h = rw (holds-stands table es a h, holds-stands table es b h) refl

-- ---- a member enters

is_held-entered : (es : List FlowEdit) (place p : Place) (t l : Bool) →
    is_held (Enter place t l ∷ es) p ≡ cond (is_same_place p place) true (is_held es p)
is_held-entered es place p t l = grind (arith, nat_tests)

may_hear-entered : (es : List FlowEdit) (place a b : Place) (t l : Bool) → (a.room == b.room) ≡ true
    → may_hear (Enter place t l ∷ es) a b ≡ cond (is_same_place a place || is_same_place b place) true
    (may_hear es a b)
may_hear-entered es place a b t l same = grind (arith, nat_tests)

-- Whether a listener hears a talker after an Enter. The flags a and b say for each place whether it is the new
-- member's, and the flags x and y whether it was held.
pair-entered : (a b x y r d w w' : Bool) → (r ≡ true → w' ≡ cond (a || b) true w)
    → ((cond a true x && (cond b true y && (r && not d))) && w')
    ≡ cond (a || b) (cond a true x && (cond b true y && (r && not d))) ((x && (y && (r && not d))) && w)
pair-entered a b x y r d w w' e = grind arith

hears_in-entered : (es : List FlowEdit) (place a b : Place) (t l : Bool)
    → hears_in (Enter place t l ∷ es) a b
    ≡ cond (is_same_place a place || is_same_place b place) (are_together (is_held (Enter place t l ∷ es)) a b)
    (hears_in es a b)
hears_in-entered es place a b t l =
    rw (is_held-entered es place a t l, is_held-entered es place b t l)
    (pair-entered (is_same_place a place) (is_same_place b place) (is_held es a) (is_held es b) (a.room == b.room)
    (a.seat == b.seat) (may_hear es a b) _
    (may_hear-entered es place a b t l))

pub enter_hears : (old new : List RoomFlows) (place : Place) (t l : Bool) → StandsForSome old
    → ((es : List FlowEdit) → StandsFor old es → StandsFor new (Enter place t l ∷ es)) → (a b : Place)
    → hears new a b ≡ cond (is_same_place a place || is_same_place b place) (are_together (holds new) a b)
    (hears old a b)
enter_hears old new place t l some edits a b =
    from_edits old _ _ some
    (λ es h. rw (
      hears-stands new (Enter place t l ∷ es) a b (edits es h),
      are_together-stands new (Enter place t l ∷ es) a b (edits es h),
      hears-stands old es a b h,
    )
    (hears_in-entered es place a b t l))

-- ---- a member leaves

is_held-left : (es : List FlowEdit) (place p : Place) →
    is_held (Leave place ∷ es) p ≡ cond (is_same_place p place) false (is_held es p)
is_held-left es place p = grind (arith, nat_tests)

may_hear-left : (es : List FlowEdit) (place a b : Place) → may_hear (Leave place ∷ es) a b ≡ may_hear es a b
may_hear-left es place a b = grind (arith, nat_tests)

pair-left : (a b x y z w : Bool) → ((cond a false x && (cond b false y && z)) && w) ≡
    cond (a || b) false ((x && (y && z)) && w)
pair-left a b x y z w = grind arith

hears_in-left : (es : List FlowEdit) (place a b : Place)
    → hears_in (Leave place ∷ es) a b ≡ cond (is_same_place a place || is_same_place b place) false (hears_in es a b)
hears_in-left es place a b =
    rw (is_held-left es place a, is_held-left es place b, may_hear-left es place a b)
    (pair-left (is_same_place a place) (is_same_place b place) (is_held es a) (is_held es b)
    ((a.room == b.room) && not (a.seat == b.seat)) (may_hear es a b))

pub leave_hears : (old new : List RoomFlows) (place : Place) → StandsForSome old
    → ((es : List FlowEdit) → StandsFor old es → StandsFor new (Leave place ∷ es)) → (a b : Place)
    → hears new a b ≡ cond (is_same_place a place || is_same_place b place) false (hears old a b)
leave_hears old new place some edits a b =
    from_edits old _ _ some
    (λ es h. rw (hears-stands new (Leave place ∷ es) a b (edits es h), hears-stands old es a b h)
    (hears_in-left es place a b))

-- ---- a mode changes

pub mode_hears : (old new : List RoomFlows) (place : Place) (t l : Bool) → StandsForSome old
    → ((es : List FlowEdit) → StandsFor old es → StandsFor new (SetMode place t l ∷ es)) → (a b : Place)
    → hears new a b ≡ hears old a b
mode_hears old new place t l some edits a b =
    from_edits old _ _ some
    (λ es h. hears-stands new (SetMode place t l ∷ es) a b (edits es h) ∙ sym (hears-stands old es a b h))

-- ---- triples in order

allows-triple : (x : Triple) (o : Option Triple) (t l : ℕ) (b : Bool) →
    topology.allows (cond b (Some x) o) t l ≡ cond b (word_of x t l) (topology.allows o t l)
allows-triple x o t l true = refl
allows-triple x o t l false = refl

words-triples : (triples : List Triple) (es : List topology.TopologyEdit) (t l : ℕ)
    → topology.may_hear (apply_all triples es) t l ≡ hears_after triples t l (topology.may_hear es t l)
words-triples [] es t l = refl
words-triples (x ∷ xs) es t l =
    words-triples xs (topology.Apply x ∷ es) t l
    ∙ ap (hears_after xs t l) (allows-triple x (topology.last_word es t l) t l (mentions x t l))

is_held-triple : (b : Bool) (x : Triple) (es : List topology.TopologyEdit) (s : ℕ) →
    topology.is_held (cond b (topology.Apply x ∷ es) es) s ≡ topology.is_held es s
is_held-triple true x es s = refl
is_held-triple false x es s = refl

is_held-triples : (room : ℕ) (triples : List Triple) (es : List FlowEdit) (p : Place) →
    is_held (apply_in_room room triples es) p ≡ is_held es p
is_held-triples room [] es p = refl
is_held-triples room (x ∷ xs) es p =
    is_held-triples room xs (Apply room x ∷ es) p ∙ is_held-triple (room == p.room) x (edits_in p.room es) p.seat

may_hear-triples : (triples : List Triple) (es : List FlowEdit) (a b : Place)
    → may_hear (apply_in_room a.room triples es) a b ≡ hears_after triples a.seat b.seat (may_hear es a b)
may_hear-triples triples es a b = rw (own_triples a.room triples es)
    (words-triples triples (edits_in a.room es) a.seat b.seat)

-- For two different members of a room, the last word decides alone.
word_alone : (x w : Bool) → x ≡ true → (x && w) ≡ w
word_alone x w e = ap (λ (z : Bool). z && w) e

hears_in-triples : (triples : List Triple) (es : List FlowEdit) (a b : Place) → are_together (is_held es) a b ≡ true
    → hears_in (apply_in_room a.room triples es) a b ≡ hears_after triples a.seat b.seat (hears_in es a b)
hears_in-triples triples es a b together =
    let after : are_together (is_held (apply_in_room a.room triples es)) a b ≡ true =
    rw (is_held-triples a.room triples es a, is_held-triples a.room triples es b) together in
    word_alone _ (may_hear (apply_in_room a.room triples es) a b) after
    ∙ may_hear-triples triples es a b
    ∙ ap (hears_after triples a.seat b.seat) (sym (word_alone _ (may_hear es a b) together))

pub triples_hear : (old new : List RoomFlows) (room : ℕ) (triples : List Triple) → StandsForSome old
    → ((es : List FlowEdit) → StandsFor old es → StandsFor new (apply_in_room room triples es)) → (a b : Place)
    → a.room ≡ room → are_together (holds old) a b ≡ true
    → hears new a b ≡ hears_after triples a.seat b.seat (hears old a b)
triples_hear old new room triples some edits a b here together =
    from_edits old _ _ some
    (λ es h.
    let stands : StandsFor new (apply_in_room a.room triples es) = rw here (edits es h) in
    rw (hears-stands new (apply_in_room a.room triples es) a b stands, hears-stands old es a b h)
    (hears_in-triples triples es a b (sym (are_together-stands old es a b h) ∙ together)))
