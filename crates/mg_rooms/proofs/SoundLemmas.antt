-- A consistent registry is sound, and so is the registry after a successful command.
use Rattle.mg_rooms.proofs.Common.{◌≡◌, ℕ, Some, Ok, Err, sym, IsSome, option_map, ◌<◌, ◌==◌, ◌∷◌, List, [], get_or, refl, ◌∙◌, AllByRecursion, eq-eqb, eqb-true, Record, Settings, Target, Registry, record_at, context_at, IsTermination, IsConsistent, ErrorNumber, named, member, removed, left}
use Rattle.mg_rooms.specs.aids.Sound.{IsSound}
use Rattle.mg_rooms.specs.declared.member.Member.{Member}
use Rattle.mg_rooms.specs.aids.Member.{ExistsAs}
use Rattle.mg_rooms.specs.aids.Lasting.{Lasts, LeavesOthers}
use Rattle.mg_rooms.specs.Changes.{inserted, replaced}
use Rattle.mg_rooms.specs.Outcome.{add, modify, move_to, subtract}
use Rattle.mg_rooms.proofs.OutcomeLemmas.{found_number, named_is, add_done, modify_done, move_done, subtract_done}
use Rattle.mg_rooms.proofs.ConsistentLemmas.{add_sound, modify_sound, move_sound, subtract_sound}
use Rattle.mg_rooms.proofs.LastLemmas.{record_entered, own_inserted, own_replaced, add_lasts, modify_lasts, move_lasts, subtract_lasts}
use Rattle.mg_rooms.proofs.CountLemmas.{find-at, find-found}
use Rattle.mg_rooms.proofs.OrderLemmas.{found_key}
use Rattle.std.proofs.lemmas.Option.{same_Some}
use Rattle.mg_rooms.proofs.SeatLemmas.{no_more}
use Rattle.mg_rooms.proofs.StateLemmas.{same_slot, same_seat, same_room, termination_within, context_within, members_in, members_once, is_in_a_context}

below_slots : (w : Registry) (next : ℕ) (rs : List Record) → AllByRecursion (IsTermination w.limits next) rs →
    AllByRecursion (λ r. r.slot < w.limits.slots) rs
below_slots w next [] all = all
below_slots w next (r ∷ rs) all = (all.0.slot, below_slots w next rs all.1)

pub sound_if : (w : Registry) → IsConsistent w → IsSound w
sound_if w h = record {
  consistent = h;
  few = no_more (λ r. r.slot) w.limits.slots w.terminations
      (below_slots w w.next_termination w.terminations h.terminations.each) h.terminations.one_slot;
  termination = λ n r. termination_within w n r h;
  context = λ c x. context_within w c x h;
  there = λ n r. is_in_a_context w n r h;
  one_slot = λ a b r s. same_slot w a b r s h;
  one_seat = λ a b r s. same_seat w a b r s h;
  one_room = λ c d x y. same_room w c d x y h;
  by_number = λ i d lt.
      let n = (get_or w.terminations i d).number in
      find-at (λ r. r.number == n) w.terminations i d lt (eq-eqb n n refl) (h.terminations.one_number n);
  by_slot = λ i d lt.
      let slot = (get_or w.terminations i d).slot in
      find-at (λ r. r.slot == slot) w.terminations i d lt (eq-eqb slot slot refl) (h.terminations.one_slot slot);
  holder = λ n r found. find-found (λ x. x.slot == r.slot) (λ x. x.number == n) w.terminations r found
      (eq-eqb r.slot r.slot refl) (h.terminations.one_slot r.slot);
  held = λ slot r found. (
    find-found (λ x. x.number == r.number) (λ x. x.slot == slot) w.terminations r found
        (eq-eqb r.number r.number refl) (h.terminations.one_number r.number),
    eqb-true r.slot slot (found_key (λ x. x.slot == slot) w.terminations r found),
  );
  members = λ c n. members_in w c n h;
  once = λ c n. members_once w c n h;
}

-- The registry after a successful command, in which r is the termination n. All other terminations are unchanged, and
-- so are all contexts except c and d.
pub record Leaves (w after : Registry) (n c d : ℕ) (r : Record) : Type 0 where
  pub sound : IsSound after
  pub own : record_at after n ≡ Some r
  pub there : IsSome (context_at after r.context)
  pub lasts : Lasts w after
  pub others : LeavesOthers w after n c d

leaves : (w after : Registry) (n c d : ℕ) (r : Record) → IsConsistent after → record_at after n ≡ Some r →
    Lasts w after × LeavesOthers w after n c d → Leaves w after n c d r
leaves w after n c d r sound own rest = record {
  sound = sound_if after sound;
  own = own;
  there = is_in_a_context after n r sound own;
  lasts = rest.0;
  others = rest.1;
}

pub add_leaves : (w after : Registry) (target : Target) (settings : Settings) (d : Record) → IsConsistent w →
    add w target settings ≡ Ok (after, d) → Leaves w after d.number d.context d.context d
add_leaves w after target settings d h outcome =
    let a = add_done w after target settings d outcome in
    leaves w after d.number d.context d.context d (add_sound w after target d h a)
    (rw a.is (record_entered (inserted w d) a.place d.number a.place.made d.number ∙
    own_inserted w d h a.has.number)) (add_lasts w after target d h a)

pub modify_leaves : (w after : Registry) (target : Target) (n : ℕ) (settings : Settings) (d : Record) →
    IsConsistent w → modify w target n settings ≡ Ok (after, d) → Leaves w after n d.context d.context d
modify_leaves w after target n settings d h outcome =
    let a = modify_done w after target n settings d outcome in
    leaves w after n d.context d.context d (modify_sound w after n d h a)
    (rw a.is (own_replaced w n d a.old h a.at a.number)) (modify_lasts w after n d h a)

-- A successful Move changes only the termination, the context that it leaves and the context that it enters.
pub move_leaves : (w after : Registry) (target : Target) (n : ℕ) (settings : Settings) (d old : Record) →
    IsConsistent w → record_at w n ≡ Some old → move_to w target n settings ≡ Ok (after, d) →
    Leaves w after n old.context d.context d
move_leaves w after target n settings d old h found outcome =
    let a = move_done w after target n settings d outcome in
    let same : a.old ≡ old = same_Some a.old old (sym a.was ∙ found) in
    rw (← same) (leaves w after n a.old.context d.context d (move_sound w after target n d h a)
    (rw a.is (record_entered (replaced w d) a.place d.number a.place.made n ∙
    own_replaced w n d a.old h a.at a.number)) (move_lasts w after target n d h a))

-- The registry after a member of the action's context is subtracted.
pub record Ends (w after : Registry) (n : ℕ) (r : Record) : Type 0 where
  pub sound : IsSound after
  pub was : record_at w n ≡ Some r
  pub there : IsSome (context_at w r.context)
  pub lasts : Lasts w after
  pub others : LeavesOthers w after n r.context r.context

pub subtract_ends : (w after : Registry) (target : Target) (n : ℕ) (r : Record) → IsConsistent w →
    member w target n ≡ Ok r → after ≡ left (removed w r.number) r.context r.number → Ends w after n r
unfolding subtract
subtract_ends w after target n r h found is =
    let outcome : subtract w target n ≡ Ok (after, r) = rw (is, found) refl in
    let a = subtract_done w after target n r outcome in
    let (lasts, others) = subtract_lasts w after n r h a in
    record {
      sound = sound_if after (subtract_sound w after n r h a);
      was = a.was;
      there = is_in_a_context w n r h a.was;
      lasts = lasts;
      others = others;
    }

-- ## The results of calls

pub there_as : (w : Registry) (n : ℕ) (r : Record) (m : Member) → record_at w n ≡ Some r → m.record ≡ r →
    option_map (λ x. x.room) (context_at w r.context) ≡ Some m.room → ExistsAs w n m
there_as w n r m found is room = record { found = rw is found; room = rw is room }

-- ## Moves

-- A Move by the number in the record is the same as a Move by the number in the command.
pub moving : (w after : Registry) (target : Target) (n : ℕ) (settings : Settings) (d old : Record) (from : Member) →
    IsConsistent w → Ok old ≡ named w n → from.record ≡ old →
    move_to w target from.record.number settings ≡ Ok (after, d) →
    (record_at w n ≡ Some old) × (move_to w target n settings ≡ Ok (after, d)) ×
    Leaves w after n from.record.context d.context d
moving w after target n settings d old from h found is outcome =
    let at = named_is w n old (sym found) in
    let here = rw (is, found_number w n old at) at outcome in
    (at, here, rw is (move_leaves w after target n settings d old h at here))

pub unnamed : (w : Registry) (target : Target) (n : ℕ) (settings : Settings) (e : ErrorNumber) → Err e ≡ named w n →
    move_to w target n settings ≡ Err e
unfolding move_to
unnamed w target n settings e h = rw (← h) refl
