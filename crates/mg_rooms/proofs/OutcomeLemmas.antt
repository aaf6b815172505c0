-- The checks that a successful command has passed, and the place of its termination.
use Rattle.mg_rooms.proofs.Common.{◌≡◌, ℕ, ◌<◌, ◌≤◌, ◌&&◌, Bool, true, false, not, length, Option, Some, None, Result, Ok, Err, refl, ◌∙◌, ap, subst, arith, ◌==◌, nat_lt, nat_le, IsSome, ok_or, unwrap_or, eqb-true, ltb-true, ne_eqb, Record, EntryPlace, Settings, Target, ErrorNumber, Limits, CONTEXT_LIMIT, MEMBER_LIMIT, LAST_CONTEXT, removed, left, Registry, record_at, context_at, members_at, free_slot, free_room, free_seat, named, member, new_slot}
use Rattle.std.proofs.lemmas.Bool.{and_parts, not-true, leb-true}
use Rattle.mg_rooms.specs.declared.target.Target.TheVariants.{Null, New, Number}
use Rattle.mg_words.specs.declared.limits.TheConstants.{LAST_TERMINATION, MIN_DEPTH, MAX_DEPTH}
use Rattle.mg_words.specs.declared.error_number.ErrorNumber.TheVariants as refusals
use Rattle.mg_words.specs.ResultSteps.{◌>>=◌}
use Rattle.mg_rooms.specs.Results.{passes}
use Rattle.mg_rooms.specs.Settings.{depth_after, media_after}
use Rattle.mg_sdp.specs.Choice.{local_choice, remote_choice}
use Rattle.mg_rooms.specs.Limits.{slot_port}
use Rattle.mg_rooms.specs.Record.{fresh, at_place, with_settings}
use Rattle.mg_rooms.specs.Changes.{inserted, replaced, entered}
use Rattle.mg_rooms.specs.Outcome.{may_enter, may_have_members, is_number, new_place, add, modify, move_to, subtract}
use Rattle.mg_rooms.proofs.OrderLemmas.{found_key}

-- ## Steps

pub bind_ok : {A B : Type 0} (r : Result A ErrorNumber) (f : A → Result B ErrorNumber) (y : B) → (r >>= f) ≡ Ok y →
    (x : A) × (r ≡ Ok x) × (f x ≡ Ok y)
bind_ok (Ok x) f y h = (x, refl, h)
bind_ok (Err e) f y h = absurd (cc)

abbrev done : Registry × Record → Result (Registry × Record) ErrorNumber
done p = Ok p

ok_done : (p q : Registry × Record) → done p ≡ done q → p ≡ q
ok_done p q h = cc

passes_ok : (b : Bool) (e : ErrorNumber) (u : Unit {0}) → passes b e ≡ Ok u → b ≡ true
passes_ok true e u h = refl
passes_ok false e u h = absurd (cc)

ok_or_ok : {A : Type 0} (o : Option A) (e : ErrorNumber) (x : A) → ok_or o e ≡ Ok x → o ≡ Some x
ok_or_ok None e x h = absurd (cc)
ok_or_ok (Some y) e x h = cc

-- A record that is found has the number of the search.
pub found_number : (w : Registry) (n : ℕ) (r : Record) → record_at w n ≡ Some r → r.number ≡ n
found_number w n r h = eqb-true r.number n (found_key (λ x. x.number == n) w.terminations r h)

pub named_is : (w : Registry) (n : ℕ) (r : Record) → named w n ≡ Ok r → record_at w n ≡ Some r
named_is w n r h = ok_or_ok (record_at w n) refusals.UnknownTermination r h

pub member_found : (w : Registry) (target : Target) (n : ℕ) (r : Record) → member w target n ≡ Ok r →
    record_at w n ≡ Some r
member_found w target n r h =
    let (old, found, later) = bind_ok (named w n) _ r h in
    let (u, may, checked) = bind_ok (may_have_members w target) _ r later in
    let (v, passed, last) = bind_ok (passes (is_number target old.context) refusals.NotInContext) _ r checked in
    let same : old ≡ r = cc in
    named_is w n r (found ∙ ap Ok same)

-- ## Settings

-- The records differ only in their settings.
pub record HasSettings (old r : Record) : Type 0 where
  pub number : r.number ≡ old.number
  pub context : r.context ≡ old.context
  pub slot : r.slot ≡ old.slot
  pub seat : r.seat ≡ old.seat
  pub deep_enough : MIN_DEPTH ≤ old.depth → MIN_DEPTH ≤ r.depth
  pub not_too_deep : old.depth ≤ MAX_DEPTH → r.depth ≤ MAX_DEPTH

with_settings_ok : (limits : Limits) (settings : Settings) (old r : Record) →
    with_settings limits settings old ≡ Ok r → HasSettings old r
with_settings_ok limits settings old r h =
    let (local, _, later) =
    bind_ok (media_after (local_choice limits.address (slot_port limits old.slot)) settings.local old.local) _ r h in
    let (remote, _, last) = bind_ok (media_after remote_choice settings.remote old.remote) _ r later in
    let is : record old {
      mode = unwrap_or settings.mode old.mode;
      depth = depth_after settings.depth old.depth;
      local = local;
      remote = remote;
    } ≡ r = cc in
    subst (HasSettings old) is (record {
      number = refl;
      context = refl;
      slot = refl;
      seat = refl;
      deep_enough = λ from. grind arith;
      not_too_deep = λ to. grind arith;
    })

-- ## Places

-- The context exists and is not full, or it can be created in a free room.
abbrev pub IsOpen : Registry → ℕ → Option ℕ → Type 0
IsOpen w c None = IsSome (context_at w c) × (length (members_at w c) < MEMBER_LIMIT)
IsOpen w c (Some room) = (c ≡ w.next_context) × (w.next_context ≤ LAST_CONTEXT) × (free_room w ≡ Some room)

-- The seat is the lowest free seat of the context, or 0 in a new context.
abbrev pub HasSeat : Registry → ℕ → ℕ → Option ℕ → Type 0
HasSeat w c seat None = free_seat w c ≡ Some seat
HasSeat w c seat (Some room) = seat ≡ 0

-- A termination may enter at the place. The place is in the action's context or in a new context.
pub record Enters (w : Registry) (target : Target) (place : EntryPlace) : Type 0 where
  pub opens : IsOpen w place.context place.made
  pub free : HasSeat w place.context place.seat place.made
  pub other : (c : ℕ) → c < w.next_context → is_number target c ≡ false → (place.context == c) ≡ false

abbrev place_at : ℕ → ℕ → Option ℕ → EntryPlace
place_at c seat made = record { context = c; seat = seat; made = made }

new_place_ok : (w : Registry) (target : Target) (u : Unit {0}) (place : EntryPlace) → may_enter w target ≡ Ok u →
    new_place w target ≡ Ok place → Enters w target place
new_place_ok w Null u place may h = absurd (cc)
new_place_ok w New u place may h =
    let few = nat_lt (length w.contexts) CONTEXT_LIMIT in
    let left = nat_le w.next_context LAST_CONTEXT in
    let (v, passed, later) = bind_ok (passes (few && left) refusals.NoContextLeft) _ place h in
    let (room, free, last) = bind_ok (ok_or (free_room w) refusals.NoContextLeft) _ place later in
    let both = and_parts few left (passes_ok (few && left) refusals.NoContextLeft v passed) in
    let is : place_at w.next_context 0 (Some room) ≡ place = cc in
    subst (Enters w New) is (record {
      opens = (
        refl,
        leb-true w.next_context LAST_CONTEXT both.1,
        ok_or_ok (free_room w)
            refusals.NoContextLeft room free,
      );
      free = refl;
      other = λ c below no. ne_eqb w.next_context c (λ same. omega arith);
    })
new_place_ok w (Number d) u place may h =
    let few = nat_lt (length (members_at w d)) MEMBER_LIMIT in
    let (v, passed, later) = bind_ok (passes few refusals.ContextFull) _ place h in
    let (seat, free, last) = bind_ok (ok_or (free_seat w d) refusals.ContextFull) _ place later in
    let is : place_at d seat None ≡ place = cc in
    subst (Enters w (Number d)) is (record {
      opens = (
        grind arith,
        ltb-true (length (members_at w d)) MEMBER_LIMIT (passes_ok few refusals.ContextFull v passed),
      );
      free = ok_or_ok (free_seat w d) refusals.ContextFull seat free;
      other = λ c below no. no;
    })

-- ## Successful commands

-- A successful Add: d is the new termination, in a free slot.
pub record Added (w after : Registry) (target : Target) (d : Record) : Type 0 where
  pub slot : ℕ
  pub place : EntryPlace
  pub few : w.next_termination ≤ LAST_TERMINATION
  pub unheld : free_slot w ≡ Some slot
  pub enters : Enters w target place
  pub has : HasSettings (fresh w.next_termination slot place) d
  pub is : after ≡ entered (inserted w d) place d.number

-- A successful Modify: the record d replaces `old`.
pub record Modified (w after : Registry) (n : ℕ) (d : Record) : Type 0 where
  pub old : Record
  pub was : record_at w n ≡ Some old
  pub number : d.number ≡ n
  pub at : record_at w d.number ≡ Some old
  pub has : HasSettings old d
  pub is : after ≡ replaced w d

-- A successful Move: the record d replaces `old`, in another context.
pub record Moved (w after : Registry) (target : Target) (n : ℕ) (d : Record) : Type 0 where
  pub old : Record
  pub place : EntryPlace
  pub was : record_at w n ≡ Some old
  pub number : d.number ≡ n
  pub at : record_at w d.number ≡ Some old
  pub outside : is_number target old.context ≡ false
  pub enters : Enters w target place
  pub has : HasSettings (at_place old place) d
  pub is : after ≡ left (entered (replaced w d) place d.number) old.context d.number

-- A successful Subtract: the termination d is removed.
pub record Subtracted (w after : Registry) (n : ℕ) (d : Record) : Type 0 where
  pub was : record_at w n ≡ Some d
  pub number : d.number ≡ n
  pub at : record_at w d.number ≡ Some d
  pub is : after ≡ left (removed w d.number) d.context d.number

pub add_done : (w after : Registry) (target : Target) (settings : Settings) (d : Record) →
    add w target settings ≡ Ok (after, d) → Added w after target d
unfolding add
add_done w after target settings d h =
    let (u, may, later) = bind_ok (may_enter w target) _ (after, d) h in
    let (slot, new, more) = bind_ok (new_slot w) _ (after, d) later in
    let (place, free, rest) = bind_ok (new_place w target) _ (after, d) more in
    let begun = fresh w.next_termination slot place in
    let (r, set, last) = bind_ok (with_settings w.limits settings begun) _ (after, d) rest in
    let few = nat_le w.next_termination LAST_TERMINATION in
    let (v, passed, unheld) = bind_ok (passes few refusals.NoTerminationLeft) _ slot new in
    subst (λ (p : Registry × Record). Added w p.0 target p.1)
    (ok_done (entered (inserted w r) place r.number, r) (after, d) last) (record {
      slot = slot;
      place = place;
      few = leb-true w.next_termination LAST_TERMINATION (passes_ok few refusals.NoTerminationLeft v passed);
      unheld = ok_or_ok (free_slot w) refusals.NoTerminationLeft slot unheld;
      enters = new_place_ok w target u place may free;
      has = with_settings_ok w.limits settings begun r set;
      is = refl;
    })

pub modify_done : (w after : Registry) (target : Target) (n : ℕ) (settings : Settings) (d : Record) →
    modify w target n settings ≡ Ok (after, d) → Modified w after n d
unfolding modify
modify_done w after target n settings d h =
    let (old, found, later) = bind_ok (member w target n) _ (after, d) h in
    let (r, set, last) = bind_ok (with_settings w.limits settings old) _ (after, d) later in
    let was = member_found w target n old found in
    let has = with_settings_ok w.limits settings old r set in
    let number = has.number ∙ found_number w n old was in
    subst (λ (p : Registry × Record). Modified w p.0 n p.1) (ok_done (replaced w r, r) (after, d) last) (record {
      old = old;
      was = was;
      number = number;
      at = rw number was;
      has = has;
      is = refl;
    })

pub move_done : (w after : Registry) (target : Target) (n : ℕ) (settings : Settings) (d : Record) →
    move_to w target n settings ≡ Ok (after, d) → Moved w after target n d
unfolding move_to
move_done w after target n settings d h =
    let (old, found, later) = bind_ok (named w n) _ (after, d) h in
    let here = is_number target old.context in
    let (v, passed, some) = bind_ok (passes (not here) refusals.AlreadyInContext) _ (after, d) later in
    let (u, may, more) = bind_ok (may_enter w target) _ (after, d) some in
    let (place, free, rest) = bind_ok (new_place w target) _ (after, d) more in
    let (r, set, last) = bind_ok (with_settings w.limits settings (at_place old place)) _ (after, d) rest in
    let was = named_is w n old found in
    let has = with_settings_ok w.limits settings (at_place old place) r set in
    let number = has.number ∙ found_number w n old was in
    subst (λ (p : Registry × Record). Moved w p.0 target n p.1)
    (ok_done (left (entered (replaced w r) place r.number) old.context r.number, r) (after, d) last) (record {
      old = old;
      place = place;
      was = was;
      number = number;
      at = rw number was;
      outside = not-true here (passes_ok (not here) refusals.AlreadyInContext v passed);
      enters = new_place_ok w target u place may free;
      has = has;
      is = refl;
    })

pub subtract_done : (w after : Registry) (target : Target) (n : ℕ) (d : Record) →
    subtract w target n ≡ Ok (after, d) → Subtracted w after n d
unfolding subtract
subtract_done w after target n d h =
    let (r, found, last) = bind_ok (member w target n) _ (after, d) h in
    let was = member_found w target n r found in
    let number = found_number w n r was in
    subst (λ (p : Registry × Record). Subtracted w p.0 n p.1)
    (ok_done (left (removed w r.number) r.context r.number, r) (after, d) last)
    (record { was = was; number = number; at = rw number was; is = refl })
