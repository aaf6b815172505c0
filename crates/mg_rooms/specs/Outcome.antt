-- The outcome of a command on one termination (RFC 3525, sections 7.2.1 to 7.2.4). It is the error of the first check
-- that fails or, if none fails, the termination and the registry after the command. The termination has its new record,
-- or the old record if it was subtracted. The order of the checks is this project's own: the termination, the action's
-- context, exhausted resources, the media.
use Rattle.std.specs.Prelude.{ℕ, Bool, false, not, ◌&&◌, length, Some, None, Result, Ok, Err}
use Rattle.std.specs.Prelude.{◌==◌, nat_lt, nat_le, ok_or}
use Rattle.mg_rooms.specs.declared.record.Record.{Record}
use Rattle.mg_rooms.specs.declared.place.EntryPlace.{EntryPlace}
use Rattle.mg_rooms.specs.declared.settings.Settings.{Settings}
use Rattle.mg_rooms.specs.declared.target.Target.{Target}
use Rattle.mg_rooms.specs.declared.target.Target.TheVariants as targets
use Rattle.mg_words.specs.declared.error_number.ErrorNumber.{ErrorNumber}
use Rattle.mg_words.specs.declared.error_number.ErrorNumber.TheVariants as refusals
use Rattle.mg_words.specs.Limits.{context_limit, member_limit, last_termination, last_context}
use Rattle.mg_words.specs.ResultSteps.{◌>>=◌}
use Rattle.mg_rooms.specs.Results.{passes}
use Rattle.mg_rooms.specs.Registry.{Registry, record_at, context_at, members_at, free_slot}
use Rattle.mg_rooms.specs.Registry.{free_room, free_seat}
use Rattle.mg_rooms.specs.Record.{fresh, at_place, with_settings}
use Rattle.mg_rooms.specs.Changes.{inserted, replaced, removed, entered, left}

-- ## Checks

-- The termination that a command names.
abbrev pub named : Registry → ℕ → Result Record ErrorNumber
named w n = ok_or (record_at w n) refusals.UnknownTermination

abbrev pub there : Registry → ℕ → Result (Unit {0}) ErrorNumber
there w c = elim (context_at w c) [ Some x ↦ Ok tt | None ↦ Err refusals.UnknownContext ]

-- The check that a termination may enter the action's context: the context must exist or be new, and must not be the
-- null context.
abbrev pub may_enter : Registry → Target → Result (Unit {0}) ErrorNumber
may_enter w targets.Null = Err refusals.UnknownContext
may_enter w targets.New = Ok tt
may_enter w (targets.Number c) = there w c

-- The check that the action's context may have members: the context must exist, and must not be the null context.
abbrev pub may_have_members : Registry → Target → Result (Unit {0}) ErrorNumber
may_have_members w targets.Null = Err refusals.NotInContext
may_have_members w targets.New = Err refusals.UnknownContext
may_have_members w (targets.Number c) = there w c

-- Whether the action's context is the one with this number.
abbrev pub is_number : Target → ℕ → Bool
is_number (targets.Number c) n = c == n
is_number _ n = false

-- The member of the action's context with this number, or an error.
abbrev pub member : Registry → Target → ℕ → Result Record ErrorNumber
member w target n = do
  r ← named w n
  _ ← may_have_members w target
  _ ← passes (is_number target r.context) refusals.NotInContext
  Ok r

-- ## Resources that may be exhausted

-- A slot for a new termination, or an error.
abbrev pub new_slot : Registry → Result ℕ ErrorNumber
new_slot w = do
  _ ← passes (nat_le w.next_termination last_termination) refusals.NoTerminationLeft
  ok_or (free_slot w) refusals.NoTerminationLeft

-- A seat in a context that exists, or an error. A seat is free if the context is not full.
abbrev pub new_seat : Registry → ℕ → Result EntryPlace ErrorNumber
new_seat w c = do
  _ ← passes (nat_lt (length (members_at w c)) member_limit) refusals.ContextFull
  seat ← ok_or (free_seat w c) refusals.ContextFull
  Ok (record { context = c; seat = seat; made = None })

-- The first seat of a new context, or an error. A room is free if the limit on contexts is not reached.
abbrev pub new_context : Registry → Result EntryPlace ErrorNumber
new_context w = do
  _ ← passes (nat_lt (length w.contexts) context_limit && nat_le w.next_context last_context)
      refusals.NoContextLeft
  room ← ok_or (free_room w) refusals.NoContextLeft
  Ok (record { context = w.next_context; seat = 0; made = Some room })

-- The place where a termination enters the action's context, or an error.
abbrev pub new_place : Registry → Target → Result EntryPlace ErrorNumber
new_place w targets.Null = Err refusals.UnknownContext
new_place w targets.New = new_context w
new_place w (targets.Number c) = new_seat w c

-- ## Outcomes

unfoldable pub add : Registry → Target → Settings → Result (Registry × Record) ErrorNumber
add w target settings = do
  _ ← may_enter w target
  slot ← new_slot w
  place ← new_place w target
  r ← with_settings w.limits settings (fresh w.next_termination slot place)
  Ok (entered (inserted w r) place r.number, r)

unfoldable pub modify : Registry → Target → ℕ → Settings → Result (Registry × Record) ErrorNumber
modify w target n settings = do
  old ← member w target n
  r ← with_settings w.limits settings old
  Ok (replaced w r, r)

unfoldable pub move_to : Registry → Target → ℕ → Settings → Result (Registry × Record) ErrorNumber
move_to w target n settings = do
  old ← named w n
  _ ← passes (not (is_number target old.context)) refusals.AlreadyInContext
  _ ← may_enter w target
  place ← new_place w target
  r ← with_settings w.limits settings (at_place old place)
  Ok (left (entered (replaced w r) place r.number) old.context r.number, r)

unfoldable pub subtract : Registry → Target → ℕ → Result (Registry × Record) ErrorNumber
subtract w target n = do
  r ← member w target n
  Ok (left (removed w r.number) r.context r.number, r)
