-- The cost of a tick and of an edit: the number of rows of 160 samples that are added or subtracted (not from a
-- standard). A mix counts as at least one row.
use Rattle.std.specs.Prelude.{◌≡◌, ℕ, ◌+◌, ◌*◌, ◌%◌, ◌^◌, ◌≤◌, length, is_some, sum_by, count_by}
use Rattle.std.specs.Prelude.{if◌then◌else◌}
use Rattle.mg_rooms.specs.declared.record.Record.{Record}
use Rattle.mg_engine.specs.Gateway.{Gateway, numbers_of}
use Rattle.mg_engine.specs.Flow.{is_silenced}
use Rattle.mg_engine.specs.Mix.{is_loopback}
use Rattle.mg_engine.specs.Tick.{sent_to}

-- The number of talkers that are silenced for a listener. These are other members of its context that talk, but that
-- the last word mutes for this listener.
abbrev pub silenced_for : Gateway → ℕ → ℕ
silenced_for w listener = count_by (λ talker. is_silenced w talker listener) (numbers_of w)

-- The maximum number of rows for a termination's mix: one, plus one for each talker that is silenced for the
-- termination. In Loopback the bound is one row, although the termination is sent its own frame, which costs none.
abbrev pub mix_work : Gateway → Record → ℕ
mix_work w r = 1 + (if is_loopback r.mode then 0 else silenced_for w r.number)

abbrev pub sending_work : Gateway → Record → ℕ
sending_work w r = if is_some (sent_to r) then mix_work w r else 0

-- The maximum number of rows in a tick: two for each termination's frame, and the rows for the mixes that are sent.
abbrev pub tick_work : Gateway → ℕ
tick_work w =
    2 * length w.rooms.terminations + sum_by (sending_work w) w.rooms.terminations

-- A number that is stored modulo 2^32 increases by at most `most`.
abbrev pub RisesAtMost : ℕ → ℕ → ℕ → Type 0
RisesAtMost most old new = (rows : ℕ) × (rows ≤ most) × (new % 2 ^ 32 ≡ (old + rows) % 2 ^ 32)
