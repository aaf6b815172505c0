-- The frames and totals that an engine stores, compared with the gateway (not from a standard).
use Rattle.std.specs.Prelude.{◌≡◌, ℕ, ◌<◌, Some}
use Rattle.mg_rooms.specs.declared.context.Context.{Context}
use Rattle.mg_rooms.specs.declared.record.Record.{Record}
use Rattle.mg_rooms.specs.Registry.{record_at, context_at}
use Rattle.mg_sums.specs.Sums.{SumsState}
use Rattle.mg_sums.specs.aids.Sums.{frame_of_row, total_of}
use Rattle.mg_engine.specs.Gateway.{Gateway, frame_of}
use Rattle.mg_engine.specs.Mix.{total}

-- The frame in the row of a termination's slot is the termination's current frame. The total of a context's room is the
-- sum over the members that talk.
pub record RepresentsTotals (w : Gateway) (kept : SumsState) : Type 0 where
  pub frames : (n : ℕ) (r : Record) → record_at w.rooms n ≡ Some r
      → frame_of_row kept r.slot ≡ frame_of w n
  pub totals : (c i : ℕ) (x : Context) → context_at w.rooms c ≡ Some x → i < 160
      → total_of kept x.room i ≡ total w c i
