-- The placing of a frame, given the media of its termination.
use Rattle.std.specs.Prelude.{ℕ, ℤ, List, Option, Some}
use Rattle.std.specs.Option.{option_map_or}
use Rattle.mg_playout.specs.Playout as play_lists
use Rattle.mg_rooms.specs.Changes.{change}
use Rattle.mg_rtp.specs.declared.header.Header.{Header}
use Rattle.mg_engine.specs.declared.taken.DropCause.TheVariants as causes
use Rattle.mg_engine.specs.declared.taken.Taken.{Taken}
use Rattle.mg_engine.specs.declared.taken.Taken.TheVariants.{Placed, Dropped}
use Rattle.mg_engine.specs.Arrival.{frame_placed}
use Rattle.mg_engine.specs.Gateway.{Gateway, TerminationMedia}

abbrev pub frame_placed_at : Gateway → ℕ → Header × List ℤ → Option TerminationMedia → Gateway × Taken
frame_placed_at w n p o = option_map_or (λ s. (
  record w { media = change (λ s. s.number) n (λ s. Some (frame_placed p.0 p.1 s)) w.media },
  Placed ((play_lists.placed s.play p.0.ssrc p.0.sequence p.1).1),
)) o (w, Dropped causes.NoTermination)
