-- The effect of an RTP datagram that arrives at a media port (RFC 3550, section 5.1). The causes of a drop and their
-- order are this project's own.
use Rattle.std.specs.Prelude.{◌≡◌, ℕ, ℤ, ◌==◌, not, Bool, false, List, map, length}
use Rattle.std.specs.Prelude.{find, Option, Some, Result, Ok, Err, if◌then◌else◌}
use Rattle.std.specs.Option.{option_map_or}
use Rattle.std.specs.Str.{bytes_eq}
use Rattle.mg_g711.specs.declared.law.Law.{Law}
use Rattle.mg_g711.specs.Law.{sample_of}
use Rattle.mg_rtp.specs.declared.header.Header.{Header}
use Rattle.mg_rtp.specs.Reading.{Reading, IsPacketReading}
use Rattle.mg_sdp.specs.declared.chosen.Chosen.{Chosen}
use Rattle.mg_playout.specs.Playout as play_lists
use Rattle.mg_rooms.specs.declared.record.Record.{Record}
use Rattle.mg_rooms.specs.Changes.{change}
use Rattle.mg_rooms.specs.Limits.{slot_port}
use Rattle.mg_words.specs.ResultSteps.{◌>>=◌}
use Rattle.mg_rooms.specs.Registry as rooms
use Rattle.mg_engine.specs.declared.taken.DropCause.{DropCause}
use Rattle.mg_engine.specs.declared.taken.DropCause.TheVariants as causes
use Rattle.mg_engine.specs.declared.taken.Taken.{Taken}
use Rattle.mg_engine.specs.declared.taken.Taken.TheVariants.{Placed, Dropped}
use Rattle.mg_engine.specs.Gateway.{Gateway, TerminationMedia, media_of}
use Rattle.mg_engine.specs.Steps.{received}
use Rattle.mg_engine.specs.Tick.{type_of}

-- A frame with its packet's header, or the cause of the drop.
abbrev pub Arrived : Type 0
Arrived = Result (Header × List ℤ) DropCause

-- The frame of a packet, or the cause of the drop. The payload must be one frame in this law.
abbrev pub decoded : Law → Header × List ℕ → Arrived
decoded law p =
    if not (p.0.payload_type == type_of law) then Err causes.PayloadType
    else (if not (length p.1 == 160) then Err causes.Length else Ok (p.0, map (sample_of law) p.1))

abbrev pub frame_by_law : Law → Reading → Arrived
frame_by_law law (Ok p) = decoded law p
frame_by_law law (Err fault) = Err (causes.Rtp fault)

-- Whether a packet comes from an address that differs from the address in the termination's Remote.
abbrev pub is_stray_source : Option Chosen → List ℕ → Bool
is_stray_source remote source = option_map_or (λ to. not (bytes_eq to.address source)) remote false

-- The law of the payloads that a termination accepts from a source, or the cause of the drop.
abbrev pub law_for : Record → List ℕ → Result Law DropCause
law_for r source =
    if is_stray_source r.remote source then Err causes.Stray
    else option_map_or (λ local. Ok local.law) r.local (Err causes.NoLocal)

-- The frame that a termination gets from a datagram, or the cause of the drop.
abbrev pub arrived : Record → List ℕ → Reading → Arrived
arrived r source reading = do
  law ← law_for r source
  frame_by_law law reading

-- The media after a frame is placed in the play list and counted.
abbrev pub frame_placed : Header → List ℤ → TerminationMedia → TerminationMedia
frame_placed header frame s =
    record s {
      play = (play_lists.placed s.play header.ssrc header.sequence frame).0;
      stats = received s.stats;
    }

-- The gateway and the outcome of a datagram, given the frame that the termination got or the cause of the drop.
abbrev pub taken_at : Gateway → ℕ → Arrived → Gateway × Taken
taken_at w n (Ok p) = option_map_or (λ s. (
  record w { media = change (λ s. s.number) n (λ s. Some (frame_placed p.0 p.1 s)) w.media },
  Placed ((play_lists.placed s.play p.0.ssrc p.0.sequence p.1).1),
)) (media_of w n) (w, Dropped causes.NoTermination)
taken_at w n (Err cause) = (w, Dropped cause)

-- The termination with this port.
abbrev pub at_port : rooms.Registry → ℕ → Option Record
at_port w port = find (λ r. slot_port w.limits r.slot == port) w.terminations

-- The gateway after a datagram arrives at a port from an address, and the outcome of the datagram.
abbrev pub taken : Gateway → ℕ → List ℕ → Reading → Gateway × Taken
taken w port source reading =
    option_map_or (λ r. taken_at w r.number (arrived r source reading)) (at_port w.rooms port)
    (w, Dropped causes.NoTermination)

abbrev pub Takes : Gateway → ℕ → List ℕ → List ℕ → Gateway → Taken → Type 0
Takes w port source bytes after result =
    (reading : Reading) × IsPacketReading bytes reading
    × (taken w port source reading ≡ (after, result))
