-- The packets of a tick, according to the state of an engine.
use Rattle.std.specs.Prelude.{◌≡◌, ℕ, ℤ, pos, ◌+◌, ◌%◌, ◌^◌, Bool, false, List, ◌++◌, map}
use Rattle.std.specs.Prelude.{filter_map, Option, Some, None, slice_set, drop, Ok, Err}
use Rattle.std.specs.Prelude.{if◌then◌else◌, is_some, count_by}
use Rattle.std.specs.List.{range_with_len}
use Rattle.std.specs.Option.{option_map}
use Rattle.mg_g711.specs.Law.{byte_of}
use Rattle.mg_rtp.specs.declared.header.Header.{Header}
use Rattle.mg_rtp.specs.Header.{header_bytes, plain}
use Rattle.mg_sdp.specs.declared.chosen.Chosen.{Chosen}
use Rattle.mg_rooms.specs.declared.record.Record.{Record}
use Rattle.mg_rooms.specs.Limits.{slot_port}
use Rattle.mg_rooms.specs.Registry as rooms
use Rattle.mg_flow.specs.declared.place.Place.{Place}
use Rattle.mg_flow.specs.aids.Table as flow
use Rattle.mg_sums.specs.Sums.{sample_in}
use Rattle.mg_sums.specs.Samples.{sum_of, nearest_sample}
use Rattle.mg_engine.specs.declared.datagram.Datagram.{Datagram}
use Rattle.mg_words.specs.declared.peer.Peer.{Peer}
use Rattle.mg_engine.specs.declared.share.Share.{Share}
use Rattle.mg_engine.specs.declared.taken.Taken.{Taken}
use Rattle.mg_engine.specs.declared.taken.Taken.TheVariants.{Placed, Dropped}
use Rattle.mg_engine.specs.Arrival.{Arrived}
use Rattle.mg_engine.specs.aids.Media as media
use Rattle.mg_engine.specs.aids.MediaSteps as media_steps
use Rattle.mg_engine.specs.aids.Place.{place_of}
use Rattle.mg_engine.specs.Mix.{is_loopback}
use Rattle.mg_engine.specs.aids.Stands.{EngineState, media_at}
use Rattle.mg_engine.specs.Tick.{type_of, sent_to}
use Rattle.mg_engine.specs.aids.Found.{has_destination}

-- A sample of the frame in a slot's row.
abbrev pub sample_at : List (List ℤ) → ℕ → ℕ → ℤ
sample_at frames slot i = sample_in frames i slot

-- Whether speech flows from one place to another. No speech flows if either place is missing.
abbrev pub flows_between : List flow.RoomFlows → Option Place → Option Place → Bool
flows_between table (Some p) (Some q) = flow.flows table p q
flows_between table (Some p) None = false
flows_between table None q = false

-- Whether the talker at one place is silenced for the listener at another. No talker is silenced if either place is
-- missing.
abbrev pub is_silenced_between : List flow.RoomFlows → Option Place → Option Place → Bool
is_silenced_between table (Some p) (Some q) = flow.is_silenced table p q
is_silenced_between table (Some p) None = false
is_silenced_between table None q = false

abbrev pub flows_now : EngineState → Record → Record → Bool
flows_now k t l = flows_between k.flows (place_of k.rooms t) (place_of k.rooms l)

abbrev pub part_now : EngineState → Record → ℕ → Record → ℤ
part_now k l i t = if flows_now k t l then sample_at k.sums.frames t.slot i else pos 0

abbrev pub heard_now : EngineState → Record → ℕ → ℤ
heard_now k l i = sum_of (part_now k l i) k.rooms.terminations

abbrev pub mix_now : EngineState → Record → ℕ → ℤ
mix_now k l i =
    if is_loopback l.mode then sample_at k.sums.frames l.slot i
    else nearest_sample (heard_now k l i)

abbrev pub mixed_now : EngineState → Record → List ℤ
mixed_now k l = map (mix_now k l) (range_with_len 0 160)

abbrev pub packet_now : EngineState → Record → Chosen → Datagram
packet_now k r to = record {
  from = slot_port k.rooms.limits r.slot;
  to = record { address = to.address; port = to.port };
  bytes = header_bytes plain (media_steps.header (media_at k.media r.slot) (type_of to.law)
      ((k.config.ssrc + r.number) % 2 ^ 32))
      ++ map (byte_of to.law) (mixed_now k r);
}

-- A packet with another source port, destination and header.
abbrev pub addressed : ℕ → Peer → Header → Datagram → Datagram
addressed from to header d =
    record { from = from; to = to; bytes = header_bytes plain header ++ drop 12 d.bytes }

-- The number of talkers that are silenced for the listener.
abbrev pub silenced_now : EngineState → Record → ℕ
silenced_now k l =
    count_by
    (λ t. is_silenced_between k.flows (place_of k.rooms t) (place_of k.rooms l))
    k.rooms.terminations

abbrev pub mix_work_now : EngineState → Record → ℕ
mix_work_now k l = 1 + (if is_loopback l.mode then 0 else silenced_now k l)

abbrev pub sending_work_now : EngineState → Record → ℕ
sending_work_now k l = if is_some (sent_to l) then mix_work_now k l else 0

abbrev pub packets_now : EngineState → List Datagram
packets_now k = filter_map (λ r. option_map (packet_now k r) (sent_to r)) k.rooms.terminations

-- Whether the termination in a slot sends.
abbrev pub slot_sends : rooms.Registry → ℕ → Bool
slot_sends w slot = has_destination (rooms.holder_of w slot)

-- The media of a slot after the end of a tick. If the slot's termination sends, it sent a packet in the tick.
abbrev pub IsEnded : rooms.Registry → List media.SlotMedia → List media.SlotMedia → ℕ → Type 0
IsEnded w old new slot = media_at new slot
    ≡ media_steps.slot_ended (slot_sends w slot) (media_at old slot)

-- The state with this work counter and these shares. Mixes change the counter; packets whose payloads can be shared
-- change the shares.
abbrev pub with_mixes : EngineState → ℕ → List (List Share) → EngineState
with_mixes k work shares = record k { sums = record k.sums { work = work }; shares = shares }

-- The outcome of a datagram for a slot: a frame was passed to the slot's play list, or the media are unchanged.
abbrev pub PlacedAt : List media.SlotMedia → List media.SlotMedia → ℕ → Arrived → Taken → Type 0
PlacedAt old new slot (Ok p) result =
    (new ≡ slice_set old slot (media_steps.slot_placed (media_at old slot) p.0 p.1).0)
    × (result ≡ Placed ((media_steps.slot_placed (media_at old slot) p.0 p.1).1))
PlacedAt old new slot (Err cause) result = (new ≡ old) × (result ≡ Dropped cause)
