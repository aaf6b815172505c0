-- The results of lookups.
use Rattle.std.specs.Prelude.{◌≡◌, ℕ, ℤ, Bool, false, List, Option, is_some}
use Rattle.std.specs.List.{slice_get}
use Rattle.std.specs.Option.{option_map, option_map_or}
use Rattle.mg_words.specs.OptionSteps.{◌>>=◌}
use Rattle.mg_words.specs.declared.mode.Mode.{Mode}
use Rattle.mg_words.specs.declared.mode.Mode.TheVariants.{Inactive}
use Rattle.mg_sdp.specs.declared.chosen.Chosen.{Chosen}
use Rattle.mg_rtp.specs.Reading.{Reading}
use Rattle.mg_playout.specs.Played.{is_concealed}
use Rattle.mg_playout.specs.Playout as play_lists
use Rattle.mg_rooms.specs.declared.record.Record.{Record}
use Rattle.mg_sums.specs.Samples.{silence}
use Rattle.mg_engine.specs.declared.datagram.Datagram.{Datagram}
use Rattle.mg_engine.specs.declared.taken.DropCause.TheVariants as causes
use Rattle.mg_engine.specs.declared.taken.Taken.{Taken}
use Rattle.mg_engine.specs.declared.taken.Taken.TheVariants.{Dropped}
use Rattle.mg_engine.specs.Gateway.{Gateway, TerminationMedia, media_of, stats_of}
use Rattle.mg_engine.specs.Arrival.{arrived, taken_at}
use Rattle.mg_engine.specs.aids.Stands.{EngineState}
use Rattle.mg_engine.specs.Tick.{packet, sent_to}

abbrev pub mode_or_inactive : Option Record → Mode
mode_or_inactive r = option_map_or (λ r. r.mode) r Inactive

abbrev pub context_in : Option Record → ℕ
context_in r = option_map_or (λ r. r.context) r 0

abbrev pub frame_in : Option TerminationMedia → List ℤ
frame_in s = option_map_or (λ s. s.frame) s silence

abbrev pub conceals_in : Option TerminationMedia → Bool
conceals_in s = option_map_or (λ s. is_concealed ((play_lists.ticked s.play).1)) s false

abbrev pub has_destination : Option Record → Bool
has_destination r = option_map_or (λ r. is_some (sent_to r)) r false

abbrev pub packet_to : Gateway → Record → Option Chosen → Option Datagram
packet_to w r to = to >>= (λ to. option_map (packet w r to) (media_of w r.number))

abbrev pub taken_by : Gateway → Option Record → List ℕ → Reading → Gateway × Taken
taken_by w r source reading =
    option_map_or (λ r. taken_at w r.number (arrived r source reading)) r
    (w, Dropped causes.NoTermination)

-- The counters of a termination are stored in its slot.
abbrev pub HasStats : EngineState → Gateway → Record → Type 0
HasStats kept w r =
    stats_of w r.number ≡ option_map (λ m. m.stats) (slice_get kept.media r.slot)
