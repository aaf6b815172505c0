-- A gateway as seen from outside (RFC 3525, section 6; RFC 3550). It has a configuration,
-- terminations with their media, contexts with their members, and a history of these contexts.
use Rattle.std.specs.Prelude.{ℕ, ℤ, ◌==◌, Bool, false, List, [], Option, find, map}
use Rattle.std.specs.Option.{option_map, option_map_or}
use Rattle.mg_words.specs.declared.association.Association.{Association}
use Rattle.mg_playout.specs.Playout.{PlayList, first_list}
use Rattle.mg_words.specs.declared.mode.Mode.{Mode}
use Rattle.mg_words.specs.declared.mode.Mode.TheVariants.{Inactive}
use Rattle.mg_rooms.specs.Registry as rooms
use Rattle.mg_engine.specs.declared.config.Config.{Config}
use Rattle.mg_engine.specs.Config.{limits_of}
use Rattle.mg_words.specs.declared.stats.Stats.{Stats}
use Rattle.mg_words.specs.Stats.{no_packets}
use Rattle.mg_sums.specs.Samples.{silence}

-- The media of one termination: its play list, the frame that this tick plays (160 samples), and its counters. The
-- other fields count its ticks and the packets that it has sent, and say whether its last tick sent a packet.
pub record TerminationMedia : Type 0 where
  pub number : ℕ
  pub play : PlayList
  pub frame : List ℤ
  pub stats : Stats
  pub ticks : ℕ
  pub packets : ℕ
  pub sent_last : Bool

-- An edit of a context (RFC 3525, section 7.1.18): a member enters or leaves, or a triple is applied. A triple lists
-- the members that its two names matched when it was applied.
pub data ContextEdit : Type 0 where
  Enter : (member : ℕ) → ContextEdit
  Leave : (member : ℕ) → ContextEdit
  Apply : (first second : List ℕ) → (association : Association) → ContextEdit

-- The state of a gateway: its configuration, its terminations and contexts, and the media of each termination in order
-- of number. It also has the edits of all contexts, newest first.
pub record Gateway : Type 0 where
  pub config : Config
  pub rooms : rooms.Registry
  pub media : List TerminationMedia
  pub edits : List ContextEdit

-- A new gateway, without terminations.
abbrev pub start_of : Config → Gateway
start_of config = record {
  config = config;
  rooms = rooms.start_of (limits_of config);
  media = [];
  edits = [];
}

-- The media of a new termination.
abbrev pub new_media : ℕ → TerminationMedia
new_media n = record {
  number = n;
  play = first_list;
  frame = silence;
  stats = no_packets;
  ticks = 0;
  packets = 0;
  sent_last = false;
}

-- ## Lookups by the number of a termination

abbrev pub media_of : Gateway → ℕ → Option TerminationMedia
media_of w n = find (λ s. s.number == n) w.media

-- The counters of a termination, or `None` if it does not exist.
abbrev pub stats_of : Gateway → ℕ → Option Stats
stats_of w n = option_map (λ s. s.stats) (media_of w n)

-- ## Lookups by any number: a number without a termination is Inactive, in context 0, and silent

abbrev pub mode_of : Gateway → ℕ → Mode
mode_of w n = option_map_or (λ r. r.mode) (rooms.record_at w.rooms n) Inactive

abbrev pub context_of : Gateway → ℕ → ℕ
context_of w n = option_map_or (λ r. r.context) (rooms.record_at w.rooms n) 0

-- The frame that this tick plays.
abbrev pub frame_of : Gateway → ℕ → List ℤ
frame_of w n = option_map_or (λ s. s.frame) (media_of w n) silence

abbrev pub numbers_of : Gateway → List ℕ
numbers_of w = map (λ r. r.number) w.rooms.terminations
