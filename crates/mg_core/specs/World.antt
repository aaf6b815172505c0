-- The state of a gateway as seen from outside.
use Rattle.std.specs.Prelude.{◌≡◌, ℕ, ◌+◌, ◌-◌, ◌^◌, min, List, [], map, replicate, take, drop}
use Rattle.std.specs.Prelude.{slice_index, slice_set}
use Rattle.std.specs.Fn.{iterate}
use Rattle.mg_kept.specs.KeptReplies.{KeptReply}
use Rattle.mg_playout.specs.declared.placed.Placed.TheVariants as placed
use Rattle.mg_engine.specs.declared.config.Config.{Config}
use Rattle.mg_engine.specs.declared.datagram.Datagram.{Datagram}
use Rattle.mg_words.specs.declared.peer.Peer.{Peer}
use Rattle.mg_engine.specs.declared.taken.DropCause.TheVariants as causes
use Rattle.mg_engine.specs.declared.taken.Taken.{Taken}
use Rattle.mg_engine.specs.declared.taken.Taken.TheVariants as takens
use Rattle.mg_engine.specs.Arrival.{Takes}
use Rattle.mg_engine.specs.Tick.{after_tick, concealed_in_tick, sent_in_tick}
use Rattle.mg_engine.specs.Gateway as engine
use Rattle.mg_core.specs.declared.counts.Counts.{Counts}

-- The counts of a world: control datagrams, RTP datagrams in total and by outcome, ticks, and frames played in place of
-- missing frames.
pub record Tally : Type 0 where
  pub control : ℕ
  pub media : ℕ
  pub ticks : ℕ
  pub results : List ℕ
  pub concealed : ℕ

-- A world: the gateway with its terminations and contexts; the kept replies, oldest first; and the counts of events.
pub record World : Type 0 where
  pub gateway : engine.Gateway
  pub replies : List KeptReply
  pub tally : Tally

abbrev pub no_events : Tally
no_events =
    record { control = 0; media = 0; ticks = 0; results = replicate 11 0; concealed = 0 }

-- The world before any event.
abbrev pub start_of : Config → World
start_of config = record { gateway = engine.start_of config; replies = []; tally = no_events }

-- ## Counting

-- The index of an outcome's count in `results`.
abbrev pub result_place : Taken → ℕ
result_place (takens.Placed placed.Started) = 0
result_place (takens.Placed placed.Placed) = 1
result_place (takens.Placed placed.Pushed) = 2
result_place (takens.Placed placed.Again) = 3
result_place (takens.Placed placed.Late) = 4
result_place (takens.Dropped causes.NoTermination) = 5
result_place (takens.Dropped causes.Stray) = 6
result_place (takens.Dropped causes.NoLocal) = 7
result_place (takens.Dropped (causes.Rtp fault)) = 8
result_place (takens.Dropped causes.PayloadType) = 9
result_place (takens.Dropped causes.Length) = 10

abbrev pub one_more_at : ℕ → List ℕ → List ℕ
one_more_at k counts = slice_set counts k (slice_index counts k + 1)

abbrev pub with_taken : Taken → Tally → Tally
with_taken result t =
    record t { media = t.media + 1; results = one_more_at (result_place result) t.results }

-- The counts after a tick that conceals this many frames.
abbrev pub with_tick : ℕ → Tally → Tally
with_tick concealed t = record t { ticks = t.ticks + 1; concealed = t.concealed + concealed }

-- A count, limited to the largest 64-bit value.
abbrev pub capped : ℕ → ℕ
capped n = min n (2 ^ 64 - 1)

-- A tally as counters, each limited to the largest 64-bit value. The counters that a runner keeps are 0.
abbrev pub counts_of : Tally → Counts
counts_of t = record {
  lines = 0;
  control = capped t.control;
  media = capped t.media;
  ticks = capped t.ticks;
  sent = 0;
  failed = 0;
  placed = map capped (take 5 t.results);
  dropped = map capped (drop 5 t.results);
  concealed = capped t.concealed;
}

-- ## Events

-- The world after one more control datagram was counted.
abbrev pub with_control : World → World
with_control w = record w { tally = record w.tally { control = w.tally.control + 1 } }

-- An RTP datagram at a port has this outcome, and leads to the next world.
abbrev pub TakesMedia : World → ℕ → Peer → List ℕ → World → Taken → Type 0
TakesMedia w port source bytes after result =
    (g : engine.Gateway) × Takes w.gateway port source.address bytes g result
    × (after ≡ record w { gateway = g; tally = with_taken result w.tally })

-- The world after a tick.
abbrev pub world_after_tick : World → World
world_after_tick w =
    record w {
      gateway = after_tick w.gateway;
      tally = with_tick (concealed_in_tick w.gateway) w.tally;
    }

-- The world after this many ticks.
abbrev pub world_after_ticks : ℕ → World → World
world_after_ticks count w = iterate world_after_tick count w

abbrev pub packets_of : World → List Datagram
packets_of w = sent_in_tick w.gateway
