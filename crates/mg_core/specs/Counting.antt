-- The counts of a world are the numbers of events.
use Rattle.std.specs.Prelude.{◌≡◌, ◌+◌, Bool, true, false, List, length, count_by, sum}
use Rattle.mg_core.specs.declared.event.Event.{Event}
use Rattle.mg_core.specs.declared.event.Event.TheVariants.{Control, Media, Tick}
use Rattle.mg_core.specs.Step.{Sent, Run}
use Rattle.mg_core.specs.World.{World}

abbrev pub is_control : Event → Bool
is_control (Control source bytes) = true
is_control _ = false

abbrev pub is_media : Event → Bool
is_media (Media port source bytes) = true
is_media _ = false

abbrev pub is_tick : Event → Bool
is_tick Tick = true
is_tick _ = false

-- Since the world `base`, the counts of control datagrams, RTP datagrams and ticks have grown by the numbers of these
-- events. The sum of the counts of outcomes has grown by the number of RTP datagrams. In a new gateway's world, all
-- counts are 0.
pub record CountsOf (base : World) (events : List Event) (w : World) : Type 0 where
  pub control : w.tally.control ≡ base.tally.control + count_by is_control events
  pub media : w.tally.media ≡ base.tally.media + count_by is_media events
  pub ticks : w.tally.ticks ≡ base.tally.ticks + count_by is_tick events
  pub results : sum w.tally.results ≡ sum base.tally.results + count_by is_media events

-- After any sequence of events, the counts of the world have grown by the numbers of these events. Each base has a count
-- for each of the 11 outcomes.
abbrev pub EventsAreCounted : Type 0
EventsAreCounted =
    (base : World) (events : List Event) (sent : List Sent) (last : World)
    → length base.tally.results ≡ 11 → Run base events sent last → CountsOf base events last
