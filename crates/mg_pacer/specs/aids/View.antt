-- The pace that a schedule represents, and the bounds of its fields.
use Rattle.std.specs.Prelude.{◌+◌, ◌*◌, ◌<◌, ◌≤◌}
use Rattle.mg_pacer.specs.declared.schedule.Schedule.TheInside.{Inside}
use Rattle.mg_pacer.specs.Pace.{Pace}

abbrev pub pace_of : Inside → Pace
pace_of s = record { polls = s.polls; steps = s.steps; left = s.left }

pub record IsWithinBounds (s : Inside) : Type 0 where
  pub some : 0 < s.polls
  pub few : s.polls ≤ 1000
  -- The number of steps that were written or skipped is at most the number that is due at the largest 64-bit reading,
  -- rounded up.
  pub small : s.steps + s.polls * s.left ≤ 922337203685478
