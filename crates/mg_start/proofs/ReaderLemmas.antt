-- Two readers of a journal, for its times and its fence.
use Rattle.std.proofs.Common.{◌≡◌, ℕ, List, Result, Ok, Err, OnOk}
use Rattle.std.specs.Prelude.{reverse}
use Rattle.mg_core.specs.declared.stopped.Stopped.{Stopped}
use Rattle.mg_core.specs.Note.{Note}
use Rattle.mg_dates.specs.declared.timeline.Timeline.{Timeline}
use Rattle.mg_dates.specs.Times.{timeline_of}
use Rattle.mg_fence.specs.Reached.{Reaches}

pub both_follow : (result : Result (Unit {0}) Stopped) (timeline : Timeline) (notes : List Note) (reached : ℕ)
    → timeline ≡ timeline_of (reverse notes) → OnOk result (Reaches 0 notes reached)
    → OnOk result ((timeline ≡ timeline_of (reverse notes)) × Reaches 0 notes reached)
both_follow (Ok done) timeline notes reached times h = (times, h)
both_follow (Err stopped) timeline notes reached times h = tt
