use Rattle.std.proofs.Common.{◌++◌, List, map, take}
use Rattle.mg_heard.specs.declared.entry.Entry.{Entry}
use Rattle.mg_audible.specs.aids.Keeping.{entry_until}
use Rattle.mg_audible.proofs.telling.tell_audible.Given as goal

abbrev pub invariant-loop-interval : goal.invariant-loop-interval
invariant-loop-interval g l = (start : g.row.S.Denot) (before : List Entry) → g.S.Sink.told start l.initial.sink before →
    g.S.Sink.told start l.sink (before ++ map (entry_until l.end) (take l.interval-index l.intervals))
