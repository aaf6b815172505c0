use Rattle.std.proofs.Common.{◌++◌, List, map, take}
use Rattle.mg_heard.specs.aids.Keeping.{entry_until}
use Rattle.mg_heard.specs.aids.Rows.{intervals_of}
use Rattle.mg_heard.specs.declared.entry.Entry.{Entry}
use Rattle.mg_heard.proofs.telling.tell_rows.Given as goal

abbrev pub invariant-loop-row : goal.invariant-loop-row
invariant-loop-row g l = (start : g.row.S.Denot) (before : List Entry) → g.S.Sink.told start l.initial.sink before →
    g.S.Sink.told start l.sink (before ++ map (entry_until l.end) (intervals_of (take l.row-index l.rows)))
