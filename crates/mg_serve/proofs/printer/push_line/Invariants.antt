use Rattle.std.proofs.Common.{◌≡◌, ◌+◌, length, take}
use Rattle.mg_bytes.specs.Bytes.{appended}
use Rattle.mg_serve.specs.Trace.{one_line}
use Rattle.mg_serve.proofs.printer.push_line.Given as goal

abbrev pub invariant-loop-b : goal.invariant-loop-b
invariant-loop-b l =
    let line = one_line (take l.b-index l.text) in
    (l.out ≡ appended l.initial.out line) × (l.left + length line ≡ 1000)
