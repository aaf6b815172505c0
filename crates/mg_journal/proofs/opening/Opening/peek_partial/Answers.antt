use Rattle.std.proofs.Common.{◌++◌, length, take, drop, subst, arith, IfOk, IfSome}
use Rattle.std.proofs.lemmas.List.{length-take}
use Rattle.std.specs.Io.{StartsWith}
use Rattle.mg_journal.specs.aids.Opened.{OpeningState}
use Rattle.mg_journal.specs.Text.{whole_lines}
use Rattle.mg_journal.proofs.OpeningLemmas.{peeked_partial}
use Rattle.mg_journal.proofs.opening.Opening.peek_partial.Goals as goal

pub returns-clause-front : goal.returns-clause-front
returns-clause-front g c =
    let file = g.F.JournalFile.file c.self.inside.file in
    let buffer = c.read.new.buffer in
    let rest = drop c.min-most.result c.args.buffer.now in
    subst (λ (o : OpeningState). IfOk c.read.result (λ n. IfSome o.file.bytes (λ bytes.
    StartsWith (drop (length (whole_lines bytes)) bytes) (take n (buffer ++ rest))))) c.self.view_is
    (peeked_partial c.read.result file (g.F.JournalFile.file c.read.new.self) c.self.inside.extent c.min-most.result buffer rest
    c.self.invariant.0 (omega (arith, c.if-most-eq0.false))
    (omega (arith, c.read.auto.buffer, length-take c.min-most.result c.args.buffer.now, c.min-most.ensures)) c.read.ensures.value)
