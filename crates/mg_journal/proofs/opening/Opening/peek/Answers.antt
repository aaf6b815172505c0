use Rattle.std.proofs.Common.{ℕ, ◌++◌, List, take, drop, subst, arith, IfOk, Option}
use Rattle.std.proofs.lemmas.List.{length-take}
use Rattle.std.specs.Io.KnownBytes.{Consumes}
use Rattle.mg_journal.specs.aids.Opened.{OpeningState, text_in}
use Rattle.mg_journal.proofs.OpeningLemmas.{nothing_taken, peeked}
use Rattle.mg_journal.proofs.opening.Opening.peek.Goals as goal

pub returns-then-most-eq0-clause-front : goal.returns-then-most-eq0-clause-front
returns-then-most-eq0-clause-front g c = (text_in c.args.self.now.file, nothing_taken (text_in c.args.self.now.file))

pub returns-clause-front : goal.returns-clause-front
returns-clause-front g c =
    let file = g.F.JournalFile.file c.self.inside.file in
    let buffer = c.read.new.buffer in
    let rest = drop c.min-most.result c.args.buffer.now in
    subst (λ (o : OpeningState). IfOk c.read.result (λ n. (left : Option (List ℕ)) × Consumes (text_in o.file) left
    (take n (buffer ++ rest)))) c.self.view_is
    (peeked c.read.result file (g.F.JournalFile.file c.read.new.self) c.self.inside.extent c.min-most.result buffer rest
    c.self.invariant.0 (omega (arith, c.min-most.ensures)) (omega (arith, c.if-most-eq0.false))
    (omega (arith, c.read.auto.buffer, length-take c.min-most.result c.args.buffer.now, c.min-most.ensures)) c.read.ensures.value)
