use Rattle.std.proofs.Common.{take, sym}
use Rattle.std.proofs.lemmas.List.{length-take-le}
use Rattle.mg_start.proofs.TitleLemmas.{partial_title}
use Rattle.mg_start.proofs.history.check_partial.Goals as goal

pub returns-clause-title : goal.returns-clause-title
returns-clause-title g c =
    let part = take c.in-Ok.n c.peek_partial.new.buffer in
    partial_title c.args.opening.now.file.bytes c.in-Ok.n part
    (length-take-le c.in-Ok.n c.peek_partial.new.buffer c.in-Ok.ensures.within) c.in-Ok.ensures.front
    (rw (c.in-Ok.ensures.same, sym c.if-n-partial.false) at c.partial.ensures.value)
    (sym c.if-not-may_be_title.ensures.value)
