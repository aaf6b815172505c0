use Rattle.mg_journal.specs.aids.Opened.{text_in}
use Rattle.mg_start.proofs.StartLemmas.{title_found}
use Rattle.mg_start.proofs.history.config_in.Goals as goal

pub returns-in-Some-titled-clause-titled : goal.returns-in-Some-titled-clause-titled
returns-in-Some-titled-clause-titled g c =
    let (rest, consumed) = c.in-Ok.ensures.front in
    let (more, line) = c.in-Some.ensures.line in
    title_found (text_in c.args.opening.now.file) rest _ c.in-Some.title.now more c.in-Some-titled.config consumed line
    c.in-Some-titled.ensures.value
