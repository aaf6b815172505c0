use Rattle.std.proofs.Common.{sym, ◌∙◌}
use Rattle.mg_core.proofs.AnswerLemmas.{is_refused}
use Rattle.mg_core.proofs.machine.Core.read.Goals as goal

pub returns-in-Some : goal.returns-in-Some
returns-in-Some c =
    let read = rw c.in-Err.is at c.read.ensures in
    record {
      reading = is_refused c.args.bytes.now c.in-Err.fault c.in-Some.number
          (sym c.refusal_of.ensures.value ∙ c.in-Some.is) read.long read.long_only read.version read.version_only
          read.syntax;
    }
