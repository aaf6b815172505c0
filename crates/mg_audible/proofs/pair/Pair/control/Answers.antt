use Rattle.mg_core.specs.Step.{answer_to, reported}
use Rattle.mg_audible.proofs.StepLemmas.{leads_control}
use Rattle.mg_audible.proofs.pair.Pair.control.Goals as goal

pub returns-clause-value : goal.returns-clause-value
returns-clause-value c =
    let self = c.args.self.now in
    leads_control self.talker c.args.source c.args.bytes.now
    (answer_to c.args.source (reported c.run.result c.run.new.self.answer))
    (answer_to c.args.source (reported c.run-2.result c.run-2.new.self.answer)) self.whole.state
    self.without.state c.run.new.self.state c.run-2.new.self.state c.run.ensures.answered c.run-2.ensures.answered
