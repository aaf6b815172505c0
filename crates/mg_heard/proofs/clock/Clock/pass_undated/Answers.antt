use Rattle.std.proofs.Common.{sym, ◌∙◌, None, Some}
use Rattle.mg_heard.proofs.TimingLemmas.{gap_missed_if}
use Rattle.mg_heard.proofs.clock.Clock.pass_undated.Goals as goal

pub returns-in-Some-clause-value : goal.returns-in-Some-clause-value
returns-in-Some-clause-value c older h =
    gap_missed_if older c.args.line.now (Some c.in-Some.count) c.args.self.now c.missed.result c.requires.undated
    (sym c.in-Some.is ∙ c.missed_in.ensures.value) (c.missed.ensures.value older h) h

pub returns-in-None-clause-value : goal.returns-in-None-clause-value
returns-in-None-clause-value c older h =
    gap_missed_if older c.args.line.now None c.pass_other.new.self c.pass_other.result c.requires.undated
    (sym c.in-None.is ∙ c.missed_in.ensures.value) (c.pass_other.ensures.value older h) (c.pass_other.ensures.same older h)
