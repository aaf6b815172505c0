use Rattle.std.proofs.Common.{◌≡◌, ◌∙◌, ap}
use Rattle.mg_core.specs.Note.{events_in}
use Rattle.mg_heard.specs.Came.{unless_missing}
use Rattle.mg_heard.specs.Verdict.{verdict_at}
use Rattle.mg_heard.specs.aids.Calling.{AreMissing}
use Rattle.mg_heard.specs.declared.verdict.Verdict.{Verdict}
use Rattle.mg_heard.specs.declared.verdict.Verdict.TheVariants as verdicts
use Rattle.mg_heard.proofs.ReportingLemmas.{reported_all}
use Rattle.mg_heard.proofs.reporting.write_answer.Goals as goal

pub returns-clause-answer : goal.returns-clause-answer
returns-clause-answer g c base stands =
    let query = c.args.query in
    let heard = c.in_ok-verdict in
    reported_all base (g.R.Read.remaining c.args.reader.now) (g.R.Read.remaining c.hear_at.new.reader)
    (λ notes. AreMissing base (events_in notes) query.talker query.listener heard.missing)
    (λ extent xs. heard.verdict ≡ verdict_at query c.args.time extent xs)
    (λ extent xs. c.if_known-verdict.result
    ≡ unless_missing verdicts.Unknown heard.missing (verdict_at query c.args.time extent xs))
    (λ extent xs e. c.if_known-verdict.ensures.value
    ∙ ap (λ (v : Verdict). unless_missing verdicts.Unknown heard.missing v) e)
    (heard.ensures.answer base stands)
