use Rattle.mg_core.specs.Note.{events_in}
use Rattle.mg_heard.specs.aids.Calling.{AreMissing}
use Rattle.mg_heard.proofs.FindingLemmas.{answers_found, found_none}
use Rattle.mg_heard.proofs.answering.hear_at.Goals as goal

pub returns : goal.returns
returns g c = record {
  answer = λ base stands.
      let query = c.args.query in
      let start = c.new.result in
      let heard = c.in_ok-instant in
      let (state, h) =
      heard.ensures.told base query.talker query.listener stands (found_none start) c.in-Ok.ensures.value in (
        state,
        answers_found base (g.R.Read.remaining c.args.reader.now) (g.R.Read.remaining c.hear.new.reader) state
            (λ notes. AreMissing base (events_in notes) query.talker query.listener heard.missing) query c.args.time
            start heard.instant heard.extent c.verdict.result c.new.ensures.value c.verdict.ensures.value h,
      );
}
