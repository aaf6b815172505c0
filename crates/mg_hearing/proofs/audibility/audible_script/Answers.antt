use Rattle.mg_hearing.proofs.AudibleLemmas.{is_audible}
use Rattle.mg_hearing.proofs.audibility.audible_script.Goals as goal

pub returns-in-Ok : goal.returns-in-Ok
returns-in-Ok g c =
    let asked = c.args.asked in
    let left = g.R.Read.remaining in
    let held = g.W.Write.contents in
    let (base, begins, state, h) =
    rw (c.chain-script.ensures.bytes, c.as_slice.ensures.value) at c.in-Ok.ensures.value in
    record {
      value = (
        c.done.ensures.status,
        is_audible asked.talker asked.question c.in_ok-front.field-0.start (left c.args.reader.now) (left c.begin.new.reader) _
            c.in_ok-front.field-0.front.items base (held c.args.output.now) (held c.print_audible.new.output)
            c.in-Ok.has_rtp _ state c.in_ok-front.ensures.value begins c.done.ensures.silent h,
      );
    }
