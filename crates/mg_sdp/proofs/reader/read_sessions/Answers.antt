use Rattle.std.proofs.Common.{◌≡◌, true, false, sym, ap, ◌∙◌}
use Rattle.std.proofs.lemmas.Bool.{false_from_ne_true}
use Rattle.std.proofs.lemmas.Result.{err_from_is_err_and}
use Rattle.mg_sdp.specs.Lines.{is_line}
use Rattle.mg_sdp.specs.Sessions.{sessions_of}
use Rattle.mg_sdp.specs.aids.LinesLeft.{lines_left}
use Rattle.mg_sdp.proofs.ReaderLemmas.{read_on, line_fault, content_read, sessions_read, sessions_fault}
use Rattle.mg_sdp.proofs.reader.read_sessions.Goals as goal

pub returns-in_err-read : goal.returns-in_err-read
returns-in_err-read c =
    let fault : is_line c.in-Some.line.now ≡ false =
    false_from_ne_true _ (λ h. let bad : false ≡ true = c.in_err-read.ensures.line.1 h in cc) in
    let left = c.in-Some.ensures.steps in
    let p = err_from_is_err_and c.from_residual.result c.from_residual.ensures.1 in
    let same : c.from_residual.result ≡ sessions_of c.args.content.now =
    rw (p.1, p.2, c.in_err-read.ensures.fault)
    (sym (line_fault c.loop-line.reader c.in-Some.line.now (lines_left c.next.new.self) fault) ∙
    ap (read_on c.loop-line.reader) (sym left) ∙ c.loop-line.invariant ∙ content_read c.args.content.now) in
    record {
      alternatives = sessions_read c.args.content.now _ same;
      line = sessions_fault c.args.content.now _ same;
      value = same;
    }

pub returns : goal.returns
returns c =
    let same : c.finish.result ≡ sessions_of c.args.content.now = c.finish.ensures.value ∙
    ap (read_on c.loop-line.reader) (sym c.in-None.ensures.steps.0) ∙ c.loop-line.invariant ∙
    content_read c.args.content.now in
    record {
      alternatives = sessions_read c.args.content.now _ same;
      line = sessions_fault c.args.content.now _ same;
      value = same;
    }
