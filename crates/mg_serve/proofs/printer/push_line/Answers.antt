use Rattle.std.proofs.Common.{◌∷◌, [], length, get_or, take, ap, sym, ◌∙◌, arith, length-append}
use Rattle.mg_bytes.specs.Bytes.{appended}
use Rattle.mg_bytes.proofs.AppendedLemmas.{appended-appended}
use Rattle.mg_serve.specs.Trace.{one_line}
use Rattle.mg_serve.proofs.OneLine.{feed, full, plain}
use Rattle.mg_serve.proofs.printer.push_line.Goals as goal

pub loop-b-preserved-then-b-eq10 : goal.loop-b-preserved-then-b-eq10
loop-b-preserved-then-b-eq10 c =
    rw (feed c.args.text.now c.loop-b.b-index c.loop-b-test.true c.if-b-eq10.true) c.loop-b.invariant

pub loop-b-preserved-then-left-eq0 : goal.loop-b-preserved-then-left-eq0
loop-b-preserved-then-left-eq0 c =
    rw (full c.args.text.now c.loop-b.b-index c.loop-b-test.true
    (omega (arith, c.loop-b.invariant.1, c.if-left-eq0.true))) c.loop-b.invariant

pub loop-b-preserved : goal.loop-b-preserved
loop-b-preserved c =
    let text = c.args.text.now in
    let i = c.loop-b.b-index in
    let line = one_line (take i text) in
    let more = plain text i c.loop-b-test.true c.if-b-eq10.false
    (omega (arith, c.loop-b.invariant.1, c.if-left-eq0.false)) in (
      c.push.ensures.value ∙ ap (λ w. appended w (get_or text i 0 ∷ [])) c.loop-b.invariant.0 ∙
          appended-appended c.args.out.now line (get_or text i 0 ∷ []) ∙ ap (appended c.args.out.now) (sym more),
      omega (
        arith,
        c.loop-b.invariant.1,
        c.if-left-eq0.false,
        ap length more,
        length-append line (get_or text i 0 ∷
            []),
      ),
    )
