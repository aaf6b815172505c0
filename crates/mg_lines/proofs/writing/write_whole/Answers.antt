use Rattle.std.proofs.Common.{◌-◌, length, take, drop, ap, arith}
use Rattle.std.proofs.lemmas.List.{take_rest, length-drop}
use Rattle.std.proofs.lemmas.Result.{err_from_is_err_and}
use Rattle.std.proofs.lemmas.Bool.Decides.{nat_tests}
use Rattle.std.proofs.KnownBytes.{Keeps-refl}
use Rattle.mg_lines.proofs.WriterLemmas.{front_more, stops}
use Rattle.mg_lines.proofs.writing.write_whole.Goals as goal

pub returns-in_err-at : goal.returns-in_err-at
returns-in_err-at g c =
    let p = err_from_is_err_and c.from_residual.result c.from_residual.ensures.1 in
    rw p.1 (record {
      value = stops (g.W.Write.contents c.args.writer.now) (g.W.Write.contents c.loop.writer)
          (g.W.Write.contents c.write_some.new.writer) c.args.text.now c.loop.at
          (grind (arith, nat_tests, c.if-at-text.false, c.loop.invariant.within)) c.loop.invariant.written
          c.in_err-at.ensures.value;
    })

pub loop-preserved : goal.loop-preserved
loop-preserved g c =
    let text = c.args.text.now in
    let rest = take_rest text c.loop.at in
    record {
      within = omega (
        arith,
        c.in_ok-at.ensures.value.0,
        ap length rest,
        length-drop c.loop.at text,
        c.loop.invariant.within,
      );
      written = front_more _ _ _ text (take (length text - c.loop.at) (drop c.loop.at text)) c.loop.at
          c.in_ok-at.field-0 c.loop.invariant.within rest c.loop.invariant.written c.in_ok-at.ensures.value.1;
    }

pub returns-else-at-text-2 : goal.returns-else-at-text-2
returns-else-at-text-2 g c = record {
  value = stops (g.W.Write.contents c.args.writer.now) (g.W.Write.contents c.loop.writer)
      (g.W.Write.contents c.loop.writer) c.args.text.now c.loop.at
      (grind (arith, nat_tests, c.if-at-text-2.false, c.loop.invariant.within)) c.loop.invariant.written
      (Keeps-refl (g.W.Write.contents c.loop.writer));
}
