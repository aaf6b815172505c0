use Rattle.std.proofs.Common.{◌+◌, arith}
use Rattle.std.proofs.lemmas.Result.{err_from_is_err_and}
use Rattle.mg_core.proofs.RunLemmas.{index_start, index_plain, index_line, index_stop, index_long}
use Rattle.mg_core.proofs.script_runner.ScriptRunner.take_bytes.Goals as goal

pub loop-b-init : goal.loop-b-init
loop-b-init g c = record {
  lines = omega arith;
  value = λ shown. index_start shown c.args.self.now.lines c.args.self.now.partial.text c.args.self.now.runner
      c.args.self.now.runner.sent (g.W.Write.contents c.args.writer.now);
}

pub returns-in_err-end_line-clause-value : goal.returns-in_err-end_line-clause-value
returns-in_err-end_line-clause-value g c =
    let p = err_from_is_err_and c.from_residual.result c.from_residual.ensures.1 in
    λ shown. rw (p.1, p.2) (index_stop shown c.args.self.now.lines c.loop-b.self.lines c.end_line.new.self.lines
    c.args.self.now.partial.text c.args.bytes.now c.loop-b.self.partial.text c.end_line.new.self.partial.text
    c.args.self.now.runner c.loop-b.self.runner c.end_line.new.self.runner
    c.args.self.now.runner.sent c.loop-b.self.runner.sent c.end_line.new.self.runner.sent
    (g.W.Write.contents c.args.writer.now) (g.W.Write.contents c.loop-b.writer)
    (g.W.Write.contents c.end_line.new.writer) c.loop-b.b-index c.in_err-end_line.field-0.0
    c.loop-b-test.true c.if-b-eq10.true (c.loop-b.invariant.value shown) (c.in_err-end_line.ensures.value shown))

pub loop-b-preserved-then-b-eq10 : goal.loop-b-preserved-then-b-eq10
loop-b-preserved-then-b-eq10 g c = record {
  lines = omega (arith, c.in_ok-end_line.ensures.lines, c.loop-b.invariant.lines);
  value = λ shown. rw (c.in_ok-end_line.ensures.partial, c.in_ok-end_line.ensures.lines)
      (index_line shown c.args.self.now.lines c.loop-b.self.lines
      c.args.self.now.partial.text c.args.bytes.now c.loop-b.self.partial.text
      c.args.self.now.runner c.loop-b.self.runner c.end_line.new.self.runner
      c.args.self.now.runner.sent c.loop-b.self.runner.sent c.end_line.new.self.runner.sent
      (g.W.Write.contents c.args.writer.now) (g.W.Write.contents c.loop-b.writer)
      (g.W.Write.contents c.end_line.new.writer) c.loop-b.b-index (c.loop-b.self.lines + 1)
      c.loop-b-test.true c.if-b-eq10.true (c.loop-b.invariant.value shown) (c.in_ok-end_line.ensures.value shown));
}

pub returns-then-room-eq0-clause-value : goal.returns-then-room-eq0-clause-value
returns-then-room-eq0-clause-value g c =
    λ shown. index_long shown c.args.self.now.lines c.loop-b.self.lines c.loop-b.self.lines
    c.args.self.now.partial.text c.args.bytes.now c.loop-b.self.partial.text c.loop-b.self.partial.text
    c.args.self.now.runner c.loop-b.self.runner c.args.self.now.runner.sent
    c.loop-b.self.runner.sent c.loop-b.self.runner.sent
    (g.W.Write.contents c.args.writer.now) (g.W.Write.contents c.loop-b.writer) c.loop-b.b-index
    c.loop-b-test.true c.if-b-eq10.false (omega
    (arith, c.loop-b.self.partial_size, c.room.ensures.value, c.if-room-eq0.true)) (c.loop-b.invariant.value shown)

pub loop-b-preserved : goal.loop-b-preserved
loop-b-preserved g c = record {
  lines = omega (arith, c.loop-b.invariant.lines);
  value = λ shown. rw c.push.ensures.value (index_plain shown c.args.self.now.lines c.loop-b.self.lines
      c.args.self.now.partial.text c.args.bytes.now c.loop-b.self.partial.text c.args.self.now.runner
      c.loop-b.self.runner c.args.self.now.runner.sent c.loop-b.self.runner.sent
      (g.W.Write.contents c.args.writer.now) (g.W.Write.contents c.loop-b.writer) c.loop-b.b-index
      c.loop-b-test.true c.if-b-eq10.false (c.loop-b.invariant.value shown));
}
