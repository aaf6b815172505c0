use Rattle.std.proofs.Common.{Ok, Err, take, length-take, arith}
use Rattle.std.proofs.KnownBytes.{Keeps-refl}
use Rattle.std.proofs.lemmas.Result.{err_from_is_err_and}
use Rattle.mg_core.proofs.RunLemmas.{comes_start, comes_bytes, comes_fault, comes_end, comes_unread}
use Rattle.mg_core.proofs.script_runner.ScriptRunner.take_all.Goals as goal

pub loop-init : goal.loop-init
loop-init g c = record {
  lines = omega (arith, c.requires.lines);
  value = λ shown base starts. comes_start shown base (g.R.Read.remaining c.args.reader.now)
      c.args.self.now.partial.text
      c.args.self.now.lines c.args.self.now.runner c.args.self.now.runner.sent
      (g.W.Write.contents c.args.writer.now) c.requires.partial c.requires.lines c.requires.sent starts;
}

pub returns-in_err-n : goal.returns-in_err-n
returns-in_err-n g c =
    let p = err_from_is_err_and c.from_residual.result c.from_residual.ensures.1 in
    rw (p.1, p.2) (record {
      value = λ shown base starts. comes_unread shown base (g.R.Read.remaining c.args.reader.now)
          (g.R.Read.remaining c.loop.reader) (g.R.Read.remaining c.read_some.new.reader)
          c.loop.self.partial.text c.loop.self.lines c.loop.self.runner c.loop.self.runner.sent
          (g.W.Write.contents c.args.writer.now) (g.W.Write.contents c.loop.writer)
          (c.loop.invariant.value shown base starts) c.in_err-n.ensures.value;
    })

pub returns-in_err-finish : goal.returns-in_err-finish
returns-in_err-finish g c =
    let p = err_from_is_err_and c.from_residual-in_err-finish.result c.from_residual-in_err-finish.ensures.1 in
    rw (p.1, p.2) (record {
      value = λ shown base starts.
          comes_end shown base (g.R.Read.remaining c.args.reader.now) (g.R.Read.remaining c.loop.reader)
          (g.R.Read.remaining c.read_some.new.reader)
          c.loop.self.partial.text c.loop.self.lines c.finish.new.self.lines c.loop.self.runner
          c.finish.new.self.runner c.loop.self.runner.sent c.finish.new.self.runner.sent
          (g.W.Write.contents c.args.writer.now) (g.W.Write.contents c.loop.writer)
          (g.W.Write.contents c.finish.new.writer) (Err c.in_err-finish.field-0.0)
          (c.loop.invariant.value shown base starts) (rw c.in_default.is at c.in_ok-n.ensures.value)
          (c.in_err-finish.ensures.value shown);
    })

pub returns-in_default : goal.returns-in_default
returns-in_default g c = record {
  value = λ shown base starts.
      comes_end shown base (g.R.Read.remaining c.args.reader.now) (g.R.Read.remaining c.loop.reader)
      (g.R.Read.remaining c.read_some.new.reader)
      c.loop.self.partial.text c.loop.self.lines c.finish.new.self.lines c.loop.self.runner
      c.finish.new.self.runner c.loop.self.runner.sent c.finish.new.self.runner.sent
      (g.W.Write.contents c.args.writer.now) (g.W.Write.contents c.loop.writer)
      (g.W.Write.contents c.finish.new.writer) (Ok tt)
      (c.loop.invariant.value shown base starts) (rw c.in_default.is at c.in_ok-n.ensures.value)
      (c.in_ok-finish.ensures.value shown);
}

pub returns-in_err-take_bytes : goal.returns-in_err-take_bytes
returns-in_err-take_bytes g c =
    let p = err_from_is_err_and c.from_residual-in_err-take_bytes.result c.from_residual-in_err-take_bytes.ensures.1 in
    let read = rw c.in-Some.is at c.in_ok-n.ensures.value in
    rw (p.1, p.2) (record {
      value = λ shown base starts. comes_fault shown base (g.R.Read.remaining c.args.reader.now)
          (g.R.Read.remaining c.loop.reader) (g.R.Read.remaining c.read_some.new.reader)
          c.loop.self.partial.text (take c.in-Some.n c.read_some.new.buffer) c.take_bytes.new.self.partial.text
          c.loop.self.lines c.take_bytes.new.self.lines
          c.loop.self.runner c.take_bytes.new.self.runner c.loop.self.runner.sent
          c.take_bytes.new.self.runner.sent
          (g.W.Write.contents c.args.writer.now) (g.W.Write.contents c.loop.writer)
          (g.W.Write.contents c.take_bytes.new.writer) c.in_err-take_bytes.field-0.0
          (c.loop.invariant.value shown base starts) read.1
          (omega (arith, length-take c.in-Some.n c.read_some.new.buffer, read.0, c.read_some.array_long))
          (c.in_err-take_bytes.ensures.value shown);
    })

pub loop-preserved : goal.loop-preserved
loop-preserved g c =
    let read = rw c.in-Some.is at c.in_ok-n.ensures.value in
    record {
      lines = omega (
        arith,
        c.in_ok-take_bytes.ensures.lines,
        length-take c.in-Some.n c.read_some.new.buffer,
        read.0,
        c.read_some.array_long,
        c.loop.invariant.lines,
      );
      value = λ shown base starts. comes_bytes shown base (g.R.Read.remaining c.args.reader.now)
          (g.R.Read.remaining c.loop.reader) (g.R.Read.remaining c.read_some.new.reader)
          c.loop.self.partial.text (take c.in-Some.n c.read_some.new.buffer) c.take_bytes.new.self.partial.text
          c.loop.self.lines c.take_bytes.new.self.lines
          c.loop.self.runner c.take_bytes.new.self.runner c.loop.self.runner.sent
          c.take_bytes.new.self.runner.sent
          (g.W.Write.contents c.args.writer.now) (g.W.Write.contents c.loop.writer)
          (g.W.Write.contents c.take_bytes.new.writer)
          (c.loop.invariant.value shown base starts) read.1 (c.in_ok-take_bytes.ensures.value shown);
    }

pub returns : goal.returns
returns g c = record {
  value = λ shown base starts. comes_unread shown base (g.R.Read.remaining c.args.reader.now)
      (g.R.Read.remaining c.loop.reader) (g.R.Read.remaining c.loop.reader)
      c.loop.self.partial.text c.loop.self.lines c.loop.self.runner c.loop.self.runner.sent
      (g.W.Write.contents c.args.writer.now) (g.W.Write.contents c.loop.writer)
      (c.loop.invariant.value shown base starts) (Keeps-refl (g.R.Read.remaining c.loop.reader));
}
