use Rattle.std.proofs.Common.{Ok, Err, take, length-take, arith}
use Rattle.std.proofs.lemmas.Result.{err_from_is_err_and}
use Rattle.mg_core.specs.aids.Resuming.{HasFollowed, KeepsLines}
use Rattle.mg_core.proofs.ResumeLemmas.{good, lines_start}
use Rattle.mg_core.proofs.ResumedScriptLemmas.{reaches_bytes, reaches_end, reaches_fault, reaches_start}
use Rattle.mg_core.proofs.resumer.Resumer.take_all.Goals as goal

pub loop-init : goal.loop-init
loop-init g c =
    let runner = c.args.self.now.runner in
    let first = c.args.follower.now in
    record {
      lines = omega (arith, c.requires.lines);
      value = λ base run.
          let Follows = HasFollowed g.F.Follower.follows first first base in
          reaches_start (KeepsLines base runner.core.state runner.counts runner.ticks Follows) (g.R.Read.remaining c.args.reader.now)
          c.args.self.now.partial.text c.args.self.now.lines c.requires.partial c.requires.lines
          (lines_start base runner.core.state runner.counts runner.ticks Follows c.requires.ticks c.requires.counts run (λ ready. ready));
    }

pub returns-in_err-n : goal.returns-in_err-n
returns-in_err-n g c =
    let p = err_from_is_err_and c.from_residual.result c.from_residual.ensures.1 in
    rw (p.1, p.2) (record { value = λ base run. tt })

pub returns-in_err-finish : goal.returns-in_err-finish
returns-in_err-finish g c =
    let p = err_from_is_err_and c.from_residual-in_err-finish.result c.from_residual-in_err-finish.ensures.1 in
    let follows = g.F.Follower.follows in
    let first = c.args.follower.now in
    rw (p.1, p.2) (record {
      value = λ base run. reaches_end g.F.Follower.may_stop base
          (KeepsLines base c.loop.self.runner.core.state c.loop.self.runner.counts c.loop.self.runner.ticks
          (HasFollowed follows first c.loop.follower base))
          (HasFollowed follows first c.finish.new.follower base)
          (g.R.Read.remaining c.args.reader.now) (g.R.Read.remaining c.loop.reader)
          (g.R.Read.remaining c.read_some.new.reader) c.loop.self.partial.text c.loop.self.lines
          c.finish.new.self.runner.core.state c.finish.new.self.runner.counts (Err c.in_err-finish.field-0.0)
          (good base c.loop.self.runner.core.state c.loop.self.runner.counts c.loop.self.runner.ticks
          (HasFollowed follows first c.loop.follower base)) (c.loop.invariant.value base run)
          (rw c.in_default.is at c.in_ok-n.ensures.value) (c.in_err-finish.ensures.value first base);
    })

pub returns-in_default : goal.returns-in_default
returns-in_default g c =
    let follows = g.F.Follower.follows in
    let first = c.args.follower.now in
    record {
      value = λ base run. reaches_end g.F.Follower.may_stop base
          (KeepsLines base c.loop.self.runner.core.state c.loop.self.runner.counts c.loop.self.runner.ticks
          (HasFollowed follows first c.loop.follower base))
          (HasFollowed follows first c.finish.new.follower base)
          (g.R.Read.remaining c.args.reader.now) (g.R.Read.remaining c.loop.reader)
          (g.R.Read.remaining c.read_some.new.reader) c.loop.self.partial.text c.loop.self.lines
          c.finish.new.self.runner.core.state c.finish.new.self.runner.counts (Ok tt)
          (good base c.loop.self.runner.core.state c.loop.self.runner.counts c.loop.self.runner.ticks
          (HasFollowed follows first c.loop.follower base)) (c.loop.invariant.value base run)
          (rw c.in_default.is at c.in_ok-n.ensures.value) (c.in_ok-finish.ensures.value first base);
    }

pub returns-in_err-take_bytes : goal.returns-in_err-take_bytes
returns-in_err-take_bytes g c =
    let p = err_from_is_err_and c.from_residual-in_err-take_bytes.result c.from_residual-in_err-take_bytes.ensures.1 in
    let read = rw c.in-Some.is at c.in_ok-n.ensures.value in
    let follows = g.F.Follower.follows in
    let first = c.args.follower.now in
    rw (p.1, p.2) (record {
      value = λ base run. reaches_fault g.F.Follower.may_stop base
          (KeepsLines base c.loop.self.runner.core.state c.loop.self.runner.counts c.loop.self.runner.ticks
          (HasFollowed follows first c.loop.follower base))
          (KeepsLines base c.take_bytes.new.self.runner.core.state c.take_bytes.new.self.runner.counts c.take_bytes.new.self.runner.ticks
          (HasFollowed follows first c.take_bytes.new.follower base))
          (HasFollowed follows first c.take_bytes.new.follower base)
          (g.R.Read.remaining c.args.reader.now) (g.R.Read.remaining c.loop.reader)
          (g.R.Read.remaining c.read_some.new.reader) c.loop.self.partial.text
          (take c.in-Some.n c.read_some.new.buffer) c.take_bytes.new.self.partial.text c.loop.self.lines
          c.take_bytes.new.self.lines c.take_bytes.new.self.runner.core.state c.in_err-take_bytes.field-0.0
          (c.loop.invariant.value base run) read.1 (c.in_err-take_bytes.ensures.value first base);
    })

pub loop-preserved : goal.loop-preserved
loop-preserved g c =
    let read = rw c.in-Some.is at c.in_ok-n.ensures.value in
    let follows = g.F.Follower.follows in
    let first = c.args.follower.now in
    record {
      lines = omega (
        arith,
        c.in_ok-take_bytes.ensures.lines,
        length-take c.in-Some.n c.read_some.new.buffer,
        read.0,
        c.read_some.array_long,
        c.loop.invariant.lines,
      );
      value = λ base run. reaches_bytes
          (KeepsLines base c.loop.self.runner.core.state c.loop.self.runner.counts c.loop.self.runner.ticks
          (HasFollowed follows first c.loop.follower base))
          (KeepsLines base c.take_bytes.new.self.runner.core.state c.take_bytes.new.self.runner.counts c.take_bytes.new.self.runner.ticks
          (HasFollowed follows first c.take_bytes.new.follower base))
          (g.R.Read.remaining c.args.reader.now) (g.R.Read.remaining c.loop.reader)
          (g.R.Read.remaining c.read_some.new.reader) c.loop.self.partial.text
          (take c.in-Some.n c.read_some.new.buffer) c.take_bytes.new.self.partial.text c.loop.self.lines
          c.take_bytes.new.self.lines (c.loop.invariant.value base run) read.1
          (c.in_ok-take_bytes.ensures.value first base);
    }

pub returns : goal.returns
returns g c = record { value = λ base run. tt }
