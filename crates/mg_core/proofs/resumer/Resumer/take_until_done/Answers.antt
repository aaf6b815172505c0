use Rattle.std.proofs.Common.{◌≡◌, ◌∙◌, List, take, length-take, arith, sym}
use Rattle.mg_core.specs.Note.{Note}
use Rattle.mg_core.specs.aids.Resuming.{HasFollowed, KeepsLines, KeepsUp}
use Rattle.mg_core.proofs.ResumeLemmas.{lines_start}
use Rattle.mg_core.proofs.ResumedScriptLemmas.{advances, followed_to_done, followed_to_end, not_err, ticks_run, waits_on, waits_start}
use Rattle.mg_core.proofs.resumer.Resumer.take_until_done.Goals as goal

pub loop-init : goal.loop-init
loop-init g c =
    let runner = c.args.self.now.runner in
    let first = c.args.follower.now in
    record {
      lines = omega (arith, c.requires.lines);
      value = λ base run.
          let Follows = HasFollowed g.F.Follower.follows first first base in
          waits_start g.F.Watcher.done (λ f. HasFollowed g.F.Follower.follows first f base)
          (KeepsLines base runner.core.state runner.counts runner.ticks Follows) (g.R.Read.remaining c.args.reader.now)
          c.args.self.now.partial.text c.args.self.now.lines c.requires.partial c.requires.lines
          (lines_start base runner.core.state runner.counts runner.ticks Follows c.requires.ticks c.requires.counts run (λ ready. ready));
    }

pub returns-in_default : goal.returns-in_default
returns-in_default g c =
    let follows = g.F.Follower.follows in
    let first = c.args.follower.now in
    record {
      value = λ base run. followed_to_end base
          (KeepsLines base c.loop.self.runner.core.state c.loop.self.runner.counts c.loop.self.runner.ticks
          (HasFollowed follows first c.loop.follower base)) (g.R.Read.remaining c.args.reader.now)
          (g.R.Read.remaining c.loop.reader) (g.R.Read.remaining c.read_some.new.reader) c.loop.self.partial.text
          c.loop.self.lines c.finish.new.self.runner.core.state c.finish.new.self.runner.counts g.F.Watcher.done
          (λ f. HasFollowed follows first f base) c.finish.new.follower (c.loop.invariant.value base run)
          (rw c.in_default.is at c.in_ok-n.ensures.value) (c.in_ok-finish.ensures.value first base);
    }

pub returns-then-is_done : goal.returns-then-is_done
returns-then-is_done g c =
    let read = rw c.in-Some.is at c.in_ok-n.ensures.value in
    let follows = g.F.Follower.follows in
    let first = c.args.follower.now in
    let passed = sym c.is_err.ensures.value ∙ c.if-is_err.false in
    record {
      value = λ base run.
          let now = c.run_ticks.new.follower in
          let Follows : g.row.F.Denot → List Note → Type 0 = λ f. HasFollowed follows first f base in
          let input = g.R.Read.remaining c.args.reader.now in
          let before = g.R.Read.remaining c.loop.reader in
          let rest = g.R.Read.remaining c.read_some.new.reader in
          let piece = take c.in-Some.n c.read_some.new.buffer in
          let left = c.take_bytes.new.self.partial.text in
          let lines = c.take_bytes.new.self.lines in
          let state = c.run_ticks.new.self.core.state in
          let counts = c.run_ticks.new.self.counts in
          let taken = c.take_bytes.new.self.runner in
          let (r, waits) = c.loop.invariant.value base run in
          followed_to_done base state counts g.F.Watcher.done Follows now input before rest r.1.text piece left lines
          (omega (arith, length-take c.in-Some.n c.read_some.new.buffer, read.0, c.read_some.array_long)) waits
          (sym c.is_done.ensures.value ∙ c.if-is_done.true)
          (advances base state counts g.F.Watcher.done Follows now
          (KeepsLines base c.loop.self.runner.core.state c.loop.self.runner.counts c.loop.self.runner.ticks
          (HasFollowed follows first c.loop.follower base))
          (KeepsLines base c.take_bytes.new.self.runner.core.state c.take_bytes.new.self.runner.counts c.take_bytes.new.self.runner.ticks
          (HasFollowed follows first c.take_bytes.new.follower base)) input before rest c.loop.self.partial.text piece
          left c.loop.self.lines lines r read.1 (c.in_ok-take_bytes.ensures.value first base)
          (ticks_run base taken.core.state state taken.counts counts taken.ticks
          (HasFollowed follows first c.take_bytes.new.follower base) (Follows now) c.run_ticks.ensures.counts
          (λ notes h. not_err c.run_ticks.result (KeepsUp base state 0 (Follows now) notes) passed
          (c.run_ticks.ensures.value first base notes h))));
    }

pub loop-preserved : goal.loop-preserved
loop-preserved g c =
    let read = rw c.in-Some.is at c.in_ok-n.ensures.value in
    let follows = g.F.Follower.follows in
    let first = c.args.follower.now in
    let passed = sym c.is_err.ensures.value ∙ c.if-is_err.false in
    let none : c.run_ticks.new.self.ticks ≡ 0 = not_err c.run_ticks.result _ passed c.run_ticks.ensures.ticks in
    record {
      lines = omega (
        arith,
        c.in_ok-take_bytes.ensures.lines,
        length-take c.in-Some.n c.read_some.new.buffer,
        read.0,
        c.read_some.array_long,
        c.loop.invariant.lines,
      );
      value = λ base run.
          let now = c.run_ticks.new.follower in
          let Follows : g.row.F.Denot → List Note → Type 0 = λ f. HasFollowed follows first f base in
          let input = g.R.Read.remaining c.args.reader.now in
          let before = g.R.Read.remaining c.loop.reader in
          let rest = g.R.Read.remaining c.read_some.new.reader in
          let piece = take c.in-Some.n c.read_some.new.buffer in
          let left = c.take_bytes.new.self.partial.text in
          let lines = c.take_bytes.new.self.lines in
          let state = c.run_ticks.new.self.core.state in
          let counts = c.run_ticks.new.self.counts in
          let taken = c.take_bytes.new.self.runner in
          let (r, waits) = c.loop.invariant.value base run in
          waits_on base state counts g.F.Watcher.done Follows now input before rest r.1.text piece left lines
          c.run_ticks.new.self.ticks none (sym c.is_done.ensures.value ∙ c.if-is_done.false)
          (advances base state counts g.F.Watcher.done Follows now
          (KeepsLines base c.loop.self.runner.core.state c.loop.self.runner.counts c.loop.self.runner.ticks
          (HasFollowed follows first c.loop.follower base))
          (KeepsLines base c.take_bytes.new.self.runner.core.state c.take_bytes.new.self.runner.counts c.take_bytes.new.self.runner.ticks
          (HasFollowed follows first c.take_bytes.new.follower base)) input before rest c.loop.self.partial.text piece
          left c.loop.self.lines lines r read.1 (c.in_ok-take_bytes.ensures.value first base)
          (ticks_run base taken.core.state state taken.counts counts taken.ticks
          (HasFollowed follows first c.take_bytes.new.follower base) (Follows now) c.run_ticks.ensures.counts
          (λ notes h. not_err c.run_ticks.result (KeepsUp base state 0 (Follows now) notes) passed
          (c.run_ticks.ensures.value first base notes h))));
    }
