use Rattle.std.proofs.Common.{drop, length, ap, refl, arith, length-append, ◌∷◌}
use Rattle.std.proofs.lemmas.Result.{err_from_is_err_and}
use Rattle.mg_core.specs.aids.Resuming.{HasFollowed, KeepsLines}
use Rattle.mg_core.proofs.ResumeLemmas.{good}
use Rattle.mg_core.proofs.ResumedBytesLemmas.{bytes_feed, bytes_last, bytes_start, bytes_stop, bytes_tens, bytes_ticks, cut_at_feed, no_feed}
use Rattle.mg_core.proofs.resumer.Resumer.take_bytes.Goals as goal

pub loop-end-init : goal.loop-end-init
loop-end-init g c = record {
  lines = omega arith;
  value = λ start base. bytes_start c.args.self.now.lines c.args.self.now.partial.text c.args.bytes.now
      (KeepsLines base c.args.self.now.runner.core.state c.args.self.now.runner.counts c.args.self.now.runner.ticks
      (HasFollowed g.F.Follower.follows start c.args.follower.now base));
}

pub returns-in_err-end_line-clause-value : goal.returns-in_err-end_line-clause-value
returns-in_err-end_line-clause-value g c =
    let p = err_from_is_err_and c.from_residual.result c.from_residual.ensures.1 in
    let follows = g.F.Follower.follows in
    let rest = c.loop-end.rest.now in
    let n = c.in-Some.end in
    let cut = cut_at_feed rest c.split_at.result.0.now (drop n rest) (drop 1 (drop n rest)) n c.in-Some.ensures.value
    c.split_at.ensures.front refl refl in
    rw (p.1, p.2) (λ start base. bytes_stop g.F.Follower.may_stop c.args.self.now.lines c.loop-end.self.lines
    c.end_line.new.self.lines c.args.self.now.partial.text c.args.bytes.now c.loop-end.self.partial.text rest
    c.split_at.result.0.now (drop 1 (drop n rest)) c.end_line.new.self.partial.text
    (KeepsLines base c.args.self.now.runner.core.state c.args.self.now.runner.counts c.args.self.now.runner.ticks
    (HasFollowed follows start c.args.follower.now base))
    (KeepsLines base c.loop-end.self.runner.core.state c.loop-end.self.runner.counts c.loop-end.self.runner.ticks
    (HasFollowed follows start c.loop-end.follower base))
    (KeepsLines base c.end_line.new.self.runner.core.state c.end_line.new.self.runner.counts c.end_line.new.self.runner.ticks
    (HasFollowed follows start c.end_line.new.follower base)) c.in_err-end_line.field-0.0
    (good base c.loop-end.self.runner.core.state c.loop-end.self.runner.counts c.loop-end.self.runner.ticks
    (HasFollowed follows start c.loop-end.follower base)) (c.loop-end.invariant.value start base) cut (c.in_err-end_line.ensures.value start base))

pub loop-end-smaller : goal.loop-end-smaller
loop-end-smaller g c =
    let rest = c.loop-end.rest.now in
    let part = c.split_at.result.0.now in
    let next = c.split_at-in-Some.result.1.now in
    let cut = cut_at_feed rest part c.split_at.result.1.now next c.in-Some.end c.in-Some.ensures.value
    c.split_at.ensures.front c.split_at.ensures.back c.split_at-in-Some.ensures.back in
    omega (arith, c.in_ok-next.ensures.short, c.in_ok-rest.ensures.short, ap length cut.parts, length-append part (10 ∷ next))

pub loop-end-preserved : goal.loop-end-preserved
loop-end-preserved g c =
    let follows = g.F.Follower.follows in
    let rest = c.loop-end.rest.now in
    let part = c.split_at.result.0.now in
    let next = c.split_at-in-Some.result.1.now in
    let cut = cut_at_feed rest part c.split_at.result.1.now next c.in-Some.end c.in-Some.ensures.value
    c.split_at.ensures.front c.split_at.ensures.back c.split_at-in-Some.ensures.back in
    record {
      lines = omega (
        arith,
        c.in_ok-end_line.ensures.lines,
        c.in_ok-next.ensures.lines,
        c.in_ok-rest.ensures.lines,
        c.loop-end.invariant.lines,
        ap length cut.parts,
        length-append part (10 ∷ next),
      );
      value = rw (c.take_tens.ensures.partial, c.take_ticks.ensures.partial, c.in_ok-end_line.ensures.partial) (λ start base.
          let was = c.end_line.new.self.runner in
          let mid = c.take_ticks.new.self.runner in
          let is = c.take_tens.new.self.runner in
          let first = c.args.self.now.lines in
          let partial = c.args.self.now.partial.text in
          let bytes = c.args.bytes.now in
          let Old = KeepsLines base c.args.self.now.runner.core.state c.args.self.now.runner.counts c.args.self.now.runner.ticks
          (HasFollowed follows start c.args.follower.now base) in
          let Was = KeepsLines base was.core.state was.counts was.ticks
          (HasFollowed follows start c.end_line.new.follower base) in
          let Mid = KeepsLines base mid.core.state mid.counts mid.ticks
          (HasFollowed follows start c.take_ticks.new.follower base) in
          let Is = KeepsLines base is.core.state is.counts is.ticks
          (HasFollowed follows start c.take_tens.new.follower base) in
          let fed = bytes_feed first c.loop-end.self.lines partial bytes c.loop-end.self.partial.text rest part next Old
          (KeepsLines base c.loop-end.self.runner.core.state c.loop-end.self.runner.counts c.loop-end.self.runner.ticks
          (HasFollowed follows start c.loop-end.follower base)) Was (c.loop-end.invariant.value start base) cut
          (c.in_ok-end_line.ensures.value start base) in
          let ticked = bytes_ticks first c.end_line.new.self.lines c.take_ticks.new.self.lines partial bytes next
          c.in_ok-next.next.now Old Was Mid (rw (← c.in_ok-end_line.ensures.lines) at fed)
          (c.in_ok-next.ensures.value start base) in
          bytes_tens first c.take_ticks.new.self.lines c.take_tens.new.self.lines partial bytes c.in_ok-next.next.now
          c.in_ok-rest.rest.now Old Mid Is ticked (c.in_ok-rest.ensures.value start base));
    }

pub returns-clause-value : goal.returns-clause-value
returns-clause-value g c =
    let follows = g.F.Follower.follows in
    rw (c.keep.ensures.runner, c.keep.ensures.lines) (λ start base. bytes_last g.F.Follower.may_stop
    c.args.self.now.lines c.loop-end.self.lines c.args.self.now.partial.text c.args.bytes.now
    c.loop-end.self.partial.text c.loop-end.rest.now c.keep.new.self.partial.text
    (KeepsLines base c.args.self.now.runner.core.state c.args.self.now.runner.counts c.args.self.now.runner.ticks
    (HasFollowed follows start c.args.follower.now base))
    (KeepsLines base c.loop-end.self.runner.core.state c.loop-end.self.runner.counts c.loop-end.self.runner.ticks
    (HasFollowed follows start c.loop-end.follower base)) c.keep.result
    (good base c.loop-end.self.runner.core.state c.loop-end.self.runner.counts c.loop-end.self.runner.ticks
    (HasFollowed follows start c.loop-end.follower base)) (c.loop-end.invariant.value start base)
    (no_feed c.loop-end.rest.now c.in_default.ensures.value) c.keep.ensures.kept c.keep.ensures.long)
