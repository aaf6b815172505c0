use Rattle.std.proofs.Common.{true, []}
use Rattle.std.proofs.lemmas.Result.{err_from_is_err_and}
use Rattle.mg_lines.specs.Lines.{lines_after}
use Rattle.mg_core.specs.aids.Resuming.{Adds, HasFollowed, KeepsLines, StartsBad}
use Rattle.mg_core.proofs.ResumeLemmas.{resumes_err}
use Rattle.mg_core.proofs.resumer.Resumer.finish.Goals as goal

pub returns-in_err-take_last : goal.returns-in_err-take_last
returns-in_err-take_last g c =
    let p = err_from_is_err_and c.from_residual.result c.from_residual.ensures.1 in
    let follows = g.F.Follower.follows in
    let old = c.args.self.now.runner in
    let new = c.take_last.new.self.runner in
    let last = lines_after true c.args.self.now.partial.text [] in
    rw (p.1, p.2) (record {
      value = λ start base.
          let Old = KeepsLines base old.core.state old.counts old.ticks (HasFollowed follows start c.args.follower.now base) in
          let Follows = HasFollowed follows start c.take_last.new.follower base in
          resumes_err g.F.Follower.may_stop (Adds Old (KeepsLines base new.core.state new.counts new.ticks Follows) last)
          (Adds Old (KeepsLines base new.core.state new.counts 0 Follows) last)
          (StartsBad Old c.args.self.now.lines last) (StartsBad Old c.args.self.now.lines last)
          c.in_err-take_last.field-0.0 (λ k bad. bad) (c.in_err-take_last.ensures.value start base);
    })
