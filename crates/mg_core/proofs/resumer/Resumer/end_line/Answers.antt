use Rattle.std.proofs.Common.{◌≡◌, ℕ, ◌+◌, true, List, [], ◌∷◌, ◌++◌, ◌∙◌, ap}
use Rattle.std.proofs.lemmas.Result.{err_from_is_err_and}
use Rattle.mg_lines.specs.Lines.{lines_after, without_return}
use Rattle.mg_core.specs.aids.Resuming.{Adds, HasFollowed, IsBadLine, KeepsLines, StartsBad}
use Rattle.mg_core.proofs.ResumeLemmas.{resumes_err, ticks_read}
use Rattle.mg_core.proofs.ResumedBytesLemmas.{ended_bad, ended_long, tick_ended}
use Rattle.mg_core.proofs.resumer.Resumer.end_line.Goals as goal

pub returns-then-is_tick-clause-value : goal.returns-then-is_tick-clause-value
returns-then-is_tick-clause-value g c start base =
    let follows = g.F.Follower.follows in
    let old = c.args.self.now.runner in
    let new = c.take_ticks.new.self in
    let parts = c.is_tick.ensures.value c.if-is_tick.true in
    let Before = HasFollowed follows start c.args.follower.now base in
    let After = HasFollowed follows start c.take_ticks.new.follower base in
    tick_ended (KeepsLines base old.core.state old.counts old.ticks Before)
    (KeepsLines base new.core.state new.counts new.ticks After)
    c.args.self.now.partial.text c.args.part.now parts.0 parts.1
    (ticks_read base old.core.state new.core.state old.counts new.counts old.ticks new.ticks Before After 1
    c.in_ok-take_ticks.ensures.counts (c.in_ok-take_ticks.ensures.value start base))

pub returns-in_err-keep-clause-value : goal.returns-in_err-keep-clause-value
returns-in_err-keep-clause-value g c =
    let p = err_from_is_err_and c.from_residual-in_err-keep.result c.from_residual-in_err-keep.ensures.1 in
    let long = c.in_err-keep.ensures.long in
    rw (p.1, p.2, long.0) (λ start base. ended_long
    (KeepsLines base c.args.self.now.runner.core.state c.args.self.now.runner.counts c.args.self.now.runner.ticks
    (HasFollowed g.F.Follower.follows start c.args.follower.now base)) c.args.self.now.lines
    (c.args.self.now.partial.text ++ c.args.part.now) long.1)

pub returns-in_err-take_line-clause-value : goal.returns-in_err-take_line-clause-value
returns-in_err-take_line-clause-value g c =
    let p = err_from_is_err_and c.from_residual-in_err-take_line.result c.from_residual-in_err-take_line.ensures.1 in
    let text = c.args.self.now.partial.text ++ c.args.part.now in
    let line = c.without_return-line.result.now in
    let same : line ≡ without_return text = c.without_return-line.ensures.value ∙
    ap without_return (c.as_slice.ensures.value ∙ c.in_ok-keep.ensures.kept) in
    let kept = c.keep.new.self.runner in
    let old = c.args.self.now.runner in
    let new = c.take_line.new.self in
    let count = c.args.self.now.lines in
    let counted = c.keep.new.self.lines in
    rw (p.1, p.2) (λ start base.
    let follows = g.F.Follower.follows in
    let Follows = HasFollowed follows start c.args.follower.now base in
    let New = KeepsLines base new.core.state new.counts new.ticks (HasFollowed follows start c.take_line.new.follower base) in
    let Kept = KeepsLines base kept.core.state kept.counts kept.ticks Follows in
    let Old = KeepsLines base old.core.state old.counts old.ticks Follows in
    resumes_err g.F.Follower.may_stop (Adds Kept New (line ∷ [])) (Adds Old New (without_return text ∷ []))
    (λ k. (k ≡ counted + 1) × IsBadLine Kept line)
    (λ k. (more : List ℕ) → StartsBad Old count (lines_after true text (10 ∷ more)) k) c.in_err-take_line.field-0.0
    (λ k bad. ended_bad Old count counted k text line c.keep.ensures.lines same (bad.0, rw c.keep.ensures.runner at bad.1))
    (c.in_err-take_line.ensures.value start base))

pub returns-clause-value : goal.returns-clause-value
returns-clause-value g c =
    let text = c.args.self.now.partial.text ++ c.args.part.now in
    let line : c.without_return-line.result.now ≡ without_return text = c.without_return-line.ensures.value ∙
    ap without_return (c.as_slice.ensures.value ∙ c.in_ok-keep.ensures.kept) in
    rw (line, c.keep.ensures.runner) at c.in_ok-take_line.ensures.value
