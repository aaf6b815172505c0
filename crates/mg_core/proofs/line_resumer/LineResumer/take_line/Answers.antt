use Rattle.std.proofs.Common.{◌≡◌, ◌||◌, [], ◌∷◌, ◌∙◌, Bool, None, Some, sym, ap}
use Rattle.std.proofs.lemmas.Result.{err_from_is_err_and}
use Rattle.mg_core.specs.Counted.{is_mark}
use Rattle.mg_core.specs.Script.{event_of}
use Rattle.mg_core.specs.aids.Resuming.{Adds, HasFollowed, IsBadLine, KeepsLines, KeepsUp, LinesResumed, counted_in}
use Rattle.mg_core.proofs.ResumeLemmas.{count_read, plain_bad, plain_read, resumes_err}
use Rattle.mg_core.proofs.line_resumer.LineResumer.take_line.Goals as goal

pub returns-in_err-take_plain-in-None : goal.returns-in_err-take_plain-in-None
returns-in_err-take_plain-in-None g c =
    let p = err_from_is_err_and c.from_residual-in_err-take_plain-in-None.result c.from_residual-in_err-take_plain-in-None.ensures.1 in
    let line = c.args.line.now in
    let number = c.args.number in
    let old = c.args.self.now in
    let new = c.take_plain.new.self in
    let none : counted_in old.counts line ≡ None = sym c.counted_in.ensures.value ∙ c.in-None.is in
    rw (p.1, p.2) (record {
      value = λ start base.
          let follows = g.F.Follower.follows in
          let Before = HasFollowed follows start c.args.follower.now base in
          let After = HasFollowed follows start c.take_plain.new.follower base in
          let Old = KeepsLines base old.core.state old.counts old.ticks Before in
          resumes_err g.F.Follower.may_stop
          (LinesResumed (KeepsUp base old.core.state old.ticks Before) (KeepsUp base new.core.state new.ticks After)
          (line ∷ []))
          (Adds Old (KeepsLines base new.core.state new.counts new.ticks After) (line ∷ []))
          (λ k. (k ≡ number) × (event_of line ≡ None)) (λ k. (k ≡ number) × IsBadLine Old line)
          c.in_err-take_plain-in-None.field-0.0
          (λ k bad. (bad.0, plain_bad base old.core.state old.counts old.ticks Before line none bad.1))
          (c.in_err-take_plain-in-None.ensures.value start base);
    })

pub returns-in_ok-take_ticks-in-Some : goal.returns-in_ok-take_ticks-in-Some
returns-in_ok-take_ticks-in-Some g c =
    let old = c.args.self.now in
    let new = c.take_ticks.new.self in
    let counted : counted_in old.counts c.args.line.now ≡ Some c.in-Some.count = sym c.counted_in.ensures.value ∙ c.in-Some.is in
    record {
      value = λ start base.
          let follows = g.F.Follower.follows in
          count_read base old.core.state new.core.state old.counts new.counts old.ticks new.ticks
          (HasFollowed follows start c.args.follower.now base) (HasFollowed follows start c.take_ticks.new.follower base)
          c.args.line.now c.in-Some.count counted c.in_ok-take_ticks-in-Some.ensures.counts
          (c.in_ok-take_ticks-in-Some.ensures.value start base);
    }

pub returns-in_ok-take_plain-in-None : goal.returns-in_ok-take_plain-in-None
returns-in_ok-take_plain-in-None g c =
    let line = c.args.line.now in
    let old = c.args.self.now in
    let new = c.take_plain.new.self in
    let none : counted_in old.counts line ≡ None = sym c.counted_in.ensures.value ∙ c.in-None.is in
    record {
      value = λ start base.
          let follows = g.F.Follower.follows in
          plain_read base old.core.state new.core.state old.counts c.counts_after-self.result old.ticks new.ticks
          (HasFollowed follows start c.args.follower.now base) (HasFollowed follows start c.take_plain.new.follower base)
          line none
          (c.counts_after-self.ensures.value ∙ ap (λ (b : Bool). b || is_mark line) c.in_ok-take_plain-in-None.ensures.counts)
          (c.in_ok-take_plain-in-None.ensures.value start base);
    }
