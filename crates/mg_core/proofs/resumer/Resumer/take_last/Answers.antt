use Rattle.std.proofs.Common.{◌∙◌, Ok, Err, sym}
use Rattle.std.proofs.lemmas.Result.{err_from_is_err_and}
use Rattle.mg_core.specs.aids.Resuming.{HasFollowed, KeepsLines}
use Rattle.mg_core.proofs.ResumedScriptLemmas.{last_line_resumed, no_last_line}
use Rattle.mg_core.proofs.resumer.Resumer.take_last.Goals as goal

pub returns-then-is_empty : goal.returns-then-is_empty
returns-then-is_empty g c = record {
  value = λ start base. no_last_line c.as_slice-line.result.now c.args.self.now.partial.text
      (KeepsLines base c.args.self.now.runner.core.state c.args.self.now.runner.counts c.args.self.now.runner.ticks
      (HasFollowed g.F.Follower.follows start c.args.follower.now base))
      c.as_slice-line.ensures.value (sym c.is_empty.ensures ∙ c.if-is_empty.true);
}

pub returns-in_err-take_line : goal.returns-in_err-take_line
returns-in_err-take_line g c =
    let p = err_from_is_err_and c.from_residual.result c.from_residual.ensures.1 in
    let follows = g.F.Follower.follows in
    rw (p.1, p.2) (record {
      value = λ start base. last_line_resumed g.F.Follower.may_stop c.args.self.now.lines c.as_slice-line.result.now
          c.args.self.now.partial.text
          (KeepsLines base c.args.self.now.runner.core.state c.args.self.now.runner.counts c.args.self.now.runner.ticks
          (HasFollowed follows start c.args.follower.now base))
          (KeepsLines base c.take_line.new.self.core.state c.take_line.new.self.counts c.take_line.new.self.ticks
          (HasFollowed follows start c.take_line.new.follower base)) (Err c.in_err-take_line.field-0.0)
          c.as_slice-line.ensures.value (sym c.is_empty.ensures ∙ c.if-is_empty.false)
          (c.in_err-take_line.ensures.value start base);
    })

pub returns : goal.returns
returns g c =
    let follows = g.F.Follower.follows in
    record {
      value = λ start base. last_line_resumed g.F.Follower.may_stop c.args.self.now.lines c.as_slice-line.result.now
          c.args.self.now.partial.text
          (KeepsLines base c.args.self.now.runner.core.state c.args.self.now.runner.counts c.args.self.now.runner.ticks
          (HasFollowed follows start c.args.follower.now base))
          (KeepsLines base c.take_line.new.self.core.state c.take_line.new.self.counts c.take_line.new.self.ticks
          (HasFollowed follows start c.take_line.new.follower base)) (Ok tt)
          c.as_slice-line.ensures.value (sym c.is_empty.ensures ∙ c.if-is_empty.false)
          (c.in_ok-take_line.ensures.value start base);
    }
