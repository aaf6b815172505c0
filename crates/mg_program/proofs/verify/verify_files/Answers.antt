use Rattle.std.proofs.Common.{◌≡◌, ◌∙◌, ◌∷◌, ◌&&◌, Bool, ap, sym}
use Rattle.mg_program.proofs.VerifyLemmas.{all_verified, next_verified}
use Rattle.mg_program.proofs.verify.verify_files.Goals as goal
use Rattle.mg_program.proofs.verify.verify_files.Goals.{then-are_valid, else-are_valid}

pub loop-next-preserved : goal.loop-next-preserved
loop-next-preserved g c =
    let is_valid = c.in_ok-is_valid.is_valid in
    let both : c.if-are_valid.are_valid ≡ (c.loop-next.are_valid && is_valid) = elim c.if-are_valid.branch [
      | then-are_valid w ↦ w.are_valid-is ∙ ap (λ (b : Bool). b && is_valid) (sym w.if-are_valid.true)
      | else-are_valid w ↦ w.are_valid-is ∙ w.if-are_valid.false ∙ ap (λ (b : Bool). b && is_valid) (sym w.if-are_valid.false)
    ] in
    let (unread, quiet, so_far) = c.loop-next.invariant in
    let (next, silent) = c.in_ok-is_valid.ensures.value in (
      c.in_ok-is_valid.ensures.unread ∙ unread,
      silent ∙ quiet,
      next_verified (c.args.path.now ∷ c.args.later.now) c.args.later.now c.loop-next.next-index c.next-item.result _
          c.loop-next.series.before c.verify_next-in-loop-next.new.series.before (g.E.Host.Tells.calls c.args.outside.now.host)
          (g.E.Host.Tells.calls c.loop-next.outside.host) (g.E.Host.Tells.calls c.verify_next-in-loop-next.new.outside.host)
          (g.E.Output.Write.contents c.args.outside.now.output) (g.E.Output.Write.contents c.loop-next.outside.output)
          (g.E.Output.Write.contents c.verify_next-in-loop-next.new.outside.output) c.loop-next.are_valid is_valid
          c.if-are_valid.are_valid c.loop-next-test.true c.next-item.is both so_far next,
    )

pub returns-clause-value : goal.returns-clause-value
returns-clause-value g c =
    let (unread, quiet, so_far) = c.loop-next.invariant in (
      all_verified (c.args.path.now ∷ c.args.later.now) c.args.later.now c.loop-next.next-index c.loop-next.series.before
          (g.E.Host.Tells.calls c.args.outside.now.host) (g.E.Host.Tells.calls c.loop-next.outside.host)
          (g.E.Output.Write.contents c.args.outside.now.output) (g.E.Output.Write.contents c.loop-next.outside.output)
          c.loop-next.are_valid c.loop-next-test.false so_far,
      quiet,
    )
