use Rattle.std.proofs.Common.{List, ◌∷◌, ◌++◌, ◌∙◌, [], refl, ap, sym}
use Rattle.std.specs.Prelude.{Bool, slice_set, true}
use Rattle.mg_host.proofs.PollLemmas.{grows_none, marked_more, reported_more}
use Rattle.mg_host.proofs.fake_host.report.Goals as goal

pub loop-arrival-init : goal.loop-arrival-init
loop-arrival-init c = ([], grows_none c.args.log.now, refl)

pub loop-arrival-preserved : goal.loop-arrival-preserved
loop-arrival-preserved c =
    let (sockets, grows, marked) = c.loop-arrival.invariant in
    let socket = c.arrival-item.result.socket in (
      sockets ++ socket ∷ [],
      reported_more _ _ _ sockets socket grows c.add.ensures.value,
      c.mark.ensures.value ∙ ap (λ (marks : List Bool). slice_set marks socket true) marked
          ∙ sym (marked_more sockets socket c.args.marks.now),
    )
