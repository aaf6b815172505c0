use Rattle.std.proofs.Common.{◌∷◌, [], refl}
use Rattle.mg_hearing.proofs.OpenLemmas.{opens_next, opens_none, paths_more}
use Rattle.mg_hearing.proofs.opening.open_all.Goals as goal

pub loop-other-init : goal.loop-other-init
loop-other-init g c =
    opens_next [] (c.args.path.now ∷ []) c.args.path.now (g.H.Tells.calls c.args.host.now) (g.H.Tells.calls c.args.host.now)
    (g.H.Tells.calls c.open_next.new.host) [] _ refl (opens_none (g.H.Tells.calls c.args.host.now))
    (rw c.new-files.ensures.items at c.in_ok-open_next.ensures.value)

pub loop-other-preserved : goal.loop-other-preserved
loop-other-preserved g c =
    opens_next _ _ c.other-item.result (g.H.Tells.calls c.args.host.now) (g.H.Tells.calls c.loop-other.host)
    (g.H.Tells.calls c.open_next-in-loop-other.new.host) _ _
    (paths_more c.args.path.now c.args.later.now c.loop-other.other-index c.other-item.result _ c.loop-other-test.true
    c.other-item.is) c.loop-other.invariant c.in_ok-open_next-2.ensures.value
