use Rattle.std.proofs.Common.{take, refl, sym, add-one, arith}
use Rattle.mg_kept.specs.KeptReplies.{is_reply_to}
use Rattle.mg_kept.proofs.FindLemmas.{found_at, none_more}
use Rattle.mg_kept.proofs.kept.Kept.find.Goals as goal

pub returns-then-is_reply_to-clause-value : goal.returns-then-is_reply_to-clause-value
returns-then-is_reply_to-clause-value c =
    let found = found_at (is_reply_to c.args.sender.now c.args.number) (take c.self.inside.len c.deref.result.now)
    c.loop-place.place-index c.place-item.result (omega arith) c.loop-place.invariant c.place-item.is
    (sym c.if-is_reply_to.ensures.value) in
    rw (← c.self.view_is, ← c.deref.ensures.value, found, c.text.ensures.value) refl

pub loop-place-preserved : goal.loop-place-preserved
loop-place-preserved c = rw add-one
    (none_more (is_reply_to c.args.sender.now c.args.number) (take c.self.inside.len c.deref.result.now)
    c.loop-place.place-index c.place-item.result (omega arith) c.loop-place.invariant c.place-item.is
    (sym c.if-is_reply_to.ensures.value))
