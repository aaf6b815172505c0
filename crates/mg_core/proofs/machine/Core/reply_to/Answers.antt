use Rattle.std.proofs.Common.{ℕ, ◌*◌, sym, ap, subst}
use Rattle.mg_scan.specs.Span.{text_of}
use Rattle.mg_text.specs.Message.{items_of}
use Rattle.mg_engine.specs.Work.{RisesAtMost}
use Rattle.mg_core.specs.aids.CoreView.{CoreView}
use Rattle.mg_core.specs.Work.{edits_by_items}
use Rattle.mg_core.specs.aids.Stands.{StandsFor}
use Rattle.mg_core.proofs.machine.Core.reply_to.Goals as goal

pub returns-clause-work : goal.returns-clause-work
returns-clause-work c w h =
    let held = subst (λ (x : CoreView). StandsFor x.state w) (sym c.self.view_is) h in
    let source = c.args.source.now in
    let message = c.args.message.now in
    let edits = edits_by_items source (text_of source message.sender) (items_of message.body) w in
    let paid = rw (c.items_of-items.ensures.value, c.text.ensures.value) at c.put_replies.ensures.work in
    subst (λ (n : ℕ). RisesAtMost (4 * edits) n c.put_replies.new.state.engine.sums.work)
    (ap (λ (x : CoreView). x.state.engine.sums.work) c.self.view_is) (paid w held)
