use Rattle.std.proofs.Common.{◌^◌, ◌<◌, ap, subst, ◌∙◌}
use Rattle.mg_checkpoint.specs.Checkpoint.{checkpoint_text}
use Rattle.mg_ports.specs.Journaled.{ports_seen}
use Rattle.mg_serve.specs.Renewal.{renewal_text}
use Rattle.mg_serve.specs.aids.Outside.{JournalView}
use Rattle.mg_serve.proofs.Renewing.{renews_due}
use Rattle.mg_serve.proofs.journaling.Journaling.renew_if_due.Goals as goal

pub returns-clause-value : goal.returns-clause-value
returns-clause-value g c w stands =
    let (restorable, fits, is) = c.in-Some-renewal_text.ensures.value w stands in
    renews_due c.args.setup.now w c.in-Some-renewal_text.text.items c.append_lacking.result
    (ports_seen (g.P.Ports.calls c.args.ports.now) (g.P.Ports.journal c.args.ports.now))
    (ports_seen (g.P.Ports.calls c.is_renewal_due.new.self) (g.P.Ports.journal c.is_renewal_due.new.self))
    (ports_seen (g.P.Ports.calls c.append_lacking.new.ports) (g.P.Ports.journal c.append_lacking.new.ports))
    (ports_seen (g.P.Ports.calls c.renew.new.ports) (g.P.Ports.journal c.renew.new.ports))
    c.args.self.now c.append_lacking.new.self c.renew.new.self c.is_renewal_due.ensures.calls c.is_renewal_due.ensures.journal restorable
    (subst (λ (v : JournalView). v.fencing.reached < 2 ^ 32) c.self.view_is fits)
    (is ∙ ap (λ (v : JournalView). renewal_text c.args.setup.now.head (checkpoint_text w) v.fencing.reached) c.self.view_is)
    c.append_lacking.ensures.value c.renew.ensures.value
