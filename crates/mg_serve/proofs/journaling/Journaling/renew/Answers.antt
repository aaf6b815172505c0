use Rattle.std.proofs.Common.{refl, ap, ◌∙◌}
use Rattle.mg_ports.specs.Journaled.{ports_seen}
use Rattle.mg_serve.specs.aids.Outside.{JournalView}
use Rattle.mg_serve.proofs.Renewing.{renewal_failed, renewal_worked}
use Rattle.mg_serve.proofs.journaling.Journaling.renew.Goals as goal

pub returns-in-Ok-clause-value : goal.returns-in-Ok-clause-value
returns-in-Ok-clause-value g c =
    let j : JournalView = record { durability = c.self.inside.durability; lacking = c.self.inside.lacking; untried = c.self.inside.untried; fencing = c.self.inside.fencing } in
    let has = ap (λ (v : JournalView). v.durability) c.self.view_is ∙ c.requires.journal in
    let tried = ap (λ (v : JournalView). v.untried) c.self.view_is ∙ c.requires.tried in
    rw (← c.self.view_is) (renewal_worked c.args.text.now.items c.args.durability
    (ports_seen (g.P.Ports.calls c.args.ports.now) (g.P.Ports.journal c.args.ports.now))
    (ports_seen (g.P.Ports.calls c.renew.new.self) (g.P.Ports.journal c.renew.new.self))
    j (record j { lacking = 0 }) has tried refl c.in-Ok.ensures.logged c.in-Ok.ensures.journal)

pub returns-in-Err-clause-value : goal.returns-in-Err-clause-value
returns-in-Err-clause-value g c =
    let j : JournalView = record { durability = c.self.inside.durability; lacking = c.self.inside.lacking; untried = c.self.inside.untried; fencing = c.self.inside.fencing } in
    let has = ap (λ (v : JournalView). v.durability) c.self.view_is ∙ c.requires.journal in
    let tried = ap (λ (v : JournalView). v.untried) c.self.view_is ∙ c.requires.tried in
    rw (← c.self.view_is) (renewal_failed c.in-Err.field-0 c.args.text.now.items c.args.durability
    (ports_seen (g.P.Ports.calls c.args.ports.now) (g.P.Ports.journal c.args.ports.now))
    (ports_seen (g.P.Ports.calls c.renew.new.self) (g.P.Ports.journal c.renew.new.self))
    j has tried c.in-Err.ensures.logged c.in-Err.ensures.journal)
