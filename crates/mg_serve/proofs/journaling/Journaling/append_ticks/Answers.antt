use Rattle.std.proofs.Common.{refl, subst, sym, arith, IsSome, ◌<◌}
use Rattle.mg_ports.specs.Journaled.{ports_seen}
use Rattle.mg_serve.specs.aids.Outside.{JournalView}
use Rattle.mg_serve.proofs.Appending.{ticks_fail, ticks_work}
use Rattle.mg_serve.proofs.journaling.Journaling.append_ticks.Goals as goal

pub returns-in-Err-clause-value : goal.returns-in-Err-clause-value
returns-in-Err-clause-value g c =
    let j : JournalView = record { durability = c.self.inside.durability; lacking = c.self.inside.lacking; untried = c.self.inside.untried; fencing = c.self.inside.fencing } in
    rw (← c.self.view_is) (ticks_fail c.in-Err.fault
    (ports_seen (g.P.Ports.calls c.args.ports.now) (g.P.Ports.journal c.args.ports.now))
    (ports_seen (g.P.Ports.calls c.append_line.new.ports) (g.P.Ports.journal c.append_line.new.ports))
    j (record j { untried = 0 })
    (subst (λ (v : JournalView). IsSome v.durability) (sym c.self.view_is) c.requires.journal)
    (subst (λ (v : JournalView). 0 < v.lacking) (sym c.self.view_is) c.requires.some) (omega arith) refl
    c.in-Err.ensures.logged c.in-Err.ensures.journal)

pub returns-clause-value : goal.returns-clause-value
returns-clause-value g c =
    let j : JournalView = record { durability = c.self.inside.durability; lacking = c.self.inside.lacking; untried = c.self.inside.untried; fencing = c.self.inside.fencing } in
    rw (← c.self.view_is) (ticks_work
    (ports_seen (g.P.Ports.calls c.args.ports.now) (g.P.Ports.journal c.args.ports.now))
    (ports_seen (g.P.Ports.calls c.append_line.new.ports) (g.P.Ports.journal c.append_line.new.ports))
    j (record j { lacking = 0; untried = 0 })
    (subst (λ (v : JournalView). IsSome v.durability) (sym c.self.view_is) c.requires.journal)
    (subst (λ (v : JournalView). 0 < v.lacking) (sym c.self.view_is) c.requires.some) (omega arith) refl
    c.in_default.ensures.logged c.in_default.ensures.journal)
