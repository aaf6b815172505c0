use Rattle.std.proofs.Common.{◌+◌, sym, ap}
use Rattle.mg_ports.specs.Journaled.{ports_seen}
use Rattle.mg_serve.specs.aids.Outside.{JournalView}
use Rattle.mg_serve.proofs.Appending.{counted, tick_alone, tick_counted, tick_then_append, without_journal}
use Rattle.mg_serve.proofs.journaling.Journaling.end_tick.Goals as goal

pub returns-then-is_none-clause-value : goal.returns-then-is_none-clause-value
returns-then-is_none-clause-value g c =
    let j : JournalView = record { durability = c.self.inside.durability; lacking = c.self.inside.lacking; untried = c.self.inside.untried; fencing = c.self.inside.fencing } in
    rw (← c.self.view_is) (tick_alone
    (ports_seen (g.P.Ports.calls c.args.ports.now) (g.P.Ports.journal c.args.ports.now))
    j j c.self.invariant.1 (without_journal j c.if-is_none.ensures))

pub returns-then-self-lt-TOGETHER-clause-value : goal.returns-then-self-lt-TOGETHER-clause-value
returns-then-self-lt-TOGETHER-clause-value g c =
    let j : JournalView = record { durability = c.self.inside.durability; lacking = c.self.inside.lacking; untried = c.self.inside.untried; fencing = c.self.inside.fencing } in
    rw (← c.self.view_is) (tick_alone
    (ports_seen (g.P.Ports.calls c.args.ports.now) (g.P.Ports.journal c.args.ports.now))
    j (record j { lacking = c.self.inside.lacking + 1; untried = c.self.inside.untried + 1 }) c.self.invariant.1
    (tick_counted j c.if-is_none.ensures))

pub returns-clause-value : goal.returns-clause-value
returns-clause-value g c =
    let j : JournalView = record { durability = c.self.inside.durability; lacking = c.self.inside.lacking; untried = c.self.inside.untried; fencing = c.self.inside.fencing } in
    rw (← c.self.view_is) (tick_then_append c.append_ticks.result
    (ports_seen (g.P.Ports.calls c.args.ports.now) (g.P.Ports.journal c.args.ports.now))
    (ports_seen (g.P.Ports.calls c.append_ticks.new.ports) (g.P.Ports.journal c.append_ticks.new.ports))
    j (record j { lacking = c.self.inside.lacking + 1 })
    c.append_ticks.new.self c.self.invariant.1
    (ap (λ n. record j { lacking = n })
    (sym (counted c.self.inside.durability c.self.inside.lacking c.if-is_none.ensures)))
    c.append_ticks.ensures.value)
