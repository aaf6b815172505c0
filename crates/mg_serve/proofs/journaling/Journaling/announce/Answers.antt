use Rattle.std.proofs.Common.{◌∙◌, ap, sym}
use Rattle.mg_ports.specs.Journaled.{ports_seen}
use Rattle.mg_serve.specs.aids.Outside.{JournalView}
use Rattle.mg_serve.proofs.Appending.{announces, oversized_unannounced}
use Rattle.mg_serve.proofs.journaling.Journaling.announce.Goals as goal

pub returns-then-is_oversized-clause-value : goal.returns-then-is_oversized-clause-value
returns-then-is_oversized-clause-value g c =
    oversized_unannounced c.args.source c.args.bytes.now
    (ports_seen (g.P.Ports.calls c.args.ports.now) (g.P.Ports.journal c.args.ports.now)) c.args.self.now
    (sym c.if-is_oversized.ensures.value)

pub returns-clause-value : goal.returns-clause-value
returns-clause-value g c =
    let lines = c.as_slice.ensures.value ∙ c.control.ensures.value in
    announces c.append.result c.in-Some.durability c.args.source c.args.bytes.now
    (ports_seen (g.P.Ports.calls c.args.ports.now) (g.P.Ports.journal c.args.ports.now))
    (ports_seen (g.P.Ports.calls c.append_lacking.new.ports) (g.P.Ports.journal c.append_lacking.new.ports))
    (ports_seen (g.P.Ports.calls c.append.new.ports) (g.P.Ports.journal c.append.new.ports))
    c.args.self.now c.append_lacking.new.self
    (record { durability = c.self-2.inside.durability; lacking = c.self-2.inside.lacking; untried = 0; fencing = c.self-2.inside.fencing })
    c.in_default-append_lacking.ensures.value
    (ap (λ (v : JournalView). v.durability) (sym c.self.view_is) ∙ c.in-Some.is)
    c.in_default-append_lacking.ensures.none
    (ap (λ (v : JournalView). record v { untried = 0 }) c.self-2.view_is) c.requires.datagram (sym c.if-is_oversized.ensures.value)
    (rw lines at c.append.ensures.logged) (rw lines at c.append.ensures.journal)
