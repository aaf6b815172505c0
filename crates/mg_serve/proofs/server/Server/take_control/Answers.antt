use Rattle.std.proofs.Common.{true, false, [], ◌∷◌, ◌∙◌, ap, refl, sym}
use Rattle.mg_serve.specs.declared.fencing.Fencing.{Fencing}
use Rattle.mg_fence.specs.Fence.{passes}
use Rattle.mg_serve.specs.Fenced.{after_message}
use Rattle.mg_ports.specs.declared.call.Call.TheVariants.{Send}
use Rattle.mg_ports.specs.Journaled.{ports_seen}
use Rattle.mg_serve.specs.aids.Outside.{outside}
use Rattle.mg_serve.proofs.Taking.{tells_called, tells_none}
use Rattle.mg_serve.proofs.Steps.{control_answered, control_refused, control_stale, control_unread}
use Rattle.mg_serve.proofs.server.Server.take_control.Goals as goal

pub returns-in_default-clause-value : goal.returns-in_default-clause-value
returns-in_default-clause-value g c =
    control_unread c.args.setup.now c.args.source c.args.bytes.now c.args.self.now.core.state
    (ports_seen (g.P.Ports.calls c.args.ports.now) (g.P.Ports.journal c.args.ports.now))
    (g.W.Write.contents c.args.writer.now) (g.W.Write.contents c.note.new.writer) c.args.self.now.printer
    c.note.new.self c.args.self.now.journal c.note.ensures.value

pub returns-then-not-passes-clause-value : goal.returns-then-not-passes-clause-value
returns-then-not-passes-clause-value g c =
    control_stale c.args.setup.now c.args.source c.args.bytes.now c.number_in-number.result c.args.self.now.core.state
    (ports_seen (g.P.Ports.calls c.args.ports.now) (g.P.Ports.journal c.args.ports.now))
    (g.W.Write.contents c.args.writer.now) c.args.self.now.printer c.args.self.now.journal
    (c.in-Ok.parsed, c.in-Ok.ensures.reading, c.number_in-number.ensures.value)
    (ap (λ (f : Fencing). passes f.fence c.args.bytes.now c.number_in-number.result) (sym c.fencing.ensures.value) ∙ (sym c.passes.ensures.value ∙ c.if-not-passes.true))

pub returns-in_default-announce-clause-value : goal.returns-in_default-announce-clause-value
returns-in_default-announce-clause-value g c =
    control_refused c.args.setup.now c.args.source c.args.bytes.now c.in_default-announce.field-0
    c.args.self.now.core.state
    (ports_seen (g.P.Ports.calls c.args.ports.now) (g.P.Ports.journal c.args.ports.now))
    (ports_seen (g.P.Ports.calls c.announce.new.ports) (g.P.Ports.journal c.announce.new.ports))
    (g.W.Write.contents c.args.writer.now) (g.W.Write.contents c.note-in_default-announce.new.writer)
    c.args.self.now.printer c.note-in_default-announce.new.self c.args.self.now.journal c.announce.new.self
    c.in_default-announce.ensures.value c.note-in_default-announce.ensures.value

pub returns-in-Send-clause-value : goal.returns-in-Send-clause-value
returns-in-Send-clause-value g c =
    let later = ports_seen (g.P.Ports.calls c.announce.new.ports) (g.P.Ports.journal c.announce.new.ports) in
    let last = ports_seen (g.P.Ports.calls c.send.new.ports) (g.P.Ports.journal c.send.new.ports) in
    let written = g.W.Write.contents c.control.new.writer in
    let number = c.number_in-number.result in
    let fencing = after_message number c.args.self.now.journal.fencing in
    control_answered c.args.setup.now c.args.source c.args.bytes.now _ c.args.self.now.core.state c.run-answer.new.self.state
    (ports_seen (g.P.Ports.calls c.args.ports.now) (g.P.Ports.journal c.args.ports.now)) later
    (g.W.Write.contents c.args.writer.now) written c.args.self.now.printer c.control.new.self c.args.self.now.journal
    c.announce.new.self c.pass.new.self fencing (outside last written c.control.new.self c.pass.new.self)
    c.in-Ok-announce.ensures.value
    (c.pass.ensures.value ∙ ap (λ (f : Fencing).
    record c.announce.new.self { fencing = after_message number f }) c.in-Ok-announce.ensures.value.fencing) (
      number,
      (c.in-Ok.parsed, c.in-Ok.ensures.reading, c.number_in-number.ensures.value),
      ap (λ (f : Fencing). passes f.fence c.args.bytes.now c.number_in-number.result) (sym c.fencing.ensures.value) ∙ (sym c.passes.ensures.value ∙ c.if-not-passes.false),
      refl,
    )
    (rw c.in-Send.is at c.run-answer.ensures.answered) c.control.ensures.value
    (tells_called written c.control.new.self c.pass.new.self later last (Send 0 c.args.source c.run-answer.new.self.answer ∷ [])
    (rw c.answer.ensures.value at c.send.ensures.logged) refl c.send.ensures.journal)

pub returns-clause-value : goal.returns-clause-value
returns-clause-value g c =
    let later = ports_seen (g.P.Ports.calls c.announce.new.ports) (g.P.Ports.journal c.announce.new.ports) in
    let written = g.W.Write.contents c.control.new.writer in
    let number = c.number_in-number.result in
    let fencing = after_message number c.args.self.now.journal.fencing in
    let z = outside later written c.control.new.self c.pass.new.self in
    control_answered c.args.setup.now c.args.source c.args.bytes.now [] c.args.self.now.core.state c.run-answer.new.self.state
    (ports_seen (g.P.Ports.calls c.args.ports.now) (g.P.Ports.journal c.args.ports.now)) later
    (g.W.Write.contents c.args.writer.now) written c.args.self.now.printer c.control.new.self c.args.self.now.journal
    c.announce.new.self c.pass.new.self fencing z c.in-Ok-announce.ensures.value
    (c.pass.ensures.value ∙ ap (λ (f : Fencing).
    record c.announce.new.self { fencing = after_message number f }) c.in-Ok-announce.ensures.value.fencing) (
      number,
      (c.in-Ok.parsed, c.in-Ok.ensures.reading, c.number_in-number.ensures.value),
      ap (λ (f : Fencing). passes f.fence c.args.bytes.now c.number_in-number.result) (sym c.fencing.ensures.value) ∙ (sym c.passes.ensures.value ∙ c.if-not-passes.false),
      refl,
    )
    (rw c.in-Silent.is at c.run-answer.ensures.answered) c.control.ensures.value (tells_none z)
