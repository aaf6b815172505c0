use Rattle.mg_engine.proofs.Common.{ap, ◌∙◌, sym, at_port, EngineState}
use Rattle.mg_engine.proofs.PoolLemmas.{at_slot_of, at_no_slot}
use Rattle.mg_engine.proofs.engine.Engine.at_port.Goals as goal

pub returns-in-Some-clause-value : goal.returns-in-Some-clause-value
returns-in-Some-clause-value c =
    let found = rw (c.limits.ensures.value ∙ sym c.self.invariant.limits) at (sym c.slot_at.ensures.value ∙ c.in-Some.is) in
    c.held.ensures.value ∙ at_slot_of c.self.inside.rooms c.args.port c.in-Some.slot found ∙
    ap (λ (k : EngineState). at_port k.rooms c.args.port) c.self.view_is

pub returns-in-None-clause-value : goal.returns-in-None-clause-value
returns-in-None-clause-value c =
    let none = rw (c.limits.ensures.value ∙ sym c.self.invariant.limits) at (sym c.slot_at.ensures.value ∙ c.in-None.is) in
    sym (at_no_slot c.self.inside.rooms c.args.port c.self.invariant.sound none) ∙
    ap (λ (k : EngineState). at_port k.rooms c.args.port) c.self.view_is
