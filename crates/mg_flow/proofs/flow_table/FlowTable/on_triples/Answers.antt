use Rattle.std.proofs.Common.{◌<◌, length, arith}
use Rattle.std.proofs.lemmas.Result.{on_ok_weaker}
use Rattle.mg_flow.specs.aids.Edits.{apply_in_room}
use Rattle.mg_flow.proofs.HearsLemmas.{triples_hear}
use Rattle.mg_flow.proofs.TableLemmas.{triples_stand, IsFlowTable-tried}
use Rattle.mg_flow.proofs.flow_table.FlowTable.on_triples.Goals as goal

pub returns-clause-ok : goal.returns-clause-ok
returns-clause-ok c =
    let within : c.from.result < length c.self.inside.rooms.items = omega (arith, c.self.invariant.rooms) in
    let stand = triples_stand c.self.inside.rooms.items c.args.room c.from.result c.args.triples.now
    c.index_mut-spoken_of.result.now c.apply.new.self in
    rw (← c.self.view_is)
    (on_ok_weaker c.apply.result
    (λ edits. stand c.from.ensures within c.index_mut-spoken_of.ensures.value edits c.apply.ensures.talks
    c.apply.ensures.listens)
    c.apply.ensures.ok)

pub returns-clause-hears : goal.returns-clause-hears
returns-clause-hears c =
    on_ok_weaker c.apply.result
    (triples_hear c.args.self.now _ c.args.room c.args.triples.now (rw (← c.self.view_is) c.self.invariant.edits))
    (returns-clause-ok c)

pub invariant_of-self : goal.invariant_of-self
invariant_of-self c =
    let within : c.from.result < length c.self.inside.rooms.items = omega (arith, c.self.invariant.rooms) in
    let stand = triples_stand c.self.inside.rooms.items c.args.room c.from.result c.args.triples.now
    c.index_mut-spoken_of.result.now c.apply.new.self in
    IsFlowTable-tried c.apply.result _ _ _ _ (apply_in_room c.args.room c.args.triples.now) within
    c.index_mut-spoken_of.ensures.value
    (on_ok_weaker c.apply.result
    (λ edits. stand c.from.ensures within c.index_mut-spoken_of.ensures.value edits c.apply.ensures.talks
    c.apply.ensures.listens)
    c.apply.ensures.ok)
    c.apply.ensures.err c.self.invariant
