use Rattle.std.proofs.Common.{◌<◌, ◌≤◌, Bool, Option, eqb, eq-eqb, false, length, sym, ap, ◌∙◌, arith}
use Rattle.std.specs.Option.{option_map_or}
use Rattle.std.proofs.lemmas.Bool.{ne_eqb}
use Rattle.std.proofs.lemmas.Option.{get_or_from_slice_get}
use Rattle.mg_rooms.specs.Limits.{slot_port}
use Rattle.mg_rooms.specs.Registry.{Registry}
use Rattle.mg_rooms.specs.declared.record.Record.{Record}
use Rattle.mg_engine.specs.Arrival.{at_port}
use Rattle.mg_audible.proofs.PortLemmas.{found_here, not_there, not_yet}
use Rattle.mg_audible.proofs.ports.is_port_of.Goals as goal

pub returns-then-own-port : goal.returns-then-own-port
returns-then-own-port c = record {
  value = λ w stands.
      let rooms = c.args.core.now.state.engine.rooms in
      let r = c.termination-termination.result in
      let p : Record → Bool = λ r. eqb (slot_port rooms.limits r.slot) c.args.port in
      let there : c.loop-place.place < length rooms.terminations =
      omega (arith, c.loop-place-test.true, c.terminations-place-end.ensures.value) in
      let found = found_here p rooms.terminations c.loop-place.place r there
      (get_or_from_slice_get rooms.terminations c.loop-place.place r r c.termination-termination.ensures.value)
      (eq-eqb (slot_port rooms.limits r.slot) c.args.port (sym c.port-own.ensures.value ∙ c.if-own-port.true))
      c.loop-place.invariant in
      sym (ap (λ (x : Registry). option_map_or (λ r. eqb r.number c.args.number) (at_port x c.args.port) false)
      stands.gateway.rooms ∙ ap (λ (o : Option Record). option_map_or (λ r. eqb r.number c.args.number) o false) found);
}

pub returns : goal.returns
returns c = record {
  value = λ w stands.
      let rooms = c.args.core.now.state.engine.rooms in
      let p : Record → Bool = λ r. eqb (slot_port rooms.limits r.slot) c.args.port in
      let past : length rooms.terminations ≤ c.loop-place.place =
      omega (arith, c.loop-place-test.false, c.terminations-place-end.ensures.value) in
      let none = not_there p rooms.terminations c.loop-place.place past c.loop-place.invariant in
      sym (ap (λ (x : Registry). option_map_or (λ r. eqb r.number c.args.number) (at_port x c.args.port) false)
      stands.gateway.rooms ∙ ap (λ (o : Option Record). option_map_or (λ r. eqb r.number c.args.number) o false) none);
}

pub loop-place-preserved : goal.loop-place-preserved
loop-place-preserved c =
    let rooms = c.args.core.now.state.engine.rooms in
    let r = c.termination-termination.result in
    let p : Record → Bool = λ r. eqb (slot_port rooms.limits r.slot) c.args.port in
    let there : c.loop-place.place < length rooms.terminations =
    omega (arith, c.loop-place-test.true, c.terminations-place-end.ensures.value) in
    not_yet p rooms.terminations c.loop-place.place r there
    (get_or_from_slice_get rooms.terminations c.loop-place.place r r c.termination-termination.ensures.value)
    (ne_eqb (slot_port rooms.limits r.slot) c.args.port (λ e. c.if-own-port.false (c.port-own.ensures.value ∙ e)))
    c.loop-place.invariant
