use Rattle.std.proofs.Common.{◌≡◌, ◌<◌, ◌∙◌, Some, length, subst, arith}
use Rattle.std.proofs.lemmas.List.{length-set}
use Rattle.std.proofs.lemmas.Option.{get_or_from_slice_get}
use Rattle.mg_rooms.specs.Registry.{record_at}
use Rattle.mg_rooms.specs.declared.record.Record.{Record}
use Rattle.mg_rooms.proofs.SoundLemmas.{sound_if}
use Rattle.mg_core.specs.Flows.{listener_of}
use Rattle.mg_core.proofs.ListenerLemmas.{place_filled}
use Rattle.mg_core.proofs.listeners.fill_places.Goals as goal

pub set-requires-clause-there : goal.set-requires-clause-there
set-requires-clause-there c =
    let rooms = c.args.core.now.state.engine.rooms in
    let rs = rooms.terminations in
    let i = c.loop-place.place in
    let r = c.termination-termination.result in
    let there : i < length rs = omega (arith, c.loop-place-test.true, c.terminations-count.ensures.value) in
    subst (λ (x : Record). record_at rooms x.number ≡ Some x)
    (get_or_from_slice_get rs i r r c.termination-termination.ensures.value)
    ((sound_if rooms c.terminations-count.ensures.consistent).by_number i r there)

pub loop-place-preserved : goal.loop-place-preserved
loop-place-preserved c =
    let rs = c.args.core.now.state.engine.rooms.terminations in
    let places = c.loop-place.places in
    let i = c.loop-place.place in
    let r = c.termination-termination.result in
    let there : i < length rs = omega (arith, c.loop-place-test.true, c.terminations-count.ensures.value) in
    let within : i < length places = omega (
      arith,
      c.loop-place-test.true,
      c.terminations-count.ensures.few,
      c.loop-place.invariant.places,
    ) in
    record {
      places = length-set places i c.set.new.self ∙ c.loop-place.invariant.places;
      front = λ w stands. place_filled (listener_of w.gateway) places rs i r c.set.new.self within there
          (get_or_from_slice_get rs i r r c.termination-termination.ensures.value)
          (c.set.ensures.value w stands) (c.loop-place.invariant.front w stands);
    }
