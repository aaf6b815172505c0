use Rattle.std.proofs.Common.{◌≡◌, ◌<◌, ◌≤◌, ◌∙◌, ℕ, Bool, Some, length, map, filter, sym, subst, arith}
use Rattle.std.proofs.lemmas.Bool.{ne_eqb}
use Rattle.std.proofs.lemmas.Option.{get_or_from_slice_get}
use Rattle.mg_words.specs.Limits.{member_limit}
use Rattle.mg_rooms.specs.declared.record.Record.{Record}
use Rattle.mg_rooms.specs.Registry.{Registry, record_at}
use Rattle.mg_rooms.specs.aids.Sound.{IsSound}
use Rattle.mg_engine.specs.Flow.{flow}
use Rattle.mg_rooms.proofs.SoundLemmas.{sound_if}
use Rattle.mg_core.proofs.ListenerLemmas.{elsewhere, is_taken, not_taken, talkers_few}
use Rattle.mg_core.proofs.listener.talkers_of.Goals as goal

pub loop-place-preserved-then-talker-listener : goal.loop-place-preserved-then-talker-listener
loop-place-preserved-then-talker-listener c w stands =
    let rooms = c.args.core.now.state.engine.rooms in
    let rs = rooms.terminations in
    let i = c.loop-place.place in
    let r = c.termination-talker.result in
    let l = c.args.listener.now in
    let there : i < length rs = omega (arith, c.loop-place-test.true, c.terminations-place-end.ensures.value) in
    let is = get_or_from_slice_get rs i r r c.termination-talker.ensures.value in
    let same = sym stands.gateway.rooms in
    let found : record_at rooms r.number ≡ Some r = subst (λ (x : Record). record_at rooms x.number ≡ Some x) is
    ((sound_if rooms c.terminations-place-end.ensures.consistent).by_number i r there) in
    not_taken (λ n. flow w.gateway n l.number) rs i r c.loop-place.talkers.items there is
    (elsewhere w.gateway r l (subst (λ (x : Registry). record_at x r.number ≡ Some r) same found)
    (subst (λ (x : Registry). record_at x l.number ≡ Some l) same c.requires.there)
    (ne_eqb r.context l.context c.if-talker-listener.true))
    (c.loop-place.invariant w stands)

pub loop-place-preserved-then-not-flow : goal.loop-place-preserved-then-not-flow
loop-place-preserved-then-not-flow c w stands =
    let rs = c.args.core.now.state.engine.rooms.terminations in
    let i = c.loop-place.place in
    let r = c.termination-talker.result in
    let there : i < length rs = omega (arith, c.loop-place-test.true, c.terminations-place-end.ensures.value) in
    not_taken (λ n. flow w.gateway n c.args.listener.now.number) rs i r c.loop-place.talkers.items there
    (get_or_from_slice_get rs i r r c.termination-talker.ensures.value)
    (sym (c.flow.ensures.value w stands) ∙ c.if-not-flow.true) (c.loop-place.invariant w stands)

pub loop-place-preserved : goal.loop-place-preserved
loop-place-preserved c w stands =
    let rooms = c.args.core.now.state.engine.rooms in
    let rs = rooms.terminations in
    let i = c.loop-place.place in
    let r = c.termination-talker.result in
    let p : ℕ → Bool = λ n. flow w.gateway n c.args.listener.now.number in
    let there : i < length rs = omega (arith, c.loop-place-test.true, c.terminations-place-end.ensures.value) in
    let same = stands.gateway.rooms in
    let few : length (filter p (map (λ r. r.number) rs)) ≤ member_limit =
    subst (λ (x : Registry). length (filter p (map (λ r. r.number) x.terminations)) ≤ member_limit) same
    (talkers_few w.gateway c.args.listener.now.number (subst IsSound (sym same) (sound_if _ c.terminations-place-end.ensures.consistent))) in
    is_taken p rs i r c.loop-place.talkers.items c.try_push.new.self.items c.try_push.result there
    (get_or_from_slice_get rs i r r c.termination-talker.ensures.value)
    (sym (c.flow.ensures.value w stands) ∙ c.if-not-flow.false) few (c.loop-place.invariant w stands)
    c.try_push.ensures.ok c.try_push.ensures.full
