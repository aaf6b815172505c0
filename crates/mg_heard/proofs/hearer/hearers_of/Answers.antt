use Rattle.std.proofs.Common.{◌≡◌, ◌<◌, ◌≤◌, All, Some, length, map, sym, ap, subst, ◌∙◌, arith}
use Rattle.std.proofs.lemmas.List.{length-map, take_all}
use Rattle.std.proofs.lemmas.List.Elements.{All-push}
use Rattle.std.proofs.lemmas.Option.{get_or_from_slice_get}
use Rattle.mg_words.specs.Limits.{termination_limit}
use Rattle.mg_rooms.specs.Registry.{Registry, record_at}
use Rattle.mg_rooms.specs.declared.record.Record.{Record}
use Rattle.mg_rooms.proofs.SoundLemmas.{sound_if}
use Rattle.mg_heard.specs.aids.Hearers.{HearsTalkers, seated_of}
use Rattle.mg_heard.proofs.HearerLemmas.{hearer_more, hearers_few, hearers_rising, seats_next}
use Rattle.mg_heard.proofs.hearer.hearers_of.Goals as goal

pub of-requires : goal.of-requires
of-requires c =
    let rooms = c.args.core.now.state.engine.rooms in
    let rs = rooms.terminations in
    let i = c.loop-place.place in
    let r = c.termination-termination.result in
    let there : i < length rs = omega (arith, c.loop-place-test.true, c.terminations-place-end.ensures.value) in
    record {
      there = subst (λ (x : Record). record_at rooms x.number ≡ Some x)
          (get_or_from_slice_get rs i r r c.termination-termination.ensures.value)
          ((sound_if rooms c.terminations-place-end.ensures.consistent).by_number i r there);
    }

pub loop-place-preserved : goal.loop-place-preserved
loop-place-preserved c =
    let rs = c.args.core.now.state.engine.rooms.terminations in
    let i = c.loop-place.place in
    let r = c.termination-termination.result in
    let hs = c.loop-place.hearers.items in
    let h = c.of.result in
    let there : i < length rs = omega (arith, c.loop-place-test.true, c.terminations-place-end.ensures.value) in
    let few : length rs ≤ termination_limit =
    omega (arith, c.terminations-place-end.ensures.value, c.terminations-place-end.ensures.few) in
    let is = get_or_from_slice_get rs i r r c.termination-termination.ensures.value in
    let put = hearer_more rs i r h hs c.try_push.new.self.items c.try_push.result there few is
    c.loop-place.invariant.seated c.try_push.ensures.ok c.try_push.ensures.full in
    record {
      seated = seats_next rs i r h hs c.try_push.new.self.items there is c.of.ensures.seated
          c.loop-place.invariant.seated put;
      talkers = λ w stands. subst (All (HearsTalkers w.gateway)) (sym put) (All-push (HearsTalkers w.gateway) hs h
          (c.loop-place.invariant.talkers w stands) (c.of.ensures.talkers w stands));
    }

pub returns : goal.returns
returns c =
    let rooms = c.args.core.now.state.engine.rooms in
    let rs = rooms.terminations in
    let hs = c.loop-place.hearers.items in
    let count = c.terminations-place-end.ensures in
    let seated = c.loop-place.invariant.seated
    ∙ ap (map seated_of) (take_all c.loop-place.place rs (omega (arith, c.loop-place-test.false, count.value))) in
    record {
      many = omega (
        arith,
        length-map hs (λ h. h.seated),
        ap length seated,
        length-map rs seated_of,
        count.value,
        count.few,
      );
      few = hearers_few rooms hs (sound_if rooms count.consistent) seated;
      rising = hearers_rising rooms hs count.consistent seated;
      consistent = count.consistent;
      value = λ w stands. record {
        seated = seated ∙ ap (λ (x : Registry). map seated_of x.terminations) (sym stands.gateway.rooms);
        talkers = c.loop-place.invariant.talkers w stands;
      };
    }
