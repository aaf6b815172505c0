use Rattle.mg_engine.proofs.Common.{◌≡◌, ◌<◌, ◌+◌, ℕ, List, ◌++◌, length, get_or, map, take, refl, sym, ap, subst, ◌∙◌, arith, option_to_list, sum_by, option_map, get_or-map, Record, holder_of, Datagram, EngineState, sent_to, RisesAtMost, packet_now, sending_work_now, with_mixes, Registry, sum_by_more}
use Rattle.mg_engine.proofs.SendingLemmas.{nobody, one_more}
use Rattle.mg_engine.proofs.ShareLemmas.{none_shared}
use Rattle.mg_engine.proofs.WorkLemmas.{rises_twice, stays}
use Rattle.mg_engine.proofs.engine.fill.Goals as goal

pub held_at-slot-requires : goal.held_at-slot-requires
held_at-slot-requires c =
    let many = ap (λ (x : EngineState). length x.rooms.terminations) c.loop-i.invariant.same in
    record { there = omega (arith, c.loop-i-test.true, c.requires.all, many) }

pub loop-i-init : goal.loop-i-init
loop-i-init c = record {
  same = refl;
  items = c.requires.nothing;
  few = omega (arith, ap (λ (xs : List Datagram). length xs) c.requires.nothing);
  shared = none_shared c.args.engine.now c.args.outbox.now.items c.requires.unshared;
  work = stays 0 c.args.engine.now.sums.work c.args.engine.now.sums.work refl;
}

pub loop-i-preserved : goal.loop-i-preserved
loop-i-preserved c =
    let k = c.args.engine.now in
    let rs = k.rooms.terminations in
    let i = c.loop-i.i in
    let now = c.loop-i.engine in
    let after = c.put_packet.new.self in
    let f = λ (r : Record). option_map (packet_now k r) (sent_to r) in
    let within : i < length rs = omega (arith, c.loop-i-test.true, c.requires.all) in
    let r = get_or rs i nobody in
    let same = c.loop-i.invariant.same in
    let there : now.rooms ≡ k.rooms = ap (λ (x : EngineState). x.rooms) same in
    let slot = c.held_at-slot.ensures.value ∙
    ap (λ (x : Registry). get_or (map (λ r. r.slot) x.terminations) i 0) there ∙
    get_or-map (λ r. r.slot) rs i nobody 0 within in
    let holder = ap (λ (x : Registry). holder_of x c.held_at-slot.result) there ∙ ap (holder_of k.rooms) slot ∙
    c.requires.sound.by_slot i nobody within in
    let put = subst (λ (m : ℕ). RisesAtMost m now.sums.work after.sums.work)
    (ap (λ (x : EngineState). sending_work_now x r) same) (c.put_packet.ensures.work r holder) in
    record {
      same = c.put_packet.ensures.same ∙ ap (λ (x : EngineState). with_mixes x after.sums.work after.shares) same;
      items = c.put_packet.ensures.put r holder ∙ ap (λ (x : EngineState). c.loop-i.outbox.items ++
          option_to_list (option_map (packet_now x r) (sent_to r))) same
          ∙ ap (λ (xs : List Datagram). xs ++ option_to_list (f r)) c.loop-i.invariant.items
          ∙ sym (one_more f rs i nobody within);
      few = omega (arith, c.put_packet.ensures.few, c.loop-i.invariant.few);
      shared = c.put_packet.ensures.shared;
      work = rises_twice (sum_by (sending_work_now k) (take i rs)) (sending_work_now k r)
          (sum_by (sending_work_now k) (take (i + 1) rs)) k.sums.work now.sums.work after.sums.work
          (omega (arith, sum_by_more (sending_work_now k) rs i nobody within)) c.loop-i.invariant.work put;
    }
