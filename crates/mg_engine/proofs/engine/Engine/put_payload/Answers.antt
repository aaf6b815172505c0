use Rattle.mg_engine.proofs.Common.{ℕ, ℤ, Bool, cond, List, [], map, pos, get_or, sym, ap, ◌∙◌, range_with_len, byte_of, record_at, nearest_sample, view, EngineState, sample_at, heard_now, mixed_now}
use Rattle.mg_engine.proofs.PlaceLemmas.{has_place}
use Rattle.mg_engine.proofs.ShareLemmas.{still_shared}
use Rattle.mg_engine.proofs.SumLemmas.{list_is}
use Rattle.mg_engine.proofs.engine.Engine.put_payload.Goals as goal

pub returns-then-is_loopback-clause-put : goal.returns-then-is_loopback-clause-put
returns-then-is_loopback-clause-put c =
    let k = view c.self.inside in
    let l = c.args.sender.now in
    let frame = c.frame.ensures.value ∙ ap (λ (row : ℕ). get_or k.sums.frames row []) c.new.ensures in
    let samples = list_is (sample_at k.sums.frames l.slot) c.frame.result.now 160 (pos 0) c.frame.ensures.frame.whole
    (λ i lt. ap (λ (xs : List ℤ). get_or xs i (pos 0)) frame) in
    let put = c.push_payload.ensures.put in
    let payload = put.same ∙ ap (λ (xs : List ℤ). map (byte_of c.args.law) xs)
    (samples
    ∙ ap (λ (b : Bool). map (λ i. cond b (sample_at k.sums.frames l.slot i) (nearest_sample (heard_now k l i)))
    (range_with_len 0 160)) (sym c.if-is_loopback.true ∙ c.is_loopback.ensures.value)
    ∙ ap (λ (x : EngineState). mixed_now x l) c.self.view_is) in
    record { last = put.last; all = put.all; same = payload }

pub returns-then-is_loopback-clause-shared : goal.returns-then-is_loopback-clause-shared
returns-then-is_loopback-clause-shared c sent e =
    still_shared c.args.self.now c.args.outbox.now.items sent c.requires.shared

pub returns-in-Some-clause-shared : goal.returns-in-Some-clause-shared
returns-in-Some-clause-shared c sent e =
    let k = c.args.self.now in
    let l = c.args.sender.now in
    let quiet = sym c.is_loopback.ensures.value ∙ c.if-is_loopback.false in
    let heard = ap (λ (b : Bool). map (λ i. cond b (sample_at k.sums.frames l.slot i)
    (nearest_sample (heard_now k l i))) (range_with_len 0 160)) quiet in
    c.put_heard.ensures.shared sent (e ∙ ap (λ (xs : List ℤ). map (byte_of c.args.law) xs) heard)

pub returns-in-None-clause-put : goal.returns-in-None-clause-put
returns-in-None-clause-put c =
    let l = c.args.sender.now in
    let found = ap (λ (x : EngineState). record_at x.rooms l.number) c.self.view_is ∙ c.requires.member in
    absurd (has_place c.self.inside.rooms l (c.self.invariant.sound.there l.number l found)
    (sym c.place_of.ensures.value ∙ c.in-None.is))

pub returns-in-None-clause-shared : goal.returns-in-None-clause-shared
returns-in-None-clause-shared c sent e = still_shared c.args.self.now c.args.outbox.now.items sent c.requires.shared
