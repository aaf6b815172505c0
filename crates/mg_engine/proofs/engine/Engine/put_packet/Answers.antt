use Rattle.mg_engine.proofs.Common.{◌≡◌, ℕ, List, [], ◌∷◌, ◌++◌, cond, map, length, length-append, Option, sym, ap, subst, ◌∙◌, arith, option_to_list, is_some, option_map, byte_of, Chosen, Record, holder_of, Datagram, EngineState, sent_to, RisesAtMost, mixed_now, packet_now, sending_work_now, AreShared, mix_work_now}
use Rattle.mg_engine.proofs.SendingLemmas.{found_is}
use Rattle.mg_engine.proofs.engine.Engine.put_packet.Goals as goal

pub address-requires-clause-last : goal.address-requires-clause-last
address-requires-clause-last c =
    let put = c.put_payload.ensures.put in
    omega (arith, ap (λ (xs : List Datagram). length xs) put.all, length-append c.args.outbox.now.items (put.last ∷ []))

pub returns-clause-put : goal.returns-clause-put
returns-clause-put c r holds =
    let old = c.args.outbox.now.items in
    let k = c.args.self.now in
    let sender = c.in-Some.sender in
    let to = c.in-Some-sent_to.to in
    let put = c.put_payload.ensures.put in
    let same : sender ≡ r = found_is sender r (sym c.in-Some.is ∙ c.held.ensures.value ∙
    ap (λ (x : EngineState). holder_of x.rooms c.args.slot) c.self.view_is ∙ holds) in
    let goes = sym c.in-Some-sent_to.is ∙ c.sent_to.ensures.value ∙ ap sent_to same in
    let body = put.same ∙ ap (λ (x : EngineState). map (byte_of to.law) (mixed_now x sender))
    (sym c.put_payload.ensures.same) in
    c.address.ensures.put old put.last put.all body
    ∙ ap (λ (d : Datagram). old ++ d ∷ []) (ap (λ (x : EngineState). packet_now x sender to)
    c.put_payload.ensures.same ∙ ap (λ (x : Record). packet_now k x to) same)
    ∙ ap (λ (o : Option Chosen). old ++ option_to_list (option_map (packet_now k r) o)) goes

pub returns-clause-few : goal.returns-clause-few
returns-clause-few c =
    let old = c.args.outbox.now.items in
    let to = c.in-Some-sent_to.to in
    let sender = c.in-Some.sender in
    let put = c.put_payload.ensures.put in
    let body = put.same ∙ ap (λ (x : EngineState). map (byte_of to.law) (mixed_now x sender))
    (sym c.put_payload.ensures.same) in
    let all = ap (λ (xs : List Datagram). length xs) (c.address.ensures.put old put.last put.all body) in
    omega (arith, all, length-append old (packet_now c.put_payload.new.self sender to ∷ []))

pub returns-clause-shared : goal.returns-clause-shared
returns-clause-shared c =
    let to = c.in-Some-sent_to.to in
    let sender = c.in-Some.sender in
    let put = c.put_payload.ensures.put in
    let after = c.put_payload.new.self in
    let same = ap (λ (x : EngineState). map (byte_of to.law) (mixed_now x sender)) c.put_payload.ensures.same in
    subst (λ (xs : List Datagram). AreShared after xs)
    (sym (c.address.ensures.put c.args.outbox.now.items put.last put.all (put.same ∙ sym same)))
    (c.put_payload.ensures.shared (packet_now after sender to) (c.address.ensures.payload ∙ same))

pub returns-clause-work : goal.returns-clause-work
returns-clause-work c r holds =
    let k = c.args.self.now in
    let sender = c.in-Some.sender in
    let same : sender ≡ r = found_is sender r (sym c.in-Some.is ∙ c.held.ensures.value ∙
    ap (λ (x : EngineState). holder_of x.rooms c.args.slot) c.self.view_is ∙ holds) in
    let goes = sym c.sent_to.ensures.value ∙ c.in-Some-sent_to.is in
    let most = ap (λ (x : Record). sending_work_now k x) (sym same) ∙
    ap (λ (o : Option Chosen). cond (is_some o) (mix_work_now k sender) 0) goes in
    subst (λ (m : ℕ). RisesAtMost m k.sums.work c.put_payload.new.self.sums.work) (sym most) c.put_payload.ensures.work
