use Rattle.mg_engine.proofs.Common.{map, ℕ, ◌+◌, ◌%◌, ◌^◌, ◌<◌, ◌++◌, ◌∷◌, [], length, List, get_or, refl, sym, ap, ◌∙◌, arith, header_bytes, plain, view, Datagram, get_or_default, byte_of, Limits, slot_port, record_at, idle, mixed_now, packet_now, EngineState, SlotMedia, payload_of, header}
use Rattle.mg_engine.proofs.SendingLemmas.{packet_is}
use Rattle.mg_engine.proofs.engine.Engine.address.Goals as goal

pub returns-clause-put : goal.returns-clause-put
returns-clause-put c before last was body =
    let k = view c.self.inside in
    let r = c.args.sender.now in
    let to = c.args.to in
    let slots = ap (λ (l : Limits). l.slots) c.self.invariant.limits in
    let found = ap (λ (x : EngineState). record_at x.rooms r.number) c.self.view_is ∙ c.requires.member in
    let (number, is) = c.self.invariant.sound.termination r.number r found in
    let within : r.slot < length k.media = omega (arith, is.slot, slots, c.self.invariant.media) in
    let place = c.index-media-from.is
    ∙ ap (λ (n : ℕ). get_or c.as_slice-media.result.now n c.index-media-from.result) c.from.ensures
    ∙ ap (λ (ms : List SlotMedia). get_or ms r.slot c.index-media-from.result) c.as_slice-media.ensures.value
    ∙ get_or_default k.media r.slot c.index-media-from.result idle within in
    let port = c.slot_port-from.ensures.value ∙
    ap (λ (l : Limits). slot_port l r.slot) (c.limits.ensures.value ∙ sym c.self.invariant.limits) in
    let payload = body ∙ ap (λ (x : EngineState). map (byte_of to.law) (mixed_now x r)) (sym c.self.view_is) in
    let head = c.header-header.ensures.value ∙
    ap (λ (t : ℕ). header c.index-media-from.result t ((k.config.ssrc + r.number) % 2 ^ 32))
    c.payload_type.ensures.value in
    let made = packet_is k r to c.slot_port-from.result (header_bytes plain c.header-header.result ++ payload_of last)
    (payload_of last) c.header-header.result c.index-media-from.result port refl payload head place in
    c.address_last.ensures.value before last was
    ∙ ap (λ (d : Datagram). before ++ d ∷ []) (made ∙ ap (λ (x : EngineState). packet_now x r to) c.self.view_is)

pub returns-clause-payload : goal.returns-clause-payload
returns-clause-payload c = refl

pub slot_port-from-requires-clause-slot : goal.slot_port-from-requires-clause-slot
slot_port-from-requires-clause-slot c =
    let r = c.args.sender.now in
    let found = ap (λ (x : EngineState). record_at x.rooms r.number) c.self.view_is ∙ c.requires.member in
    let (number, is) = c.self.invariant.sound.termination r.number r found in
    let old = ap (λ (l : Limits). l.slots) c.self.invariant.limits in
    omega (arith, is.slot, old, ap (λ (l : Limits). l.slots) c.limits.ensures.value)
