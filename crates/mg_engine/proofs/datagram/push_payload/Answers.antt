use Rattle.mg_engine.proofs.Common.{◌≡◌, ◌-◌, ◌∷◌, [], List, length, length-append, get_or, ap, ◌∙◌, arith, refill, Datagram, set}
use Rattle.mg_engine.proofs.OutboxLemmas.{refilled, last_set}
use Rattle.mg_engine.proofs.datagram.push_payload.Goals as goal

-- A default packet for lookups past the end of a list.
abbrev none : Datagram
none = record { from = 0; to = record { address = []; port = 0 }; bytes = [] }

pub returns : goal.returns
returns c =
    let old = c.args.outbox.now.items in
    let items = c.push.new.self.items in
    let i = c.len-last.result - 1 in
    let was = get_or c.deref_mut.result.now i none in
    let sent : Datagram = record { from = was.from; to = was.to; bytes = c.write_payload.new.bytes } in
    let now = ap (λ (xs : List Datagram). length xs) c.push.ensures.items in
    let at : i ≡ length old = omega (arith, c.len-last.ensures.value, now, length-append old (c.default.result ∷ [])) in
    record {
      put = record {
        last = sent;
        all = ap (λ (xs : List Datagram). refill (length items) items (set xs i sent)) c.deref_mut.ensures.value
            ∙ refilled items i sent ∙ last_set old c.default.result sent items i c.push.ensures.items at;
        same = c.write_payload.ensures.payload ∙ c.encode_frame.ensures;
      };
    }
