use Rattle.mg_engine.proofs.Common.{◌≡◌, ℕ, ◌-◌, ◌++◌, ◌∷◌, [], List, length, length-append, get_or, ap, ◌∙◌, arith, refill, Datagram, get_or-append_seam, addressed, set}
use Rattle.mg_engine.proofs.OutboxLemmas.{refilled, last_set}
use Rattle.mg_engine.proofs.datagram.address_last.Goals as goal

-- A default packet for lookups past the end of a list.
abbrev none : Datagram
none = record { from = 0; to = record { address = []; port = 0 }; bytes = [] }

pub returns : goal.returns
returns c = record {
  value = λ before last was.
      let items = c.args.outbox.now.items in
      let i = c.len-last.result - 1 in
      let now = ap (λ (xs : List Datagram). length xs) was in
      let at : i ≡ length before = omega (arith, c.len-last.ensures.value, now, length-append before (last ∷ [])) in
      let there = ap (λ (xs : List Datagram). get_or xs i none) (c.deref_mut.ensures.value ∙ was) ∙
      ap (λ (n : ℕ). get_or (before ++ last ∷ []) n none) at ∙ get_or-append_seam before last [] none in
      let now = c.address.ensures.value ∙ ap (addressed c.args.from c.args.to c.args.header) there in
      ap (λ (xs : List Datagram). refill (length items) items (set xs i c.address.new.self)) c.deref_mut.ensures.value
      ∙ refilled items i c.address.new.self ∙ last_set before last c.address.new.self items i was at
      ∙ ap (λ (d : Datagram). before ++ d ∷ []) now;
}
