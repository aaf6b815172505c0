use Rattle.std.proofs.Common.{◌-◌, Bool, length, drop, sym, subst, ◌∙◌, arith}
use Rattle.std.proofs.lemmas.List.{take-append-drop, get_or_read}
use Rattle.mg_rtp.specs.Packet.{IsPadding}
use Rattle.mg_rtp.proofs.Parts.{padding_at}
use Rattle.mg_rtp.proofs.reading.without_padding.Goals as goal

pub returns-clause-ok : goal.returns-clause-ok
returns-clause-ok c =
    let rest = c.args.rest.now in
    let n = c.from-count.result in
    let before = length rest - n in
    let last = get_or_read rest (length rest - 1) c.in-Some.last.now (omega arith) c.in-Some.ensures.item.1 0 in
    let end = padding_at rest n (omega arith) c.if-rest-count.false (c.from-count.ensures ∙ last) in (
      drop before rest,
      subst (λ (b : Bool). IsPadding b (drop before rest)) (sym c.if-not-padded.false) end,
      sym (take-append-drop before rest),
    )
