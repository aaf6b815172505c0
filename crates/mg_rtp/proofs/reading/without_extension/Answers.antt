use Rattle.std.proofs.Common.{◌+◌, ◌*◌, Bool, take, sym, subst, ◌∙◌, arith}
use Rattle.mg_rtp.specs.Packet.{IsExtension}
use Rattle.mg_rtp.proofs.Parts.{front_and_rest, words_at}
use Rattle.mg_rtp.proofs.reading.without_extension.Goals as goal

pub returns-clause-ok : goal.returns-clause-ok
returns-clause-ok c =
    let rest = c.args.rest.now in
    let len = 4 + 4 * c.from.result in
    let words = words_at rest c.from.result (λ i. omega (arith, c.type_inv.rest i)) c.if-rest-len.false
    (c.from.ensures ∙ c.read_u16-words.ensures) in (
      take len rest,
      subst (λ (b : Bool). IsExtension b (take len rest)) (sym c.if-not-extended.false) words,
      front_and_rest len rest,
    )
