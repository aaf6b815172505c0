use Rattle.std.proofs.Common.{◌*◌, take, ap, ◌∙◌}
use Rattle.std.proofs.lemmas.List.{length-take-le}
use Rattle.mg_rtp.proofs.Parts.{front_and_rest}
use Rattle.mg_rtp.proofs.reading.without_sources.Goals as goal

pub returns-clause-ok : goal.returns-clause-ok
returns-clause-ok c =
    let len = 4 * c.from-len.result in (
      take len c.args.rest.now,
      length-take-le len c.args.rest.now c.if-rest-len.false ∙
          ap (λ n. 4 * n) c.from-len.ensures,
      front_and_rest len c.args.rest.now,
    )
