use Rattle.std.proofs.Common.{◌∙◌, ap, sym, codes}
use Rattle.mg_reply.specs.aids.Draft.{drafted}
use Rattle.mg_reply.specs.Listed.{listed}
use Rattle.mg_reply.specs.Media.{local_text, optional}
use Rattle.mg_reply.proofs.DraftLemmas.{then}
use Rattle.mg_reply.proofs.ListedLemmas.{listed-one}
use Rattle.mg_reply.proofs.parts_writing.put_next_local.Goals as goal

pub returns-in-Some : goal.returns-in-Some
returns-in-Some c =
    let text = local_text c.in-Some.chosen in
    record {
      value = then c.args.draft.now c.put.new.self c.put_local.new.draft (codes ",") text c.put.ensures.value
          c.put_local.ensures.value ∙ ap (drafted c.args.draft.now) (sym (listed-one (codes ",") text)) ∙
          ap (λ o. drafted c.args.draft.now (listed (codes ",") (optional local_text o))) (sym c.in-Some.is);
    }
