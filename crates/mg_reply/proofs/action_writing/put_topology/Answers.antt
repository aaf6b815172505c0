use Rattle.std.proofs.Common.{◌∙◌, ap, codes}
use Rattle.mg_reply.specs.declared.entry_kind.EntryKind.TheVariants.{Triples}
use Rattle.mg_reply.specs.aids.Draft.{drafted}
use Rattle.mg_reply.specs.Listed.{listed}
use Rattle.mg_reply.specs.aids.Marks.{has_no_part, closing}
use Rattle.mg_reply.specs.Entries.{texts_of}
use Rattle.mg_reply.proofs.DraftLemmas.{then}
use Rattle.mg_reply.proofs.ListedLemmas.{topology_is}
use Rattle.mg_reply.proofs.action_writing.put_topology.Goals as goal

pub returns-clause-value : goal.returns-clause-value
returns-clause-value c =
    let texts = texts_of Triples c.args.items.now in
    let all = c.put_all-is_empty.new.draft in
    let close = c.close.ensures.value ∙ ap (λ b. drafted all (closing b)) c.put_all-is_empty.ensures.first in
    then c.args.draft.now all c.close.new.draft (listed (codes "{Topology{") texts) (closing (has_no_part texts))
    c.put_all-is_empty.ensures.value close
    ∙ ap (drafted c.args.draft.now) (topology_is texts)
