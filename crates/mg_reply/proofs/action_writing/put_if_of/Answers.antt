use Rattle.std.proofs.Common.{◌≡◌, ◌∙◌, true, ap, sym}
use Rattle.mg_reply.specs.aids.Draft.{drafted}
use Rattle.mg_reply.specs.aids.Marks.{mark_of}
use Rattle.mg_reply.specs.Entries.{is_of, item_text}
use Rattle.mg_reply.proofs.DraftLemmas.{then}
use Rattle.mg_reply.proofs.ListedLemmas.{one_of}
use Rattle.mg_reply.proofs.action_writing.put_if_of.Goals as goal

pub returns-clause-value : goal.returns-clause-value
returns-clause-value c =
    let mark = mark_of c.args.opening.now c.args.is_first in
    let text = item_text c.args.item.now in
    let holds : is_of c.args.kind c.args.item.now ≡ true = cc in
    then c.args.draft.now c.put_mark.new.draft c.put_item.new.draft mark text c.put_mark.ensures.value
    c.put_item.ensures.value
    ∙ ap (drafted c.args.draft.now) (sym (one_of mark c.args.kind c.args.item.now holds))
