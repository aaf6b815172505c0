use Rattle.std.proofs.Common.{◌&&◌, ◌∙◌, ap, codes}
use Rattle.mg_reply.specs.declared.entry_kind.EntryKind.TheVariants.{Triples, Commands, Faults}
use Rattle.mg_reply.specs.aids.Draft.{drafted}
use Rattle.mg_reply.specs.Listed.{listed}
use Rattle.mg_reply.specs.aids.Marks.{has_no_part, mark_of, closing}
use Rattle.mg_reply.specs.Entries.{texts_of, topology_entry}
use Rattle.mg_reply.proofs.DraftLemmas.{four_parts}
use Rattle.mg_reply.proofs.ListedLemmas.{entries_are}
use Rattle.mg_reply.proofs.action_writing.put_entries.Goals as goal

pub returns : goal.returns
returns c =
    let d = c.args.draft.now in
    let xs = topology_entry (texts_of Triples c.args.items.now) in
    let ys = texts_of Commands c.args.items.now in
    let zs = texts_of Faults c.args.items.now in
    let first = c.put_topology-is_first.ensures.first in
    let next = c.put_all-is_first.ensures.first ∙ ap (λ b. b && has_no_part ys) first in
    let last = c.put_all-is_empty.ensures.first ∙ ap (λ b. b && has_no_part zs) next in
    let two = c.put_all-is_first.ensures.value ∙
    ap (λ b. drafted c.put_topology-is_first.new.draft (listed (mark_of (codes "{") b) ys)) first in
    let three = c.put_all-is_empty.ensures.value ∙
    ap (λ b. drafted c.put_all-is_first.new.draft (listed (mark_of (codes "{") b) zs)) next in
    let four = c.close.ensures.value ∙ ap (λ b. drafted c.put_all-is_empty.new.draft (closing b)) last in
    record {
      value =
          four_parts d c.put_topology-is_first.new.draft c.put_all-is_first.new.draft c.put_all-is_empty.new.draft
          c.close.new.draft (listed (codes "{") xs) (listed (mark_of (codes "{") (has_no_part xs)) ys)
          (listed (mark_of (codes "{") (has_no_part xs && has_no_part ys)) zs)
          (closing ((has_no_part xs && has_no_part ys) && has_no_part zs)) c.put_topology-is_first.ensures.value two
          three
          four
          ∙ ap (drafted d) (entries_are xs ys zs);
    }
