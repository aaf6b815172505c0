use Rattle.std.proofs.Common.{◌≡◌, ◌&&◌, drop}
use Rattle.mg_reply.specs.aids.Draft.{drafted}
use Rattle.mg_reply.specs.Listed.{listed}
use Rattle.mg_reply.specs.aids.Marks.{has_no_part, mark_of}
use Rattle.mg_reply.specs.Entries.{texts_of}
use Rattle.mg_reply.proofs.action_writing.put_all.Given as goal

abbrev pub invariant-loop-item : goal.invariant-loop-item
invariant-loop-item l = record {
  same : drafted l.draft (listed (mark_of l.opening l.is_next_first) (texts_of l.kind (drop l.item-index l.items))) ≡
      drafted l.initial.draft (listed (mark_of l.opening l.is_first) (texts_of l.kind l.items));
  first : (l.is_next_first && has_no_part (texts_of l.kind (drop l.item-index l.items))) ≡
      (l.is_first && has_no_part (texts_of l.kind l.items));
}
