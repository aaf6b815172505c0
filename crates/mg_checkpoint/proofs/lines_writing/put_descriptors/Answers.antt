use Rattle.std.proofs.lemmas.Result.{IfOk-equal}
use Rattle.mg_checkpoint.proofs.WritingLemmas.{four_parts}
use Rattle.mg_checkpoint.proofs.lines_writing.put_descriptors.Goals as goal

pub returns : goal.returns
returns c = record {
  value = IfOk-equal c.put_media-2.result c.put_media-2.new.out.items _ _ c.put_media-2.ensures.value
      (four_parts _ _ _ _ _ _ _ _ c.in_ok-put.ensures.value c.in_ok-put_media.ensures.value
      c.in_ok-put-2.ensures.value);
}
