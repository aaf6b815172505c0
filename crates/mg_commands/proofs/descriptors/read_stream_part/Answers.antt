use Rattle.mg_commands.proofs.FindingLemmas.{read_fault, read_then, stream_parts_are}
use Rattle.mg_commands.proofs.descriptors.read_stream_part.Goals as goal

pub returns-in-Some : goal.returns-in-Some
returns-in-Some c = record {
  reads = read_fault _ _ (rw (c.appeared_in_media-appeared.ensures.value, c.open_stream_part-word.ensures.word) at c.add_sound.ensures.reads)
      c.in-Some.is;
}

pub returns-in-None : goal.returns-in-None
returns-in-None c = record {
  reads = rw (stream_parts_are c.args.stream c.args.part.now) at
      (read_then (rw (c.appeared_in_media-appeared.ensures.value, c.open_stream_part-word.ensures.word) at c.add_sound.ensures.reads)
      c.in-None.is (rw c.open_stream_part-word.ensures.controls at c.read_controls.ensures.reads));
}
