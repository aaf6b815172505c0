use Rattle.std.proofs.Common.{map}
use Rattle.mg_commands.specs.declared.part.Part.TheVariants.{Audited}
use Rattle.mg_commands.specs.aids.Words.{audit_words_within}
use Rattle.mg_commands.proofs.FindingLemmas.{read_after, read_fault, read_then, descriptor_parts_are}
use Rattle.mg_commands.proofs.descriptors.read_descriptor.Goals as goal

pub returns-in-Some : goal.returns-in-Some
returns-in-Some c = record {
  reads = read_fault _ _ (rw (c.appeared_in_command-appeared.ensures.value, c.open_descriptor-word.ensures.word) at c.add_sound.ensures.reads)
      c.in-Some.is;
}

pub returns-in-None : goal.returns-in-None
returns-in-None c = record {
  reads = rw (descriptor_parts_are c.args.descriptor.now) at
      (read_then (rw (c.appeared_in_command-appeared.ensures.value, c.open_descriptor-word.ensures.word) at c.add_sound.ensures.reads)
      c.in-None.is (read_after c.add_sound.new.self (map Audited (audit_words_within c.args.descriptor.now)) (rw c.open_descriptor-word.ensures.audit at c.add_words.ensures.value)
      (rw c.open_descriptor-word.ensures.media at c.read_media.ensures.reads)));
}
