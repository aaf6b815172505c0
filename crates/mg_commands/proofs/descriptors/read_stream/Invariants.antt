use Rattle.mg_commands.specs.Part.{stream_parts}
use Rattle.mg_commands.specs.aids.Levels.{stream_level}
use Rattle.mg_commands.proofs.FindingLemmas.{HasWalked}
use Rattle.mg_commands.proofs.descriptors.read_stream.Given as goal

abbrev pub invariant-loop-i : goal.invariant-loop-i
invariant-loop-i l = HasWalked l.source (stream_level l.source l.media l.stream) (stream_parts l.stream) l.parts l.i l.fn.found l.found
