use Rattle.std.proofs.Common.{◌≡◌, take}
use Rattle.mg_commands.specs.Part.{media_parts}
use Rattle.mg_commands.specs.aids.Levels.{media_level, greatest_stream}
use Rattle.mg_commands.proofs.FindingLemmas.{HasWalked}
use Rattle.mg_commands.proofs.descriptors.read_media.Given as goal

abbrev pub invariant-loop-i : goal.invariant-loop-i
invariant-loop-i l = record {
  walked : HasWalked l.source (media_level l.source) media_parts l.parts l.i l.fn.found l.found;
  greatest : l.greatest ≡ greatest_stream (take l.i l.parts);
}
