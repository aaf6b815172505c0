use Rattle.std.proofs.Common.{◌≡◌, false, drop}
use Rattle.mg_core.specs.Script.{unescaped}
use Rattle.mg_core.proofs.EscapeSteps.{in_front}
use Rattle.mg_core.proofs.script.unescape.Given as goal

abbrev pub invariant-loop-b : goal.invariant-loop-b
invariant-loop-b l = in_front l.bytes.items (unescaped l.is_escaped (drop l.b-index l.text)) ≡ unescaped false l.text
