use Rattle.std.proofs.Common.{◌≡◌, ◌-◌, length}
use Rattle.mg_text.specs.Message.{Reaches, scanning_of}
use Rattle.mg_text.proofs.scanning.tokens_of.Given as goal

abbrev pub invariant-loop-token : goal.invariant-loop-token
invariant-loop-token l = record {
  source : l.scanner.source ≡ l.source;
  way : Reaches (scanning_of l.source) l.tokens.items l.scanner;
}

abbrev pub decreases-loop-token : goal.decreases-loop-token
decreases-loop-token l = length l.scanner.source - l.scanner.at
