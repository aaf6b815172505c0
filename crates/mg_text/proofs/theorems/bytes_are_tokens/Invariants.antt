use Rattle.std.proofs.Common.{◌≡◌, List, ◌-◌, length}
use Rattle.mg_scan.specs.declared.token.Token.{Token}
use Rattle.mg_text.specs.Message.{Reaches, scanning_of}
use Rattle.mg_text.proofs.theorems.bytes_are_tokens.Given as goal

abbrev pub invariant-loop : goal.invariant-loop
invariant-loop l = record {
  source : l.scanner.source ≡ l.source;
  way : (ts : List Token) ×
      Reaches (scanning_of l.source) ts l.scanner;
}

abbrev pub decreases-loop : goal.decreases-loop
decreases-loop l = length l.scanner.source - l.scanner.at
