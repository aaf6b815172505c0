use Rattle.std.proofs.Common.{◌≡◌, ◌++◌, drop}
use Rattle.mg_heard.specs.Names.{keys_with}
use Rattle.mg_heard.proofs.names.keys_with.Given as goal

abbrev pub invariant-loop-line : goal.invariant-loop-line
invariant-loop-line l =
    l.keys.items ++ keys_with l.name (drop l.line-index l.lines) ≡ keys_with l.name l.lines
