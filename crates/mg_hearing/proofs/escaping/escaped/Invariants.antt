use Rattle.std.proofs.Common.{◌≡◌, ◌++◌, drop}
use Rattle.mg_heard.specs.Escaped.{escaped}
use Rattle.mg_hearing.proofs.escaping.escaped.Given as goal

abbrev pub invariant-loop-byte : goal.invariant-loop-byte
invariant-loop-byte l =
    l.page.items ++ escaped (drop l.byte-index l.text) ≡ escaped l.text
