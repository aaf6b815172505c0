use Rattle.std.proofs.Common.{◌≡◌, ◌++◌, codes, drop}
use Rattle.std.specs.List.{flat_map}
use Rattle.mg_hearing.specs.Page.{quoted_byte}
use Rattle.mg_hearing.proofs.escaping.quoted.Given as goal

abbrev pub invariant-loop-byte : goal.invariant-loop-byte
invariant-loop-byte l =
    l.word.items ++ flat_map quoted_byte (drop l.byte-index l.text) ≡ codes "'" ++ flat_map quoted_byte l.text
