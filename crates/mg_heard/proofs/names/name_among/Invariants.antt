use Rattle.std.proofs.Common.{◌≡◌, drop}
use Rattle.mg_heard.specs.Names.{name_of}
use Rattle.mg_heard.proofs.names.name_among.Given as goal

abbrev pub invariant-loop-place : goal.invariant-loop-place
invariant-loop-place l = name_of l.lines l.number l.at ≡ name_of (drop l.place l.lines) l.number l.at
