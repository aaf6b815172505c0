use Rattle.std.proofs.Common.{◌≡◌, take}
use Rattle.mg_heard.specs.aids.Hearers.{seats_of}
use Rattle.mg_heard.specs.aids.Rows.{listeners_of}
use Rattle.mg_heard.proofs.rows.are_same.Given as goal

abbrev pub invariant-loop-place : goal.invariant-loop-place
invariant-loop-place l = seats_of (listeners_of (take l.place l.rows)) ≡ seats_of (take l.place l.hearers)
