use Rattle.std.proofs.Common.{◌≡◌, map, take}
use Rattle.mg_heard.specs.aids.Opening.{beginning_at}
use Rattle.mg_heard.proofs.filling.put_flows.Given as goal

abbrev pub invariant-loop-place : goal.invariant-loop-place
invariant-loop-place l = take l.place l.places ≡ map (beginning_at l.first) (take l.place l.flows)
