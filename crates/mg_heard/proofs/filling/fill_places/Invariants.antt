use Rattle.std.proofs.Common.{◌≤◌, length, take}
use Rattle.mg_heard.specs.aids.Hearers.{seats_of}
use Rattle.mg_heard.proofs.FillLemmas.{HasFilled}
use Rattle.mg_heard.proofs.filling.fill_places.Given as goal

abbrev pub invariant-loop-listener : goal.invariant-loop-listener
invariant-loop-listener l = record {
  within : l.count ≤ length l.places;
  stored : HasFilled (seats_of l.hearers) l.first (take l.count l.places) l.hearers l.listener-index;
}
