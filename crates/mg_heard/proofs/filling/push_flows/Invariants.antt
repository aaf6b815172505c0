use Rattle.std.proofs.Common.{◌+◌, ◌≤◌, length, take}
use Rattle.mg_heard.specs.aids.Hearers.{flows_heard, seats_of}
use Rattle.mg_heard.proofs.FillLemmas.{HasPushed}
use Rattle.mg_heard.proofs.filling.push_flows.Given as goal

abbrev pub invariant-loop-hearer : goal.invariant-loop-hearer
invariant-loop-hearer l = record {
  within : l.count ≤ length l.places;
  stored : l.fn.count + length (flows_heard (seats_of l.hearers) l.listener) ≤ length l.fn.places →
      HasPushed l.listener l.first (take l.fn.count l.fn.places) (take l.count l.places) l.hearers l.hearer-index;
}
