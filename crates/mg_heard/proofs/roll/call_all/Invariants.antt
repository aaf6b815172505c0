use Rattle.std.proofs.Common.{◌≡◌, drop, map, take}
use Rattle.mg_core.specs.World.{World}
use Rattle.mg_core.specs.aids.Stands.{StandsFor}
use Rattle.mg_heard.specs.aids.Calling.{called}
use Rattle.mg_heard.proofs.roll.call_all.Given as goal

-- The rolls before the index are updated, and the others are unchanged.
abbrev pub invariant-loop-roll : goal.invariant-loop-roll
invariant-loop-roll l = record {
  begun : (w : World) → StandsFor l.core.state w →
      take l.roll-index l.rolls ≡ map (called w.gateway) (take l.roll-index l.fn.rolls);
  rest : drop l.roll-index l.rolls ≡ drop l.roll-index l.fn.rolls;
}
