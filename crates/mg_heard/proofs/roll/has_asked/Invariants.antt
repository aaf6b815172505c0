use Rattle.std.proofs.Common.{◌≡◌, drop}
use Rattle.mg_heard.proofs.CallingLemmas.{named_in}
use Rattle.mg_heard.proofs.roll.has_asked.Given as goal

abbrev pub invariant-loop-place : goal.invariant-loop-place
invariant-loop-place l =
    named_in l.keys l.core.state.engine.rooms.terminations
    ≡ named_in l.keys (drop l.place l.core.state.engine.rooms.terminations)
