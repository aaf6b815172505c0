use Rattle.std.proofs.Common.{◌≡◌, None, eqb, find, take}
use Rattle.mg_rooms.specs.Limits.{slot_port}
use Rattle.mg_audible.proofs.ports.is_port_of.Given as goal

-- None of the terminations before `place` has the port.
abbrev pub invariant-loop-place : goal.invariant-loop-place
invariant-loop-place l = find (λ r. eqb (slot_port l.core.state.engine.rooms.limits r.slot) l.port)
    (take l.place l.core.state.engine.rooms.terminations) ≡ None
