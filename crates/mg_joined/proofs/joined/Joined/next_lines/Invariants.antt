use Rattle.std.specs.Prelude.{◌≡◌, drop, false, length}
use Rattle.std.specs.Io.KnownBytes.{Keeps}
use Rattle.mg_joined.specs.aids.Joining.{script_left}
use Rattle.mg_joined.proofs.joined.Joined.next_lines.Given as goal

abbrev pub invariant-loop : goal.invariant-loop
invariant-loop g l = (l.self.is_broken ≡ false) × (l.self.at ≡ length l.self.front.items)
    × Keeps
    (script_left g.B.Read.remaining g.K.TextsKey.texts (drop l.fn.self.at l.fn.self.front.items) l.fn.self.source l.fn.self.later.items)
    (script_left g.B.Read.remaining g.K.TextsKey.texts (drop l.self.at l.self.front.items) l.self.source l.self.later.items)
