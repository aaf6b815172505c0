use Rattle.std.proofs.Common.{◌≡◌, ◌-◌, length}
use Rattle.mg_text.specs.aids.Requests.{parts_at}
use Rattle.mg_text.proofs.PartSteps.{with_front}
use Rattle.mg_text.proofs.actions.parts_at.Given as goal

abbrev pub invariant-loop : goal.invariant-loop
invariant-loop l = with_front l.properties.items (parts_at l.source (length l.tokens - l.counter) l.rest) ≡
    parts_at l.source (length l.tokens) l.tokens
