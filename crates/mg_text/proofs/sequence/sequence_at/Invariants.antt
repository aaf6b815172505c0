use Rattle.std.proofs.Common.{◌≡◌, ◌-◌, length}
use Rattle.mg_text.specs.aids.Requests.{sequence_at}
use Rattle.mg_text.proofs.SequenceSteps.{with_front}
use Rattle.mg_text.proofs.sequence.sequence_at.Given as goal

abbrev pub invariant-loop : goal.invariant-loop
invariant-loop l = with_front l.items.items (sequence_at l.source (length l.tokens - l.counter) l.rest) ≡
    sequence_at l.source (length l.tokens) l.tokens
