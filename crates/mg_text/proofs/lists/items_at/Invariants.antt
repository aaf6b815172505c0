use Rattle.std.proofs.Common.{◌≡◌, ◌-◌, length}
use Rattle.mg_text.specs.aids.Reading.{list_at}
use Rattle.mg_text.proofs.ListSteps.{with_front}
use Rattle.mg_text.proofs.lists.items_at.Given as goal

abbrev pub invariant-loop : goal.invariant-loop
invariant-loop g l = with_front l.items.items
    (list_at l.source (g.T.FromTokens.reading l.source) (length l.tokens - l.counter) l.rest) ≡
    list_at l.source (g.T.FromTokens.reading l.source) (length l.tokens) l.tokens
