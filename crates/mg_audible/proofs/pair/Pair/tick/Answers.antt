use Rattle.mg_audible.proofs.pair.Pair.tick.Goals as goal

pub returns-clause-value : goal.returns-clause-value
returns-clause-value c v w h = (
  c.audible_flows.ensures.value v w (c.tick.ensures.next v h.whole) (c.tick.ensures.sent v h.whole)
      (c.tick-2.ensures.sent w h.without),
  record { whole = c.tick.ensures.next v h.whole; without = c.tick-2.ensures.next w h.without },
)
