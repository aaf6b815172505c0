use Rattle.std.proofs.Common.{◌≡◌, reverse, subst, sym}
use Rattle.mg_heard.specs.aids.Timing.{IsClock}
use Rattle.mg_heard.specs.declared.clock.Clock.{Clock}
use Rattle.mg_heard.proofs.KeptTickLemmas.{tells_weaker}
use Rattle.mg_heard.proofs.hearing.finish.Goals as goal

pub returns-in-Ok : goal.returns-in-Ok
returns-in-Ok g c = record {
  value = λ start base notes run h.
      let older = reverse notes in
      let last = c.finish.new.self in
      let is : IsClock older last.clock =
      subst (λ (k : Clock). IsClock older k) (sym c.finish.ensures.clock) h.clock_is in
      tells_weaker base notes (λ _. g.S.Sink.told start last.sink)
      (λ extent xs. g.S.Sink.told start last.sink xs × (c.extent-extent.result ≡ extent))
      (λ xs told. (told, c.extent-extent.ensures.value older is))
      (c.in-Ok.ensures.value start base notes run h);
  stops = tt;
}
