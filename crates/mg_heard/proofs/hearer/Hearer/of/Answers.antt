use Rattle.std.proofs.Common.{sym, ap, ◌∙◌}
use Rattle.mg_engine.specs.Flow.{flow}
use Rattle.mg_heard.specs.declared.seated.Seated.{Seated}
use Rattle.mg_heard.proofs.hearer.Hearer.of.Goals as goal

pub returns-clause-talkers : goal.returns-clause-talkers
returns-clause-talkers c w stands = record {
  each = λ t found same.
      c.talkers.ensures.value w t stands found (same ∙ ap (λ (s : Seated). s.party.context) c.of.ensures.value)
      ∙ ap (λ (s : Seated). flow w.gateway t.number s.party.number) (sym c.of.ensures.value);
}
