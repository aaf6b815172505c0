use Rattle.mg_engine.proofs.Common.{rules, [], refl, view}
use Rattle.mg_engine.proofs.TripleLemmas.{refused_there, done_triples, err_is}
use Rattle.mg_engine.proofs.engine.Engine.topology_context.Goals as goal

pub returns-in_err-at : goal.returns-in_err-at
returns-in_err-at c = record {
  outcome = λ w h.
      let k = view c.self.inside in
      let stands = rw (← c.self.view_is) at h in
      err_is c.args.self.now c.from_residual.result _ c.in_err-at.field-0.0 (search rules)
      (refused_there k w c.args.target [] c.in_err-at.field-0.0 stands c.in_err-at.ensures.value);
}

pub returns : goal.returns
returns c = record {
  outcome = λ w h.
      let k = view c.self.inside in
      let stands = rw (← c.self.view_is) at h in
      (w, done_triples k w c.args.target [] c.in_ok-at.at.context stands c.in_ok-at.ensures.value.0 refl, h);
}
