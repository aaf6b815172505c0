use Rattle.std.proofs.Common.{refl, sym, ◌∙◌, rules, take}
use Rattle.std.proofs.lemmas.Bool.{false≢true}
use Rattle.mg_topology.specs.aids.Edits.{apply_all}
use Rattle.mg_topology.proofs.TopologyLemmas.{apply_all-more}
use Rattle.mg_topology.proofs.TripleLemmas.{list_any-overlaps}
use Rattle.mg_topology.proofs.topology.Topology.apply.Goals as goal

pub returns-then-any_overlaps-clause-overlap : goal.returns-then-any_overlaps-clause-overlap
returns-then-any_overlaps-clause-overlap c =
    (λ _. (list_any-overlaps c.args.triples.now).0 (sym c.any_overlaps.ensures ∙ c.if-any_overlaps.true), λ _. refl)

pub returns-clause-overlap : goal.returns-clause-overlap
returns-clause-overlap c = (
  λ e. absurd (false≢true e),
  λ h. sym c.if-any_overlaps.false ∙ c.any_overlaps.ensures ∙ (list_any-overlaps c.args.triples.now).1 h,
)

pub loop-triple-preserved : goal.loop-triple-preserved
loop-triple-preserved c = record {
  edits = λ es h.
      let next = c.apply_one.ensures.edits (apply_all (take c.loop-triple.triple-index c.args.triples.now) es)
      (c.loop-triple.invariant.edits es h) in
      search (rules, next, apply_all-more);
  held = c.apply_one.ensures.held ∙ c.loop-triple.invariant.held;
}
