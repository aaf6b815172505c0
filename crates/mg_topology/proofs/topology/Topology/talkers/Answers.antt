use Rattle.std.proofs.Common.{◌≡◌, ℕ, true, ap, ◌∙◌, arith}
use Rattle.std.proofs.lemmas.Bool.Decides.{nat_tests}
use Rattle.mg_topology.specs.Mask.{has_seat}
use Rattle.mg_topology.specs.aids.Topology.{holds, hears}
use Rattle.mg_topology.proofs.TopologyLemmas.{row_tells}
use Rattle.mg_topology.proofs.topology.Topology.talkers.Goals as goal

told : (c : goal.After-without_seat) → (t : ℕ) →
    has_seat c.without_seat.result t ≡ hears c.args.self.now t c.args.listener
told c t =
    let seated : holds c.args.self.now c.args.listener ≡ true = grind (arith, c.holds.ensures.kept) in
    row_tells _ t c.args.listener _ (omega arith) (ap (λ k. holds k c.args.listener) c.self.view_is ∙ seated)
    (grind (arith, nat_tests, c.without_seat.ensures.seats t, c.intersection.ensures t))
    ∙ ap (λ k. hears k t c.args.listener) c.self.view_is

pub returns-clause-kept : goal.returns-clause-kept
returns-clause-kept c = told c

pub returns-clause-edits : goal.returns-clause-edits
returns-clause-edits c = λ es h t. told c t ∙ h.pairs t c.args.listener
