use Rattle.std.proofs.Common.{◌∙◌, ap, sym, add-one}
use Rattle.std.proofs.lemmas.Bool.{ne_eqb, eq-eqb}
use Rattle.mg_core.specs.Flows.{Listener}
use Rattle.mg_core.proofs.ChangeLemmas.{found_at, none_more}
use Rattle.mg_core.proofs.changes.listener_at.Goals as goal

pub returns-then-x-number : goal.returns-then-x-number
returns-then-x-number c =
    let number = ap (λ (x : Listener). x.number) (sym c.x.view_is) ∙ c.if-x-number.true in
    record {
      value = found_at c.args.listeners.now c.args.number c.loop-x.x-index c.x-item.result c.loop-x-test.true
          c.loop-x.invariant c.x-item.is (eq-eqb c.x-item.result.number c.args.number number);
    }

pub loop-x-preserved : goal.loop-x-preserved
loop-x-preserved c =
    let number = ap (λ (x : Listener). x.number) c.x.view_is in
    rw add-one (none_more c.args.listeners.now c.args.number c.loop-x.x-index c.x-item.result c.loop-x-test.true
    c.loop-x.invariant c.x-item.is (ne_eqb c.x-item.result.number c.args.number
    (λ e. c.if-x-number.false (number ∙ e))))
