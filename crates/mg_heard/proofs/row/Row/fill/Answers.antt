use Rattle.std.proofs.Common.{length, take, ap, ◌∙◌, arith}
use Rattle.mg_heard.proofs.ContinueLemmas.{written}
use Rattle.mg_heard.proofs.row.Row.fill.Goals as goal

pub returns : goal.returns
returns c =
    let vec = c.self.inside.places in
    let at = c.deref_mut.ensures.value in
    record {
      value = λ few.
          ap (take c.push_flows-self-inside.result) (written vec.len vec.items c.push_flows-self-inside.new.places vec.ok.0
          (c.push_flows-self-inside.auto.places ∙ ap length at))
          ∙ c.push_flows-self-inside.ensures.value (omega (arith, few, c.self.invariant.0, ap length at));
    }
