use Rattle.std.proofs.Common.{◌≡◌, length, map, take, sym, ap, subst, ◌∙◌}
use Rattle.mg_heard.specs.aids.Opening.{IsRising, continued}
use Rattle.mg_heard.proofs.ContinueLemmas.{written}
use Rattle.mg_heard.proofs.row.Row.continue_from.Goals as goal

pub returns : goal.returns
returns c =
    let vec = c.self.inside.places in
    let len = c.self.inside.len in
    let new = c.continue_front.new.places in
    let earlier = c.as_slice.ensures.value in
    let old : take len c.deref_mut.result.now ≡ c.args.self.now =
    ap (take len) c.deref_mut.ensures.value ∙ c.self.view_is in
    let both : map (continued c.as_slice.result.now) (take len c.deref_mut.result.now) ≡
    map (continued c.args.earlier.now) c.args.self.now = λ j. map (continued (earlier j)) (old j) in
    record {
      value = λ up rising.
          ap (take len) (written vec.len vec.items new vec.ok.0
          (c.continue_front.auto.places ∙ ap length c.deref_mut.ensures.value))
          ∙ c.continue_front.ensures.value (subst IsRising (sym old) up) (subst IsRising (sym earlier) rising) ∙ both;
    }
