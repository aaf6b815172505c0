use Rattle.std.proofs.Common.{◌≡◌, length, take, sym, ap, subst, ◌∙◌}
use Rattle.mg_heard.specs.aids.Opening.{IsRising, flows_of, without_flows}
use Rattle.mg_heard.proofs.ContinueLemmas.{written}
use Rattle.mg_heard.proofs.row.Row.remove_continued.Goals as goal

pub returns : goal.returns
returns c =
    let vec = c.self.inside.places in
    let len = c.self.inside.len in
    let kept = c.keep_front-self-inside.result in
    let new = c.keep_front-self-inside.new.places in
    let next = c.as_slice.ensures.value in
    let old : take len c.deref_mut.result.now ≡ c.args.self.now =
    ap (take len) c.deref_mut.ensures.value ∙ c.self.view_is in
    let both : without_flows (flows_of c.as_slice.result.now) (take len c.deref_mut.result.now) ≡
    without_flows (flows_of c.args.next.now) c.args.self.now = λ j. without_flows (flows_of (next j)) (old j) in
    record {
      value = λ up rising.
          ap (take kept) (written vec.len vec.items new vec.ok.0
          (c.keep_front-self-inside.auto.places ∙ ap length c.deref_mut.ensures.value))
          ∙ c.keep_front-self-inside.ensures.value (subst IsRising (sym old) up) (subst IsRising (sym next) rising) ∙ both;
    }
