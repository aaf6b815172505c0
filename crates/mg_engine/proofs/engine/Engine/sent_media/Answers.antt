use Rattle.mg_engine.proofs.Common.{◌≡◌, ◌<◌, ◌∙◌, Some, ap, arith, length, sym, view, get_or_default, idle, media_at}
use Rattle.mg_engine.proofs.RestoringLemmas.{held_fits, sent_at}
use Rattle.mg_engine.proofs.engine.Engine.sent_media.Goals as goal

pub index-requires : goal.index-requires
index-requires c =
    let there = rw (← c.self.view_is) at c.requires.there in
    let held = rw (← c.self.view_is) at c.held_at-slot.ensures.value in
    omega (
      arith,
      c.from.ensures,
      held_fits c.self.inside c.args.place c.held_at-slot.result c.self.invariant there held,
      c.self.inside.media.ok,
    )

pub returns : goal.returns
returns c =
    let there = rw (← c.self.view_is) at c.requires.there in
    let held = rw (← c.self.view_is) at c.held_at-slot.ensures.value in
    let media = c.self.inside.media.items in
    let m = c.index.result.now in
    let within : c.from.result < length media =
    omega (arith, c.from.ensures, held_fits c.self.inside c.args.place c.held_at-slot.result c.self.invariant there held) in
    let at : m ≡ media_at media c.held_at-slot.result =
    c.index.ensures ∙ get_or_default media c.from.result m idle within ∙ ap (media_at media) c.from.ensures in
    record {
      value = λ w h. sent_at (view c.self.inside) w c.args.place c.held_at-slot.result m c.self.invariant.sound
          (rw (← c.self.view_is) at h) there held at ∙ ap Some (sym c.sent.ensures.value);
    }
