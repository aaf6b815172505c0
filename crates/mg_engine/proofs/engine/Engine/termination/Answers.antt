use Rattle.mg_engine.proofs.Common.{◌≡◌, ◌<◌, ◌∙◌, ℕ, length, get_or, map, refl, sym, ap, arith, get_or-map, Registry, holder_of, IsSound, EngineState, slice_get, slice_get-get_or}
use Rattle.mg_engine.proofs.SendingLemmas.{nobody}
use Rattle.mg_engine.proofs.engine.Engine.termination.Goals as goal

-- The termination at an index is found by its slot.
held : (w u : Registry) (i slot : ℕ) → IsSound w → w ≡ u → i < length u.terminations →
    slot ≡ get_or (map (λ r. r.slot) u.terminations) i 0 → holder_of w slot ≡ slice_get u.terminations i
held w u i slot sound same lt is =
    let within : i < length w.terminations = omega (arith, ap (λ (x : Registry). length x.terminations) same) in
    ap (holder_of w) (is ∙ ap (λ (x : Registry). get_or (map (λ r. r.slot) x.terminations) i 0) (sym same)
    ∙ get_or-map (λ r. r.slot) w.terminations i nobody 0 within) ∙
    sound.by_slot i nobody within ∙ sym (slice_get-get_or w.terminations i nobody within) ∙
    ap (λ (x : Registry). slice_get x.terminations i) same

pub unwrap-requires : goal.unwrap-requires
unwrap-requires c =
    let there = c.requires.there in
    let is = held c.self.inside.rooms c.args.self.now.rooms c.args.place c.held_at-slot.result
    c.self.invariant.sound (ap (λ (x : EngineState). x.rooms) c.self.view_is) there c.held_at-slot.ensures.value in
    rw (c.held.ensures.value, is, slice_get-get_or c.args.self.now.rooms.terminations c.args.place nobody there) refl

pub returns-clause-value : goal.returns-clause-value
returns-clause-value c =
    let same = ap (λ (x : EngineState). x.rooms) c.self.view_is in
    sym (held c.self.inside.rooms c.args.self.now.rooms c.args.place c.held_at-slot.result
    c.self.invariant.sound same c.requires.there c.held_at-slot.ensures.value) ∙ sym c.held.ensures.value ∙
    c.unwrap.ensures
