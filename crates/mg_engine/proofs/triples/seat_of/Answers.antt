use Rattle.mg_engine.proofs.Common.{sym, ap, ◌∙◌, eqb, ℕ}
use Rattle.mg_engine.proofs.TripleLemmas.{matches_number}
use Rattle.mg_engine.proofs.triples.seat_of.Goals as goal

pub returns-then-record-context-clause-some : goal.returns-then-record-context-clause-some
returns-then-record-context-clause-some c =
    let sound = c.requires.sound in
    let r = c.in-Some.record in
    let found = sym c.in-Some.ensures.value in
    let context = c.if-record-context.true in (
      (sound.members c.args.context c.args.number).1 (r, found, context),
      matches_number c.args.rooms.now c.args.context c.args.number c.of_seat.result r sound found context
          (λ s. c.of_seat.ensures s ∙ ap (λ (k : ℕ). eqb s k) c.from.ensures),
    )
