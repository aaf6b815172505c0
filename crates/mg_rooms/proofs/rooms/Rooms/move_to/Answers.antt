use Rattle.mg_rooms.proofs.Common.{rules, Err, sym, subst, refl, ap, ◌≡◌, ℕ, ◌∙◌, IsConsistent, Record}
use Rattle.mg_rooms.specs.Outcome as commands
use Rattle.mg_rooms.specs.declared.moved.Moved.{Moved}
use Rattle.mg_rooms.proofs.RoomsLemmas.{gives_refusal}
use Rattle.mg_rooms.proofs.StateLemmas.{is_in_a_context}
use Rattle.mg_rooms.proofs.OutcomeLemmas.{found_number, named_is}
use Rattle.mg_rooms.proofs.SoundLemmas.{unnamed, moving, there_as}
use Rattle.mg_rooms.proofs.rooms.Rooms.move_to.Goals as goal

pub returns-in_err-old-clause-outcome : goal.returns-in_err-old-clause-outcome
returns-in_err-old-clause-outcome c =
    let unnamed = rw c.self.view_is at (unnamed c.self.inside.tables c.args.target c.args.number c.args.settings.now
    c.in_err-old.field-0.0 c.in_err-old.ensures.value) in
    gives_refusal (λ (m : Moved). m.to.record) c.args.self.now c.args.self.now c.from_residual.result _
    c.in_err-old.field-0.0 (search rules) unnamed refl

pub returns-in_err-old-clause-consistent : goal.returns-in_err-old-clause-consistent
returns-in_err-old-clause-consistent c = rw (← c.self.view_is) c.self.invariant

pub member_of-from-requires : goal.member_of-from-requires
member_of-from-requires c =
    let at = named_is c.self.inside.tables c.args.number c.in_ok-old.old (sym c.in_ok-old.ensures.value) in
    record { there = is_in_a_context c.self.inside.tables c.args.number c.in_ok-old.old c.self.invariant at }

pub returns-in_err-moved-clause-outcome : goal.returns-in_err-moved-clause-outcome
returns-in_err-moved-clause-outcome c =
    let w = c.self.inside.tables in
    let at = named_is w c.args.number c.in_ok-old.old (sym c.in_ok-old.ensures.value) in
    let from = ap (λ (r : Record). r.number) c.member_of-from.ensures.termination ∙
    found_number w c.args.number c.in_ok-old.old at in
    let refused = subst (λ (n : ℕ). commands.move_to w c.args.target n c.args.settings.now ≡
    Err c.in_err-moved.field-0.0) from c.in_err-moved.ensures.outcome.0 in
    gives_refusal (λ (m : Moved). m.to.record) c.args.self.now c.move_to.new.self c.from_residual-in_err-moved.result
    _ c.in_err-moved.field-0.0 (search rules) (rw (← c.self.view_is) refused)
    (c.in_err-moved.ensures.outcome.1 ∙ c.self.view_is)

pub returns-in_err-moved-clause-consistent : goal.returns-in_err-moved-clause-consistent
returns-in_err-moved-clause-consistent c = subst IsConsistent (sym c.in_err-moved.ensures.outcome.1)
    c.self.invariant

pub member_of-to-requires : goal.member_of-to-requires
member_of-to-requires c = record {
  there = (moving c.self.inside.tables c.move_to.new.self c.args.target c.args.number c.args.settings.now
      c.in_ok-moved.moved c.in_ok-old.old c.member_of-from.result c.self.invariant c.in_ok-old.ensures.value
      c.member_of-from.ensures.termination c.in_ok-moved.ensures.outcome).2.there;
}

pub invariant_of-self-2 : goal.invariant_of-self-2
invariant_of-self-2 c = (moving c.self.inside.tables c.move_to.new.self c.args.target c.args.number
    c.args.settings.now c.in_ok-moved.moved c.in_ok-old.old c.member_of-from.result c.self.invariant
    c.in_ok-old.ensures.value c.member_of-from.ensures.termination c.in_ok-moved.ensures.outcome).2.sound.consistent

pub returns : goal.returns
returns c =
    let (at, outcome, a) = moving c.self.inside.tables c.move_to.new.self c.args.target c.args.number c.args.settings.now
    c.in_ok-moved.moved c.in_ok-old.old c.member_of-from.result c.self.invariant c.in_ok-old.ensures.value
    c.member_of-from.ensures.termination c.in_ok-moved.ensures.outcome in
    let is = c.member_of-to.ensures.termination in
    record {
      outcome = rw (← c.self.view_is, is) outcome;
      refused = tt;
      consistent = a.sound.consistent;
      from = rw (← c.self.view_is) (there_as c.self.inside.tables c.args.number c.in_ok-old.old c.member_of-from.result
          at c.member_of-from.ensures.termination c.member_of-from.ensures.room);
      to = there_as c.move_to.new.self c.args.number c.in_ok-moved.moved c.member_of-to.result a.own is
          c.member_of-to.ensures.room;
      lasts = rw (← c.self.view_is) a.lasts;
      others = rw (← c.self.view_is, is) a.others;
    }
