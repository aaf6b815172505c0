use Rattle.mg_rooms.proofs.Common.{sym, subst, ap, ℕ, Record}
use Rattle.mg_rooms.specs.Consistent.{IsConsistent}
use Rattle.mg_rooms.specs.aids.Member.{ExistsAs}
use Rattle.mg_rooms.proofs.SoundLemmas.{add_leaves, there_as}
use Rattle.mg_rooms.proofs.rooms.Rooms.add.Goals as goal

pub returns-in_err-made-clause-consistent : goal.returns-in_err-made-clause-consistent
returns-in_err-made-clause-consistent c = subst IsConsistent (sym c.in_err-made.ensures.outcome.1)
    c.self.invariant

pub member_of-requires : goal.member_of-requires
member_of-requires c = record {
  there = (add_leaves c.self.inside.tables c.add.new.self c.args.target
      c.args.settings.now c.in_ok-made.made c.self.invariant c.in_ok-made.ensures.outcome).there;
}

pub invariant_of-self-2 : goal.invariant_of-self-2
invariant_of-self-2 c = (add_leaves c.self.inside.tables c.add.new.self c.args.target c.args.settings.now
    c.in_ok-made.made c.self.invariant c.in_ok-made.ensures.outcome).sound.consistent

pub returns : goal.returns
returns c =
    let a = add_leaves c.self.inside.tables c.add.new.self c.args.target c.args.settings.now c.in_ok-made.made
    c.self.invariant c.in_ok-made.ensures.outcome in
    let is = c.member_of.ensures.termination in
    record {
      outcome = rw (← c.self.view_is, is) c.in_ok-made.ensures.outcome;
      refused = tt;
      consistent = a.sound.consistent;
      member = subst (λ (n : ℕ). ExistsAs c.add.new.self n c.member_of.result) (ap (λ (r : Record). r.number) (sym is))
          (there_as c.add.new.self c.in_ok-made.made.number c.in_ok-made.made c.member_of.result a.own is
          c.member_of.ensures.room);
      lasts = rw (← c.self.view_is) a.lasts;
      others = rw (← c.self.view_is, is) a.others;
    }
