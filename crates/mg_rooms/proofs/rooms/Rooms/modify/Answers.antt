use Rattle.mg_rooms.proofs.Common.{sym, subst}
use Rattle.mg_rooms.specs.Consistent.{IsConsistent}
use Rattle.mg_rooms.proofs.SoundLemmas.{modify_leaves, there_as}
use Rattle.mg_rooms.proofs.rooms.Rooms.modify.Goals as goal

pub returns-in_err-changed-clause-consistent : goal.returns-in_err-changed-clause-consistent
returns-in_err-changed-clause-consistent c = subst IsConsistent (sym c.in_err-changed.ensures.outcome.1)
    c.self.invariant

pub member_of-requires : goal.member_of-requires
member_of-requires c = record {
  there = (modify_leaves c.self.inside.tables c.modify.new.self c.args.target
      c.args.number c.args.settings.now c.in_ok-changed.changed c.self.invariant c.in_ok-changed.ensures.outcome).there;
}

pub invariant_of-self-2 : goal.invariant_of-self-2
invariant_of-self-2 c = (modify_leaves c.self.inside.tables c.modify.new.self c.args.target c.args.number
    c.args.settings.now c.in_ok-changed.changed c.self.invariant c.in_ok-changed.ensures.outcome).sound.consistent

pub returns : goal.returns
returns c =
    let a = modify_leaves c.self.inside.tables c.modify.new.self c.args.target c.args.number c.args.settings.now
    c.in_ok-changed.changed c.self.invariant c.in_ok-changed.ensures.outcome in
    let is = c.member_of.ensures.termination in
    record {
      outcome = rw (← c.self.view_is, is) c.in_ok-changed.ensures.outcome;
      refused = tt;
      consistent = a.sound.consistent;
      member = there_as c.modify.new.self c.args.number c.in_ok-changed.changed c.member_of.result a.own is
          c.member_of.ensures.room;
      lasts = rw (← c.self.view_is) a.lasts;
      others = rw (← c.self.view_is, is) a.others;
    }
