use Rattle.mg_rooms.proofs.Common.{sym}
use Rattle.mg_rooms.proofs.SoundLemmas.{subtract_ends}
use Rattle.mg_rooms.proofs.rooms.Rooms.subtract.Goals as goal

pub returns-in_err-old-clause-consistent : goal.returns-in_err-old-clause-consistent
returns-in_err-old-clause-consistent c = rw (← c.self.view_is) c.self.invariant

pub invariant_of-self : goal.invariant_of-self
invariant_of-self c = (subtract_ends c.self.inside.tables c.end.new.self c.args.target c.args.number c.in_ok-old.old
    c.self.invariant (sym c.in_ok-old.ensures.value)
    (rw c.member_of-gone.ensures.termination at c.end.ensures.value)).sound.consistent

pub returns-clause-consistent : goal.returns-clause-consistent
returns-clause-consistent c = (subtract_ends c.self.inside.tables c.end.new.self c.args.target c.args.number
    c.in_ok-old.old c.self.invariant (sym c.in_ok-old.ensures.value)
    (rw c.member_of-gone.ensures.termination at c.end.ensures.value)).sound.consistent

pub returns-clause-lasts : goal.returns-clause-lasts
returns-clause-lasts c = rw (← c.self.view_is)
    (subtract_ends c.self.inside.tables c.end.new.self c.args.target c.args.number c.in_ok-old.old c.self.invariant
    (sym c.in_ok-old.ensures.value) (rw c.member_of-gone.ensures.termination at c.end.ensures.value)).lasts

pub returns-clause-others : goal.returns-clause-others
returns-clause-others c = rw (← c.self.view_is, c.member_of-gone.ensures.termination)
    (subtract_ends c.self.inside.tables c.end.new.self c.args.target c.args.number c.in_ok-old.old c.self.invariant
    (sym c.in_ok-old.ensures.value) (rw c.member_of-gone.ensures.termination at c.end.ensures.value)).others
