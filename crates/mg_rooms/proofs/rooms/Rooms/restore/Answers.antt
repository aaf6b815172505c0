use Rattle.mg_rooms.proofs.RestoreLemmas.{tries}
use Rattle.mg_rooms.proofs.rooms.Rooms.restore.Goals as goal

pub invariant_of-self : goal.invariant_of-self
invariant_of-self c = (tries c.self.inside.tables c.restore.new.self c.args.termination.now c.args.room c.restore.result
    c.self.invariant c.restore.ensures.value c.restore.ensures.outcome).consistent

pub returns : goal.returns
returns c =
    let done = tries c.self.inside.tables c.restore.new.self c.args.termination.now c.args.room c.restore.result
    c.self.invariant c.restore.ensures.value c.restore.ensures.outcome in
    record {
      value = rw (← c.self.view_is) c.restore.ensures.value;
      outcome = rw (← c.self.view_is) c.restore.ensures.outcome;
      consistent = done.consistent;
      member = done.member;
      lasts = rw (← c.self.view_is) done.lasts;
      others = rw (← c.self.view_is) done.others;
    }
