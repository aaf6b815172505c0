use Rattle.std.proofs.Common.{rules, false}
use Rattle.mg_program.proofs.DecisionLemmas.{asked_badly, asked_well}
use Rattle.mg_program.proofs.receiving.ask.Goals as goal

pub returns-then-is_err : goal.returns-then-is_err
returns-then-is_err g c = record {
  done = λ timing. rw c.set_all.ensures.value (asked_badly (g.H.Tells.calls c.args.host.now) (g.H.Tells.calls c.poll.new.self)
      timing c.args.ready.now c.poll.new.marks false c.poll.result c.poll.ensures.logged (search rules));
}

pub returns-else-is_err : goal.returns-else-is_err
returns-else-is_err g c = record {
  done = λ timing. asked_well (g.H.Tells.calls c.args.host.now) (g.H.Tells.calls c.poll.new.self)
      timing c.args.ready.now c.poll.new.marks false c.poll.result c.poll.ensures.logged (search rules);
}
