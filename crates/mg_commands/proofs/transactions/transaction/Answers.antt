use Rattle.mg_commands.proofs.RunLemmas.{request_ran, request_paid}
use Rattle.mg_commands.proofs.WideLemmas.{items_are_wide, items_are_whole}
use Rattle.mg_commands.proofs.transactions.transaction.Goals as goal

pub returns-clause-ran : goal.returns-clause-ran
returns-clause-ran c = request_ran c.args.source.now c.args.request.now c.args.engine.now c.try_actions.new.engine
    c.start.new.self c.try_actions.new.reply c.start.ensures.value
    (rw c.as_slice.ensures.value at c.try_actions.ensures.ran)

pub returns-clause-work : goal.returns-clause-work
returns-clause-work c = request_paid c.args.source.now c.args.request.now c.args.engine.now c.try_actions.new.engine
    c.start.new.self c.try_actions.new.reply c.start.ensures.value
    (rw c.as_slice.ensures.value at c.try_actions.ensures.ran)

pub returns-clause-wide : goal.returns-clause-wide
returns-clause-wide c = λ w. items_are_wide c.args.source.now c.args.request.now w c.requires.proper

pub returns-clause-ended : goal.returns-clause-ended
returns-clause-ended c = λ w. items_are_whole c.args.source.now c.args.request.now w c.requires.proper
