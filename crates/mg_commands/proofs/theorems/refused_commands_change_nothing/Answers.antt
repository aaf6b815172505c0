use Rattle.mg_commands.proofs.AsBeforeLemmas.{refused_requests}
use Rattle.mg_commands.proofs.RefusalLemmas.{names_refused, commands_refused, actions_refused, topologies_refused, others_tried}
use Rattle.mg_commands.proofs.theorems.refused_commands_change_nothing.Goals as goal

pub returns-clause-names : goal.returns-clause-names
returns-clause-names c = names_refused

pub returns-clause-commands : goal.returns-clause-commands
returns-clause-commands c = commands_refused

pub returns-clause-actions : goal.returns-clause-actions
returns-clause-actions c = actions_refused

pub returns-clause-topologies : goal.returns-clause-topologies
returns-clause-topologies c = topologies_refused

pub returns-clause-others : goal.returns-clause-others
returns-clause-others c = others_tried

pub returns-clause-requests : goal.returns-clause-requests
returns-clause-requests c = refused_requests
