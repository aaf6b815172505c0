use Rattle.mg_heard.proofs.CallingLemmas.{called_control, called_quiet}
use Rattle.mg_heard.proofs.KeepingLemmas.{not_control}
use Rattle.mg_heard.proofs.roll.call_after.Goals as goal

pub returns-in-Control : goal.returns-in-Control
returns-in-Control c = record {
  value = λ start base notes h (sent, w, (run, stands)).
      called_control c.outcomes_are_unique.ensures.events base notes c.args.event.now sent w start c.args.rolls.now
      c.call_all.new.rolls (c.call_all.ensures.value w stands) run h;
}

pub returns-in_default : goal.returns-in_default
returns-in_default c = record {
  value = λ start base notes h run. called_quiet c.only_control_changes_flows.ensures.terminations base notes
      c.args.event.now start c.args.rolls.now (not_control c.args.event.now c.in_default.not-Control) h;
}
