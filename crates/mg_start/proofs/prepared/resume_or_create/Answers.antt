use Rattle.std.proofs.Common.{None, refl}
use Rattle.std.specs.Option.{option_map_or}
use Rattle.mg_journal.specs.aids.Opened.{text_in}
use Rattle.mg_start.proofs.ResumeLemmas.{if_ok_three, no_times}
use Rattle.mg_start.proofs.StartLemmas.{agreed_chosen, resumes_anew}
use Rattle.mg_start.proofs.prepared.resume_or_create.Goals as goal

pub returns-in_default-clause-resumed : goal.returns-in_default-clause-resumed
returns-in_default-clause-resumed g c =
    if_ok_three c.new_gateway.result
    (λ p stands none times. resumes_anew (text_in c.args.opening.file) (option_map_or (λ j. j.timeline) p.journal None)
    p.config p.core.state p.reached (c.in-Ok.ensures.empty c.in_default.is)
    (no_times (λ j. j.timeline) p.journal times) stands none)
    c.new_gateway.ensures.start c.new_gateway.ensures.reached c.new_gateway.ensures.times

pub returns-clause-chosen : goal.returns-clause-chosen
returns-clause-chosen g c =
    agreed_chosen (text_in c.args.opening.file) c.args.requested.draws c.args.requested.service.now.given c.args.requested.config
    c.in-Some.history.config (rw c.in-Some.is at c.in-Ok.ensures.lines refl)
    (rw c.in-Some.is at c.in-Ok.ensures.agrees) (rw c.in-Some.is at c.in-Ok.ensures.titled)
    (rw c.in-Some.is at c.in-Ok.ensures.sealed refl)
