use Rattle.std.proofs.Common.{◌≡◌, ℕ, List, [], Option, Some, None, IfSome, refl, subst, sym}
use Rattle.std.specs.Option.{option_map_or}
use Rattle.mg_journal.specs.aids.Opened.{text_in}
use Rattle.mg_start.proofs.ResumeLemmas.{if_ok_four, no_times}
use Rattle.mg_start.proofs.StartLemmas.{resumes_anew}
use Rattle.mg_start.proofs.prepared.prepare.Goals as goal

pub returns-in_default-clause-resumed : goal.returns-in_default-clause-resumed
returns-in_default-clause-resumed g c =
    if_ok_four c.new_gateway.result
    (λ p stands file none times. resumes_anew (option_map_or (λ j. text_in j.opening.file) p.journal (Some []))
    (option_map_or (λ j. j.timeline) p.journal None) p.config p.core.state p.reached
    (subst (λ (text : Option (List ℕ)). IfSome text (λ t. t ≡ [])) (sym file) refl)
    (no_times (λ j. j.timeline) p.journal times) stands none)
    c.new_gateway.ensures.start c.new_gateway.ensures.file c.new_gateway.ensures.reached c.new_gateway.ensures.times
