use Rattle.std.proofs.Common.{◌≡◌, ◌∙◌}
use Rattle.mg_options.specs.declared.status.Status.TheVariants.{Done}
use Rattle.mg_hearing.specs.Audible.{IsAudible}
use Rattle.mg_hearing.proofs.AudibleLemmas.{audible_from, audible_from_all}
use Rattle.mg_hearing.proofs.ReadLemmas.{is_told, reads_file, reads_input, told}
use Rattle.mg_hearing.proofs.audibility.audible.Goals as goal

pub returns-in_default-clause-value : goal.returns-in_default-clause-value
returns-in_default-clause-value g c =
    let answer = c.audible_script-answer in
    audible_from _ _ _ _ _ _ _ _ _ _ _ c.in-Ok.ensures.asked (reads_input _ _ _ _ c.in_default.is)
    (λ quiet. quiet ∙ c.in-Ok.ensures.silent)
    (told (λ errors s. (s ≡ Done) × IsAudible c.args.request.now.talker c.in-Ok.question
    (g.R.Read.remaining c.args.input.now) (g.W.Write.contents c.args.output.now)
    (g.W.Write.contents answer.new.output) (errors ≡ c.question_of.new.errors)) answer.result answer.new.errors _ _
    (is_told _ answer.result answer.ensures.value) c.status_or_report.ensures.value)

pub returns-then-not-is_empty-clause-value : goal.returns-then-not-is_empty-clause-value
returns-then-not-is_empty-clause-value g c =
    audible_from_all _ _ c.in-Some.path _ _ _ _ _ _ _ _ c.in-Ok.ensures.asked c.in-Some.is
    (rw c.if-not-is_empty.true at c.is_empty.ensures.value) (λ quiet. quiet ∙ c.in-Ok.ensures.silent)
    c.audible_files.ensures.value

pub returns-in-Ok-open_text-clause-value : goal.returns-in-Ok-open_text-clause-value
returns-in-Ok-open_text-clause-value g c =
    let answer = c.audible_script-answer-in-Ok-open_text in
    audible_from _ _ _ _ _ _ _ _ _ _ _ c.in-Ok.ensures.asked
    (reads_file _ _ c.in-Some.path _ _ _ (g.H.Text.Read.remaining c.in-Ok-open_text.file) c.in-Some.is
    (rw c.if-not-is_empty.false at c.is_empty.ensures.value)
    (rw c.as_str-name.ensures.value at c.in-Ok-open_text.ensures.opened)) (λ quiet. quiet ∙ c.in-Ok.ensures.silent)
    (told (λ errors s. (s ≡ Done) × IsAudible c.args.request.now.talker c.in-Ok.question
    (g.H.Text.Read.remaining c.in-Ok-open_text.file) (g.W.Write.contents c.args.output.now)
    (g.W.Write.contents answer.new.output) (errors ≡ c.question_of.new.errors)) answer.result answer.new.errors _ _
    (is_told _ answer.result answer.ensures.value) c.status_or_report-in-Ok-open_text.ensures.value)
