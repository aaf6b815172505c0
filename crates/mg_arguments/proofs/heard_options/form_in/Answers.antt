use Rattle.std.proofs.Common.{◌∙◌, Ok, ap, sym}
use Rattle.clap.specs.Words.{found_of, rows_of}
use Rattle.mg_heard.specs.declared.format.Format.{Format}
use Rattle.mg_arguments.proofs.HeardOptionLemmas.{form_is, form_is_page, refuses_form, refuses_page}
use Rattle.mg_arguments.proofs.InvocationLemmas.{at_error}
use Rattle.mg_arguments.proofs.heard_options.form_in.Goals as goal

pub returns-then-reshapes_page-clause-refused : goal.returns-then-reshapes_page-clause-refused
returns-then-reshapes_page-clause-refused c =
    refuses_page (rows_of (found_of c.args.matches.now)) (sym c.is_set.ensures.value ∙ c.if-is_set.true)
    (sym c.reshapes_page.ensures.value ∙ c.if-reshapes_page.true)

pub returns-then-is_set-clause-value : goal.returns-then-is_set-clause-value
returns-then-is_set-clause-value c =
    form_is_page (rows_of (found_of c.args.matches.now)) (sym c.is_set.ensures.value ∙ c.if-is_set.true)
    (sym c.reshapes_page.ensures.value ∙ c.if-reshapes_page.false)

pub returns-in_err-format-clause-refused : goal.returns-in_err-format-clause-refused
returns-in_err-format-clause-refused c =
    at_error c.from_residual.result
    (refuses_form (rows_of (found_of c.args.matches.now)) (sym c.is_set.ensures.value ∙ c.if-is_set.false)
    c.in_err-format.ensures.refused)

pub returns-clause-value : goal.returns-clause-value
returns-clause-value c =
    form_is (rows_of (found_of c.args.matches.now)) c.in_ok-format.format
    (sym c.is_set.ensures.value ∙ c.if-is_set.false) c.in_ok-format.ensures.value
    ∙ ap (λ (f : Format). Ok f) (sym c.unwrap_or.ensures)
