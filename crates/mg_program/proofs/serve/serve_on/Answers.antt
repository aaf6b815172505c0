use Rattle.std.proofs.Common.{◌≡◌, ℕ, List, Some, None, ap, ◌∙◌}
use Rattle.std.specs.Prelude.{if◌then◌else◌}
use Rattle.std.specs.Option.{option_map}
use Rattle.mg_service.specs.Title.{title_if}
use Rattle.mg_program.proofs.serve.serve_on.Goals as goal

pub returns-clause-session : goal.returns-clause-session
returns-clause-session g c =
    let records = c.args.gateway.service.now.records in
    let title : option_map (λ text. text.now) c.title.result ≡ title_if records c.args.gateway.config =
    c.title.ensures.value ∙ ap (λ (l : List ℕ). if records then Some l else None) (c.as_slice-2.ensures.value ∙ c.title_of-title.ensures.value) in
    rw (title, c.setup-setup.ensures.value) at c.serve.ensures.session

pub setup-setup-requires : goal.setup-setup-requires
setup-setup-requires g c = record { title = c.as_slice.ensures.value ∙ c.requires.line }
