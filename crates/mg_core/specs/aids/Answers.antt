-- Names for parts of an answer, used in proofs.
use Rattle.std.specs.Prelude.{ℕ, List, Option}
use Rattle.std.specs.Option.{option_map_or}
use Rattle.mg_text.specs.declared.request.Request.{Request}
use Rattle.mg_commands.specs.Transaction.{replied}
use Rattle.mg_core.specs.World.{World}
use Rattle.mg_core.specs.Answer.{run_and_kept}

-- The reply to a request, and the world after it, given the request's kept reply, or `None` if no reply is kept.
abbrev pub unless_kept : Option (List ℕ) → List ℕ → List ℕ → Request → World → List ℕ × World
unless_kept kept source sender request w =
    option_map_or (λ text. (text, w)) kept
    (run_and_kept sender request.number w (replied source request w.gateway))
