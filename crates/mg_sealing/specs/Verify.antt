-- The effect of `mg_bridge verify`.
use Rattle.std.specs.Prelude.{◌≡◌, ℕ, List, Option, Some, IfSome}
use Rattle.std.specs.Io.KnownBytes.{Appends}
use Rattle.mg_chain.specs.declared.seals.Seals.{Seals}
use Rattle.mg_chain.specs.declared.linked.Linked.{Linked}
use Rattle.mg_chain.specs.Seals.{IsLinked, seals_of}
use Rattle.mg_options.specs.declared.status.Status.{Status}
use Rattle.mg_sealing.specs.Report.{answer, is_next, next_answer, next_report, report}

-- The text was read to its end, and the report and the exit status agree with its seals.
pub record IsVerified (text old new : Option (List ℕ)) (status : Status) : Type 0 where
  pub seals : Seals
  pub are : IfSome text (λ t. seals ≡ seals_of t)
  pub prints : Appends old new (report seals)
  pub answers : status ≡ answer seals.right seals.wrong

-- The same for one of several files, after a file whose next seal would have the end `before`. `after` is the end of this
-- file's next seal.
pub record IsVerifiedNext (before : Option (List ℕ)) (name : List ℕ) (text old new : Option (List ℕ))
    (after : Option (List ℕ)) (status : Status) : Type 0 where
  pub linked : Linked
  pub are : IfSome text (λ t. IsLinked t linked)
  pub prints : Appends old new (next_report name linked (is_next before linked))
  pub ends : after ≡ Some linked.end
  pub answers : status ≡ next_answer linked (is_next before linked)
