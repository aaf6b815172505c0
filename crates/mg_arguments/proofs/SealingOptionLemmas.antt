-- The request that the arguments of `mg_bridge verify` make.
use Rattle.std.proofs.Common.{◌≡◌, List, [], ◌∷◌, Option, Result, Ok, Err, refl, sym, ap, ◌∙◌, codes}
use Rattle.clap.specs.Walk.{Row, Text}
use Rattle.clap.specs.Kinds.{Kinds}
use Rattle.clap.specs.declared.error.kind.ErrorKind.TheVariants.{ValueValidation}
use Rattle.mg_words.specs.ResultSteps.{◌>>=◌}
use Rattle.mg_service.specs.declared.file_path_fault.FilePathFault.{FilePathFault}
use Rattle.mg_arguments.specs.declared.invocation.Invocation.{Invocation}
use Rattle.mg_arguments.specs.declared.invocation.Invocation.TheVariants.{Verify}
use Rattle.mg_arguments.specs.declared.option_fault.OptionFault.{OptionFault}
use Rattle.mg_arguments.specs.declared.option_fault.OptionFault.TheVariants.{Invalid, NoMemory}
use Rattle.mg_service.specs.FilePath.{file_path}
use Rattle.mg_arguments.specs.Options.{later_in, named_by, valid, verify_in}
use Rattle.mg_arguments.specs.aids.Options.{PathsAre, Refuses}

abbrev with_later : Option Text → Result (List Text) FilePathFault → Result Invocation Kinds
with_later file later = valid later >>= λ paths. Ok (Verify file paths)

abbrev check : List Row → Result (Option Text) FilePathFault → Result Invocation Kinds
check rows named = valid named >>= λ file. with_later file (later_in rows)

pub verify_is : (rows : List Row) (file : Option Text) (later : List Text)
    → Ok file ≡ named_by file_path (codes "file") rows → later_in rows ≡ Ok later → verify_in rows ≡ Ok (Verify file later)
verify_is rows file later named others = ap (check rows) (sym named) ∙ ap (with_later file) others

-- The path of the file can't be used.
pub refuses_file : (rows : List Row) (fault : FilePathFault) → Err fault ≡ named_by file_path (codes "file") rows
    → verify_in rows ≡ Err (ValueValidation ∷ [])
refuses_file rows fault named = ap (check rows) (sym named)

-- The paths of the later files can't be used, or memory ran out.
pub refuses_later : (rows : List Row) (file : Option Text) (fault : OptionFault)
    → Ok file ≡ named_by file_path (codes "file") rows → PathsAre (later_in rows) (Err fault)
    → Refuses fault (verify_in rows)
refuses_later rows file NoMemory named none = tt
refuses_later rows file (Invalid message) named (fault, none) =
    ap (check rows) (sym named) ∙ ap (with_later file) none
