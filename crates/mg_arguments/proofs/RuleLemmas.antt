-- The run for the rules on the command line.
use Rattle.std.proofs.Common.{◌≡◌, ◌∙◌, Bool, true, false, List, [], ◌∷◌, Option, Result, Ok, Err, ap, codes, sym}
use Rattle.std.specs.Prelude.{if◌then◌else◌}
use Rattle.clap.specs.Walk.{Row, Text}
use Rattle.clap.specs.Kinds.{Kinds}
use Rattle.clap.specs.declared.error.kind.ErrorKind.TheVariants.{ValueValidation}
use Rattle.mg_words.specs.ResultSteps.{◌>>=◌}
use Rattle.mg_heard.specs.declared.asked_rule.AskedRule.{AskedRule}
use Rattle.mg_service.specs.declared.file_path_fault.FilePathFault.{FilePathFault}
use Rattle.mg_arguments.specs.declared.invocation.Invocation.{Invocation}
use Rattle.mg_arguments.specs.declared.invocation.Invocation.TheVariants.{Watch}
use Rattle.mg_arguments.specs.declared.printing.Printing.{Printing}
use Rattle.mg_arguments.specs.declared.rule_fault.RuleFault.{RuleFault}
use Rattle.mg_service.specs.FilePath.{file_path}
use Rattle.mg_arguments.specs.Options.{later_in, named_by, printing_in, rules_in, selects_part, valid, watch_in}
use Rattle.mg_arguments.specs.aids.Options.{PathsAre, Refuses}
use Rattle.mg_arguments.specs.declared.option_fault.OptionFault.{OptionFault}
use Rattle.mg_arguments.specs.declared.option_fault.OptionFault.TheVariants.{Invalid, NoMemory}
use Rattle.mg_arguments.proofs.HeardOptionLemmas.{ends, goes_on}

abbrev answer : Bool → List AskedRule → Printing → Option Text → List Text → Result Invocation Kinds
answer part rules printing file later = if part then Err (ValueValidation ∷ []) else Ok (Watch (record {
  file = file;
  later = later;
  printing = printing;
  rules = rules;
}))

abbrev with_file : List Row → List AskedRule → Printing → Option Text → Result Invocation Kinds
with_file rows rules printing file = valid (later_in rows) >>= answer (selects_part rows) rules printing file

abbrev with_printing : List Row → List AskedRule → Printing → Result Invocation Kinds
with_printing rows rules printing = valid (named_by file_path (codes "file") rows) >>= with_file rows rules printing

abbrev with_rules : List Row → List AskedRule → Result Invocation Kinds
with_rules rows rules = printing_in rows >>= with_printing rows rules

at_rules : (rows : List Row) (rules : List AskedRule) → Ok rules ≡ rules_in rows → watch_in rows ≡ with_rules rows rules
at_rules rows rules is =
    goes_on rules (valid (rules_in rows)) (with_rules rows) (ap (λ (r : Result (List AskedRule) RuleFault). valid r) (sym is))

at_printing : (rows : List Row) (rules : List AskedRule) (printing : Printing) → Ok rules ≡ rules_in rows →
    printing_in rows ≡ Ok printing → watch_in rows ≡ with_printing rows rules printing
at_printing rows rules printing is formed =
    at_rules rows rules is ∙ goes_on printing (printing_in rows) (with_printing rows rules) formed

at_file : (rows : List Row) (rules : List AskedRule) (printing : Printing) (file : Option Text) →
    Ok rules ≡ rules_in rows → printing_in rows ≡ Ok printing →
    Ok file ≡ named_by file_path (codes "file") rows → watch_in rows ≡ with_file rows rules printing file
at_file rows rules printing file is formed named =
    at_printing rows rules printing is formed ∙ goes_on file (valid (named_by file_path (codes "file") rows))
    (with_file rows rules printing) (ap (λ (r : Result (Option Text) FilePathFault). valid r) (sym named))

at_later : (rows : List Row) (rules : List AskedRule) (printing : Printing) (file : Option Text) (later : List Text) →
    Ok rules ≡ rules_in rows → printing_in rows ≡ Ok printing →
    Ok file ≡ named_by file_path (codes "file") rows → later_in rows ≡ Ok later →
    watch_in rows ≡ answer (selects_part rows) rules printing file later
at_later rows rules printing file later is formed named others =
    at_file rows rules printing file is formed named ∙ goes_on later (valid (later_in rows))
    (answer (selects_part rows) rules printing file) (ap (λ (r : Result (List Text) FilePathFault). valid r) others)

pub watch_is : (rows : List Row) (rules : List AskedRule) (printing : Printing) (file : Option Text) (later : List Text) →
    Ok rules ≡ rules_in rows → printing_in rows ≡ Ok printing →
    Ok file ≡ named_by file_path (codes "file") rows → later_in rows ≡ Ok later → selects_part rows ≡ false →
    watch_in rows ≡ Ok (Watch (record { file = file; later = later; printing = printing; rules = rules }))
watch_is rows rules printing file later is formed named others whole =
    at_later rows rules printing file later is formed named others
    ∙ ap (λ (b : Bool). answer b rules printing file later) whole

pub refuses_part : (rows : List Row) (rules : List AskedRule) (printing : Printing) (file : Option Text)
    (later : List Text) → Ok rules ≡ rules_in rows → printing_in rows ≡ Ok printing →
    Ok file ≡ named_by file_path (codes "file") rows → later_in rows ≡ Ok later → selects_part rows ≡ true →
    watch_in rows ≡ Err (ValueValidation ∷ [])
refuses_part rows rules printing file later is formed named others part =
    at_later rows rules printing file later is formed named others
    ∙ ap (λ (b : Bool). answer b rules printing file later) part

-- The paths of the later files can't be used, or memory ran out.
pub refuses_later_of : (rows : List Row) (rules : List AskedRule) (printing : Printing) (file : Option Text)
    (fault : OptionFault) → Ok rules ≡ rules_in rows → printing_in rows ≡ Ok printing →
    Ok file ≡ named_by file_path (codes "file") rows → PathsAre (later_in rows) (Err fault) →
    Refuses fault (watch_in rows)
refuses_later_of rows rules printing file NoMemory is formed named none = tt
refuses_later_of rows rules printing file (Invalid message) is formed named (fault, none) =
    at_file rows rules printing file is formed named
    ∙ ends (ValueValidation ∷ []) (valid (later_in rows)) (answer (selects_part rows) rules printing file)
    (ap (λ (r : Result (List Text) FilePathFault). valid r) none)

pub refuses_rules : (rows : List Row) (fault : RuleFault) → Err fault ≡ rules_in rows →
    watch_in rows ≡ Err (ValueValidation ∷ [])
refuses_rules rows fault none = ends (ValueValidation ∷ []) (valid (rules_in rows)) (with_rules rows)
    (ap (λ (r : Result (List AskedRule) RuleFault). valid r) (sym none))

pub refuses_printing_of : (rows : List Row) (rules : List AskedRule) → Ok rules ≡ rules_in rows →
    printing_in rows ≡ Err (ValueValidation ∷ []) → watch_in rows ≡ Err (ValueValidation ∷ [])
refuses_printing_of rows rules is none =
    at_rules rows rules is ∙
    ends (ValueValidation ∷ []) (printing_in rows) (with_printing rows rules) none

pub refuses_file_of : (rows : List Row) (rules : List AskedRule) (printing : Printing) (fault : FilePathFault) →
    Ok rules ≡ rules_in rows → printing_in rows ≡ Ok printing →
    Err fault ≡ named_by file_path (codes "file") rows → watch_in rows ≡ Err (ValueValidation ∷ [])
refuses_file_of rows rules printing fault is formed none =
    at_printing rows rules printing is formed ∙
    ends (ValueValidation ∷ []) (valid (named_by file_path (codes "file") rows)) (with_file rows rules printing)
    (ap (λ (r : Result (Option Text) FilePathFault). valid r) (sym none))
