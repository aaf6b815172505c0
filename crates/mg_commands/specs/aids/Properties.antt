-- The fault in the audit of a context.
use Rattle.std.specs.Prelude.{not, List, Option, Some, if◌then◌else◌}
use Rattle.std.specs.Bool.{then_some}
use Rattle.std.specs.List.{list_any}
use Rattle.mg_words.specs.declared.error_number.ErrorNumber.{ErrorNumber}
use Rattle.mg_words.specs.declared.error_number.ErrorNumber.TheVariants as errors
use Rattle.mg_text.specs.declared.context_property.ContextProperty.{ContextProperty}
use Rattle.mg_text.specs.declared.context_property.ContextWord.{ContextWord}
use Rattle.mg_commands.specs.ContextProperties.{is_context_audit, is_topology_word}

abbrev pub audit_fault : List ContextProperty → List ContextWord → Option ErrorNumber
audit_fault before ws =
    if list_any is_context_audit before then Some errors.DescriptorTwice
    else then_some (list_any (λ w. not (is_topology_word w)) ws) errors.DescriptorNotServed
