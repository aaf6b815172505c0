-- The supported commands, descriptors and properties. Which ones are supported is this project's choice.
use Rattle.std.specs.Prelude.{ℕ, Bool, true, false, ◌==◌, ◌&&◌, List, Option, Some, None, codes}
use Rattle.std.specs.Prelude.{is_some, if◌then◌else◌}
use Rattle.std.specs.Str.{str_eq_ignore_ascii_case}
use Rattle.mg_scan.specs.declared.span.Span.{Span}
use Rattle.mg_scan.specs.Span.{text_of}
use Rattle.mg_words.specs.Numbers.{uint16_of}
use Rattle.mg_words.specs.declared.command_word.CommandWord.{CommandWord}
use Rattle.mg_words.specs.declared.command_word.CommandWord.TheVariants as words
use Rattle.mg_words.specs.declared.error_number.ErrorNumber.{ErrorNumber}
use Rattle.mg_words.specs.declared.error_number.ErrorNumber.TheVariants.{NotServed}
use Rattle.mg_words.specs.declared.error_number.ErrorNumber.TheVariants.{PropertyNotServed}
use Rattle.mg_text.specs.declared.media.PropertyValue.{PropertyValue}
use Rattle.mg_text.specs.declared.media.PropertyValue.TheVariants as values
use Rattle.mg_text.specs.declared.media.ControlPart.{ControlPart}
use Rattle.mg_text.specs.declared.media.ControlPart.TheVariants as controls
use Rattle.mg_commands.specs.declared.part.Part.{Part}
use Rattle.mg_commands.specs.declared.part.Part.TheVariants as parts

-- ## Commands

abbrev pub is_served_word : CommandWord → Bool
is_served_word words.Add = true
is_served_word words.Modify = true
is_served_word words.Move = true
is_served_word words.Subtract = true
is_served_word words.AuditValue = true
is_served_word _ = false

-- Whether a command may name all members of its context: a Modify, Subtract or AuditValue may.
abbrev pub takes_all : CommandWord → Bool
takes_all words.Modify = true
takes_all words.Subtract = true
takes_all words.AuditValue = true
takes_all _ = false

-- ## Descriptors

-- Whether a part is an unsupported descriptor with content. Without content, such a descriptor is accepted.
abbrev pub is_unserved : Part → Bool
is_unserved (parts.Other word has_content) = has_content
is_unserved (parts.TerminationState has_content) = has_content
is_unserved _ = false

-- ## Streams and properties

-- Whether a property is `nt/jit`, the only supported property. Case is ignored.
unfoldable pub is_jitter : List ℕ → Span → Bool
is_jitter source name = str_eq_ignore_ascii_case (text_of source name) (codes "nt/jit")

-- The value of `nt/jit` in milliseconds: a word that is a number of one to five digits, at most 65535.
abbrev pub jitter_of : List ℕ → Option PropertyValue → Option ℕ
jitter_of source (Some (values.Word word)) = uint16_of (text_of source word)
jitter_of source _ = None

-- The fault in a part of a LocalControl: a reservation that is on, an unsupported property, or a value that is not
-- allowed.
abbrev pub control_fault : List ℕ → ControlPart → Option ErrorNumber
control_fault source (controls.Mode mode) = None
control_fault source (controls.ReservedValue is_on) = if is_on then Some NotServed else None
control_fault source (controls.ReservedGroup is_on) = if is_on then Some NotServed else None
control_fault source (controls.Property name value) =
    if is_jitter source name && is_some (jitter_of source value) then None
    else Some PropertyNotServed

-- The fault in a part: a stream other than 1, or a fault in a LocalControl.
abbrev pub property_fault : List ℕ → Part → Option ErrorNumber
property_fault source (parts.Stream n) = if n == 1 then None else Some NotServed
property_fault source (parts.Control n x) = control_fault source x
property_fault source _ = None
