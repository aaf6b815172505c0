-- The first fault in a command's descriptors, in text order (RFC 3525, section 7.1).
use Rattle.std.specs.Prelude.{ℕ, Bool, true, false, ◌&&◌, ◌==◌, List, [], Option, Some, None}
use Rattle.std.specs.Prelude.{if◌then◌else◌}
use Rattle.std.specs.List.{list_any}
use Rattle.mg_words.specs.declared.error_number.ErrorNumber.{ErrorNumber}
use Rattle.mg_words.specs.declared.error_number.ErrorNumber.TheVariants.{DescriptorTwice}
use Rattle.mg_words.specs.declared.error_number.ErrorNumber.TheVariants.{DescriptorNotServed}
use Rattle.mg_text.specs.declared.descriptor.OtherWord.{OtherWord}
use Rattle.mg_text.specs.declared.descriptor.OtherWord.TheVariants as others
use Rattle.mg_text.specs.declared.descriptor.Descriptor.{Descriptor}
use Rattle.mg_text.specs.declared.media.ControlPart.{ControlPart}
use Rattle.mg_text.specs.declared.media.ControlPart.TheVariants as controls
use Rattle.mg_commands.specs.declared.part.Part.{Part}
use Rattle.mg_commands.specs.declared.part.Part.TheVariants as parts
use Rattle.mg_commands.specs.Part.{parts_of}
use Rattle.mg_commands.specs.Search.{first_of, first_after}
use Rattle.mg_commands.specs.Support.{is_unserved, is_jitter, property_fault}

abbrev pub same_other_word : OtherWord → OtherWord → Bool
same_other_word others.Signals others.Signals = true
same_other_word others.Events others.Events = true
same_other_word others.Modem others.Modem = true
same_other_word others.Mux others.Mux = true
same_other_word others.DigitMap others.DigitMap = true
same_other_word others.EventBuffer others.EventBuffer = true
same_other_word _ _ = false

-- Whether one part of a LocalControl repeats another. Of the named properties, only `nt/jit` must not be repeated.
abbrev pub same_control : List ℕ → ControlPart → ControlPart → Bool
same_control source (controls.Mode a) (controls.Mode b) = true
same_control source (controls.ReservedValue a) (controls.ReservedValue b) = true
same_control source (controls.ReservedGroup a) (controls.ReservedGroup b) = true
same_control source (controls.Property a v) (controls.Property b w) =
    is_jitter source a && is_jitter source b
same_control source _ _ = false

-- Whether one part repeats another. A word of a stream counts only within its stream. Stream and the words of an Audit
-- may be repeated.
abbrev pub is_same_part : List ℕ → Part → Part → Bool
is_same_part source parts.Media parts.Media = true
is_same_part source parts.Audit parts.Audit = true
is_same_part source (parts.Other a x) (parts.Other b y) = same_other_word a b
is_same_part source (parts.TerminationState x) (parts.TerminationState y) = true
is_same_part source (parts.Local n a) (parts.Local k b) = n == k
is_same_part source (parts.Remote n a) (parts.Remote k b) = n == k
is_same_part source (parts.LocalControl n) (parts.LocalControl k) = n == k
is_same_part source (parts.Control n a) (parts.Control k b) = n == k && same_control source a b
is_same_part source _ _ = false

abbrev pub fault_of : Bool → Part → Option ErrorNumber
fault_of appeared x =
    if appeared then Some DescriptorTwice
    else (if is_unserved x then Some DescriptorNotServed else None)

abbrev pub part_fault : List ℕ → List Part → Part → Option ErrorNumber
part_fault source before x = fault_of (list_any (is_same_part source x) before) x

abbrev pub descriptors_fault : List ℕ → List Descriptor → Option ErrorNumber
descriptors_fault source xs = first_after (part_fault source) [] (parts_of xs)

-- The first fault in a stream's number or in a LocalControl. It counts only if no descriptor is faulty.
abbrev pub properties_fault : List ℕ → List Descriptor → Option ErrorNumber
properties_fault source xs = first_of (property_fault source) (parts_of xs)
