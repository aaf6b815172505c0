-- The first fault in descriptors. Like the code, this search goes level by level: a part is compared with earlier parts
-- at its own level.
use Rattle.std.specs.Prelude.{ℕ, Bool, false, ◌&&◌, ◌||◌, ◌==◌, List, [], ◌∷◌, Option, true, max}
use Rattle.std.specs.List.{list_any}
use Rattle.mg_words.specs.declared.error_number.ErrorNumber.{ErrorNumber}
use Rattle.mg_text.specs.declared.descriptor.Descriptor.{Descriptor}
use Rattle.mg_text.specs.declared.media.ControlPart.{ControlPart}
use Rattle.mg_text.specs.declared.media.ControlPart.TheVariants as controls
use Rattle.mg_text.specs.declared.media.StreamPart.{StreamPart}
use Rattle.mg_text.specs.declared.media.MediaPart.{MediaPart}
use Rattle.mg_text.specs.declared.media.MediaPart.TheVariants as media
use Rattle.mg_commands.specs.declared.part.Part.{Part}
use Rattle.mg_commands.specs.declared.part.Part.TheVariants as parts
use Rattle.mg_commands.specs.DescriptorFault.{same_control, is_same_part, fault_of}
use Rattle.std.specs.Option.{option_or}
use Rattle.mg_commands.specs.Search.{first_after}
use Rattle.mg_commands.specs.Support.{is_jitter}
use Rattle.mg_commands.specs.aids.Words.{stream_word, controls_within, descriptor_word}
use Rattle.mg_commands.specs.aids.Words.{media_within}

-- Whether a part of a LocalControl must not be repeated.
abbrev pub is_single : List ℕ → ControlPart → Bool
is_single source (controls.Mode mode) = true
is_single source (controls.ReservedValue is_on) = true
is_single source (controls.ReservedGroup is_on) = true
is_single source (controls.Property name value) = is_jitter source name

abbrev pub control_level : List ℕ → ℕ → List ControlPart → ControlPart → Option ErrorNumber
control_level source n before x =
    fault_of (list_any (same_control source x) before) (parts.Control n x)

abbrev pub is_same_word : List ℕ → Part → ℕ → StreamPart → Bool
is_same_word source x n y = is_same_part source x (stream_word n y)

-- Whether a part of stream `n` occurs in a part of a Media descriptor.
abbrev pub appears_in : List ℕ → Part → ℕ → MediaPart → Bool
appears_in source x n (media.Part y) = n == 1 && is_same_word source x 1 y
appears_in source x n (media.Stream k ys) = n == k && list_any (is_same_word source x k) ys
appears_in source x n (media.TerminationState has_content) = false

abbrev pub appeared_in_media : List ℕ → List MediaPart → ℕ → List StreamPart → Part → Bool
appeared_in_media source parts n before x =
    list_any (appears_in source x n) parts || list_any (is_same_word source x n) before

abbrev pub stream_level : List ℕ → List MediaPart → ℕ → List StreamPart → StreamPart
    → Option ErrorNumber
stream_level source parts n before x =
    option_or
    (fault_of (appeared_in_media source parts n before (stream_word n x)) (stream_word n x))
    (first_after (control_level source n) [] (controls_within x))

abbrev pub is_state : MediaPart → Bool
is_state (media.Part x) = false
is_state (media.Stream n xs) = false
is_state (media.TerminationState has_content) = true

abbrev pub media_level : List ℕ → List MediaPart → MediaPart → Option ErrorNumber
media_level source before (media.Part x) = stream_level source before 1 [] x
media_level source before (media.Stream n xs) = first_after (stream_level source before n) [] xs
media_level source before (media.TerminationState has_content) =
    fault_of (list_any is_state before) (parts.TerminationState has_content)

-- The stream that a part of a Media descriptor belongs to, or 0 if the part belongs to no stream.
abbrev pub stream_of : MediaPart → ℕ
stream_of (media.Part x) = 1
stream_of (media.Stream n xs) = n
stream_of (media.TerminationState has_content) = 0

-- The largest stream number of the parts, or 0 if no part belongs to a stream.
abbrev pub greatest_stream : List MediaPart → ℕ
greatest_stream [] = 0
greatest_stream (x ∷ xs) = max (stream_of x) (greatest_stream xs)

abbrev pub is_same_descriptor : List ℕ → Part → Descriptor → Bool
is_same_descriptor source x y = is_same_part source x (descriptor_word y)

abbrev pub descriptor_level : List ℕ → List Descriptor → Descriptor → Option ErrorNumber
descriptor_level source before x =
    option_or (fault_of (list_any (is_same_descriptor source (descriptor_word x)) before)
    (descriptor_word x)) (first_after (media_level source) [] (media_within x))
