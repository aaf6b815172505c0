-- The parts of a command's descriptors, in text order (RFC 3525, section 7.1).
use Rattle.std.specs.Prelude.{ℕ, List, [], ◌∷◌, map}
use Rattle.std.specs.List.{flat_map}
use Rattle.mg_text.specs.declared.descriptor.Descriptor.{Descriptor}
use Rattle.mg_text.specs.declared.descriptor.Descriptor.TheVariants as descriptors
use Rattle.mg_text.specs.declared.media.StreamPart.{StreamPart}
use Rattle.mg_text.specs.declared.media.StreamPart.TheVariants as streams
use Rattle.mg_text.specs.declared.media.MediaPart.{MediaPart}
use Rattle.mg_text.specs.declared.media.MediaPart.TheVariants as media
use Rattle.mg_commands.specs.declared.part.Part.{Part}
use Rattle.mg_commands.specs.declared.part.Part.TheVariants.{Media, Audit, Audited, Other}
use Rattle.mg_commands.specs.declared.part.Part.TheVariants.{TerminationState, Stream, Local}
use Rattle.mg_commands.specs.declared.part.Part.TheVariants.{Remote, LocalControl, Control}

-- The parts within one part of stream `n`.
abbrev pub stream_parts : ℕ → StreamPart → List Part
stream_parts n (streams.Local text) = Local n text ∷ []
stream_parts n (streams.Remote text) = Remote n text ∷ []
stream_parts n (streams.LocalControl xs) = LocalControl n ∷ map (Control n) xs

-- The parts within one part of a Media descriptor. A part outside a Stream belongs to stream 1.
abbrev pub media_parts : MediaPart → List Part
media_parts (media.Part x) = stream_parts 1 x
media_parts (media.Stream n xs) = Stream n ∷ flat_map (stream_parts n) xs
media_parts (media.TerminationState has_content) = TerminationState has_content ∷ []

abbrev pub descriptor_parts : Descriptor → List Part
descriptor_parts (descriptors.Media xs) = Media ∷ flat_map media_parts xs
descriptor_parts (descriptors.Audit xs) = Audit ∷ map Audited xs
descriptor_parts (descriptors.Other word has_content) = Other word has_content ∷ []

abbrev pub parts_of : List Descriptor → List Part
parts_of xs = flat_map descriptor_parts xs
