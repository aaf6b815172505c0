-- A part of a descriptor, split into its keyword and its content.
use Rattle.std.specs.Prelude.{ℕ, List, []}
use Rattle.mg_text.specs.declared.descriptor.AuditWord.{AuditWord}
use Rattle.mg_text.specs.declared.descriptor.Descriptor.{Descriptor}
use Rattle.mg_text.specs.declared.descriptor.Descriptor.TheVariants as descriptors
use Rattle.mg_text.specs.declared.media.ControlPart.{ControlPart}
use Rattle.mg_text.specs.declared.media.StreamPart.{StreamPart}
use Rattle.mg_text.specs.declared.media.StreamPart.TheVariants as streams
use Rattle.mg_text.specs.declared.media.MediaPart.{MediaPart}
use Rattle.mg_commands.specs.declared.part.Part.{Part}
use Rattle.mg_commands.specs.declared.part.Part.TheVariants as parts

abbrev pub stream_word : ℕ → StreamPart → Part
stream_word n (streams.Local text) = parts.Local n text
stream_word n (streams.Remote text) = parts.Remote n text
stream_word n (streams.LocalControl xs) = parts.LocalControl n

abbrev pub controls_within : StreamPart → List ControlPart
controls_within (streams.Local text) = []
controls_within (streams.Remote text) = []
controls_within (streams.LocalControl xs) = xs

abbrev pub descriptor_word : Descriptor → Part
descriptor_word (descriptors.Media xs) = parts.Media
descriptor_word (descriptors.Audit xs) = parts.Audit
descriptor_word (descriptors.Other word has_content) = parts.Other word has_content

abbrev pub media_within : Descriptor → List MediaPart
media_within (descriptors.Media xs) = xs
media_within (descriptors.Audit xs) = []
media_within (descriptors.Other word has_content) = []

abbrev pub audit_words_within : Descriptor → List AuditWord
audit_words_within (descriptors.Media xs) = []
audit_words_within (descriptors.Audit xs) = xs
audit_words_within (descriptors.Other word has_content) = []
