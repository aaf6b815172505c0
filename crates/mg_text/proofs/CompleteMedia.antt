-- The parser accepts each Media descriptor that is in the grammar.
use Rattle.std.proofs.Common.{◌≡◌, ℕ, Bool, true, false, List, Option, Some, None, Ok, refl, ◌∙◌}
use Rattle.mg_scan.specs.declared.kind.TokenKind.TheVariants.{Equals, Octets}
use Rattle.mg_scan.specs.declared.span.Span.{Span}
use Rattle.mg_scan.specs.declared.token.Token.{Token}
use Rattle.mg_scan.specs.Span.{text_of}
use Rattle.mg_words.specs.Numbers.{number_of}
use Rattle.mg_text.specs.declared.keyword.Keyword.{Keyword}
use Rattle.mg_text.specs.declared.keyword.Keyword.TheVariants as keywords
use Rattle.mg_text.specs.declared.media.PropertyValue.{PropertyValue}
use Rattle.mg_text.specs.declared.media.PropertyValue.TheVariants as values
use Rattle.mg_text.specs.declared.media.ControlPart.{ControlPart}
use Rattle.mg_text.specs.declared.media.ControlPart.TheVariants as controls
use Rattle.mg_text.specs.declared.media.StreamPart.{StreamPart}
use Rattle.mg_text.specs.declared.media.StreamPart.TheVariants as streams
use Rattle.mg_text.specs.declared.media.MediaPart.{MediaPart}
use Rattle.mg_text.specs.declared.media.MediaPart.TheVariants as parts
use Rattle.mg_text.specs.Keyword.{forms_of, keyword_of}
use Rattle.mg_text.specs.Words.{by_keyword, switch_of}
use Rattle.mg_text.specs.aids.Words.{mode_named}
use Rattle.mg_scan.specs.aids.Marks.{after_mark}
use Rattle.mg_text.specs.aids.Media.{value_at, optional_value_at, switched_at, mode_part_at, package_part_at, control_named, control_at, stream_part_at, numbered_at, media_part_at}
use Rattle.mg_text.specs.Grammar.{IsOptionalAssigned, IsValue, has_slash, IsControlPart, IsStreamPart, IsMediaPart}
use Rattle.mg_text.proofs.KeywordLemmas.{no_slash}
use Rattle.mg_text.proofs.Complete.{Stops, mark_read, after_read, span_read, word_read, worded_read, inside_read, filled_read, braced_read}
use Rattle.mg_text.proofs.Shorter.{by_count, control_shorter, stream_part_shorter}
use Rattle.mg_text.proofs.WordLemmas.{mode_means}

value_read : (source : List ℕ) (v : PropertyValue) (ts rest : List Token) → IsValue v ts rest →
    value_at source ts ≡ Ok (v, rest)
unfolding value_at
value_read source (values.Word w) ts rest m = rw m refl
value_read source (values.Quoted w) ts rest m = rw m refl
value_read source values.Group ts rest m = rw (m.1.1, inside_read source ts rest m) refl

optional_value_read : (source : List ℕ) (o : Option PropertyValue) (ts rest : List Token) →
    after_mark Equals rest ≡ None → IsOptionalAssigned IsValue o ts rest → optional_value_at source ts ≡ Ok (o, rest)
unfolding optional_value_at
optional_value_read source None ts rest stops m = rw (m, stops) refl
optional_value_read source (Some v) ts rest stops m =
    rw (after_read Equals ts m.0 m.1, value_read source v m.0 rest m.2) refl

-- Whether a keyword is MODE, RESERVEDVALUE or RESERVEDGROUP.
abbrev is_control : Option Keyword → Bool
is_control (Some keywords.Mode) = true
is_control (Some keywords.ReservedValue) = true
is_control (Some keywords.ReservedGroup) = true
is_control _ = false

-- A word with a slash is none of these three keywords.
slash_apart : (text : List ℕ) (k : Option Keyword) → keyword_of text ≡ k → has_slash text ≡ true → is_control k ≡ false
unfolding forms_of
slash_apart text (Some keywords.Mode) e h = absurd (no_slash text keywords.Mode e refl refl h)
slash_apart text (Some keywords.ReservedValue) e h = absurd (no_slash text keywords.ReservedValue e refl refl h)
slash_apart text (Some keywords.ReservedGroup) e h = absurd (no_slash text keywords.ReservedGroup e refl refl h)
slash_apart text _ e h = refl

package_named : (source : List ℕ) (k : Option Keyword) (w : Span) (ts : List Token) → is_control k ≡ false →
    control_named source k w ts ≡ package_part_at source w ts
package_named source (Some keywords.Mode) w ts e = absurd cc
package_named source (Some keywords.ReservedValue) w ts e = absurd cc
package_named source (Some keywords.ReservedGroup) w ts e = absurd cc
package_named source _ w ts e = refl

package_read : (source : List ℕ) (w : Span) (o : Option PropertyValue) (ts rest : List Token) →
    has_slash (text_of source w) ≡ true → after_mark Equals rest ≡ None → IsOptionalAssigned IsValue o ts rest →
    package_part_at source w ts ≡ Ok (controls.Property w o, rest)
unfolding package_part_at
package_read source w o ts rest slash stops m = rw (slash, optional_value_read source o ts rest stops m) refl

control_read : (source : List ℕ) (ts : List Token) (x : ControlPart) (rest : List Token) → Stops rest →
    IsControlPart source x ts rest → control_at source ts ≡ Ok (x, rest)
unfolding control_at mode_part_at switched_at
control_read source ts (controls.Mode mode) rest stops m =
    rw (
      word_read source m.1.0 ts m.0 m.1.2,
      m.1.1,
      mark_read source Equals m.0 m.2.0 m.2.1,
      worded_read (by_keyword mode_named) source mode m.2.0 rest (mode_means source mode m.2.0 rest m.2.2),
    ) refl
control_read source ts (controls.ReservedValue on) rest stops m =
    rw (
      word_read source m.1.0 ts m.0 m.1.2,
      m.1.1,
      mark_read source Equals m.0 m.2.0 m.2.1,
      worded_read switch_of source on m.2.0 rest m.2.2,
    ) refl
control_read source ts (controls.ReservedGroup on) rest stops m =
    rw (
      word_read source m.1.0 ts m.0 m.1.2,
      m.1.1,
      mark_read source Equals m.0 m.2.0 m.2.1,
      worded_read switch_of source on m.2.0 rest m.2.2,
    ) refl
control_read source ts (controls.Property w o) rest stops m =
    let apart = slash_apart (text_of source w) (keyword_of (text_of source w)) refl m.1.0 in
    rw (word_read source w ts m.0 m.1.1) (package_named source (keyword_of (text_of source w)) w m.0 apart ∙
    package_read source w o m.0 rest m.1.0 stops.equals m.2)

pub stream_part_read : (source : List ℕ) (ts : List Token) (x : StreamPart) (rest : List Token) → Stops rest →
    IsStreamPart source x ts rest → stream_part_at source ts ≡ Ok (x, rest)
unfolding stream_part_at
stream_part_read source ts (streams.Local w) rest stops m =
    rw (worded_read keyword_of source keywords.Local ts m.0 m.1, span_read source Octets w m.0 rest m.2) refl
stream_part_read source ts (streams.Remote w) rest stops m =
    rw (worded_read keyword_of source keywords.Remote ts m.0 m.1, span_read source Octets w m.0 rest m.2) refl
stream_part_read source ts (streams.LocalControl xs) rest stops m =
    rw (
      worded_read keyword_of source keywords.LocalControl ts m.0 m.1,
      braced_read source (control_at source) (IsControlPart source) (control_read source)
          (control_shorter by_count source) xs m.0 rest m.2,
    ) refl

-- A part of a stream is parsed as a part of a Media descriptor.
media_part_of : (source : List ℕ) (ts : List Token) (x : StreamPart) (rest : List Token) → Stops rest →
    IsStreamPart source x ts rest → media_part_at source ts ≡ Ok (parts.Part x, rest)
unfolding media_part_at
media_part_of source ts (streams.Local w) rest stops m =
    rw (
      worded_read keyword_of source keywords.Local ts m.0 m.1,
      stream_part_read source ts (streams.Local w) rest stops m,
    ) refl
media_part_of source ts (streams.Remote w) rest stops m =
    rw (
      worded_read keyword_of source keywords.Remote ts m.0 m.1,
      stream_part_read source ts (streams.Remote w) rest stops m,
    ) refl
media_part_of source ts (streams.LocalControl xs) rest stops m =
    rw (
      worded_read keyword_of source keywords.LocalControl ts m.0 m.1,
      stream_part_read source ts (streams.LocalControl xs) rest stops m,
    ) refl

pub media_part_read : (source : List ℕ) (ts : List Token) (x : MediaPart) (rest : List Token) → Stops rest →
    IsMediaPart source x ts rest → media_part_at source ts ≡ Ok (x, rest)
unfolding media_part_at numbered_at
media_part_read source ts (parts.Part x) rest stops m = media_part_of source ts x rest stops m
media_part_read source ts (parts.Stream number xs) rest stops m =
    rw (
      worded_read keyword_of source keywords.Stream ts m.0 m.1,
      mark_read source Equals m.0 m.2.0 m.2.1,
      worded_read number_of source number m.2.0 m.2.2.0 m.2.2.1,
      braced_read source (stream_part_at source) (IsStreamPart source) (stream_part_read source)
          (stream_part_shorter by_count source) xs m.2.2.0 rest m.2.2.2,
    ) refl
media_part_read source ts (parts.TerminationState b) rest stops m =
    rw (
      worded_read keyword_of source keywords.TerminationState ts m.0 m.1,
      filled_read source b m.0 rest stops.«open» m.2,
    ) refl
