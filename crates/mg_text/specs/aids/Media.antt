-- Parsing a Media descriptor and its parts.
use Rattle.std.specs.Prelude.{ℕ, Bool, List, [], ◌∷◌, length, Option, Some, None, Result, Ok, Err}
use Rattle.std.specs.Prelude.{if◌then◌else◌}
use Rattle.mg_scan.specs.declared.kind.TokenKind.{TokenKind}
use Rattle.mg_scan.specs.declared.kind.TokenKind.TheVariants.{Word, Open, Equals, Quoted, Octets}
use Rattle.mg_scan.specs.declared.span.Span.{Span}
use Rattle.mg_scan.specs.declared.token.Token.{Token}
use Rattle.mg_scan.specs.Span.{text_of}
use Rattle.mg_text.specs.declared.keyword.Keyword.{Keyword}
use Rattle.mg_text.specs.declared.keyword.Keyword.TheVariants as keywords
use Rattle.mg_text.specs.declared.media.PropertyValue.{PropertyValue}
use Rattle.mg_text.specs.declared.media.PropertyValue.TheVariants as values
use Rattle.mg_text.specs.declared.media.ControlPart.{ControlPart}
use Rattle.mg_text.specs.declared.media.ControlPart.TheVariants as controls
use Rattle.mg_text.specs.declared.media.StreamPart.{StreamPart}
use Rattle.mg_text.specs.declared.media.StreamPart.TheVariants as streams
use Rattle.mg_text.specs.declared.media.MediaPart.{MediaPart}
use Rattle.mg_text.specs.declared.media.MediaPart.TheVariants as parts
use Rattle.mg_text.specs.Keyword.{keyword_of}
use Rattle.mg_text.specs.Words.{by_keyword, switch_of}
use Rattle.mg_text.specs.aids.Words.{mode_named}
use Rattle.mg_text.specs.Grammar.{has_slash}
use Rattle.mg_words.specs.ResultSteps.{◌>>=◌}
use Rattle.mg_text.specs.aids.Reading.{mark_at, if_some, span_at, word_at, meaning_at}
use Rattle.mg_scan.specs.aids.Marks.{after_mark}
use Rattle.mg_text.specs.aids.Reading.{keyword_at, number_at, after_group, filled_at, braced_at}
use Rattle.mg_text.specs.aids.Reading.{place_of_rest}

-- The value of a property, given the kind and the span of its first token.
abbrev pub value_kinded : List ℕ → TokenKind → Span → List Token
    → Result (PropertyValue × List Token) ℕ
value_kinded source Word w ts = Ok (values.Word w, ts)
value_kinded source Quoted w ts = Ok (values.Quoted w, ts)
value_kinded source Open w ts = after_group source 0 ts >>= λ rest. Ok (values.Group, rest)
value_kinded source _ w ts = Err w.start

unfoldable pub value_at : List ℕ → List Token → Result (PropertyValue × List Token) ℕ
value_at source [] = Err (length source)
value_at source (t ∷ ts) = value_kinded source t.kind t.span ts

unfoldable pub optional_value_at : List ℕ → List Token
    → Result (Option PropertyValue × List Token) ℕ
optional_value_at source ts =
    if_some (after_mark Equals ts)
    (λ rest. value_at source rest >>= λ value. Ok (Some value.0, value.1))
    (Ok (None, ts))

-- The value ON or OFF after an equals sign.
unfoldable pub switched_at : List ℕ → (Bool → ControlPart) → List Token
    → Result (ControlPart × List Token) ℕ
switched_at source part ts = do
  ts ← mark_at source Equals ts
  on ← meaning_at switch_of source ts
  Ok (part on.0, on.1)

unfoldable pub mode_part_at : List ℕ → List Token → Result (ControlPart × List Token) ℕ
mode_part_at source ts = do
  ts ← mark_at source Equals ts
  mode ← meaning_at (by_keyword mode_named) source ts
  Ok (controls.Mode mode.0, mode.1)

unfoldable pub package_part_at : List ℕ → Span → List Token → Result (ControlPart × List Token) ℕ
package_part_at source name ts =
    if has_slash (text_of source name)
    then (optional_value_at source ts >>= λ value. Ok (controls.Property name value.0, value.1))
    else Err name.start

-- The rest of a part of a LocalControl after its first word.
abbrev pub control_named : List ℕ → Option Keyword → Span → List Token
    → Result (ControlPart × List Token) ℕ
control_named source (Some keywords.Mode) name ts = mode_part_at source ts
control_named source (Some keywords.ReservedValue) name ts =
    switched_at source controls.ReservedValue ts
control_named source (Some keywords.ReservedGroup) name ts =
    switched_at source controls.ReservedGroup ts
control_named source _ name ts = package_part_at source name ts

unfoldable pub control_at : List ℕ → List Token → Result (ControlPart × List Token) ℕ
control_at source ts = do
  name ← word_at source ts
  control_named source (keyword_of (text_of source name.0)) name.0 name.1

-- The rest of a part of a stream after its keyword, or the position of the keyword if it names no such part.
abbrev pub stream_named : List ℕ → Keyword → ℕ → List Token → Result (StreamPart × List Token) ℕ
stream_named source keywords.Local place ts =
    span_at source Octets ts >>= λ text. Ok (streams.Local text.0, text.1)
stream_named source keywords.Remote place ts =
    span_at source Octets ts >>= λ text. Ok (streams.Remote text.0, text.1)
stream_named source keywords.LocalControl place ts =
    braced_at source (control_at source) ts >>= λ items. Ok (streams.LocalControl items.0, items.1)
stream_named source _ place ts = Err place

unfoldable pub stream_part_at : List ℕ → List Token → Result (StreamPart × List Token) ℕ
stream_part_at source ts = do
  keyword ← keyword_at source ts
  stream_named source keyword.0 (place_of_rest source ts) keyword.1

unfoldable pub numbered_at : List ℕ → List Token → Result (MediaPart × List Token) ℕ
numbered_at source ts = do
  ts ← mark_at source Equals ts
  number ← number_at source ts
  items ← braced_at source (stream_part_at source) number.1
  Ok (parts.Stream number.0 items.0, items.1)

-- A part of a Media descriptor. The tokens `ts` start with its keyword, and `rest` follows the keyword.
abbrev pub media_named : List ℕ → Keyword → List Token → List Token
    → Result (MediaPart × List Token) ℕ
media_named source keywords.Stream ts rest = numbered_at source rest
media_named source keywords.TerminationState ts rest =
    filled_at source rest >>= λ content. Ok (parts.TerminationState content.0, content.1)
media_named source _ ts rest = stream_part_at source ts >>= λ part. Ok (parts.Part part.0, part.1)

unfoldable pub media_part_at : List ℕ → List Token → Result (MediaPart × List Token) ℕ
media_part_at source ts = do
  keyword ← keyword_at source ts
  media_named source keyword.0 ts keyword.1
