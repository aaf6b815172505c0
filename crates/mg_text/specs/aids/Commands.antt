-- Parsing commands and their descriptors.
use Rattle.std.specs.Prelude.{ℕ, Bool, true, List, [], ◌∷◌, Result, Ok, Err}
use Rattle.mg_scan.specs.declared.kind.TokenKind.TheVariants.{Open, Close, Equals}
use Rattle.mg_scan.specs.declared.span.Span.{Span}
use Rattle.mg_scan.specs.declared.token.Token.{Token}
use Rattle.mg_text.specs.declared.keyword.Keyword.{Keyword}
use Rattle.mg_text.specs.declared.keyword.Keyword.TheVariants as keywords
use Rattle.mg_text.specs.declared.descriptor.AuditWord.{AuditWord}
use Rattle.mg_text.specs.declared.descriptor.OtherWord.{OtherWord}
use Rattle.mg_text.specs.declared.descriptor.OtherWord.TheVariants as others
use Rattle.mg_text.specs.declared.descriptor.Descriptor.{Descriptor}
use Rattle.mg_text.specs.declared.descriptor.Descriptor.TheVariants as descriptors
use Rattle.mg_words.specs.declared.command_word.CommandWord.{CommandWord}
use Rattle.mg_words.specs.declared.command_word.CommandWord.TheVariants as commands
use Rattle.mg_text.specs.declared.command_head.CommandHead.{CommandHead}
use Rattle.mg_text.specs.declared.command.Command.{Command}
use Rattle.mg_text.specs.Words.{by_keyword, audit_word_named}
use Rattle.mg_text.specs.aids.Words.{command_of}
use Rattle.mg_words.specs.ResultSteps.{◌>>=◌}
use Rattle.mg_text.specs.aids.Reading.{mark_at, if_some, word_at, meaning_at}
use Rattle.mg_scan.specs.aids.Marks.{after_mark}
use Rattle.mg_text.specs.aids.Reading.{keyword_at, term_at, after_group, filled_at, braced_at}
use Rattle.mg_text.specs.aids.Reading.{any_braced_at, optional_braced_at, place_of_rest}
use Rattle.mg_text.specs.aids.Media.{media_part_at}

-- The words of an Audit after its keyword.
abbrev pub audit_words_at : List ℕ → List Token → Result (List AuditWord × List Token) ℕ
audit_words_at source ts = any_braced_at source (meaning_at (by_keyword audit_word_named) source) ts

-- The value of a descriptor after its equals sign: a group, or a word and an optional group.
unfoldable pub assigned_at : List ℕ → List Token → Result (List Token) ℕ
assigned_at source ts =
    if_some (after_mark Open ts)
    (λ inside. after_group source 0 inside)
    (word_at source ts >>= λ word. filled_at source word.1 >>= λ group. Ok group.1)

-- Whether an `other` descriptor has content, and the tokens after the content.
unfoldable pub content_at : List ℕ → List Token → Result (Bool × List Token) ℕ
content_at source ts =
    if_some (after_mark Equals ts)
    (λ value. assigned_at source value >>= λ rest. Ok (true, rest))
    (filled_at source ts)

-- The rest of an `other` descriptor after its keyword.
unfoldable pub other_at : List ℕ → OtherWord → List Token → Result (Descriptor × List Token) ℕ
other_at source word ts = do
  content ← content_at source ts
  Ok (descriptors.Other word content.0, content.1)

-- The rest of a descriptor after its keyword, or the position of the keyword if it names no descriptor.
abbrev pub descriptor_named : List ℕ → Keyword → ℕ → List Token → Result (Descriptor × List Token) ℕ
descriptor_named source keywords.Media place ts =
    braced_at source (media_part_at source) ts >>= λ items. Ok (descriptors.Media items.0, items.1)
descriptor_named source keywords.Audit place ts =
    audit_words_at source ts >>= λ words. Ok (descriptors.Audit words.0, words.1)
descriptor_named source keywords.Signals place ts = other_at source others.Signals ts
descriptor_named source keywords.Events place ts = other_at source others.Events ts
descriptor_named source keywords.Modem place ts = other_at source others.Modem ts
descriptor_named source keywords.Mux place ts = other_at source others.Mux ts
descriptor_named source keywords.DigitMap place ts = other_at source others.DigitMap ts
descriptor_named source keywords.EventBuffer place ts = other_at source others.EventBuffer ts
descriptor_named source _ place ts = Err place

unfoldable pub descriptor_at : List ℕ → List Token → Result (Descriptor × List Token) ℕ
descriptor_at source ts = do
  keyword ← keyword_at source ts
  descriptor_named source keyword.0 (place_of_rest source ts) keyword.1

-- The rest of an Audit after its keyword, or the position of the keyword if it is not AUDIT.
abbrev pub audit_named : List ℕ → Keyword → ℕ → List Token → Result (List AuditWord × List Token) ℕ
audit_named source keywords.Audit place ts = audit_words_at source ts
audit_named source _ place ts = Err place

unfoldable pub audit_at : List ℕ → List Token → Result (List AuditWord × List Token) ℕ
audit_at source ts = do
  keyword ← keyword_at source ts
  audit_named source keyword.0 (place_of_rest source ts) keyword.1

-- An optional Audit in braces.
unfoldable pub optional_audit_at : List ℕ → List Token → Result (List Descriptor × List Token) ℕ
optional_audit_at source ts =
    if_some (after_mark Open ts)
    (λ inside. audit_at source inside >>= λ words. mark_at source Close words.1 >>= λ rest. Ok
    (descriptors.Audit words.0 ∷ [], rest))
    (Ok ([], ts))

-- An optional group, which yields no descriptors.
unfoldable pub skipped_at : List ℕ → List Token → Result (List Descriptor × List Token) ℕ
skipped_at source ts = do
  group ← filled_at source ts
  Ok ([], group.1)

-- The descriptors after the name of a command's termination.
abbrev pub descriptors_at : List ℕ → CommandWord → List Token
    → Result (List Descriptor × List Token) ℕ
descriptors_at source commands.Add ts = optional_braced_at source (descriptor_at source) ts
descriptors_at source commands.Modify ts = optional_braced_at source (descriptor_at source) ts
descriptors_at source commands.Move ts = optional_braced_at source (descriptor_at source) ts
descriptors_at source commands.Subtract ts = optional_audit_at source ts
descriptors_at source commands.AuditValue ts = optional_audit_at source ts
descriptors_at source commands.AuditCapability ts = skipped_at source ts
descriptors_at source commands.Notify ts = skipped_at source ts
descriptors_at source commands.ServiceChange ts = skipped_at source ts

abbrev pub commanded : CommandHead → Span → List Descriptor → Command
commanded head term items =
    record {
      word = head.word;
      is_optional = head.is_optional;
      wants_wildcard = head.wants_wildcard;
      term = term;
      descriptors = items;
    }

unfoldable pub command_at : List ℕ → List Token → Result (Command × List Token) ℕ
command_at source ts = do
  head ← meaning_at command_of source ts
  ts ← mark_at source Equals head.1
  term ← term_at source ts
  items ← descriptors_at source head.0.word term.1
  Ok (commanded head.0 term.0 items.0, items.1)
