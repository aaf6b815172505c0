-- The values of single words (RFC 3525, Annex B.2).
use Rattle.std.specs.Prelude.{ℕ, Bool, true, false, List, Option, Some, None}
use Rattle.std.specs.Prelude.{codes, if◌then◌else◌}
use Rattle.std.specs.Option.{option_map, option_and_then}
use Rattle.std.specs.Str.{str_eq_ignore_ascii_case}
use Rattle.mg_words.specs.Numbers.{number_of}
use Rattle.mg_words.specs.Cut.{cut}
use Rattle.mg_text.specs.declared.keyword.Keyword.{Keyword}
use Rattle.mg_text.specs.declared.keyword.Keyword.TheVariants as keywords
use Rattle.mg_text.specs.declared.context_property.ContextWord.{ContextWord}
use Rattle.mg_text.specs.declared.context_property.ContextWord.TheVariants as contexts
use Rattle.mg_text.specs.declared.descriptor.AuditWord.{AuditWord}
use Rattle.mg_text.specs.declared.descriptor.AuditWord.TheVariants as audits
use Rattle.mg_text.specs.declared.body.Range.{Range}
use Rattle.mg_text.specs.Keyword.{keyword_of}

-- The value of a word that is a keyword in either form.
abbrev pub by_keyword : {X : Type 0} → (Keyword → Option X) → List ℕ → Option X
by_keyword meaning text = option_and_then meaning (keyword_of text)

-- The property of a context that a ContextAudit asks for with this keyword.
abbrev pub context_word_named : Keyword → Option ContextWord
context_word_named keywords.Topology = Some contexts.Topology
context_word_named keywords.Priority = Some contexts.Priority
context_word_named keywords.Emergency = Some contexts.Emergency
context_word_named _ = None

-- The descriptor that an Audit asks for with this keyword.
abbrev pub audit_word_named : Keyword → Option AuditWord
audit_word_named keywords.Media = Some audits.Media
audit_word_named keywords.Statistics = Some audits.Statistics
audit_word_named keywords.Signals = Some audits.Signals
audit_word_named keywords.Events = Some audits.Events
audit_word_named keywords.Modem = Some audits.Modem
audit_word_named keywords.Mux = Some audits.Mux
audit_word_named keywords.DigitMap = Some audits.DigitMap
audit_word_named keywords.EventBuffer = Some audits.EventBuffer
audit_word_named keywords.ObservedEvents = Some audits.ObservedEvents
audit_word_named keywords.Packages = Some audits.Packages
audit_word_named _ = None

-- The value of ON or OFF.
abbrev pub switch_of : List ℕ → Option Bool
switch_of text =
    if str_eq_ignore_ascii_case text (codes "ON") then Some true
    else (if str_eq_ignore_ascii_case text (codes "OFF") then Some false else None)

-- A range of transaction numbers: one number, or two numbers with - (45) between them.
abbrev pub range_from : ℕ → Option ℕ → Option Range
range_from first last = option_map (λ last. record { first = first; last = last }) last

abbrev pub range_between : List ℕ → Option (List ℕ × List ℕ) → Option Range
range_between text (Some parts) =
    option_and_then (λ first. range_from first (number_of parts.1)) (number_of parts.0)
range_between text None = option_and_then (λ n. range_from n (Some n)) (number_of text)

abbrev pub range_of : List ℕ → Option Range
range_of text = range_between text (cut 45 text)
