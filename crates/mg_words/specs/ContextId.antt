-- Context identifiers (RFC 3525, section 6.1.2 and Annex B.2, ContextID).
use Rattle.std.specs.Prelude.{ℕ, List, Option, Some, codes, decimal, ◌==◌, if◌then◌else◌}
use Rattle.std.specs.Str.{bytes_eq}
use Rattle.std.specs.Option.{option_map}
use Rattle.mg_words.specs.Numbers.{number_of}
use Rattle.mg_words.specs.declared.context_id.ContextId.{ContextId}
use Rattle.mg_words.specs.declared.context_id.ContextId.TheVariants.{Null, Choose, All, Number}

-- The context with this number. Three numbers are other spellings of -, $ and *.
abbrev pub context_of_number : ℕ → ContextId
context_of_number n =
    if n == 0 then Null
    else (if n == 4294967294 then Choose
    else (if n == 4294967295 then All
    else Number n))

-- The context that a word names, if it names one.
unfoldable pub context_id_of : List ℕ → Option ContextId
context_id_of text =
    if bytes_eq text (codes "-") then Some Null
    else (if bytes_eq text (codes "$") then Some Choose
    else (if bytes_eq text (codes "*") then Some All
    else option_map context_of_number (number_of text)))

-- The text of a context identifier in a reply.
abbrev pub context_text : ContextId → List ℕ
context_text Null = codes "-"
context_text Choose = codes "$"
context_text All = codes "*"
context_text (Number n) = decimal n
