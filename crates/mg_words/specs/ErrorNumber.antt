-- Error numbers, from the standard's list of error codes, with this gateway's texts.
use Rattle.std.specs.Prelude.{ℕ, List, ◌++◌, codes, decimal}
use Rattle.mg_words.specs.declared.error_number.ErrorNumber.{ErrorNumber}
use Rattle.mg_words.specs.declared.error_number.ErrorNumber.TheVariants as errors

-- The number and the text of each error.
unfoldable pub error_row : ErrorNumber → ℕ × List ℕ
error_row errors.Syntax = (400, codes "syntax")
error_row errors.Version = (406, codes "version")
error_row errors.IdentifierNotAllowed = (410, codes "identifier not allowed here")
error_row errors.UnknownContext = (411, codes "unknown context")
error_row errors.NoContextLeft = (412, codes "no context left")
error_row errors.IllegalCombination = (421, codes "illegal combination")
error_row errors.UnknownTermination = (430, codes "unknown termination")
error_row errors.WildcardMatchedNone = (431, codes "wildcard matched none")
error_row errors.NoTerminationLeft = (432, codes "no termination or port left")
error_row errors.AlreadyInContext = (433, codes "already in a context")
error_row errors.ContextFull = (434, codes "context full")
error_row errors.NotInContext = (435, codes "termination not in context")
error_row errors.DescriptorNotServed = (444, codes "descriptor not served")
error_row errors.PropertyNotServed = (445, codes "property not served")
error_row errors.DescriptorTwice = (448, codes "descriptor twice")
error_row errors.NotServed = (501, codes "not served")
error_row errors.NoMedia = (515, codes "no media that can be served")
error_row errors.ReplyTooLong = (533, codes "reply too long")

-- The descriptor of an error: "Error=" number "{" quote text quote "}" (RFC 3525, Annex B.2, errorDescriptor).
abbrev pub error_with : ℕ × List ℕ → List ℕ
error_with row = codes "Error=" ++ (decimal row.0 ++ (codes "{\"" ++ (row.1 ++ codes "\"}")))

unfoldable pub error_text : ErrorNumber → List ℕ
error_text error = error_with (error_row error)
