-- The state of a scanner, and its steps.
use Rattle.std.specs.Prelude.{◌≡◌, ℕ, Bool, ◌+◌, ◌<◌, ◌≤◌, List, [], drop, length, Option, Some}
use Rattle.std.specs.Prelude.{None, Result, Ok, Err}
use Rattle.mg_scan.specs.declared.token.Token.{Token}
use Rattle.mg_scan.specs.declared.fault.ScanFault.{ScanFault}
use Rattle.mg_scan.specs.Span.{text_of}
use Rattle.mg_scan.specs.Tokens.{first_token, token_and_rest, closing_len, names_octets}

-- A source, the position in it, and whether the last token announces a session description.
pub record Scanning : Type 0 where
  pub source : List ℕ
  pub at : ℕ
  pub named : Bool

-- The bytes that have not been scanned yet.
abbrev pub rest_of : Scanning → List ℕ
rest_of s = drop s.at s.source

-- A token lies between the old position and the new one, and is the first token of the rest. Its text is the part of
-- the source that its span covers.
pub record IsNext (old : Scanning) (token : Token) (new : Scanning) : Type 0 where
  pub start : old.at ≤ token.span.start
  pub span : token.span.start ≤ token.span.end
  pub end : token.span.end + closing_len token.kind ≡ new.at
  pub progress : old.at < new.at
  pub within : new.at ≤ length old.source
  pub named : new.named ≡ names_octets token.kind (text_of old.source token.span)
  pub is : first_token old.named (rest_of old)
      ≡ token_and_rest token.kind (text_of old.source token.span) (rest_of new)

-- One step: a token, a fault, or the end. After a fault or the end, no bytes remain.
abbrev pub IsStep : Scanning → Option (Result Token ScanFault) → Scanning → Type 0
IsStep old None new = (first_token old.named (rest_of old) ≡ None) × (rest_of new ≡ [])
IsStep old (Some (Err f)) new =
    (first_token old.named (rest_of old) ≡ Some (Err f)) × (rest_of new ≡ [])
IsStep old (Some (Ok token)) new = IsNext old token new
