-- The bytes of a source bound its tokens. Each token has at least one byte, and each triple of a topology has at least
-- seven bytes with its separator.
use Rattle.std.proofs.Common.{◌≡◌, ℕ, ◌+◌, ◌-◌, ◌*◌, ◌≤◌, ◌<◌, max, true, List, [], ◌∷◌, length, drop, Option, Some, None, refl, sym, ap, ◌∙◌, arith, length-take}
use Rattle.std.proofs.lemmas.List.{length-map}
use Rattle.std.specs.Option.{option_and_then}
use Rattle.std.specs.Char.{to_ascii_lowercase}
use Rattle.std.specs.Str.{str_eq_ignore_ascii_case}
use Rattle.mg_scan.specs.declared.kind.TokenKind.{TokenKind}
use Rattle.mg_scan.specs.declared.kind.TokenKind.TheVariants.{Word, Open, Close, Comma}
use Rattle.mg_scan.specs.declared.fault.ScanFault.{ScanFault}
use Rattle.mg_scan.specs.declared.span.Span.{Span}
use Rattle.mg_scan.specs.declared.token.Token.{Token}
use Rattle.mg_scan.specs.Scanner.{Scanning}
use Rattle.mg_scan.specs.Span.{text_of}
use Rattle.mg_words.proofs.CutLemmas.{same_letters}
use Rattle.mg_words.specs.declared.association.Association.{Association}
use Rattle.mg_words.specs.Association.{association_text}
use Rattle.mg_text.specs.declared.keyword.Keyword.{Keyword}
use Rattle.mg_text.specs.declared.keyword.Keyword.TheVariants as keywords
use Rattle.mg_text.specs.declared.context_property.NamedTriple.{NamedTriple}
use Rattle.mg_text.specs.Keyword.{forms_of, is_named, keyword_of, long_word}
use Rattle.mg_text.specs.aids.Words.{association_named}
use Rattle.mg_text.specs.Grammar.{IsSpan, IsWorded, IsMore, IsListed, IsBraced, IsTriple}
use Rattle.mg_text.specs.Message.{Reaches, AreTokens, scanning_of}
use Rattle.mg_text.proofs.KeywordLemmas.{named_is, either}
use Rattle.mg_text.proofs.WordLemmas.{association_means}
use Rattle.mg_text.proofs.Shorter.{Measure, span_shorter, mark_shorter}

-- ## Tokens

-- The number of bytes in the texts of tokens, counting at least one for each token.
abbrev pub bytes : List Token → ℕ
bytes [] = 0
bytes (t ∷ ts) = max 1 (t.span.end - t.span.start) + bytes ts

abbrev pub by_bytes : Measure
by_bytes = record { of = bytes; falls = λ t ts. omega arith }

way_within : (ts : List Token) (old new : Scanning) → Reaches old ts new → old.at ≤ length old.source →
    old.at + bytes ts ≤ length old.source
way_within [] old new way within = omega arith
way_within (t ∷ ts) old new way within =
    let source = ap length way.1 in
    let step = way.2 in
    let rest = way_within ts way.0 new way.3 (omega (arith, step.within, source)) in
    omega (arith, step.start, step.span, step.end, step.progress, rest, source)

-- The tokens of a source have no more bytes than the source.
pub tokens_within : (source : List ℕ) (ts : List Token) (fault : Option ScanFault) → AreTokens source ts fault →
    bytes ts ≤ length source
tokens_within source ts fault are =
    omega (arith, way_within ts (scanning_of source) are.last are.way (omega arith))

word_takes : (source : List ℕ) (kind : TokenKind) (w : Span) (n : ℕ) (ts rest : List Token) →
    n ≤ length (text_of source w) → IsSpan kind w ts rest → n + bytes rest ≤ bytes ts
word_takes source kind w n ts rest le m =
    omega (arith, le, ap bytes m, length-take (w.end - w.start) (drop w.start source))

-- ## The association of a triple

same_length : (a b : List ℕ) → str_eq_ignore_ascii_case a b ≡ true → length a ≡ length b
same_length a b e =
    sym (length-map a to_ascii_lowercase) ∙ ap length (same_letters a b e) ∙ length-map b to_ascii_lowercase

named_takes : (text : List ℕ) (k : Keyword) (n : ℕ) → n ≤ length (forms_of k).0 → n ≤ length (forms_of k).1 →
    is_named text k ≡ true → n ≤ length text
unfolding is_named
named_takes text k n long short e =
    let forms = forms_of k in
    either (str_eq_ignore_ascii_case text forms.0) (str_eq_ignore_ascii_case text forms.1)
    (λ is. omega (arith, long, same_length text forms.0 is)) (λ is. omega (arith, short, same_length text forms.1 is)) e

association_takes : (text : List ℕ) (o : Option Keyword) (x : Association) → keyword_of text ≡ o →
    option_and_then association_named o ≡ Some x → 2 ≤ length text
unfolding forms_of
association_takes text None x is e = absurd (cc e)
association_takes text (Some keywords.Isolate) x is e =
    named_takes text keywords.Isolate 2 (omega arith) (omega arith) (named_is text keywords.Isolate is)
association_takes text (Some keywords.Oneway) x is e =
    named_takes text keywords.Oneway 2 (omega arith) (omega arith) (named_is text keywords.Oneway is)
association_takes text (Some keywords.Bothway) x is e =
    named_takes text keywords.Bothway 2 (omega arith) (omega arith) (named_is text keywords.Bothway is)
association_takes text _ x is e = absurd (cc e)

last_word_takes : (source : List ℕ) (x : Association) (ts rest : List Token) →
    IsWorded long_word source (association_text x) ts rest → 2 + bytes rest ≤ bytes ts
last_word_takes source x ts rest m =
    let word = association_means source x ts rest m in
    let text = text_of source word.0 in
    word_takes source Word word.0 2 ts rest (association_takes text (keyword_of text) x refl word.1) word.2

-- ## Triples

triple_takes : (source : List ℕ) (x : NamedTriple) (ts rest : List Token) → IsTriple source x ts rest →
    6 + bytes rest ≤ bytes ts
triple_takes source x ts rest m =
    omega (
      arith,
      span_shorter by_bytes Word x.first ts m.0 m.1.1,
      mark_shorter by_bytes Comma m.0 m.2.0 m.2.1,
      span_shorter by_bytes Word x.second m.2.0 m.2.2.0 m.2.2.1.1,
      mark_shorter by_bytes Comma m.2.2.0 m.2.2.2.0 m.2.2.2.1,
      last_word_takes source x.association m.2.2.2.0 rest m.2.2.2.2,
    )

more_triples_take : (source : List ℕ) (xs : List NamedTriple) (ts rest : List Token) →
    IsMore (IsTriple source) xs ts rest → 7 * length xs + bytes rest < bytes ts
more_triples_take source [] ts rest m = omega (arith, mark_shorter by_bytes Close ts rest m)
more_triples_take source (x ∷ xs) ts rest m =
    omega (
      arith,
      mark_shorter by_bytes Comma ts m.0 m.1,
      triple_takes source x m.0 m.2.0 m.2.1,
      more_triples_take source xs m.2.0 rest m.2.2,
    )

triples_take : (source : List ℕ) (xs : List NamedTriple) (ts rest : List Token) →
    IsListed (IsTriple source) xs ts rest → 7 * length xs + bytes rest ≤ bytes ts
triples_take source [] ts rest m = absurd m
triples_take source (x ∷ xs) ts rest m =
    omega (arith, triple_takes source x ts m.0 m.1, more_triples_take source xs m.0 rest m.2)

pub topology_takes : (source : List ℕ) (xs : List NamedTriple) (ts rest : List Token) →
    IsBraced (IsTriple source) xs ts rest → 7 * length xs ≤ bytes ts
topology_takes source xs ts rest m =
    omega (arith, mark_shorter by_bytes Open ts m.0 m.1, triples_take source xs m.0 rest m.2)
