-- Parsing from left to right, up to the first fault, as the code does. The grammar is a separate relation. The lemmas
-- of `Sound` and `Complete` connect the two.
use Rattle.std.specs.Prelude.{◌≡◌, ℕ, zero, suc, ◌-◌, ◌==◌, Bool, true, false, List, [], ◌∷◌}
use Rattle.std.specs.Prelude.{length, Option, Some, None, Result, Ok, Err, if◌then◌else◌}
use Rattle.mg_scan.specs.declared.kind.TokenKind.{TokenKind}
use Rattle.mg_scan.specs.declared.kind.TokenKind.TheVariants.{Word, Open, Close, Comma, Equals}
use Rattle.mg_scan.specs.declared.kind.TokenKind.TheVariants.{Quoted, Octets}
use Rattle.mg_scan.specs.declared.span.Span.{Span}
use Rattle.mg_scan.specs.declared.token.Token.{Token}
use Rattle.mg_scan.specs.Span.{text_of}
use Rattle.mg_scan.specs.aids.Marks.{after_mark, is_kind}
use Rattle.mg_words.specs.ResultSteps.{◌>>=◌}
use Rattle.mg_words.specs.Numbers.{number_of}
use Rattle.mg_text.specs.declared.keyword.Keyword.{Keyword}
use Rattle.mg_words.specs.declared.context_id.ContextId.{ContextId}
use Rattle.mg_text.specs.declared.fault.ReadFault.{ReadFault}
use Rattle.mg_text.specs.declared.fault.ReadFault.TheVariants.{NoMemory, Syntax, Version, TooMany}
use Rattle.mg_text.specs.Keyword.{is_named, keyword_of}
use Rattle.mg_words.specs.ContextId.{context_id_of}
use Rattle.mg_words.specs.Term.{is_term}

-- The result of a parser agrees with the definition, unless memory ran out. The function `view` maps the parser's value
-- to the value in the definition. The fault in a definition is the position of a syntax fault.
abbrev pub Fails : {Y : Type 0} → ReadFault → Result Y ℕ → Type 0
Fails NoMemory read = Unit {0}
Fails (Syntax place) read = read ≡ Err place
Fails (Version n) read = ⊥
Fails TooMany read = ⊥

abbrev pub Agrees : {X Y : Type 0} → (X → Y) → Result X ReadFault → Result Y ℕ → Type 0
Agrees view (Ok x) read = read ≡ Ok (view x)
Agrees view (Err e) read = Fails e read

abbrev pub place_of_rest : List ℕ → List Token → ℕ
place_of_rest source [] = length source
place_of_rest source (t ∷ ts) = t.span.start

unfoldable pub mark_at : List ℕ → TokenKind → List Token → Result (List Token) ℕ
mark_at source kind [] = Err (length source)
mark_at source kind (t ∷ ts) = if is_kind t.kind kind then Ok ts else Err t.span.start

-- The span of a token of this kind.
unfoldable pub span_at : List ℕ → TokenKind → List Token → Result (Span × List Token) ℕ
span_at source kind [] = Err (length source)
span_at source kind (t ∷ ts) = if is_kind t.kind kind then Ok (t.span, ts) else Err t.span.start

abbrev pub word_at : List ℕ → List Token → Result (Span × List Token) ℕ
word_at source ts = span_at source Word ts

-- The result of f for the value of an option, or the other result if there is no value.
abbrev pub if_some : {A B : Type 0} → Option A → (A → B) → B → B
if_some None f b = b
if_some (Some a) f b = f a

unfoldable pub named_at : List ℕ → Keyword → List Token → Result (List Token) ℕ
named_at source keyword ts = do
  w ← word_at source ts
  if is_named (text_of source w.0) keyword then Ok w.1 else Err w.0.start

-- The value of a word, computed from its text.
unfoldable pub meaning_at : {X : Type 0} → (List ℕ → Option X) → List ℕ → List Token
    → Result (X × List Token) ℕ
meaning_at meaning source ts = do
  w ← word_at source ts
  if_some (meaning (text_of source w.0)) (λ x. Ok (x, w.1)) (Err w.0.start)

abbrev pub keyword_at : List ℕ → List Token → Result (Keyword × List Token) ℕ
keyword_at = meaning_at keyword_of

abbrev pub number_at : List ℕ → List Token → Result (ℕ × List Token) ℕ
number_at = meaning_at number_of

abbrev pub context_id_at : List ℕ → List Token → Result (ContextId × List Token) ℕ
context_id_at = meaning_at context_id_of

-- The span of a termination's name.
unfoldable pub term_at : List ℕ → List Token → Result (Span × List Token) ℕ
term_at source ts = do
  w ← word_at source ts
  if is_term (text_of source w.0) then Ok w else Err w.0.start

-- The tokens after the brace that closes the current group, in which `depth` more groups are open.
unfoldable pub after_group : List ℕ → ℕ → List Token → Result (List Token) ℕ
after_group source depth [] = Err (length source)
after_group source depth (t ∷ ts) =
    if is_kind t.kind Open then after_group source (suc depth) ts
    else (if is_kind t.kind Close then
    (if depth == 0 then Ok ts else after_group source (depth - 1) ts)
    else after_group source depth ts)

unfoldable pub group_at : List ℕ → List Token → Result (List Token) ℕ
group_at source ts = do
  ts ← mark_at source Open ts
  after_group source 0 ts

-- Whether there is a group that contains a token, and the tokens after the group.
unfoldable pub filled_at : List ℕ → List Token → Result (Bool × List Token) ℕ
filled_at source ts =
    if_some (after_mark Open ts)
    (λ inside. if_some (after_mark Close inside) (λ rest. Ok (false, rest))
    (after_group source 0 inside >>= λ rest. Ok (true, rest)))
    (Ok (false, ts))

-- At most n items with commas between them, up to their closing brace.
unfoldable pub list_at : {X : Type 0} → List ℕ → (List Token → Result (X × List Token) ℕ) → ℕ
    → List Token → Result (List X × List Token) ℕ
list_at source read zero ts = Err (place_of_rest source ts)
list_at source read (suc n) ts = do
  x ← read ts
  if_some (after_mark Comma x.1)
      (λ next. list_at source read n next >>= λ xs. Ok (x.0 ∷ xs.0, xs.1))
      (mark_at source Close x.1 >>= λ rest. Ok (x.0 ∷ [], rest))

abbrev pub items_at : {X : Type 0} → List ℕ → (List Token → Result (X × List Token) ℕ) → List Token
    → Result (List X × List Token) ℕ
items_at source read ts = list_at source read (length ts) ts

-- One or more items in braces.
unfoldable pub braced_at : {X : Type 0} → List ℕ → (List Token → Result (X × List Token) ℕ)
    → List Token → Result (List X × List Token) ℕ
braced_at source read ts = do
  ts ← mark_at source Open ts
  items_at source read ts

-- Any number of items in braces.
unfoldable pub any_braced_at : {X : Type 0} → List ℕ → (List Token → Result (X × List Token) ℕ)
    → List Token → Result (List X × List Token) ℕ
any_braced_at source read ts = do
  ts ← mark_at source Open ts
  if_some (after_mark Close ts) (λ rest. Ok ([], rest)) (items_at source read ts)

-- Optional items in braces.
unfoldable pub optional_braced_at : {X : Type 0} → List ℕ
    → (List Token → Result (X × List Token) ℕ) → List Token → Result (List X × List Token) ℕ
optional_braced_at source read ts =
    if_some (after_mark Open ts) (λ inside. items_at source read inside) (Ok ([], ts))
