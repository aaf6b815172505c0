-- The parser accepts the marks, words, groups and lists that are in the grammar. The number of tokens bounds the length
-- of a list.
use Rattle.std.proofs.Common.{◌≡◌, ℕ, zero, suc, ◌-◌, ◌<◌, ◌≤◌, ◌≢◌, eqb, Bool, true, false, List, [], ◌∷◌, length, Option, Some, None, Result, Ok, refl, inl, inr, ◌∙◌, arith}
use Rattle.std.proofs.lemmas.Bool.{ne_eqb}
use Rattle.mg_scan.specs.declared.kind.TokenKind.{TokenKind}
use Rattle.mg_scan.specs.declared.kind.TokenKind.TheVariants.{Word, Open, Close, Comma, Equals}
use Rattle.mg_scan.specs.declared.span.Span.{Span}
use Rattle.mg_scan.specs.declared.token.Token.{Token}
use Rattle.mg_text.specs.declared.keyword.Keyword.{Keyword}
use Rattle.mg_text.specs.aids.Reading.{mark_at, span_at, word_at, named_at, meaning_at, term_at, after_group, group_at, filled_at, list_at, items_at, braced_at, any_braced_at, optional_braced_at}
use Rattle.mg_scan.specs.aids.Marks.{is_kind, after_mark}
use Rattle.mg_scan.specs.Span.{text_of}
use Rattle.mg_words.specs.Term.{is_term}
use Rattle.mg_text.specs.Keyword.{is_named}
use Rattle.mg_text.specs.Production.{Production}
use Rattle.mg_text.specs.Grammar.{IsMark, IsSpan, IsWord, IsWordThat, IsWorded, IsListed, IsBraced, IsOptionalBraced, IsAnyBraced, IsBalanced, nothing, plain, nested, IsGroup, IsContent}
use Rattle.mg_text.proofs.Sound.{is_kind-true, is_kind-same}
use Rattle.mg_text.proofs.Shorter.{by_count, list_shorter}

is_kind-other : (a b : TokenKind) → a ≢ b → is_kind a b ≡ false
is_kind-other a b apart = by_cases (is_kind a b) refl
  where
    by_cases : (k : Bool) → is_kind a b ≡ k → is_kind a b ≡ false
    by_cases true e = absurd (apart (is_kind-true a b e))
    by_cases false e = e

pub mark_read : (source : List ℕ) (kind : TokenKind) (ts rest : List Token) → IsMark kind ts rest →
    mark_at source kind ts ≡ Ok rest
unfolding mark_at
mark_read source kind ts rest m = rw (m.1, is_kind-same kind) refl

pub after_read : (kind : TokenKind) (ts rest : List Token) → IsMark kind ts rest → after_mark kind ts ≡ Some rest
unfolding after_mark
after_read kind ts rest m = rw (m.1, is_kind-same kind) refl

-- Tokens that start with a mark do not start with a mark of another kind.
pub after_other : (kind other : TokenKind) (ts rest : List Token) → is_kind kind other ≡ false → IsMark kind ts rest →
    after_mark other ts ≡ None
unfolding after_mark
after_other kind other ts rest apart m = rw (m.1, apart) refl

-- The tokens start neither with an opening brace nor with an equals sign, so that a part before them ends there.
pub record Stops (rest : List Token) : Type 0 where
  pub «open» : after_mark Open rest ≡ None
  pub equals : after_mark Equals rest ≡ None

pub at_comma : (ts rest : List Token) → IsMark Comma ts rest → Stops ts
at_comma ts rest m = record {
  «open» = after_other Comma Open ts rest refl m;
  equals = after_other Comma Equals ts rest refl m;
}

pub at_close : (ts rest : List Token) → IsMark Close ts rest → Stops ts
at_close ts rest m = record {
  «open» = after_other Close Open ts rest refl m;
  equals = after_other Close Equals ts rest refl m;
}

pub span_read : (source : List ℕ) (kind : TokenKind) (w : Span) (ts rest : List Token) → IsSpan kind w ts rest →
    span_at source kind ts ≡ Ok (w, rest)
unfolding span_at
span_read source kind w ts rest m = rw (m, is_kind-same kind) refl

pub word_read : (source : List ℕ) (w : Span) (ts rest : List Token) → IsWord w ts rest →
    word_at source ts ≡ Ok (w, rest)
word_read source w ts rest m = span_read source Word w ts rest m

-- Tokens that start with a token of one kind do not start with a mark of another kind.
pub span_other : (kind other : TokenKind) (w : Span) (ts rest : List Token) → is_kind kind other ≡ false →
    IsSpan kind w ts rest → after_mark other ts ≡ None
unfolding after_mark
span_other kind other w ts rest apart m = rw (m, apart) refl

pub named_read : (source : List ℕ) (keyword : Keyword) (w : Span) (ts rest : List Token) →
    is_named (text_of source w) keyword ≡ true → IsWord w ts rest → named_at source keyword ts ≡ Ok rest
unfolding named_at
named_read source keyword w ts rest named m = rw (word_read source w ts rest m, named) refl

pub worded_read : {X : Type 0} (meaning : List ℕ → Option X) (source : List ℕ) (x : X) (ts rest : List Token) →
    IsWorded meaning source x ts rest → meaning_at meaning source ts ≡ Ok (x, rest)
unfolding meaning_at
worded_read meaning source x ts rest m = rw (word_read source m.0 ts rest m.2, m.1) refl

-- Skipping tokens with balanced braces does not change the depth.
balanced_read : (source : List ℕ) (depth : ℕ) (ts rest : List Token) → IsBalanced ts rest →
    after_group source depth ts ≡ after_group source depth rest
unfolding after_group
balanced_read source depth _ _ (nothing ts) = refl
balanced_read source depth _ _ (plain t ts rest p q inside) =
    rw (is_kind-other t.kind Open p, is_kind-other t.kind Close q) (balanced_read source depth ts rest inside)
balanced_read source depth _ _ (nested ts a b c rest opens inside closes after) =
    let one : suc depth - 1 ≡ depth = omega arith in
    let more : eqb (suc depth) 0 ≡ false = ne_eqb (suc depth) 0 (λ q. absurd (omega arith)) in
    let back : after_group source (suc depth) b ≡ after_group source depth c = rw (closes.1, more, one) refl in
    rw opens.1 (balanced_read source (suc depth) a b inside ∙ back ∙ balanced_read source depth c rest after)

pub inside_read : (source : List ℕ) (ts rest : List Token) (m : IsGroup ts rest) → after_group source 0 m.0 ≡ Ok rest
unfolding after_group
inside_read source ts rest m = balanced_read source 0 m.0 m.2.0 m.2.1 ∙ (rw m.2.2.1 refl)

pub group_read : (source : List ℕ) (ts rest : List Token) → IsGroup ts rest → group_at source ts ≡ Ok rest
unfolding group_at
group_read source ts rest m = rw (mark_read source Open ts m.0 m.1) (inside_read source ts rest m)

pub term_read : (source : List ℕ) (w : Span) (ts rest : List Token) → IsWordThat is_term source w ts rest →
    term_at source ts ≡ Ok (w, rest)
unfolding term_at
term_read source w ts rest m = rw (word_read source w ts rest m.1, m.0) refl

-- In a group that contains a token, the first token is not its closing brace.
not_close : (ts b rest : List Token) → IsBalanced ts b → IsMark Close b rest → (IsMark Close ts rest → ⊥) →
    after_mark Close ts ≡ None
unfolding after_mark
not_close _ _ rest (nothing ts) close filled = absurd (filled close)
not_close _ b rest (plain t ts b' p q inside) close filled = rw (is_kind-other t.kind Close q) refl
not_close _ b rest (nested ts a b' c d opens inside closes after) close filled = rw opens.1 refl

pub filled_read : (source : List ℕ) (b : Bool) (ts rest : List Token) → after_mark Open rest ≡ None →
    IsContent b ts rest → filled_at source ts ≡ Ok (b, rest)
unfolding filled_at
filled_read source true ts rest stops m =
    let g = m.0 in
    rw (
      after_read Open ts g.0 g.1,
      not_close g.0 g.2.0 rest g.2.1 g.2.2 (λ close. m.1 (g.0, g.1, close)),
      inside_read source ts rest g,
    ) refl
filled_read source false ts rest stops (inl none) = rw (none, stops) refl
filled_read source false ts rest stops (inr empty) =
    rw (after_read Open ts empty.0 empty.1, after_read Close empty.0 rest empty.2) refl

module _ {X : Type 0} (source : List ℕ) (read : List Token → Result (X × List Token) ℕ)
    (P : X → Production)
    (complete : (ts : List Token) (x : X) (rest : List Token) → Stops rest → P x ts rest → read ts ≡ Ok (x, rest))
    (shorter : (ts : List Token) (x : X) (rest : List Token) → P x ts rest → length rest ≤ length ts) where
  list_reads : (n : ℕ) (x : X) (xs : List X) (ts rest : List Token) → length xs < n → IsListed P (x ∷ xs) ts rest →
      list_at source read n ts ≡ Ok (x ∷ xs, rest)
  unfolding list_at
  list_reads zero x xs ts rest lt h = absurd (omega arith)
  list_reads (suc n) x [] ts rest lt h =
      rw (
        complete ts x h.0 (at_close h.0 rest h.2) h.1,
        after_other Close Comma h.0 rest refl h.2,
        mark_read source Close h.0 rest h.2,
      ) refl
  list_reads (suc n) x (y ∷ ys) ts rest lt h =
      rw (
        complete ts x h.0 (at_comma h.0 h.2.0 h.2.1) h.1,
        after_read Comma h.0 h.2.0 h.2.1,
        list_reads n y ys h.2.0 rest (omega arith) h.2.2,
      ) refl

  pub items_read : (xs : List X) (ts rest : List Token) → IsListed P xs ts rest →
      items_at source read ts ≡ Ok (xs, rest)
  items_read [] ts rest h = absurd h
  items_read (x ∷ xs) ts rest h =
      list_reads (length ts) x xs ts rest (omega (arith, list_shorter by_count P shorter (x ∷ xs) ts rest h)) h

  pub braced_read : (xs : List X) (ts rest : List Token) → IsBraced P xs ts rest →
      braced_at source read ts ≡ Ok (xs, rest)
  unfolding braced_at
  braced_read xs ts rest m = rw (mark_read source Open ts m.0 m.1, items_read xs m.0 rest m.2) refl

  pub optional_braced_read : (xs : List X) (ts rest : List Token) → after_mark Open rest ≡ None →
      IsOptionalBraced P xs ts rest → optional_braced_at source read ts ≡ Ok (xs, rest)
  unfolding optional_braced_at
  optional_braced_read [] ts rest stops m = rw (m, stops) refl
  optional_braced_read (x ∷ xs) ts rest stops m =
      rw (after_read Open ts m.0 m.1, items_read (x ∷ xs) m.0 rest m.2) refl

  -- Tokens that start with an item do not start with a closing brace.
  module _ (begins : (ts : List Token) (x : X) (rest : List Token) → P x ts rest → after_mark Close ts ≡ None) where
    pub any_braced_read : (xs : List X) (ts rest : List Token) → IsAnyBraced P xs ts rest →
        any_braced_at source read ts ≡ Ok (xs, rest)
    unfolding any_braced_at
    any_braced_read [] ts rest m = rw (mark_read source Open ts m.0 m.1, after_read Close m.0 rest m.2) refl
    any_braced_read (x ∷ xs) ts rest m = rw (
      mark_read source Open ts m.0 m.1,
      begins m.0 x m.2.0 m.2.1,
      items_read (x ∷ xs) m.0 rest m.2,
    ) refl

-- The parser accepts the lists of words that are in the grammar.
module _ {X : Type 0} (meaning : List ℕ → Option X) (source : List ℕ) where
  pub each_word_read : (ts : List Token) (x : X) (rest : List Token) → Stops rest →
      IsWorded meaning source x ts rest → meaning_at meaning source ts ≡ Ok (x, rest)
  each_word_read ts x rest stops m = worded_read meaning source x ts rest m

  pub each_word_begins : (ts : List Token) (x : X) (rest : List Token) → IsWorded meaning source x ts rest →
      after_mark Close ts ≡ None
  each_word_begins ts x rest m = span_other Word Close m.0 ts rest refl m.2
