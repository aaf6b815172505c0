-- If the parser accepts marks, words, groups and lists, they are in the grammar.
use Rattle.std.proofs.Common.{◌≡◌, ℕ, zero, suc, ◌-◌, ◌≢◌, eqb, Bool, true, false, cond, List, [], ◌∷◌, length, Option, Some, None, Result, Ok, Err, refl, inl, inr, ◌⊎◌, sym, ap, subst, ◌∙◌, arith}
use Rattle.std.proofs.lemmas.Bool.{ne_eqb, false≢true}
use Rattle.mg_scan.specs.declared.kind.TokenKind.{TokenKind}
use Rattle.mg_scan.specs.declared.kind.TokenKind.TheVariants.{Word, Open, Close, Comma, Equals, Quoted, Octets}
use Rattle.mg_scan.specs.declared.span.Span.{Span}
use Rattle.mg_scan.specs.declared.token.Token.{Token}
use Rattle.mg_scan.specs.Span.{text_of}
use Rattle.mg_scan.proofs.JoinLemmas.{chosen}
use Rattle.mg_text.specs.declared.keyword.Keyword.{Keyword}
use Rattle.mg_words.specs.Term.{is_term}
use Rattle.mg_text.specs.Keyword.{is_named}
use Rattle.mg_words.specs.ResultSteps.{◌>>=◌}
use Rattle.mg_text.specs.aids.Reading.{if_some, mark_at, span_at, word_at, named_at, meaning_at, term_at, after_group, group_at, filled_at, list_at, items_at, braced_at, any_braced_at, optional_braced_at}
use Rattle.mg_scan.specs.aids.Marks.{is_kind, after_mark}
use Rattle.mg_text.specs.Production.{Production}
use Rattle.mg_text.specs.Grammar.{IsMark, IsSpan, IsWord, IsWordThat, IsWorded, IsMore, IsListed, IsBraced, IsOptionalBraced, IsEmptyBraces, IsAnyBraced, IsBalanced, nothing, plain, nested, IsGroup, IsContent}

-- If a sequence of two steps succeeds, both steps succeed.
pub bind_ok : {A B : Type 0} (r : Result A ℕ) (f : A → Result B ℕ) (y : B) → (r >>= f) ≡ Ok y → (x : A) × (r ≡ Ok x) ×
    (f x ≡ Ok y)
bind_ok (Ok x) f y e = (x, refl, e)
bind_ok (Err d) f y e = absurd cc

pub guard_ok : {A : Type 0} (b : Bool) (d : ℕ) (x y : A) → cond b (Ok x) (Err d) ≡ Ok y → (b ≡ true) × (x ≡ y)
guard_ok true d x y e = (refl, cc)
guard_ok false d x y e = absurd cc

abbrev pub IsSpelled : {X : Type 0} → (X → Production) → List Token → X × List Token → Type 0
IsSpelled P ts x = P x.0 ts x.1

abbrev done : {A : Type 0} → A → Result A ℕ
done x = Ok x

pub ok_is : {A : Type 0} (x y : A) → done x ≡ done y → x ≡ y
ok_is x y e = cc

pub is_kind-true : (a b : TokenKind) → is_kind a b ≡ true → a ≡ b
is_kind-true Word Word e = refl
is_kind-true Open Open e = refl
is_kind-true Close Close e = refl
is_kind-true Comma Comma e = refl
is_kind-true Equals Equals e = refl
is_kind-true Quoted Quoted e = refl
is_kind-true Octets Octets e = refl
is_kind-true _ _ e = absurd cc

pub is_kind-same : (k : TokenKind) → is_kind k k ≡ true
is_kind-same Word = refl
is_kind-same Open = refl
is_kind-same Close = refl
is_kind-same Comma = refl
is_kind-same Equals = refl
is_kind-same Quoted = refl
is_kind-same Octets = refl

is_kind-apart : (a b : TokenKind) → is_kind a b ≡ false → a ≢ b
is_kind-apart a b e same = false≢true (sym e ∙ ap (is_kind a) (sym same) ∙ is_kind-same a)

abbrev token_of : TokenKind → Span → Token
token_of kind span = record { kind = kind; span = span }

-- A token of this kind at the front is a part of the grammar.
pub token_is : (kind : TokenKind) (t : Token) (ts rest : List Token) → t.kind ≡ kind → ts ≡ rest →
    IsSpan kind t.span (t ∷ ts) rest
token_is kind t ts rest k e = ap (λ (j : TokenKind). token_of j t.span ∷ ts) k ∙
    ap (λ (r : List Token). token_of kind t.span ∷ r) e

pub mark_found : (source : List ℕ) (kind : TokenKind) (ts rest : List Token) → mark_at source kind ts ≡ Ok rest →
    IsMark kind ts rest
unfolding mark_at
mark_found source kind [] rest e = absurd cc
mark_found source kind (t ∷ ts) rest e =
    let g = guard_ok (is_kind t.kind kind) t.span.start ts rest e in
    (t.span, token_is kind t ts rest (is_kind-true t.kind kind g.0) g.1)

some_guard : {A : Type 0} (b : Bool) (x y : A) → cond b (Some x) None ≡ Some y → (b ≡ true) × (x ≡ y)
some_guard true x y e = (refl, cc)
some_guard false x y e = absurd cc

pub after_found : (kind : TokenKind) (ts rest : List Token) → after_mark kind ts ≡ Some rest → IsMark kind ts rest
unfolding after_mark
after_found kind [] rest e = absurd cc
after_found kind (t ∷ ts) rest e =
    let g = some_guard (is_kind t.kind kind) ts rest e in
    (t.span, token_is kind t ts rest (is_kind-true t.kind kind g.0) g.1)

pub span_found : (source : List ℕ) (kind : TokenKind) (ts : List Token) (x : Span × List Token) →
    span_at source kind ts ≡ Ok x → IsSpan kind x.0 ts x.1
unfolding span_at
span_found source kind [] x e = absurd cc
span_found source kind (t ∷ ts) x e =
    let g = guard_ok (is_kind t.kind kind) t.span.start (t.span, ts) x e in
    subst (IsSpelled (IsSpan kind) (t ∷ ts)) g.1 (token_is kind t ts ts (is_kind-true t.kind kind g.0) refl)

pub word_found : (source : List ℕ) (ts : List Token) (x : Span × List Token) → word_at source ts ≡ Ok x →
    IsWord x.0 ts x.1
word_found source ts x e = span_found source Word ts x e

pub named_found : (source : List ℕ) (keyword : Keyword) (ts rest : List Token) →
    named_at source keyword ts ≡ Ok rest →
    (w : Span) × (is_named (text_of source w) keyword ≡ true) × IsWord w ts rest
unfolding named_at
named_found source keyword ts rest e =
    let w = bind_ok (word_at source ts) _ rest e in
    let g = guard_ok (is_named (text_of source w.0.0) keyword) w.0.0.start w.0.1 rest w.2 in
    (w.0.0, g.0, subst (λ (r : List Token). IsWord w.0.0 ts r) g.1 (word_found source ts w.0 w.1))

-- The result of `if_some` is the result of one of its two branches.
pub if_some_ok : {A B : Type 0} (o : Option A) (f : A → Result B ℕ) (b : Result B ℕ) (y : B) → if_some o f b ≡ Ok y →
    ((a : A) × (o ≡ Some a) × (f a ≡ Ok y)) ⊎ ((o ≡ None) × (b ≡ Ok y))
if_some_ok None f b y e = inr (refl, e)
if_some_ok (Some a) f b y e = inl (a, refl, e)

worded-cases : {X : Type 0} (o : Option X) (rest : List Token) (place : ℕ) (x : X × List Token) →
    if_some o (λ v. Ok (v, rest)) (Err place) ≡ Ok x → (o ≡ Some x.0) × (rest ≡ x.1)
worded-cases None rest place x e = absurd cc
worded-cases {X} (Some v) rest place x e = (
  ap (λ (p : X × List Token). Some p.0) (ok_is (v, rest) x e),
  ap (λ (p : X × List Token). p.1) (ok_is (v, rest) x e),
)

pub worded_found : {X : Type 0} (meaning : List ℕ → Option X) (source : List ℕ) (ts : List Token) (x : X × List Token)
    → meaning_at meaning source ts ≡ Ok x → IsWorded meaning source x.0 ts x.1
unfolding meaning_at
worded_found meaning source ts x e =
    let w = bind_ok (word_at source ts) _ x e in
    let g = worded-cases (meaning (text_of source w.0.0)) w.0.1 w.0.0.start x w.2 in
    (w.0.0, g.0, subst (λ (r : List Token). IsWord w.0.0 ts r) g.1 (word_found source ts w.0 w.1))

-- For each of the n open braces and for the current group, the tokens contain balanced tokens and a closing brace.
abbrev Closes : ℕ → List Token → List Token → Type 0
Closes zero ts rest = (b : List Token) × IsBalanced ts b × IsMark Close b rest
Closes (suc n) ts rest = (b : List Token) × (a : List Token) × IsBalanced ts b × IsMark Close b a × Closes n a rest

closes_plain : (n : ℕ) (t : Token) (ts rest : List Token) → t.kind ≢ Open → t.kind ≢ Close → Closes n ts rest →
    Closes n (t ∷ ts) rest
closes_plain zero t ts rest p q h = (h.0, plain t ts h.0 p q h.1, h.2)
closes_plain (suc n) t ts rest p q h = (h.0, h.1, plain t ts h.0 p q h.2, h.3, h.4)

closes_nested : (n : ℕ) (ts a rest : List Token) → IsMark Open ts a → Closes (suc n) a rest → Closes n ts rest
closes_nested zero ts a rest opens h = (h.4.0, nested ts a h.0 h.1 h.4.0 opens h.2 h.3 h.4.1, h.4.2)
closes_nested (suc n) ts a rest opens h =
    (h.4.0, h.4.1, nested ts a h.0 h.1 h.4.0 opens h.2 h.3 h.4.2, h.4.3, h.4.4)

close_found : (source : List ℕ) (n : ℕ) (t : Token) (ts rest : List Token) → t.kind ≡ Close →
    cond (eqb n 0) (Ok ts) (after_group source (n - 1) ts) ≡ Ok rest →
    ((m : ℕ) → after_group source m ts ≡ Ok rest → Closes m ts rest) → Closes n (t ∷ ts) rest
close_found source zero t ts rest closes e others = (
  t ∷ ts,
  nothing (t ∷ ts),
  (t.span, token_is Close t ts rest closes (ok_is ts rest e)),
)
close_found source (suc n) t ts rest closes e others =
    let one : suc n - 1 ≡ n = omega arith in
    let more : eqb (suc n) 0 ≡ false = ne_eqb (suc n) 0 (λ q. absurd (omega arith)) in (
      t ∷ ts,
      ts,
      nothing (t ∷ ts),
      (t.span, token_is Close t ts ts closes refl),
      others n (ap (λ (m : ℕ). after_group source m ts) (sym one) ∙ (rw more at e)),
    )

pub group_found : (source : List ℕ) (n : ℕ) (ts rest : List Token) → after_group source n ts ≡ Ok rest →
    Closes n ts rest
unfolding after_group
group_found source n [] rest e = absurd cc
group_found source n (t ∷ ts) rest e =
    elim (chosen (is_kind t.kind Open) _ _ _ e) [
      | inl opens ↦ closes_nested n (t ∷ ts) ts rest
          (t.span, token_is Open t ts ts (is_kind-true t.kind Open opens.0) refl)
          (group_found source (suc n) ts rest opens.1)
      | inr other ↦
          elim (chosen (is_kind t.kind Close) _ _ _ other.1) [
            | inl closes ↦ close_found source n t ts rest (is_kind-true t.kind Close closes.0) closes.1
                (λ m. group_found source m ts rest)
            | inr passes ↦ closes_plain n t ts rest (is_kind-apart t.kind Open other.0)
                (is_kind-apart t.kind Close passes.0) (group_found source n ts rest passes.1)
          ]
    ]

pub group_at_found : (source : List ℕ) (ts rest : List Token) → group_at source ts ≡ Ok rest → IsGroup ts rest
unfolding group_at
group_at_found source ts rest e =
    let a = bind_ok (mark_at source Open ts) _ rest e in
    let g = group_found source 0 a.0 rest a.2 in
    (a.0, mark_found source Open ts a.0 a.1, (g.0, g.1, g.2))

pub term_found : (source : List ℕ) (ts : List Token) (x : Span × List Token) → term_at source ts ≡ Ok x →
    IsWordThat is_term source x.0 ts x.1
unfolding term_at
term_found source ts x e =
    let w = bind_ok (word_at source ts) _ x e in
    let g = guard_ok (is_term (text_of source w.0.0)) w.0.0.start w.0 x w.2 in
    subst (IsSpelled (IsWordThat is_term source) ts) g.1 (g.0, word_found source ts w.0 w.1)

closes_there : (ts rest : List Token) → IsMark Close ts rest → after_mark Close ts ≡ Some rest
unfolding after_mark
closes_there ts rest m = rw m.1 refl

never : (ts rest : List Token) → after_mark Close ts ≡ None → after_mark Close ts ≡ Some rest → ⊥
never ts rest e h = cc

abbrev after_first : List Token → List Token
after_first [] = []
after_first (t ∷ ts) = ts

-- If the first token of a group does not close the group, the braces are not empty.
not_empty : (ts a rest : List Token) → IsMark Open ts a → after_mark Close a ≡ None → IsEmptyBraces ts rest → ⊥
not_empty ts a rest opens none h =
    let same : a ≡ h.0 = ap after_first (sym opens.1 ∙ h.1.1) in
    never h.0 rest (subst (λ (r : List Token). after_mark Close r ≡ None) same none) (closes_there h.0 rest h.2)

pub filled_found : (source : List ℕ) (ts : List Token) (x : Bool × List Token) → filled_at source ts ≡ Ok x →
    IsContent x.0 ts x.1
unfolding filled_at
filled_found source ts x e =
    elim (if_some_ok (after_mark Open ts) _ _ x e) [
      | inl some ↦
          let opens = after_found Open ts some.0 some.1 in
          elim (if_some_ok (after_mark Close some.0) _ _ x some.2) [
            | inl empty ↦ subst (IsSpelled IsContent ts) (ok_is _ x empty.2)
                (inr (some.0, opens, after_found Close some.0 empty.0 empty.1))
            | inr full ↦
                let rest = bind_ok (after_group source 0 some.0) _ x full.1 in
                let g = group_found source 0 some.0 rest.0 rest.1 in
                subst (IsSpelled IsContent ts) (ok_is _ x rest.2)
                ((some.0, opens, (g.0, g.1, g.2)), not_empty ts some.0 rest.0 opens full.0)
          ]
      | inr none ↦ subst (IsSpelled IsContent ts) (ok_is _ x none.1) (inl refl)
    ]

module _ {X : Type 0} (source : List ℕ) (read : List Token → Result (X × List Token) ℕ)
    (P : X → Production)
    (sound : (ts : List Token) (x : X × List Token) → read ts ≡ Ok x → P x.0 ts x.1) where
  -- A list that is parsed has a first item, and is in the grammar.
  list_found : (n : ℕ) (ts : List Token) (xs : List X × List Token) → list_at source read n ts ≡ Ok xs →
      IsListed P xs.0 ts xs.1
  unfolding list_at
  list_found zero ts xs e = absurd cc
  list_found (suc n) ts xs e =
      let first = bind_ok (read ts) _ xs e in
      let p = sound ts first.0 first.1 in
      elim (if_some_ok (after_mark Comma first.0.1) _ _ xs first.2) [
        | inl more ↦
            let others = bind_ok (list_at source read n more.0) _ xs more.2 in
            let comma = after_found Comma first.0.1 more.0 more.1 in
            subst (λ (y : List X × List Token). IsListed P y.0 ts y.1) (ok_is _ xs others.2) (
              first.0.1,
              p,
              after_comma others.0.0 first.0.1 more.0 others.0.1 comma
                  (list_found n more.0 others.0 others.1),
            )
        | inr last ↦
            let close = bind_ok (mark_at source Close first.0.1) _ xs last.1 in
            subst (λ (y : List X × List Token). IsListed P y.0 ts y.1) (ok_is _ xs close.2)
            (first.0.1, p, mark_found source Close first.0.1 close.0 close.1)
      ]
    where
      after_comma : (xs : List X) (ts a rest : List Token) → IsMark Comma ts a → IsListed P xs a rest →
          IsMore P xs ts rest
      after_comma [] ts a rest comma h = absurd h
      after_comma (x ∷ xs) ts a rest comma h = (a, comma, h)

  pub items_found : (ts : List Token) (xs : List X × List Token) → items_at source read ts ≡ Ok xs →
      IsListed P xs.0 ts xs.1
  items_found ts xs e = list_found (length ts) ts xs e

  pub braced_found : (ts : List Token) (xs : List X × List Token) → braced_at source read ts ≡ Ok xs →
      IsBraced P xs.0 ts xs.1
  unfolding braced_at
  braced_found ts xs e =
      let a = bind_ok (mark_at source Open ts) _ xs e in
      (a.0, mark_found source Open ts a.0 a.1, items_found a.0 xs a.2)

  some_optional : (xs : List X) (ts a rest : List Token) → IsMark Open ts a → IsListed P xs a rest →
      IsOptionalBraced P xs ts rest
  some_optional [] ts a rest opens h = absurd h
  some_optional (x ∷ xs) ts a rest opens h = (a, opens, h)

  some_any : (xs : List X) (ts a rest : List Token) → IsMark Open ts a → IsListed P xs a rest → IsAnyBraced P xs ts rest
  some_any [] ts a rest opens h = absurd h
  some_any (x ∷ xs) ts a rest opens h = (a, opens, h)

  pub any_braced_found : (ts : List Token) (xs : List X × List Token) → any_braced_at source read ts ≡ Ok xs →
      IsAnyBraced P xs.0 ts xs.1
  unfolding any_braced_at
  any_braced_found ts xs e =
      let a = bind_ok (mark_at source Open ts) _ xs e in
      let opens = mark_found source Open ts a.0 a.1 in
      elim (if_some_ok (after_mark Close a.0) _ _ xs a.2) [
        | inl none ↦ subst (λ (y : List X × List Token). IsAnyBraced P y.0 ts y.1) (ok_is _ xs none.2)
            (a.0, opens, after_found Close a.0 none.0 none.1)
        | inr some ↦ some_any xs.0 ts a.0 xs.1 opens (items_found a.0 xs some.1)
      ]

  pub optional_braced_found : (ts : List Token) (xs : List X × List Token) →
      optional_braced_at source read ts ≡ Ok xs → IsOptionalBraced P xs.0 ts xs.1
  unfolding optional_braced_at
  optional_braced_found ts xs e =
      elim (if_some_ok (after_mark Open ts) _ _ xs e) [
        | inl some ↦ some_optional xs.0 ts some.0 xs.1 (after_found Open ts some.0 some.1)
            (items_found some.0 xs some.2)
        | inr none ↦ subst (λ (y : List X × List Token). IsOptionalBraced P y.0 ts y.1) (ok_is _ xs none.1) refl
      ]
