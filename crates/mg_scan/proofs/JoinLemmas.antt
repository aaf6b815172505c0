-- Bytes with a token consist of white space, their first token, and the rest.
use Rattle.std.proofs.Common.{◌≡◌, ℕ, ◌+◌, suc, Bool, true, false, not, ◌==◌, ◌&&◌, ◌||◌, cond, eqb, List, [], ◌∷◌, ◌++◌, take, drop, Option, Some, None, Ok, refl, inl, inr, ◌⊎◌, sym, ap, subst, ◌∙◌, append_assoc, arith}
use Rattle.std.proofs.lemmas.Bool.{eqb-true, and_parts}
use Rattle.std.proofs.lemmas.List.{take-append-drop}
use Rattle.std.specs.List.{prefix_len, position_or_len}
use Rattle.std.specs.Option.{option_map}
use Rattle.mg_scan.specs.declared.kind.TokenKind.{TokenKind}
use Rattle.mg_scan.specs.declared.kind.TokenKind.TheVariants.{Word, Open, Close, Comma, Equals, Quoted, Octets}
use Rattle.mg_words.specs.WordByte.{is_word_byte}
use Rattle.mg_words.specs.LineEnd.{is_line_end}
use Rattle.mg_scan.specs.Tokens.{is_blank, is_quote_end, after_white, TokenAndRest, token_and_rest, closed_at, token_at, content_len, has_null, octets_closed, token_after, first_token}
use Rattle.mg_scan.specs.aids.Spelled.{spelled}
use Rattle.mg_scan.specs.aids.White.{IsWhite, nothing, blank, semicolon, comment, line_end}

pub chosen : {A : Type 0} (b : Bool) (x y z : A) → cond b x y ≡ z → ((b ≡ true) × (x ≡ z)) ⊎ ((b ≡ false) × (y ≡ z))
chosen true x y z e = inl (refl, e)
chosen false x y z e = inr (refl, e)

-- The bytes are white space followed by `rest`.
abbrev HasFront : Bool → List ℕ → List ℕ → Type 0
HasFront inside bs rest = (white : List ℕ) × IsWhite inside white × (bs ≡ white ++ rest)

-- A byte that can be put in front of the white space can also be put in front of the bytes.
grown : (was inside : Bool) (b : ℕ) (bs rest : List ℕ) →
    ((white : List ℕ) → IsWhite inside white → IsWhite was (b ∷ white)) → HasFront inside bs rest →
    HasFront was (b ∷ bs) rest
grown was inside b bs rest more h = (b ∷ h.0, more h.0 h.1, ap (λ (l : List ℕ). b ∷ l) h.2)

either_front : (t : Bool) (inside : Bool) (bs x y : List ℕ) → (t ≡ true → HasFront inside bs x) →
    (t ≡ false → HasFront inside bs y) → HasFront inside bs (cond t x y)
either_front true inside bs x y h k = h refl
either_front false inside bs x y h k = k refl

or_true : (t : Bool) → (t || true) ≡ true
or_true true = refl
or_true false = refl

line_end_blank : (b : ℕ) → is_line_end b ≡ true → is_blank b ≡ true
line_end_blank b e = rw e (or_true (b == 32 || b == 9))

semicolon_front : (b : ℕ) (bs rest : List ℕ) → (b == 59) ≡ true → HasFront true bs rest → HasFront false (b ∷ bs) rest
semicolon_front b bs rest e h = rw (eqb-true b 59 e) (grown false true 59 bs rest (λ white. semicolon white) h)

pub white_front : (inside : Bool) (bs : List ℕ) → HasFront inside bs (after_white inside bs)
unfolding after_white
white_front inside [] = ([], nothing inside, refl)
white_front true (b ∷ bs) =
    either_front (is_line_end b) true (b ∷ bs) _ _
    (λ e. grown true false b bs _ (λ white. line_end b white e) (white_front false bs))
    (λ e. grown true true b bs _ (λ white. comment b white e) (white_front true bs))
white_front false (b ∷ bs) =
    either_front (is_line_end b) false (b ∷ bs) _ _
    (λ e. grown false false b bs _ (λ white. blank b white (line_end_blank b e)) (white_front false bs))
    (λ _. either_front (is_blank b) false (b ∷ bs) _ _
    (λ e. grown false false b bs _ (λ white. blank b white e) (white_front false bs))
    (λ _. either_front (b == 59) false (b ∷ bs) _ _
    (λ e. semicolon_front b bs _ e (white_front true bs))
    (λ _. ([], nothing false, refl))))

abbrev read_as : TokenKind → List ℕ → List ℕ → TokenAndRest
read_as kind text rest = record { piece = record { kind = kind; text = text }; rest = rest }

-- The bytes are the spelling of the token followed by the rest.
abbrev Joins : List ℕ → TokenAndRest → Type 0
Joins bs x = bs ≡ spelled x.piece.kind x.piece.text ++ x.rest

done : (bs : List ℕ) (k : TokenKind) (text rest : List ℕ) (x : TokenAndRest) → bs ≡ spelled k text ++ rest →
    token_and_rest k text rest ≡ Some (Ok x) → Joins bs x
done bs k text rest x h e = let same : read_as k text rest ≡ x = cc in subst (Joins bs) same h

closed_joins : (text bs : List ℕ) (x : TokenAndRest) → closed_at text bs ≡ Some (Ok x) → Joins (34 ∷ (text ++ bs)) x
closed_joins text [] x e = absurd cc
closed_joins text (b ∷ bs) x e =
    elim (chosen (eqb b 34) _ _ _ e) [
      | inl quote ↦ done _ Quoted text bs x (rw (eqb-true _ _ quote.0)
          (ap (λ (l : List ℕ). 34 ∷ l) (sym (append_assoc text (34 ∷ []) bs)))) quote.1
      | inr other ↦ absurd (cc other.1)
    ]

pub token_joins : (bs : List ℕ) (x : TokenAndRest) → token_at bs ≡ Some (Ok x) → Joins bs x
unfolding token_at
token_joins [] x e = absurd cc
token_joins (b ∷ bs) x e =
    elim (chosen (is_word_byte b) _ _ _ e) [
      | inl word ↦ done _ Word _ _ x (sym (take-append-drop (prefix_len is_word_byte (b ∷ bs)) (b ∷ bs))) word.1
      | inr a ↦ elim (chosen (eqb b 123) _ _ _ a.1) [
        | inl open_is ↦ done _ Open _ _ x refl open_is.1
        | inr c ↦ elim (chosen (eqb b 125) _ _ _ c.1) [
          | inl close_is ↦ done _ Close _ _ x refl close_is.1
          | inr d ↦ elim (chosen (eqb b 44) _ _ _ d.1) [
            | inl comma_is ↦ done _ Comma _ _ x refl comma_is.1
            | inr f ↦ elim (chosen (eqb b 61) _ _ _ f.1) [
              | inl equals_is ↦ done _ Equals _ _ x refl equals_is.1
              | inr g ↦ elim (chosen (eqb b 34) _ _ _ g.1) [
                | inl quote ↦
                    let n = position_or_len is_quote_end bs in
                    let whole : Joins (34 ∷ (take n bs ++ drop n bs)) x =
                    closed_joins (take n bs) (drop n bs) x quote.1 in
                    let front : b ∷ bs ≡ 34 ∷ (take n bs ++ drop n bs) =
                    rw (eqb-true _ _ quote.0, take-append-drop n bs) refl in
                    front ∙ whole
                | inr bad ↦ absurd (cc bad.1)
              ]
            ]
          ]
        ]
      ]
    ]

-- These lemmas show that a closing brace follows a session description.
some_is : (o : Option ℕ) (n : ℕ) → option_map (λ k. 1 + k) o ≡ Some n → (k : ℕ) × (o ≡ Some k) × (n ≡ 1 + k)
some_is None n e = absurd cc
some_is (Some k) n e = (k, refl, cc)

one_after : (b : ℕ) (bs : List ℕ) (n k : ℕ) → n ≡ 1 + k → drop k bs ≡ 125 ∷ drop (k + 1) bs →
    drop n (b ∷ bs) ≡ 125 ∷ drop (n + 1) (b ∷ bs)
one_after b bs n k e h =
    let one : n ≡ suc k = omega arith in
    let two : n + 1 ≡ suc (k + 1) = omega arith in
    rw (two, one) h

brace_after : (escaped : Bool) (bs : List ℕ) (n : ℕ) → content_len escaped bs ≡ Some n →
    drop n bs ≡ 125 ∷ drop (n + 1) bs
unfolding content_len
brace_after escaped [] n e = absurd cc
brace_after escaped (b ∷ bs) n e =
    elim (chosen (eqb b 125 && not escaped) _ _ _ e) [
      | inl here ↦
          let zero_is : 0 ≡ n = cc here.1 in
          rw (← zero_is) (ap (λ (c : ℕ). c ∷ bs) (eqb-true _ _ (and_parts _ _ here.0).0))
      | inr later ↦
          let k = some_is (content_len (eqb b 92) bs) n later.1 in
          one_after b bs n k.0 k.2 (brace_after (eqb b 92) bs k.0 k.1)
    ]

octets_join : (bs : List ℕ) (o : Option ℕ) (x : TokenAndRest) → content_len false bs ≡ o →
    octets_closed bs o ≡ Some (Ok x) → Joins (123 ∷ bs) x
octets_join bs None x is e =
    elim (chosen (has_null bs) _ _ _ e) [ inl bad ↦ absurd (cc bad.1) | inr bad ↦ absurd (cc bad.1) ]
octets_join bs (Some n) x is e =
    elim (chosen (has_null (take n bs)) _ _ _ e) [
      | inl bad ↦ absurd (cc bad.1)
      | inr good ↦
          let parts : bs ≡ take n bs ++ (125 ∷ drop (n + 1) bs) = sym (take-append-drop n bs) ∙
          ap (λ (l : List ℕ). take n bs ++ l) (brace_after false bs n is) in
          done _ Octets (take n bs) (drop (n + 1) bs) x
          (ap (λ (l : List ℕ). 123 ∷ l) (parts ∙ sym (append_assoc (take n bs) (125 ∷ []) (drop (n + 1) bs))))
          good.1
    ]

after_joins : (named : Bool) (bs : List ℕ) (x : TokenAndRest) → token_after named bs ≡ Some (Ok x) → Joins bs x
unfolding token_after
after_joins named [] x e = absurd cc
after_joins named (b ∷ bs) x e =
    elim (chosen (named && eqb b 123) _ _ _ e) [
      | inl octets ↦ ap (λ (c : ℕ). c ∷ bs) (eqb-true _ _ (and_parts _ _ octets.0).1) ∙
          octets_join bs (content_len false bs) x refl octets.1
      | inr other ↦ token_joins (b ∷ bs) x other.1
    ]

-- If the bytes have a first token, they are white space, the token's spelling, and the rest.
pub first_joins : (named : Bool) (bytes : List ℕ) (x : TokenAndRest) → first_token named bytes ≡ Some (Ok x) →
    (white : List ℕ) × IsWhite false white × (bytes ≡ white ++ (spelled x.piece.kind x.piece.text ++ x.rest))
first_joins named bytes x e =
    let front = white_front false bytes in
    (front.0, front.1, front.2 ∙ ap (λ (l : List ℕ). front.0 ++ l) (after_joins named (after_white false bytes) x e))
