-- A reader of braces, which finds the brace that closes the first opening brace.
use Rattle.std.proofs.Common.{◌≡◌, ℕ, ◌+◌, ◌/◌, ◌%◌, ◌<◌, zero, suc, eqb, ltb, Bool, true, false, not, ◌&&◌, ◌||◌, cond, List, [], ◌∷◌, ◌++◌, Option, Some, None, refl, ap, ◌∙◌, append_assoc, arith, codes, decimal}
use Rattle.std.proofs.lemmas.Bool.{and_parts, and_from, ne_eqb, lt-ltb}
use Rattle.std.specs.List.{list_all}
use Rattle.std.specs.Fmt.{digits, digits_onto, digit_glyph}
use Rattle.mg_words.specs.WordByte.{is_word_byte}
use Rattle.mg_reply.specs.Listed.{listed, grouped}

-- The text after the brace that closes the first opening brace, if d braces are open.
abbrev pub after : ℕ → List ℕ → Option (List ℕ)
after d [] = None
after d (c ∷ cs) =
    elim (eqb c 123) [
      | true ↦ after (suc d) cs
      | false ↦ elim (eqb c 125) [
        | true ↦ elim d [ zero ↦ None | suc k ↦ elim k [ zero ↦ Some cs | suc j ↦ after (suc j) cs ] ]
        | false ↦ after d cs
      ]
    ]

-- Reading over the part p inside braces leaves the number of open braces unchanged.
abbrev pub IsPassed : List ℕ → Type 0
IsPassed p = (d : ℕ) (t : List ℕ) → after (suc d) (p ++ t) ≡ after (suc d) t

pub passed-append : (p q : List ℕ) → IsPassed p → IsPassed q → IsPassed (p ++ q)
passed-append p q one two = λ d t. ap (after (suc d)) (append_assoc p q t) ∙ one d (q ++ t) ∙ two d t

-- Reading over an opening brace, such a part and a closing brace leaves the number of open braces unchanged.
pub passed_inside : (p : List ℕ) → IsPassed p → (d : ℕ) (t : List ℕ) →
    after (suc (suc d)) ((p ++ codes "}") ++ t) ≡ after (suc d) t
passed_inside p one d t = ap (after (suc (suc d))) (append_assoc p (codes "}") t) ∙ one (suc d) (codes "}" ++ t)

-- Whether a byte is neither an opening nor a closing brace.
abbrev is_plain : ℕ → Bool
is_plain c = not (eqb c 123) && not (eqb c 125)

plain_by : (a b : Bool) → a ≡ false → b ≡ false → (not a && not b) ≡ true
plain_by true b h k = absurd cc
plain_by false true h k = absurd cc
plain_by false false h k = refl

plain_step : (d c : ℕ) (cs : List ℕ) → is_plain c ≡ true → after d (c ∷ cs) ≡ after d cs
plain_step d c cs h = by_tests (eqb c 123) (eqb c 125) h
  where
    by_tests : (a b : Bool) → (not a && not b) ≡ true →
        elim a as (λ _. Option (List ℕ)) [
          | true ↦ after (suc d) cs
          | false ↦ elim b as (λ _. Option (List ℕ)) [
            | true ↦ elim d as (λ _. Option (List ℕ))
                [ zero ↦ None | suc k ↦ elim k as (λ _. Option (List ℕ)) [ zero ↦ Some cs | suc j ↦ after (suc j) cs ] ]
            | false ↦ after d cs
          ]
        ] ≡ after d cs
    by_tests true b e = absurd cc
    by_tests false true e = absurd cc
    by_tests false false e = refl

pub plain_passed : (p : List ℕ) → list_all is_plain p ≡ true → (d : ℕ) (t : List ℕ) → after d (p ++ t) ≡ after d t
plain_passed [] h d t = refl
plain_passed (c ∷ cs) h d t =
    let parts = and_parts (is_plain c) (list_all is_plain cs) h in
    plain_step d c (cs ++ t) parts.0 ∙ plain_passed cs parts.1 d t

-- These lemmas show that the digits of a number contain no brace.
glyph_plain : (d : ℕ) → d < 10 → is_plain (digit_glyph false d) ≡ true
glyph_plain d h = by_test (ltb d 10) (lt-ltb d 10 h)
  where
    by_test : (b : Bool) → b ≡ true → is_plain (cond b (48 + d) (cond false (55 + d) (87 + d))) ≡ true
    by_test true e = plain_by (eqb (48 + d) 123) (eqb (48 + d) 125) (ne_eqb (48 + d) 123 (λ e. absurd (omega arith)))
        (ne_eqb (48 + d) 125 (λ e. absurd (omega arith)))
    by_test false e = absurd cc

digits_plain : (k n : ℕ) (acc : List ℕ) → list_all is_plain acc ≡ true →
    list_all is_plain (digits_onto k 10 false n acc) ≡ true
digits_plain zero n acc h = h
digits_plain (suc k) n acc h =
    let more = and_from (is_plain (digit_glyph false (n % 10))) (list_all is_plain acc)
    (glyph_plain (n % 10) (omega arith)) h in
    by_test (eqb (n / 10) 0) more (digits_plain k (n / 10) (digit_glyph false (n % 10) ∷ acc) more)
  where
    by_test : (b : Bool) → list_all is_plain (digit_glyph false (n % 10) ∷ acc) ≡ true →
        list_all is_plain (digits_onto k 10 false (n / 10) (digit_glyph false (n % 10) ∷ acc)) ≡ true →
        list_all is_plain (cond b (digit_glyph false (n % 10) ∷ acc)
        (digits_onto k 10 false (n / 10) (digit_glyph false (n % 10) ∷ acc))) ≡ true
    by_test true one other = one
    by_test false one other = other

decimal_plain : (n : ℕ) → list_all is_plain (decimal n) ≡ true
unfolding digits
decimal_plain n = digits_plain 64 n [] refl

pub decimal_passed : (n d : ℕ) (t : List ℕ) → after d (decimal n ++ t) ≡ after d t
decimal_passed n = plain_passed (decimal n) (decimal_plain n)

pub decimal_is_passed : (n : ℕ) → IsPassed (decimal n)
decimal_is_passed n = λ d t. decimal_passed n (suc d) t

-- These lemmas show that the bytes of a word contain no brace.
mark_by : (x a b c d e f : Bool) → (x && not (((((a || b) || c) || d) || e) || f)) ≡ true → (not a && not b) ≡ true
mark_by true true b c d e f h = absurd cc
mark_by true false true c d e f h = absurd cc
mark_by true false false c d e f h = refl
mark_by false a b c d e f h = absurd cc

word_plain : (p : List ℕ) → list_all is_word_byte p ≡ true → list_all is_plain p ≡ true
word_plain [] h = refl
word_plain (c ∷ cs) h =
    let parts = and_parts (is_word_byte c) (list_all is_word_byte cs) h in
    and_from (is_plain c) (list_all is_plain cs)
    (mark_by _ (eqb c 123) (eqb c 125) (eqb c 44) (eqb c 61) (eqb c 59) (eqb c 34) parts.0) (word_plain cs parts.1)

pub word_passed : (p : List ℕ) → list_all is_word_byte p ≡ true → IsPassed p
word_passed p h = λ d t. plain_passed p (word_plain p h) (suc d) t

-- Reading over each part of a list leaves the number of open braces unchanged.
abbrev pub ArePassed : List (List ℕ) → Type 0
ArePassed [] = Unit {0}
ArePassed (x ∷ xs) = IsPassed x × ArePassed xs

pub are_passed-append : (xs ys : List (List ℕ)) → ArePassed xs → ArePassed ys → ArePassed (xs ++ ys)
are_passed-append [] ys one two = two
are_passed-append (x ∷ xs) ys one two = (one.0, are_passed-append xs ys one.1 two)

pub next_passed : (xs : List (List ℕ)) → ArePassed xs → IsPassed (listed (codes ",") xs)
unfolding listed
next_passed [] all = λ d t. refl
next_passed (x ∷ xs) all = passed-append x (listed (codes ",") xs) all.0 (next_passed xs all.1)

pub grouped_passed : (xs : List (List ℕ)) → ArePassed xs → IsPassed (grouped xs)
unfolding listed
grouped_passed [] all = λ d t. refl
grouped_passed (x ∷ xs) all = passed_inside (x ++ listed (codes ",") xs)
    (passed-append x (listed (codes ",") xs) all.0 (next_passed xs all.1))
