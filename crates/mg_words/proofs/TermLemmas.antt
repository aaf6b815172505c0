-- `RTP/` followed by a number of 32 bits is a valid termination name.
use Rattle.std.proofs.Common.{◌≡◌, ℕ, ◌^◌, ◌<◌, true, false, leb, eqb, List, [], ◌∷◌, length, refl, arith, decimal}
use Rattle.std.specs.List.{list_all}
use Rattle.std.specs.Char.{is_ascii_digit}
use Rattle.std.specs.Str.{all_ascii_digits}
use Rattle.std.proofs.lemmas.Bool.{leb-true, le-leb, and_parts, and_from, ne_eqb}
use Rattle.std.proofs.lemmas.Fmt.{digits_decimal}
use Rattle.std.proofs.lemmas.Str.Parse.{numerals_by_value, tells_all_ascii_digits}
use Rattle.mg_words.proofs.DecimalLemmas.{number_short}
use Rattle.mg_words.specs.WordByte.{is_word_byte}
use Rattle.mg_words.specs.Term.{is_term, rtp_name}

digit_is_word_byte : (c : ℕ) → is_ascii_digit c ≡ true → is_word_byte c ≡ true
digit_is_word_byte c e =
    let two = and_parts (leb 48 c) (leb c 57) e in
    let low = leb-true 48 c two.0 in
    let high = leb-true c 57 two.1 in
    rw (
      le-leb 33 c (omega (arith, low)),
      le-leb c 126 (omega (arith, high)),
      ne_eqb c 123 (λ q. omega (arith, high, q)),
      ne_eqb c 125 (λ q. omega (arith, high, q)),
      ne_eqb c 44 (λ q. omega (arith, low, q)),
      ne_eqb c 59 (λ q. omega (arith, high, q)),
      ne_eqb c 61 (λ q. omega (arith, high, q)),
      ne_eqb c 34 (λ q. omega (arith, low, q)),
    ) refl

digits_are_word_bytes : (ds : List ℕ) → all_ascii_digits ds ≡ true → list_all is_word_byte ds ≡ true
digits_are_word_bytes [] e = refl
digits_are_word_bytes (c ∷ cs) e =
    let two = and_parts (is_ascii_digit c) (all_ascii_digits cs) e in
    and_from (is_word_byte c) (list_all is_word_byte cs) (digit_is_word_byte c two.0) (digits_are_word_bytes cs two.1)

is_term_from : (text : List ℕ) → eqb (length text) 0 ≡ false → leb (length text) 64 ≡ true →
    list_all is_word_byte text ≡ true → is_term text ≡ true
is_term_from text a b d = rw (a, b, d) refl

pub rtp_is_term : (n : ℕ) → n < 2 ^ 32 → is_term (rtp_name n) ≡ true
rtp_is_term n small = is_term_from (rtp_name n) (ne_eqb (length (rtp_name n)) 0 (λ q. omega (arith, q)))
    (le-leb (length (rtp_name n)) 64 (omega (arith, number_short n small)))
    (digits_are_word_bytes (decimal n) (digits_decimal (numerals_by_value _ tells_all_ascii_digits) n (omega arith)))

pub ruleset names = (number_short, rtp_is_term)
