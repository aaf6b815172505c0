-- A number that is written in decimal reads back as itself.
use Rattle.std.proofs.Common.{◌≡◌, ℕ, ◌+◌, ◌-◌, ◌*◌, ◌/◌, ◌%◌, ◌^◌, ◌<◌, ◌≤◌, Bool, true, false, eqb, leb, List, [], ◌∷◌, ◌++◌, length, map, Some, refl, length-append, arith, decimal}
use Rattle.std.proofs.lemmas.Fmt.{decimal_by_steps}
use Rattle.std.proofs.lemmas.Int.Digits.{number_push}
use Rattle.std.proofs.lemmas.List.{map-append}
use Rattle.std.proofs.lemmas.Bool.{leb-true, le-leb, ne_eqb, and_parts, and_from}
use Rattle.std.specs.List.{list_all}
use Rattle.std.specs.Char.{is_ascii_digit}
use Rattle.std.specs.Str.{all_ascii_digits}
use Rattle.mg_words.specs.Numbers.{value_of_digits, decimal_of, port_of}
use Rattle.mg_words.proofs.DecimalLemmas.{byte_short, port_short}

-- The list ds holds the digits of n, and `last` is its last digit.
pub record IsWritten (n : ℕ) (ds : List ℕ) : Type 0 where
  pub front : List ℕ
  pub last : ℕ
  pub parts : ds ≡ front ++ last ∷ []
  pub digits : all_ascii_digits ds ≡ true
  pub digit : is_ascii_digit last ≡ true
  pub value : value_of_digits ds ≡ n

digit_at : (k : ℕ) → k < 10 → is_ascii_digit (48 + k) ≡ true
digit_at k h = and_from (leb 48 (48 + k)) (leb (48 + k) 57) (le-leb 48 (48 + k) (omega arith))
    (le-leb (48 + k) 57 (omega arith))

digits_push : (ds : List ℕ) (d : ℕ) → all_ascii_digits ds ≡ true → is_ascii_digit d ≡ true →
    all_ascii_digits (ds ++ d ∷ []) ≡ true
digits_push [] d h e = rw e refl
digits_push (c ∷ cs) d h e =
    let two = and_parts (is_ascii_digit c) (all_ascii_digits cs) h in
    and_from (is_ascii_digit c) (all_ascii_digits (cs ++ d ∷ [])) two.0 (digits_push cs d two.1 e)

written_one : (n : ℕ) → n < 10 → IsWritten n ((48 + n) ∷ [])
written_one n h = record {
  front = [];
  last = 48 + n;
  parts = refl;
  digits = rw (digit_at n h) refl;
  digit = digit_at n h;
  value = omega arith;
}

value_push : (ds : List ℕ) (d : ℕ) → value_of_digits (ds ++ d ∷ []) ≡ value_of_digits ds * 10 + (d - 48)
value_push ds d = rw (map-append (λ (c : ℕ). c - 48) ds (d ∷ [])) (number_push 10 (map (λ c. c - 48) ds) (d - 48))

written_more : (n : ℕ) (ds : List ℕ) → 10 ≤ n → IsWritten (n / 10) ds → IsWritten n (ds ++ ((48 + n % 10) ∷ []))
written_more n ds h before =
    let digit : is_ascii_digit (48 + n % 10) ≡ true = digit_at (n % 10) (omega arith) in
    record {
      front = ds;
      last = 48 + n % 10;
      parts = refl;
      digits = digits_push ds (48 + n % 10) before.digits digit;
      digit = digit;
      value = rw (value_push ds (48 + n % 10), before.value) (omega arith);
    }

pub written : (n : ℕ) → n < 2 ^ 64 → IsWritten n (decimal n)
written n h = decimal_by_steps IsWritten written_one written_more n h

some_digits : (n : ℕ) (ds : List ℕ) → IsWritten n ds → eqb (length ds) 0 ≡ false
some_digits n ds w = rw w.parts (ne_eqb (length (w.front ++ w.last ∷ [])) 0
    (λ e. absurd (omega (arith, length-append w.front (w.last ∷ [])))))

decimal_of-decimal : (most limit n : ℕ) → n < 2 ^ 64 → length (decimal n) ≤ most → n ≤ limit →
    decimal_of most limit (decimal n) ≡ Some n
decimal_of-decimal most limit n h short small =
    let w = written n h in
    rw (some_digits n (decimal n) w, le-leb (length (decimal n)) most short, w.digits, w.value, le-leb n limit small)
    refl

pub port_of-decimal : (n : ℕ) → n < 2 ^ 16 → port_of (decimal n) ≡ Some n
port_of-decimal n h = decimal_of-decimal 5 65535 n (omega arith) (port_short n h) (omega arith)

pub part_of-decimal : (n : ℕ) → n < 256 → decimal_of 3 255 (decimal n) ≡ Some n
part_of-decimal n h = decimal_of-decimal 3 255 n (omega arith) (byte_short n h) (omega arith)

digit_passes : (p : ℕ → Bool) → ((c : ℕ) → 48 ≤ c → c ≤ 57 → p c ≡ true) → (c : ℕ) → is_ascii_digit c ≡ true →
    p c ≡ true
digit_passes p h c e =
    let two = and_parts (leb 48 c) (leb c 57) e in
    h c (leb-true 48 c two.0) (leb-true c 57 two.1)

digits_pass : (p : ℕ → Bool) → ((c : ℕ) → 48 ≤ c → c ≤ 57 → p c ≡ true) → (ds : List ℕ) → all_ascii_digits ds ≡ true →
    list_all p ds ≡ true
digits_pass p h [] e = refl
digits_pass p h (c ∷ cs) e =
    let two = and_parts (is_ascii_digit c) (all_ascii_digits cs) e in
    and_from (p c) (list_all p cs) (digit_passes p h c two.0) (digits_pass p h cs two.1)

-- A property of all digits holds for each byte of a number in decimal.
pub decimal_passes : (p : ℕ → Bool) → ((c : ℕ) → 48 ≤ c → c ≤ 57 → p c ≡ true) → (n : ℕ) → n < 2 ^ 64 →
    list_all p (decimal n) ≡ true
decimal_passes p h n small = digits_pass p h (decimal n) (written n small).digits
