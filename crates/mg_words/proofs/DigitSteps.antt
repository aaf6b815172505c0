-- Reading the digits of a number in a loop.
use Rattle.std.proofs.Common.{◌≡◌, ℕ, ◌+◌, ◌-◌, ◌*◌, ◌<◌, ◌≤◌, Bool, true, false, ◌&&◌, cond, leb, List, [], ◌∷◌, length, get_or, drop, map, Option, Some, None, refl, arith}
use Rattle.std.proofs.lemmas.List.{drop_more, drop_all}
use Rattle.std.proofs.lemmas.Bool.{and_right, le-leb, lt-leb, leb-true, leb-false, ne_eqb, eq-eqb}
use Rattle.std.proofs.lemmas.Int.Digits.{number_after_ge}
use Rattle.std.specs.Char.{is_ascii_digit}
use Rattle.std.specs.Str.{all_ascii_digits}
use Rattle.std.specs.Int.Digits.{number_from_digits_after}
use Rattle.std.specs.Prelude.{if◌then◌else◌, nat_le}
use Rattle.mg_words.specs.Numbers.{decimal_of}

-- The value of a number that starts with digits of value n and continues with the digits in the list. It is `None` if a
-- byte is not a digit, or if a digit takes the value above the limit.
unfoldable pub value_after : ℕ → ℕ → List ℕ → Option ℕ
value_after limit n [] = Some n
value_after limit n (d ∷ ds) = if is_ascii_digit d && nat_le (10 * n + (d - 48)) limit then
    value_after limit (10 * n + (d - 48)) ds else None

-- Reading one more digit does not change the value of the whole text, if the value including that digit is at most the
-- limit.
pub digit_step : (limit : ℕ) (text : List ℕ) (i n : ℕ) → i < length text → is_ascii_digit (get_or text i 0) ≡ true →
    10 * n + (get_or text i 0 - 48) ≤ limit →
    value_after limit (10 * n + (get_or text i 0 - 48)) (drop (i + 1) text) ≡ value_after limit n (drop i text)
unfolding value_after
digit_step limit text i n lt digit fits = rw (drop_more text i 0 lt, digit, le-leb _ _ fits) refl

pub no_digit : (limit : ℕ) (text : List ℕ) (i n : ℕ) → i < length text → is_ascii_digit (get_or text i 0) ≡ false →
    value_after limit n (drop i text) ≡ None
unfolding value_after
no_digit limit text i n lt digit = rw (drop_more text i 0 lt, digit) refl

pub too_large : (limit : ℕ) (text : List ℕ) (i n : ℕ) → i < length text → is_ascii_digit (get_or text i 0) ≡ true →
    limit < 10 * n + (get_or text i 0 - 48) → value_after limit n (drop i text) ≡ None
unfolding value_after
too_large limit text i n lt digit large = rw (drop_more text i 0 lt, digit, lt-leb _ _ large) refl

pub at_end : (limit : ℕ) (text : List ℕ) (i n : ℕ) → length text ≤ i → value_after limit n (drop i text) ≡ Some n
unfolding value_after
at_end limit text i n le = rw (drop_all i text le) refl

abbrev value_from : ℕ → List ℕ → ℕ
value_from m text = number_from_digits_after 10 m (map (λ c. c - 48) text)

-- The number n, if the flag is true and n is at most the limit.
abbrev checked : ℕ → Bool → ℕ → Option ℕ
checked limit b n = cond (b && leb n limit) (Some n) None

digit_is : (limit : ℕ) (b small : Bool) (d m : ℕ) (text : List ℕ) → is_ascii_digit d ≡ b →
    leb (10 * m + (d - 48)) limit ≡ small → ((n : ℕ) → n ≤ limit →
    value_after limit n text ≡ checked limit (all_ascii_digits text) (value_from n text))
    → value_after limit m (d ∷ text) ≡ checked limit (all_ascii_digits (d ∷ text)) (value_from m (d ∷ text))
unfolding value_after
digit_is limit false small d m text e f others = rw e refl
digit_is limit true true d m text e f others =
    let turn : 10 * m + (d - 48) ≡ m * 10 + (d - 48) = omega arith in
    rw (e, f, turn) (others (m * 10 + (d - 48)) (omega (arith, leb-true _ _ f)))
digit_is limit true false d m text e f others =
    let large : leb (value_from (m * 10 + (d - 48)) text) limit ≡ false =
    lt-leb _ _ (omega (
      arith,
      leb-false _ _ f,
      number_after_ge 10 (m * 10 + (d - 48)) (map (λ c. c - 48) text) (omega arith),
    )) in
    rw (e, f, large, and_right (all_ascii_digits text) false refl) refl

value_after_is : (limit : ℕ) (text : List ℕ) (m : ℕ) → m ≤ limit →
    value_after limit m text ≡ checked limit (all_ascii_digits text) (value_from m text)
unfolding value_after
value_after_is limit [] m small = rw (le-leb _ _ small) refl
value_after_is limit (d ∷ text) m small = digit_is limit (is_ascii_digit d) (leb (10 * m + (d - 48)) limit) d m text
    refl refl (value_after_is limit text)

-- For text that is neither empty nor too long, reading the digits one by one computes `decimal_of`.
pub decimal_is : (most limit : ℕ) (text : List ℕ) → 0 < length text → length text ≤ most →
    value_after limit 0 text ≡ decimal_of most limit text
decimal_is most limit text some fits = rw (ne_eqb (length text) 0 (λ e. absurd (omega arith)), le-leb _ _ fits)
    (value_after_is limit text 0 (omega arith))

pub empty_none : (most limit : ℕ) (text : List ℕ) → length text ≡ 0 → decimal_of most limit text ≡ None
empty_none most limit text none = rw (eq-eqb _ 0 none) refl

pub long_none : (most limit : ℕ) (text : List ℕ) → most < length text → decimal_of most limit text ≡ None
long_none most limit text long = rw (ne_eqb (length text) 0 (λ e. absurd (omega arith)), lt-leb _ _ long) refl

pub ruleset steps = (digit_step, no_digit, too_large, at_end, decimal_is, empty_none, long_none)
