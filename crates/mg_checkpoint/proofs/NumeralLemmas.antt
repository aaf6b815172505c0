-- Decimal numerals without a bound: they determine their numbers, and have only digits.
use Rattle.std.proofs.Common.{◌≡◌, ℕ, zero, suc, ◌+◌, ◌-◌, ◌*◌, ◌/◌, ◌%◌, ◌^◌, ◌<◌, Bool, true, false, cond, ◌&&◌, nat_le, List, [], ◌∷◌, decimal, refl, sym, ap, ◌∙◌, arith, eqb, pow-suc, eq-eqb, subst}
use Rattle.std.proofs.lemmas.Bool.{false≢true}
use Rattle.std.proofs.lemmas.Bool.Decides.{nat_tests}
use Rattle.std.specs.Fmt.{digits_onto, digit_glyph, digits}
use Rattle.std.specs.List.{list_all}
use Rattle.mg_checkpoint.specs.aids.Forms.{numeral}

-- The value of digits, after a value.
unfoldable pub value_after : ℕ → List ℕ → ℕ
value_after v [] = v
value_after v (d ∷ ds) = value_after (10 * v + (d - 48)) ds

abbrev pub is_digit : ℕ → Bool
is_digit b = nat_le 48 b && nat_le b 57

glyph_of : (d : ℕ) → d < 10 → digit_glyph false d ≡ 48 + d
glyph_of d small = grind (arith, nat_tests)

value_step : (b : Bool) (k n : ℕ) (acc : List ℕ) → eqb (n / 10) 0 ≡ b
    → value_after 0 (digits_onto k 10 false (n / 10) (digit_glyph false (n % 10) ∷ acc))
    ≡ value_after (n / 10) (digit_glyph false (n % 10) ∷ acc)
    → value_after 0 (cond b (digit_glyph false (n % 10) ∷ acc)
    (digits_onto k 10 false (n / 10) (digit_glyph false (n % 10) ∷ acc)))
    ≡ value_after n acc
unfolding value_after
value_step true k n acc e rest =
    let small : n / 10 ≡ 0 = grind (arith, nat_tests) in
    let glyph = glyph_of (n % 10) (omega arith) in
    ap (λ (v : ℕ). value_after v acc) (omega arith)
value_step false k n acc e rest =
    let glyph = glyph_of (n % 10) (omega arith) in
    rest ∙ ap (λ (v : ℕ). value_after v acc) (omega arith)

value_onto : (k n : ℕ) (acc : List ℕ) → n < 10 ^ k → value_after 0 (digits_onto k 10 false n acc) ≡ value_after n acc
value_onto zero n acc small = ap (λ (v : ℕ). value_after v acc) (omega arith)
value_onto (suc k) n acc small =
    let size : 10 ^ suc k ≡ 10 ^ k * 10 = pow-suc 10 k in
    let less : n / 10 < 10 ^ k = omega arith in
    value_step (eqb (n / 10) 0) k n acc refl (value_onto k (n / 10) (digit_glyph false (n % 10) ∷ acc) less)

below_power : (n : ℕ) → n < 10 ^ suc n
below_power zero = omega arith
below_power (suc n) =
    let size : 10 ^ suc (suc n) ≡ 10 ^ suc n * 10 = pow-suc 10 (suc n) in
    let less : n < 10 ^ suc n = below_power n in
    omega arith

pub value_of_numeral : (n : ℕ) → value_after 0 (numeral n) ≡ n
unfolding numeral value_after
value_of_numeral n = value_onto (suc n) n [] (below_power n)

pub numeral_injective : (m n : ℕ) → numeral m ≡ numeral n → m ≡ n
numeral_injective m n e = sym (value_of_numeral m) ∙ ap (value_after 0) e ∙ value_of_numeral n

-- ## Digits

digits_step : (b : Bool) (k n : ℕ) (acc : List ℕ)
    → list_all is_digit (digit_glyph false (n % 10) ∷ acc) ≡ true
    → list_all is_digit (digits_onto k 10 false (n / 10) (digit_glyph false (n % 10) ∷ acc)) ≡ true
    → list_all is_digit (cond b (digit_glyph false (n % 10) ∷ acc)
    (digits_onto k 10 false (n / 10) (digit_glyph false (n % 10) ∷ acc))) ≡ true
digits_step true k n acc one more = one
digits_step false k n acc one more = more

glyph_is_digit : (d : ℕ) → d < 10 → is_digit (digit_glyph false d) ≡ true
glyph_is_digit d small = rw (glyph_of d small) (grind (arith, nat_tests))

all_digits : (k n : ℕ) (acc : List ℕ) → list_all is_digit acc ≡ true
    → list_all is_digit (digits_onto k 10 false n acc) ≡ true
all_digits zero n acc h = h
all_digits (suc k) n acc h =
    let one : list_all is_digit (digit_glyph false (n % 10) ∷ acc) ≡ true =
    rw (glyph_is_digit (n % 10) (omega arith)) h in
    digits_step (eqb (n / 10) 0) k n acc one (all_digits k (n / 10) (digit_glyph false (n % 10) ∷ acc) one)

pub numeral_digits : (n : ℕ) → list_all is_digit (numeral n) ≡ true
unfolding numeral
numeral_digits n = all_digits (suc n) n [] refl

-- ## Numbers of 64 bits

fuel_step : (b : Bool) (xs ys zs : List ℕ) → (b ≡ false → ys ≡ zs) → cond b xs ys ≡ cond b xs zs
fuel_step true xs ys zs h = refl
fuel_step false xs ys zs h = h refl

one_digit : (n : ℕ) → n < 10 ^ 1 → eqb (n / 10) 0 ≡ false → ⊥
one_digit n small more =
    let none : n / 10 ≡ 0 = omega arith in
    false≢true (sym more ∙ eq-eqb (n / 10) 0 none)

fewer : (j n : ℕ) → n < 10 ^ suc (suc j) → n / 10 < 10 ^ suc j
fewer j n small =
    let size : 10 ^ suc (suc j) ≡ 10 ^ suc j * 10 = pow-suc 10 (suc j) in
    omega arith

fuel_is_enough : (j k n : ℕ) (acc : List ℕ) → n < 10 ^ suc j → n < 10 ^ suc k
    → digits_onto (suc j) 10 false n acc ≡ digits_onto (suc k) 10 false n acc
fuel_is_enough zero zero n acc a b = refl
fuel_is_enough zero (suc k) n acc a b =
    fuel_step (eqb (n / 10) 0) _ _ _ (λ more. absurd (one_digit n a more))
fuel_is_enough (suc j) zero n acc a b =
    fuel_step (eqb (n / 10) 0) _ _ _ (λ more. absurd (one_digit n b more))
fuel_is_enough (suc j) (suc k) n acc a b =
    fuel_step (eqb (n / 10) 0) _ _ _
    (λ _. fuel_is_enough j k (n / 10) (digit_glyph false (n % 10) ∷ acc) (fewer j n a) (fewer k n b))

pub numeral_is_decimal : (n : ℕ) → n < 2 ^ 64 → decimal n ≡ numeral n
unfolding numeral digits
numeral_is_decimal n small = fuel_is_enough 63 n n [] (omega arith) (below_power n)

pub numeral_nonempty : (n : ℕ) → numeral n ≡ [] → ⊥
unfolding numeral value_after
numeral_nonempty n e =
    let zero_is : 0 ≡ n = sym (ap (value_after 0) e) ∙ value_of_numeral n in
    let none : numeral 0 ≡ [] = subst (λ k. numeral k ≡ []) (sym zero_is) e in
    absurd (cc)
