-- The number that the parser reads from the text of an option.
use Rattle.std.proofs.Common.{◌≡◌, ◌∙◌, ◌<◌, ◌^◌, ◌&&◌, ℕ, Bool, true, false, [], ◌∷◌, length, nat_lt, Option, Some, None, Result, Ok, Err, refl, sym, ap, subst, lt-ltb, ltb-true}
use Rattle.std.specs.Prelude.{option_and_then}
use Rattle.std.specs.List.{list_all}
use Rattle.std.specs.Char.{digit_value}
use Rattle.std.specs.Str.Parse.{AllDigits, IsNumeral, ParsesUnsigned, digits_value, without_leading_plus}
use Rattle.std.proofs.lemmas.Bool.{and_from, and_parts}
use Rattle.clap.specs.ValueTests.{is_numeral}
use Rattle.clap.specs.Matches.{ReadsOne, one_text}
use Rattle.clap.specs.Walk.{Text, rows_of}
use Rattle.clap.specs.declared.parser.matches.Found.{Found}
use Rattle.clap.proofs.WalkLemmas.{one_text-rows}
use Rattle.mg_options.specs.Numbers.{number_below, number_given}

digits_pass : (digits : Text) → AllDigits 10 digits → list_all (λ d. nat_lt (digit_value d) 10) digits ≡ true
digits_pass [] all = refl
digits_pass (digit ∷ digits) all = and_from _ _ (lt-ltb (digit_value digit) 10 all.0) (digits_pass digits all.1)

digits_from : (digits : Text) → list_all (λ d. nat_lt (digit_value d) 10) digits ≡ true → AllDigits 10 digits
digits_from [] all = tt
digits_from (digit ∷ digits) all =
    let parts = and_parts (nat_lt (digit_value digit) 10) (list_all (λ d. nat_lt (digit_value d) 10) digits) all in
    (ltb-true _ _ parts.0, digits_from digits parts.1)

abbrev is_below : ℕ → Text → Bool
is_below limit digits = is_numeral digits && nat_lt (digits_value 10 digits) limit

passes : (limit : ℕ) (digits : Text) → IsNumeral 10 digits → digits_value 10 digits < limit →
    is_below limit digits ≡ true
passes limit digits numeral small =
    and_from (is_numeral digits) (nat_lt (digits_value 10 digits) limit)
    (and_from (nat_lt 0 (length digits)) (list_all (λ d. nat_lt (digit_value d) 10) digits)
    (lt-ltb 0 (length digits) numeral.0) (digits_pass digits numeral.1))
    (lt-ltb (digits_value 10 digits) limit small)

passed : (limit : ℕ) (digits : Text) → is_below limit digits ≡ true → IsNumeral 10 digits ×
    (digits_value 10 digits < limit)
passed limit digits e =
    let parts = and_parts (is_numeral digits) (nat_lt (digits_value 10 digits) limit) e in
    let numeral = and_parts (nat_lt 0 (length digits)) (list_all (λ d. nat_lt (digit_value d) 10) digits) parts.0 in
    ((ltb-true _ _ numeral.0, digits_from digits numeral.1), ltb-true _ _ parts.1)

module _ (E : Type 0) (Gives : Text → Result ℕ E → Type 0) (bits limit : ℕ) (width : limit ≡ 2 ^ bits)
    (parses : (text : Text) (r : Result ℕ E) → Gives text r → ParsesUnsigned bits 10 text r) where
  read_below : (text : Text) (value : Option ℕ) → ReadsOne Gives text value → value ≡ number_below limit text
  read_below text (Some number) gives =
      let parsed = parses text (Ok number) gives in
      let digits = without_leading_plus text in
      let small = subst (λ (most : ℕ). digits_value 10 digits < most) (sym width) parsed.0.1 in
      rw (passes limit digits parsed.0.0 small) (ap Some parsed.1)
  read_below text None gives = go (is_below limit (without_leading_plus text)) refl
    where
      go : (b : Bool) → is_below limit (without_leading_plus text) ≡ b → None ≡ number_below limit text
      go false is = rw is refl
      go true is =
          let digits = without_leading_plus text in
          let both = passed limit digits is in
          absurd (parses text (Err gives.0) gives.1
          (both.0, subst (λ (most : ℕ). digits_value 10 digits < most) width both.1))

  read_one : (one : Option Text) (value : Option ℕ) → (one ≡ None → value ≡ None) →
      ((text : Text) → one ≡ Some text → ReadsOne Gives text value)
      → value ≡ option_and_then (number_below limit) one
  read_one None value none some = none refl
  read_one (Some text) value none some = read_below text value (some text refl)

  -- The result of `get_one` is the number that was given for the option.
  pub given_is : (found : Found) (name : Text) (value : Option ℕ) → (one_text found name ≡ None → value ≡ None)
      → ((text : Text) → one_text found name ≡ Some text → ReadsOne Gives text value) →
      value ≡ number_given limit name (rows_of found)
  given_is found name value none some =
      read_one (one_text found name) value none some ∙
      ap (option_and_then (number_below limit)) (one_text-rows found name)
