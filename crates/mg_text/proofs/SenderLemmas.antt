-- The maximum length of a sender's name.
use Rattle.std.proofs.Common.{◌≡◌, ℕ, ◌+◌, ◌≤◌, Bool, true, false, cond, eqb, leb, add-one, List, [], ◌∷◌, length, Option, Some, None, is_some, refl, arith}
use Rattle.std.proofs.lemmas.Bool.{false≢true, and_parts}
use Rattle.std.proofs.lemmas.Bool.Decides.{nat_tests}
use Rattle.std.proofs.lemmas.List.{length-take, length-drop}
use Rattle.std.specs.List.{position_or_len}
use Rattle.mg_words.specs.Limits.{sender_limit}
use Rattle.mg_words.specs.OptionSteps.{◌>>=◌}
use Rattle.mg_words.specs.Cut.{cut_at, cut}
use Rattle.mg_words.specs.Numbers.{decimal_of}
use Rattle.mg_words.specs.Address.{address_of}
use Rattle.mg_text.specs.Sender.{is_sender, is_domain, is_address, is_port_part, is_host}

-- Text that is split at a byte is as long as its two parts and that byte.
parts_join : (text : List ℕ) (n : ℕ) (parts : List ℕ × List ℕ) → cut_at text n ≡ Some parts →
    length text ≡ length parts.0 + length parts.1 + 1
parts_join text n parts e = grind (arith, nat_tests, length-take {A = ℕ}, length-drop {A = ℕ})

cut_joins : (byte : ℕ) (text : List ℕ) (parts : List ℕ × List ℕ) → cut byte text ≡ Some parts →
    length text ≡ length parts.0 + length parts.1 + 1
cut_joins byte text parts e = parts_join text (position_or_len (λ b. eqb b byte) text) parts e

-- If a sequence of two steps has a value, both steps have a value.
first_step : {A B : Type 0} (o : Option A) (f : A → Option B) → is_some (o >>= f) ≡ true → (x : A) × (o ≡ Some x) ×
    (is_some o ≡ true) × (is_some (f x) ≡ true)
first_step None f h = absurd (false≢true h)
first_step (Some x) f h = (x, refl, refl, h)

decimal_short : (most limit : ℕ) (text : List ℕ) → is_some (decimal_of most limit text) ≡ true → length text ≤ most
decimal_short most limit text h = grind (arith, nat_tests)

part_short : (text : List ℕ) → is_some (decimal_of 3 255 text) ≡ true → length text ≤ 3
part_short text h = decimal_short 3 255 text h

-- An address has at most 15 bytes: four numbers of up to three digits and three dots.
address_short : (text : List ℕ) → is_some (address_of text) ≡ true → length text ≤ 15
unfolding address_of
address_short text h =
    let one = first_step (cut 46 text) _ h in
    let two = first_step (cut 46 one.0.1) _ one.3 in
    let three = first_step (cut 46 two.0.1) _ two.3 in
    let a = first_step (decimal_of 3 255 one.0.0) _ three.3 in
    let b = first_step (decimal_of 3 255 two.0.0) _ a.3 in
    let c = first_step (decimal_of 3 255 three.0.0) _ b.3 in
    let d = first_step (decimal_of 3 255 three.0.1) _ c.3 in
    omega (
      arith,
      cut_joins 46 text one.0 one.1,
      cut_joins 46 one.0.1 two.0 two.1,
      cut_joins 46 two.0.1 three.0 three.1,
      part_short one.0.0 a.2,
      part_short two.0.0 b.2,
      part_short three.0.0 c.2,
      part_short three.0.1 d.2,
    )

if_both : (p q : Bool) → cond p q false ≡ true → q ≡ true
if_both true q h = h
if_both false q h = absurd (false≢true h)

-- A port part has at most 6 bytes: a colon and up to five digits.
port_short : (text : List ℕ) → is_port_part text ≡ true → length text ≤ 6
port_short [] h = omega arith
port_short (b ∷ port) h = omega (arith, decimal_short 5 65535 port (if_both (eqb b 58) _ h))

-- The text after the opening bracket has at most 22 bytes: an address, the closing bracket and a port part.
address_parts_short : (rest : List ℕ) (parts : Option (List ℕ × List ℕ)) → cut 93 rest ≡ parts →
    is_host is_address parts ≡ true → length rest ≤ 22
address_parts_short rest None e h = absurd (false≢true h)
address_parts_short rest (Some parts) e h =
    let two = and_parts (is_some (address_of parts.0)) (is_port_part parts.1) h in
    omega (arith, cut_joins 93 rest parts e, address_short parts.0 two.0, port_short parts.1 two.1)

domain_short : (text : List ℕ) → is_domain text ≡ true → length text ≤ 64
domain_short text h = grind (arith, nat_tests)

domain_parts_short : (rest : List ℕ) (parts : Option (List ℕ × List ℕ)) → cut 62 rest ≡ parts →
    is_host is_domain parts ≡ true → length rest ≤ 71
domain_parts_short rest None e h = absurd (false≢true h)
domain_parts_short rest (Some parts) e h =
    let two = and_parts (is_domain parts.0) (is_port_part parts.1) h in
    omega (arith, cut_joins 62 rest parts e, domain_short parts.0 two.0, port_short parts.1 two.1)

-- A sender's name has at most 72 bytes, since the length of each of its three forms is limited.
kind_short : (n : ℕ) (in_brackets in_angles address domain device : Bool)
    → (address ≡ true → n ≤ 22) → (domain ≡ true → n ≤ 71) → (device ≡ true → n + 1 ≤ 64)
    → cond in_brackets address (cond in_angles domain device) ≡ true → n + 1 ≤ 72
kind_short n true in_angles address domain device a b c h = omega (arith, a h)
kind_short n false true address domain device a b c h = omega (arith, b h)
kind_short n false false address domain device a b c h = omega (arith, c h)

device_short : (n : ℕ) → leb (n + 1) 64 ≡ true → n + 1 ≤ 64
device_short n h = grind (arith, nat_tests)

pub sender_short : (text : List ℕ) → is_sender text ≡ true → length text ≤ sender_limit
sender_short [] h = omega arith
sender_short (b ∷ rest) h =
    let short : length rest + 1 ≤ 72 =
    kind_short (length rest) (eqb b 91) (eqb b 60) (is_host is_address (cut 93 rest)) (is_host is_domain (cut 62 rest))
    (leb (length (b ∷ rest)) 64)
    (λ a. address_parts_short rest (cut 93 rest) refl a) (λ d. domain_parts_short rest (cut 62 rest) refl d)
    (λ d. device_short (length rest) (rw add-one d)) h in
    omega (arith, short)
