-- The parts of a packet, as the code splits the bytes.
use Rattle.std.proofs.Common.{◌≡◌, ℕ, suc, ◌+◌, ◌-◌, ◌*◌, ◌/◌, ◌%◌, ◌<◌, ◌≤◌, true, cond, eqb, List, [], ◌∷◌, ◌++◌, length, get_or, take, drop, refl, sym, ap, subst, ◌∙◌, add-zero, arith}
use Rattle.std.specs.Prelude.{bit_and, not}
use Rattle.std.proofs.lemmas.Bool.{agree_below_at, eq-eqb, eqb-true}
use Rattle.std.proofs.lemmas.List.{append-nil, take-append-drop, take_rest, take_all, take_more, length-take, length-drop, get_or-drop, get_or-take}
use Rattle.std.proofs.lemmas.Nat.{and_le_r}
use Rattle.std.proofs.lemmas.List.FromFn.{fill_by_all}
use Rattle.byteorder.specs.Endian.{big_bytes, big_number}
use Rattle.mg_rtp.specs.declared.header.Header.{Header}
use Rattle.mg_rtp.specs.Header.{IsHeader, Layout, plain, bit, first_byte, field_bytes, header_bytes}
use Rattle.mg_rtp.specs.Packet.{Begins, IsPacket, CountsWords, CountsItself}

abbrev pub IsBytes : List ℕ → Type 0
IsBytes bytes = (i : ℕ) → get_or bytes i 0 < 256

-- A list is its first n elements followed by the slice `[n..]`.
pub front_and_rest : (n : ℕ) (rest : List ℕ) → rest ≡ take n rest ++ take (length rest - n) (drop n rest)
front_and_rest n rest = sym (ap (λ (x : List ℕ). take n rest ++ x) (take_rest rest n) ∙ take-append-drop n rest)

-- ---- headers

-- A list of length 12 consists of its twelve elements.
pub twelve : (head : List ℕ) → length head ≡ 12 →
    head ≡ get_or head 0 0 ∷ get_or head 1 0 ∷ get_or head 2 0 ∷ get_or head 3 0 ∷ get_or head 4 0 ∷ get_or head 5 0 ∷
    get_or head 6 0 ∷ get_or head 7 0 ∷ get_or head 8 0 ∷ get_or head 9 0 ∷ get_or head 10 0 ∷ get_or head 11 0 ∷ []
twelve head len = fill_by_all (λ i. get_or head i 0) head 12 0 len (λ k h. refl)

-- If a number is computed from bytes, its bytes in big-endian order are those bytes.
pub bytes_of_2 : (a b n : ℕ) → a < 256 → b < 256 → n ≡ a * 256 + b → big_bytes 2 n ≡ a ∷ b ∷ []
bytes_of_2 a b n p q e =
    let high : n / 256 % 256 ≡ a = omega arith in
    let low : n % 256 ≡ b = omega arith in
    cc

pub bytes_of_4 : (a b c d n : ℕ) → a < 256 → b < 256 → c < 256 → d < 256 →
    n ≡ a * 16777216 + (b * 65536 + (c * 256 + d)) → big_bytes 4 n ≡ a ∷ b ∷ c ∷ d ∷ []
bytes_of_4 a b c d n p q r s e =
    let first : n / 16777216 % 256 ≡ a = omega arith in
    let second : n / 65536 % 256 ≡ b = omega arith in
    let third : n / 256 % 256 ≡ c = omega arith in
    let fourth : n % 256 ≡ d = omega arith in
    cc

-- A number that is read from index j on is computed from the bytes there.
pub number_at_2 : (xs : List ℕ) (j n : ℕ) → n ≡ big_number 2 (take (length xs - j) (drop j xs)) →
    n ≡ get_or xs j 0 * 256 + get_or xs (j + 1) 0
number_at_2 xs j n e =
    let read : n ≡ big_number 2 (drop j xs) = e ∙ ap (big_number 2) (take_rest xs j) in
    let here : get_or (drop j xs) 0 0 ≡ get_or xs j 0 = get_or-drop j xs 0 0 ∙
    ap (λ (i : ℕ). get_or xs i 0) (add-zero j) in
    omega (arith, read, here, get_or-drop j xs 1 0)

number_at_4 : (xs : List ℕ) (j n : ℕ) → n ≡ big_number 4 (take (length xs - j) (drop j xs)) →
    n ≡ get_or xs j 0 * 16777216 + (get_or xs (j + 1) 0 * 65536 + (get_or xs (j + 2) 0 * 256 + get_or xs (j + 3) 0))
number_at_4 xs j n e =
    let read : n ≡ big_number 4 (drop j xs) = e ∙ ap (big_number 4) (take_rest xs j) in
    let here : get_or (drop j xs) 0 0 ≡ get_or xs j 0 = get_or-drop j xs 0 0 ∙
    ap (λ (i : ℕ). get_or xs i 0) (add-zero j) in
    omega (arith, read, here, get_or-drop j xs 1 0, get_or-drop j xs 2 0, get_or-drop j xs 3 0)

-- The bytes of a number that is read from index j on are the bytes there.
pub bytes_at_2 : (xs : List ℕ) (j n : ℕ) → IsBytes xs → n ≡ big_number 2 (take (length xs - j) (drop j xs)) →
    big_bytes 2 n ≡ get_or xs j 0 ∷ get_or xs (j + 1) 0 ∷ []
bytes_at_2 xs j n fits e = bytes_of_2 _ _ n (fits j) (fits (j + 1)) (number_at_2 xs j n e)

pub bytes_at_4 : (xs : List ℕ) (j n : ℕ) → IsBytes xs → n ≡ big_number 4 (take (length xs - j) (drop j xs)) →
    big_bytes 4 n ≡ get_or xs j 0 ∷ get_or xs (j + 1) 0 ∷ get_or xs (j + 2) 0 ∷ get_or xs (j + 3) 0 ∷ []
bytes_at_4 xs j n fits e = bytes_of_4 _ _ _ _ n (fits j) (fits (j + 1)) (fits (j + 2)) (fits (j + 3))
    (number_at_4 xs j n e)

-- The layout that the bits of the first byte describe.
abbrev pub layout_of : ℕ → Layout
layout_of first = record {
  is_padded = not (eqb (bit_and first 32) 0);
  is_extended = not (eqb (bit_and first 16) 0);
  source_count = bit_and first 15;
}

-- A first byte with version 2 is the first byte of the layout that it describes.
first_byte-layout_of : (first : ℕ) → first < 256 → first / 64 ≡ 2 → first_byte (layout_of first) ≡ first
first_byte-layout_of first lt version =
    let all = agree_below_at (λ b. cond (eqb (b / 64) 2) (eqb (first_byte (layout_of b)) b) true) (λ b. true) 256
    first refl lt in
    eqb-true _ _ (rw (eq-eqb (first / 64) 2 version) at all)

-- The first byte counts fewer than 16 sources.
few_sources : (first : ℕ) → bit_and first 15 < 16
few_sources first = omega (arith, and_le_r first 15)

-- The marker and the payload type of a second byte form that byte again.
pub second_of : (second : ℕ) → second < 256 → bit (not (eqb (bit_and second 128) 0)) * 128 + bit_and second 127 ≡ second
second_of second lt =
    let all = agree_below_at (λ b. eqb (bit (not (eqb (bit_and b 128) 0)) * 128 + bit_and b 127) b) (λ b. true) 256
    second refl lt in
    eqb-true _ _ all

-- If there are at least twelve bytes and the version is 2, the bytes start with the header that is read from the first
-- twelve bytes.
pub begins_at : (bytes head rest : List ℕ) (h : Header) → IsBytes bytes → 12 ≤ length bytes → head ≡ take 12 bytes →
    rest ≡ drop 12 bytes → get_or head 0 0 / 64 ≡ 2
    → head ≡ get_or head 0 0 ∷ field_bytes h → IsHeader h → Begins bytes (layout_of (get_or head 0 0)) h rest
begins_at bytes head rest h fits long front back version fields in_range =
    let first = get_or head 0 0 in
    let first-is : first ≡ get_or bytes 0 0 = ap (λ (x : List ℕ). get_or x 0 0) front ∙
    get_or-take 12 bytes 0 0 (omega arith) in
    let same = first_byte-layout_of first (omega (arith, first-is, fits 0)) version in
    record {
      joined = sym (take-append-drop 12 bytes) ∙
          ap (λ (x : List ℕ). x ++ drop 12 bytes) (sym front ∙ fields ∙ ap (λ (b : ℕ). b ∷ field_bytes h) (sym same))
          ∙ ap (λ (x : List ℕ). header_bytes (layout_of first) h ++ x) (sym back);
      in_range = in_range;
      few_sources = few_sources first;
    }

-- The rest after the header can be replaced by an equal list.
pub begins_with : (bytes : List ℕ) (l : Layout) (h : Header) (rest parts : List ℕ) → rest ≡ parts →
    Begins bytes l h rest → Begins bytes l h parts
begins_with bytes l h rest parts e b = subst (λ (x : List ℕ). Begins bytes l h x) e b

-- A header without optional parts, followed by a payload, is a packet.
pub plain_packet : (bytes : List ℕ) (h : Header) (payload : List ℕ) → IsHeader h →
    bytes ≡ header_bytes plain h ++ payload → IsPacket bytes h payload
plain_packet bytes h payload in_range e = record {
  layout = plain;
  sources = [];
  extension = [];
  padding = [];
  begins = record {
    joined = e ∙ ap (λ (x : List ℕ). header_bytes plain h ++ x) (sym (append-nil payload));
    in_range = in_range;
    few_sources = omega arith;
  };
  are_sources = refl;
  is_extension = refl;
  is_padding = refl;
}

-- ---- extensions

-- If the first four bytes have a valid word count, the bytes start with an extension.
words_behind : (a b c d : ℕ) (xs : List ℕ) (n : ℕ) → c < 256 → d < 256 → 4 + 4 * n ≤ 4 + length xs → n ≡ c * 256 + d →
    CountsWords (take (4 + 4 * n) (a ∷ b ∷ c ∷ d ∷ xs))
words_behind a b c d xs n p q long e =
    let size : 4 + 4 * n ≡ suc (suc (suc (suc (4 * n)))) = omega arith in
    record {
      profile = a ∷ b ∷ [];
      count = n;
      words = take (4 * n) xs;
      joined = ap (λ (k : ℕ). take k (a ∷ b ∷ c ∷ d ∷ xs)) size ∙
          ap (λ (x : List ℕ). (a ∷ b ∷ []) ++ x ++ take (4 * n) xs) (sym (bytes_of_2 c d n p q e));
      two_bytes = refl;
      in_range = omega arith;
      all_words = omega (arith, length-take (4 * n) xs);
    }

-- The rest starts with an extension if it holds the words that the extension counts.
pub words_at : (rest : List ℕ) (n : ℕ) → IsBytes rest → 4 + 4 * n ≤ length rest →
    n ≡ big_number 2 (take (length rest - 2) (drop 2 rest)) → CountsWords (take (4 + 4 * n) rest)
words_at [] n fits long e = absurd (omega (arith, long))
words_at (a ∷ []) n fits long e = absurd (omega (arith, long))
words_at (a ∷ b ∷ []) n fits long e = absurd (omega (arith, long))
words_at (a ∷ b ∷ c ∷ []) n fits long e = absurd (omega (arith, long))
words_at (a ∷ b ∷ c ∷ d ∷ xs) n fits long e =
    words_behind a b c d xs n (fits 2) (fits 3) (omega (arith, long)) (number_at_2 (a ∷ b ∷ c ∷ d ∷ xs) 2 n e)

-- ---- padding

-- The rest ends with padding if its last byte is a valid count.
pub padding_at : (rest : List ℕ) (n : ℕ) → 0 < n → n ≤ length rest → n ≡ get_or rest (length rest - 1) 0 →
    CountsItself (drop (length rest - n) rest)
padding_at rest n some long e =
    let before = length rest - n in
    let end = drop before rest in
    let len : length end ≡ n = omega (arith, length-drop before rest) in
    let place : before + (n - 1) ≡ length rest - 1 = omega arith in
    let last : get_or end (n - 1) 0 ≡ n = get_or-drop before rest (n - 1) 0 ∙ ap (λ (i : ℕ). get_or rest i 0) place ∙
    sym e in
    let filler = take (n - 1) end in
    let count : n ≡ length filler + 1 = omega (arith, length-take (n - 1) end) in
    record {
      filler = filler;
      joined = sym (take_all (n - 1 + 1) end (omega arith)) ∙ take_more end (n - 1) 0 (omega arith) ∙
          ap (λ (b : ℕ). filler ++ b ∷ []) (last ∙ count);
    }
