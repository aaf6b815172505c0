-- Lemmas about joined lists, extensions and padding.
use Rattle.std.proofs.Common.{◌≡◌, ℕ, ◌+◌, ◌-◌, ◌*◌, Bool, true, false, List, [], ◌∷◌, ◌++◌, length, get_or, take, drop, refl, sym, ap, ◌∙◌, append_assoc, arith, inl, inr}
use Rattle.std.proofs.lemmas.List.{take_at, drop_at, length-append, same_from_push, get_or_push, length_push}
use Rattle.byteorder.specs.Endian.{big_bytes, big_number}
use Rattle.byteorder.specs.Numbers.{big_number-reads_back, length-bytes_high_first}
use Rattle.mg_rtp.specs.Packet.{CountsWords, IsExtension, CountsItself, IsPadding}
use Rattle.mg_rtp.specs.RtpFault.{EndsInExtension, HasBadPadding}

-- If two joined lists are equal and their first parts have the same length, their second parts are equal.
pub same_behind : (a b r s : List ℕ) → length a ≡ length b → a ++ r ≡ b ++ s → r ≡ s
same_behind a b r s len e = sym (drop_at a r (length a) refl) ∙ ap (drop (length a)) e ∙
    drop_at b s (length a) (sym len)

-- If two joined lists are equal and their second parts have the same length, their first parts are equal.
pub same_before : (a b r s : List ℕ) → length r ≡ length s → a ++ r ≡ b ++ s → a ≡ b
same_before a b r s len e =
    let lens : length a ≡ length b = omega (arith, ap length e, length-append a r, length-append b s) in
    sym (take_at a r (length a) refl) ∙ ap (take (length a)) e ∙ take_at b s (length a) (sym lens)

-- A list that is split step by step consists of its three or four parts, joined.
pub three_parts : (xs a b ys c : List ℕ) → xs ≡ a ++ ys → ys ≡ b ++ c → xs ≡ a ++ b ++ c
three_parts xs a b ys c p q = p ∙ ap (λ (x : List ℕ). a ++ x) q ∙ sym (append_assoc a b c)

pub four_parts : (xs a b ys c zs d : List ℕ) → xs ≡ a ++ ys → ys ≡ b ++ zs → zs ≡ c ++ d → xs ≡ a ++ b ++ c ++ d
four_parts xs a b ys c zs d p q r = three_parts xs a b ys zs p q ∙ ap (λ (x : List ℕ). a ++ b ++ x) r ∙
    sym (append_assoc (a ++ b) c d)

-- ---- extensions

-- The count in an extension does not depend on the bytes after the extension.
count_of : (bytes r : List ℕ) (w : CountsWords bytes) → big_number 2 (drop 2 (bytes ++ r)) ≡ w.count
count_of bytes r w =
    let behind = big_bytes 2 w.count ++ (w.words ++ r) in
    let joined : bytes ++ r ≡ w.profile ++ behind = ap (λ (b : List ℕ). b ++ r) w.joined ∙ simp append_assoc in
    let dropped : drop 2 (bytes ++ r) ≡ behind = ap (drop 2) joined ∙ drop_at w.profile behind 2 w.two_bytes in
    ap (big_number 2) dropped ∙ big_number-reads_back 2 w.count (w.words ++ r) w.in_range

-- The length of an extension is four bytes plus four for each word.
length_of : (bytes : List ℕ) (w : CountsWords bytes) → length bytes ≡ 4 + 4 * w.count
length_of bytes w =
    omega (
      arith,
      ap length w.joined,
      length-append (w.profile ++ big_bytes 2 w.count) w.words,
      length-append w.profile (big_bytes 2 w.count),
      length-bytes_high_first 2 w.count,
      w.two_bytes,
      w.all_words,
    )

-- Bytes start with at most one extension.
pub extension_once : (x : Bool) (e f r s : List ℕ) → IsExtension x e → IsExtension x f → e ++ r ≡ f ++ s → r ≡ s
extension_once false e f r s p q h = same_behind e f r s (ap length (p ∙ sym q)) h
extension_once true e f r s p q h =
    let counts : p.count ≡ q.count = sym (count_of e r p) ∙ ap (λ (b : List ℕ). big_number 2 (drop 2 b)) h ∙
    count_of f s q in
    same_behind e f r s (omega (arith, length_of e p, length_of f q, counts)) h

-- Bytes that start with a complete extension do not end within it.
pub extension_ends : (e r : List ℕ) → CountsWords e → EndsInExtension (e ++ r) → ⊥
extension_ends e r w (inl few) = omega (arith, few, length_of e w, length-append e r)
extension_ends e r w (inr few) =
    omega (arith, few, length_of e w, length-append e r, count_of e r w)

-- ---- padding

-- Bytes end with at most one padding.
pub padding_once : (x : Bool) (a b p q : List ℕ) → IsPadding x p → IsPadding x q → a ++ p ≡ b ++ q → a ≡ b
padding_once false a b p q h k e = same_before a b p q (ap length (h ∙ sym k)) e
padding_once true a b p q h k e =
    let count = length h.filler + 1 in
    let other = length k.filler + 1 in
    let pushed : (a ++ h.filler) ++ count ∷ [] ≡ (b ++ k.filler) ++ other ∷ [] =
    append_assoc a h.filler (count ∷ []) ∙ ap (λ (x : List ℕ). a ++ x) (sym h.joined) ∙ e ∙
    ap (λ (x : List ℕ). b ++ x) k.joined ∙ sym (append_assoc b k.filler (other ∷ [])) in
    let same = same_from_push (a ++ h.filler) (b ++ k.filler) count other pushed in
    same_before a b h.filler k.filler (omega (arith, same.1)) same.0

-- Bytes that end with padding have a valid padding count.
pub padding_counts : (a p : List ℕ) → CountsItself p → HasBadPadding (a ++ p) → ⊥
padding_counts a p h bad =
    let count = length h.filler + 1 in
    let whole : a ++ p ≡ (a ++ h.filler) ++ count ∷ [] = ap (λ (x : List ℕ). a ++ x) h.joined ∙
    sym (append_assoc a h.filler (count ∷ [])) in
    let len : length (a ++ p) ≡ length (a ++ h.filler) + 1 = ap length whole ∙ length_push (a ++ h.filler) count in
    let longer : length (a ++ p) ≡ length a + count = omega (arith, len, length-append a h.filler) in
    let last : get_or (a ++ p) (length (a ++ p) - 1) 0 ≡ count =
    ap (λ (x : List ℕ). get_or x (length (a ++ p) - 1) 0) whole ∙
    get_or_push (a ++ h.filler) count 0 (length (a ++ p) - 1) (omega arith) in
    elim bad [
      | inl nothing ↦ omega (arith, longer, ap length nothing)
      | inr (inl none) ↦ omega (arith, last, none)
      | inr (inr few) ↦ omega (arith, last, few, longer)
    ]
