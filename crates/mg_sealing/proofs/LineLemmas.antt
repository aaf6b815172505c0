-- The lines of seals, and the parts that begin with a seal.
use Rattle.std.proofs.Common.{◌≡◌, ◌≢◌, ◌⊎◌, inl, inr, ⊎_elim, ℕ, zero, suc, ◌-◌, ◌/◌, ◌%◌, ◌^◌, ◌<◌, ◌≤◌, Bool, true, false, eqb, cond, All, List, [], ◌∷◌, ◌++◌, length, drop, refl, sym, ap, subst, ◌∙◌, arith, append_assoc, length-append, codes}
use Rattle.std.proofs.BufReadLemmas.{take_through-append}
use Rattle.std.proofs.lemmas.Bool.{eqb-true}
use Rattle.std.proofs.lemmas.Bool.Decides.{nat_tests}
use Rattle.std.proofs.lemmas.List.{append_cancel_left, append_cancel_right}
use Rattle.std.proofs.lemmas.List.Elements.{All-append}
use Rattle.std.specs.Prelude.{◌&&◌, ◌||◌, nat_eq, slice_index, Ok}
use Rattle.std.specs.Int.{w32, byte_at, bytes_high_first, to_be_bytes}
use Rattle.std.specs.List.{ends_with, starts_with}
use lib.Pointwise.{pointwise}
use Rattle.std.specs.Io.BufRead.{take_through, drop_through}
use Rattle.hex.specs.Hex.{IsBytes, decode_of, encode_lower}
use Rattle.hex.proofs.HexLemmas.{decode_of-encode_lower}
use Rattle.sha2.specs.Sha256.{digest_bytes, final_hash, initial_hash_256, sha256}
use Rattle.mg_chain.specs.Seals.{has_mark, is_seal, is_whole, last_part, seal_of}
use Rattle.mg_chain.proofs.PartLemmas.{begins, marks, part_cons, part_nil, part_same, whole_tail}
use Rattle.mg_chain.proofs.ReadLemmas.{whole_cons}
use Rattle.mg_chain.proofs.SealLemmas.{has_feed, plain, seal_line, seal_text}

-- ## Lines

pub joined : (text : List ℕ) → take_through 10 text ++ drop_through 10 text ≡ text
joined [] = refl
joined (b ∷ bs) = at (eqb b 10) (joined bs)
  where
    at : (is : Bool) → take_through 10 bs ++ drop_through 10 bs ≡ bs
        → cond is (b ∷ []) (b ∷ take_through 10 bs) ++ cond is bs (drop_through 10 bs) ≡ b ∷ bs
    at true rest = refl
    at false rest = ap (λ (l : List ℕ). b ∷ l) rest

pub taken_twice : (text : List ℕ) → take_through 10 (take_through 10 text) ≡ take_through 10 text
taken_twice [] = refl
taken_twice (b ∷ bs) = at (eqb b 10) refl (taken_twice bs)
  where
    at : (is : Bool) → eqb b 10 ≡ is → take_through 10 (take_through 10 bs) ≡ take_through 10 bs
        → take_through 10 (cond is (b ∷ []) (b ∷ take_through 10 bs)) ≡ cond is (b ∷ []) (b ∷ take_through 10 bs)
    at true e rest = rw e refl
    at false e rest = rw e (ap (λ (l : List ℕ). b ∷ l) rest)

some_taken : (text : List ℕ) → 0 < length text → 0 < length (take_through 10 text)
some_taken [] some = some
some_taken (b ∷ bs) some = at (eqb b 10)
  where
    at : (is : Bool) → 0 < length (cond is (b ∷ []) (b ∷ take_through 10 bs))
    at true = omega arith
    at false = omega arith

taken_whole : (text : List ℕ) → is_whole text ≡ true → is_whole (take_through 10 text) ≡ true
taken_whole [] whole = refl
taken_whole (b ∷ bs) whole = at (eqb b 10) refl (taken_whole bs (whole_tail b bs whole))
  where
    more : (bs : List ℕ) → is_whole (b ∷ bs) ≡ true → eqb b 10 ≡ false → 0 < length bs
    more [] whole other = absurd (cc (whole, other))
    more (c ∷ cs) whole other = omega arith

    at : (is : Bool) → eqb b 10 ≡ is → is_whole (take_through 10 bs) ≡ true
        → is_whole (cond is (b ∷ []) (b ∷ take_through 10 bs)) ≡ true
    at true e rest = e
    at false e rest = whole_cons b (take_through 10 bs) (some_taken bs (more bs whole e)) rest

whole_feed : (text : List ℕ) → is_whole (text ++ 10 ∷ []) ≡ true
whole_feed [] = refl
whole_feed (b ∷ bs) = whole_cons b (bs ++ 10 ∷ []) (omega (arith, length-append bs (10 ∷ []))) (whole_feed bs)

whole_end : (b : ℕ) (bs : List ℕ) → is_whole (b ∷ bs) ≡ true → (front : List ℕ) × (b ∷ bs ≡ front ++ 10 ∷ [])
whole_end b [] whole = ([], ap (λ (c : ℕ). c ∷ []) (eqb-true b 10 whole))
whole_end b (c ∷ cs) whole =
    let rest = whole_end c cs whole in (b ∷ rest.0, ap (λ (l : List ℕ). b ∷ l) rest.1)

drop_front : (front rest : List ℕ) → drop (length front) (front ++ rest) ≡ rest
drop_front [] rest = refl
drop_front (b ∷ bs) rest = drop_front bs rest

ends : (front : List ℕ) → ends_with nat_eq (front ++ 10 ∷ []) (10 ∷ []) ≡ true
ends front =
    let last : length (front ++ 10 ∷ []) - 1 ≡ length front = omega (arith, length-append front (10 ∷ [])) in
    ap (λ (n : ℕ). pointwise nat_eq (10 ∷ []) (drop n (front ++ 10 ∷ []))) last
    ∙ ap (λ (l : List ℕ). pointwise nat_eq (10 ∷ []) l) (drop_front front (10 ∷ []))

-- ## Complete lines followed by more text

abbrev pub Parts : (text more : List ℕ) → Type 0
Parts text more =
    (take_through 10 (text ++ more) ≡ take_through 10 text) × (drop_through 10 (text ++ more) ≡ drop_through 10 text ++ more)
    × (is_whole (drop_through 10 text) ≡ true) × (take_through 10 text ++ drop_through 10 text ≡ text)

parts_at : (b : ℕ) (bs more : List ℕ) (is : Bool) → eqb b 10 ≡ is → (is ≡ false → Parts bs more) → (is ≡ true → is_whole bs ≡ true)
    → Parts (b ∷ bs) more
parts_at b bs more true e rest whole = (
  rw e refl,
  rw e refl,
  rw e (whole refl),
  rw e refl,
)
parts_at b bs more false e rest whole =
    let p = rest refl in (
      rw e (ap (λ (l : List ℕ). b ∷ l) p.0),
      rw e p.1,
      rw e p.2,
      rw e (ap (λ (l : List ℕ). b ∷ l) p.3),
    )

pub parts : (b : ℕ) (bs more : List ℕ) → is_whole (b ∷ bs) ≡ true → Parts (b ∷ bs) more
parts b [] more whole = parts_at b [] more true whole (λ other. absurd cc) (λ same. refl)
parts b (c ∷ cs) more whole = parts_at b (c ∷ cs) more (eqb b 10) refl (λ other. parts c cs more whole) (λ same. whole)

-- ## The line of a seal

-- A complete line with the form of a seal.
pub record IsLine (line : List ℕ) : Type 0 where
  pub one : take_through 10 line ≡ line
  pub whole : is_whole line ≡ true
  pub starts : begins line ≡ true
  pub is : is_seal line ≡ true

seal_if : (line : List ℕ) → begins line ≡ true → ends_with nat_eq line (10 ∷ []) ≡ true → is_seal line ≡ true
seal_if line starts ended = rw starts ended

abbrev seal_front : List ℕ → List ℕ
seal_front part = codes "# " ++ seal_text part

seal_is : (part : List ℕ) → seal_of part ≡ seal_front part ++ 10 ∷ []
seal_is part = (seal_line part).0 ∙ sym (append_assoc (codes "# ") (seal_text part) (10 ∷ []))

front_plain : (part : List ℕ) → All (λ b. b ≢ 10) (seal_front part)
front_plain part = All-append (λ b. b ≢ 10) (codes "# ") (seal_text part) (plain (codes "# ") refl) (seal_line part).2

pub is_line : (part : List ℕ) → IsLine (seal_of part)
is_line part = record {
  one = ap (λ (l : List ℕ). take_through 10 l) (seal_is part)
      ∙ (take_through-append 10 (seal_front part) (10 ∷ []) (front_plain part) ∙ sym (seal_is part));
  whole = subst (λ (l : List ℕ). is_whole l ≡ true) (sym (seal_is part)) (whole_feed (seal_front part));
  starts = refl;
  is = subst (λ (l : List ℕ). ends_with nat_eq l (10 ∷ []) ≡ true) (sym (seal_is part)) (ends (seal_front part));
}

and_both : (a b : Bool) → (a && b) ≡ true → (a ≡ true) × (b ≡ true)
and_both true b both = (refl, both)
and_both false b both = absurd cc

no_feed_head : (m b : ℕ) (rest : Bool) → cond (eqb m 10) true rest ≡ false → nat_eq m b ≡ true
    → (rest ≡ false) × (eqb b 10 ≡ false)
no_feed_head m b rest plain same = at (eqb m 10) refl plain
  where
    at : (is : Bool) → eqb m 10 ≡ is → cond is true rest ≡ false → (rest ≡ false) × (eqb b 10 ≡ false)
    at true e none = absurd cc
    at false e none = (none, grind (arith, nat_tests, e, same))

taken_starts : (front text : List ℕ) → has_feed front ≡ false → starts_with nat_eq text front ≡ true
    → starts_with nat_eq (take_through 10 text) front ≡ true
taken_starts [] text none starts = refl
taken_starts (m ∷ ms) [] none starts = absurd cc
taken_starts (m ∷ ms) (b ∷ bs) none starts =
    let both = and_both (nat_eq m b) (starts_with nat_eq bs ms) starts in
    let other = no_feed_head m b (has_feed ms) none both.0 in
    rw other.1 (rw both.0 (taken_starts ms bs other.0 both.1))

-- If a complete part begins like a seal, its first line has the form of a seal.
pub first_line : (part : List ℕ) → begins part ≡ true → is_whole part ≡ true → IsLine (take_through 10 part)
first_line [] starts whole = absurd cc
first_line (b ∷ bs) starts whole =
    let line = take_through 10 (b ∷ bs) in
    let whole_line = taken_whole (b ∷ bs) whole in
    let begun = taken_starts (codes "# sha256 ") (b ∷ bs) refl starts in record {
      one = taken_twice (b ∷ bs);
      whole = whole_line;
      starts = begun;
      is = seal_if line begun (ended line begun whole_line);
    }
  where
    ended : (line : List ℕ) → begins line ≡ true → is_whole line ≡ true → ends_with nat_eq line (10 ∷ []) ≡ true
    ended [] begun whole = absurd cc
    ended (c ∷ cs) begun whole =
        let e = whole_end c cs whole in
        subst (λ (l : List ℕ). ends_with nat_eq l (10 ∷ []) ≡ true) (sym e.1) (ends e.0)

-- ## The text before its last part

pub record Cut (text : List ℕ) : Type 0 where
  pub front : List ℕ
  pub parts : text ≡ front ++ last_part text
  pub whole : is_whole front ≡ true
  pub starts : (front ≡ []) ⊎ (begins (last_part text) ≡ true)

part_le : (text : List ℕ) → length (last_part text) ≤ length text
part_le [] = omega (arith, ap length part_nil)
part_le (b ∷ bs) = at (has_mark (b ∷ bs)) refl (part_le bs)
  where
    at : (is : Bool) → has_mark (b ∷ bs) ≡ is → length (last_part bs) ≤ length bs
        → length (last_part (b ∷ bs)) ≤ length (b ∷ bs)
    at true some rest = omega (arith, ap length (part_cons b bs some), rest)
    at false none rest = omega (arith, ap length (part_same (b ∷ bs) none))

part_shorter : (text : List ℕ) → has_mark text ≡ true → length (last_part text) < length text
unfolding has_mark
part_shorter [] some = absurd cc
part_shorter (b ∷ bs) some = omega (arith, ap length (part_cons b bs some), part_le bs)

-- If text has a mark and its tail has no mark, the mark begins right after the first byte, which is a line feed.
first_mark : (b : ℕ) (bs : List ℕ) → has_mark (b ∷ bs) ≡ true → has_mark bs ≡ false
    → (nat_eq 10 b ≡ true) × (begins bs ≡ true)
unfolding has_mark
first_mark b bs some none = and_both (nat_eq 10 b) (begins bs) (at (marks (b ∷ bs)) some)
  where
    at : (is : Bool) → (is || has_mark bs) ≡ true → is ≡ true
    at true some = refl
    at false some = absurd (cc (some, none))

pub cut : (text : List ℕ) → is_whole text ≡ true → Cut text
cut [] whole = record { front = []; parts = sym part_nil; whole = refl; starts = inl refl }
cut (b ∷ bs) whole = at (has_mark (b ∷ bs)) refl (has_mark bs) refl (cut bs (whole_tail b bs whole))
  where
    at : (is : Bool) → has_mark (b ∷ bs) ≡ is → (later : Bool) → has_mark bs ≡ later → Cut bs → Cut (b ∷ bs)
    at false none later e rest = record {
      front = [];
      parts = sym (part_same (b ∷ bs) none);
      whole = refl;
      starts = inl refl;
    }
    at true some true more rest =
        let same = part_cons b bs some in
        let longer : 0 < length rest.front =
        omega (arith, part_shorter bs more, ap length rest.parts, length-append rest.front (last_part bs)) in record {
          front = b ∷ rest.front;
          parts = ap (λ (l : List ℕ). b ∷ l) rest.parts ∙ ap (λ (l : List ℕ). (b ∷ rest.front) ++ l) (sym same);
          whole = whole_cons b rest.front longer rest.whole;
          starts = inr (ap begins same
              ∙ ⊎_elim (λ empty. absurd (omega (arith, longer, ap length empty))) (λ begun. begun) rest.starts);
        }
    at true some false none rest =
        let same : last_part (b ∷ bs) ≡ bs = part_cons b bs some ∙ part_same bs none in
        let first = first_mark b bs some none in record {
          front = b ∷ [];
          parts = ap (λ (l : List ℕ). b ∷ l) (sym same);
          whole = grind (arith, nat_tests, first.0);
          starts = inr (ap begins same ∙ first.1);
        }

pub whole_part : (text : List ℕ) → is_whole text ≡ true → is_whole (last_part text) ≡ true
whole_part [] whole = ap is_whole part_nil
whole_part (b ∷ bs) whole = at (has_mark (b ∷ bs)) refl (whole_part bs (whole_tail b bs whole))
  where
    at : (is : Bool) → has_mark (b ∷ bs) ≡ is → is_whole (last_part bs) ≡ true → is_whole (last_part (b ∷ bs)) ≡ true
    at true some rest = ap is_whole (part_cons b bs some) ∙ rest
    at false none rest = ap is_whole (part_same (b ∷ bs) none) ∙ whole

-- ## The hash in a seal

bytes_append : (a b : List ℕ) → IsBytes a → IsBytes b → IsBytes (a ++ b)
bytes_append [] b first second i = second i
bytes_append (x ∷ xs) b first second zero = first 0
bytes_append (x ∷ xs) b first second (suc i) = bytes_append xs b (λ k. first (suc k)) second i

rest_lt : (n : ℕ) → n % 256 < 256
rest_lt n = omega arith

byte_lt : (k n : ℕ) → byte_at k n < 256
byte_lt zero n = rest_lt n
byte_lt (suc k) n = rest_lt (n / 256 ^ suc k)

bytes_of : (k n : ℕ) → IsBytes (bytes_high_first k n)
bytes_of zero n i = omega arith
bytes_of (suc k) n zero = byte_lt k n
bytes_of (suc k) n (suc i) = bytes_of k n i

digest_is : (h : List ℕ) (n : ℕ) → IsBytes (digest_bytes h n)
unfolding digest_bytes
digest_is h zero i = omega arith
digest_is h (suc n) i =
    bytes_append (digest_bytes h n) (to_be_bytes w32 (slice_index h n)) (digest_is h n) (bytes_of 4 (slice_index h n)) i

hash_is : (text : List ℕ) → IsBytes (sha256 text)
unfolding sha256
hash_is text = digest_is (final_hash initial_hash_256 text) 8

-- Parts with the same seal have the same hash.
pub same_hash : (one two : List ℕ) → seal_of one ≡ seal_of two → sha256 one ≡ sha256 two
same_hash one two same =
    let digits : encode_lower (sha256 one) ≡ encode_lower (sha256 two) =
    append_cancel_right (encode_lower (sha256 one)) (encode_lower (sha256 two)) (10 ∷ [])
    (append_cancel_left (codes "# sha256 ") (encode_lower (sha256 one) ++ 10 ∷ [])
    (encode_lower (sha256 two) ++ 10 ∷ []) same) in
    let bytes : Ok (sha256 one) ≡ Ok (sha256 two) =
    sym (decode_of-encode_lower (sha256 one) (hash_is one)) ∙ (ap decode_of digits
    ∙ decode_of-encode_lower (sha256 two) (hash_is two)) in
    cc bytes
