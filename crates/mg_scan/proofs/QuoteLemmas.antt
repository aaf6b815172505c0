-- The quotation mark or line end at which quoted text ends.
use Rattle.std.proofs.Common.{◌≡◌, ℕ, ◌+◌, ◌-◌, ◌<◌, ◌≢◌, List, length, get_or, take, drop, Some, None, Err, refl, ap, ◌∙◌, arith, length-drop}
use Rattle.std.proofs.lemmas.List.{drop-drop, drop_more, drop_all}
use Rattle.std.proofs.lemmas.List.Sums.{position_or_len_is}
use Rattle.std.proofs.lemmas.Bool.{false_from_ne_true, eq-eqb, ne_eqb}
use Rattle.std.specs.List.{position_or_len}
use Rattle.memchr.specs.Find.{IsFirstByte, is_byte3}
use Rattle.mg_scan.specs.declared.kind.TokenKind.TheVariants.{Quoted}
use Rattle.mg_scan.specs.declared.fault.ScanFault.TheVariants.{OpenQuote}
use Rattle.mg_scan.specs.Tokens.{is_quote_end, quoted_at, token_and_rest}
use Rattle.mg_scan.specs.aids.Places.{Places}

place : (tail : List ℕ) (n : ℕ) → IsFirstByte (is_byte3 34 13 10) tail (Some n) →
    (position_or_len is_quote_end tail ≡ n) × (n < length tail)
place tail n h =
    let high = h.0.high in (
      position_or_len_is is_quote_end tail n 0 (omega arith)
          (λ k lt. false_from_ne_true _ (h.0.before k (omega arith) lt)) (λ _. h.1),
      high,
    )

no_place : (tail : List ℕ) → IsFirstByte (is_byte3 34 13 10) tail None → position_or_len is_quote_end tail ≡ length tail
no_place tail h = position_or_len_is is_quote_end tail (length tail) 0 (omega arith)
    (λ k lt. false_from_ne_true _ (h k (omega arith) lt)) (λ lt. absurd (omega arith))

pub none_closes : (tail : List ℕ) → IsFirstByte (is_byte3 34 13 10) tail None → quoted_at tail ≡ Some (Err OpenQuote)
none_closes tail h = rw (no_place tail h, drop_all (length tail) tail (omega arith)) refl

pub other_ends : (tail : List ℕ) (n : ℕ) → IsFirstByte (is_byte3 34 13 10) tail (Some n) → get_or tail n 0 ≢ 34 →
    quoted_at tail ≡ Some (Err OpenQuote)
other_ends tail n h ne =
    let p = place tail n h in
    rw (p.0, drop_more tail n 0 p.1, ne_eqb _ 34 ne) refl

pub quote_closes : (bytes tail : List ℕ) (n : ℕ) → 0 < length bytes → tail ≡ drop 1 bytes →
    IsFirstByte (is_byte3 34 13 10) tail (Some n) → get_or tail n 0 ≡ 34 →
    Places bytes (quoted_at tail) (record { kind = Quoted; start = 1; end = n + 1; next = n + 2 })
quote_closes bytes tail n nonempty t h is =
    let p = place tail n h in
    let len = ap length t ∙ length-drop 1 bytes in
    let one : n + 1 - 1 ≡ n = omega arith in
    let two : 1 + (n + 1) ≡ n + 2 = omega arith in
    record {
      start = omega arith;
      end = omega arith;
      some = omega arith;
      next = omega arith;
      is = rw (p.0, drop_more tail n 0 p.1, eq-eqb _ 34 is, one, ← t)
          (ap (λ (r : List ℕ). token_and_rest Quoted (take n tail) r)
          (ap (drop (n + 1)) t ∙ drop-drop (n + 1) 1 bytes ∙ ap (λ (i : ℕ). drop i bytes) two));
    }
