-- Text as one line, byte by byte.
use Rattle.std.proofs.Common.{◌≡◌, ◌≢◌, ℕ, ◌+◌, ◌<◌, ◌≤◌, Bool, true, false, List, [], ◌∷◌, ◌++◌, length, get_or, take, refl, sym, ap, ◌∙◌, not, arith, length-take, length-append, ◌==◌, true≢false}
use Rattle.std.proofs.lemmas.List.{append-nil, take-append-le, take_all, take_more}
use Rattle.std.proofs.lemmas.List.Elements.{filter-append}
use Rattle.std.proofs.lemmas.Bool.{ne_eqb, eq-eqb, eqb-true}
use Rattle.std.specs.List.{filter}
use Rattle.mg_serve.specs.Trace.{one_line}

-- The text without its line feeds.
abbrev kept : List ℕ → List ℕ
kept text = filter (λ b. not (b == 10)) text

kept_feed : (text : List ℕ) (i : ℕ) → i < length text → get_or text i 0 ≡ 10 →
    kept (take (i + 1) text) ≡ kept (take i text)
kept_feed text i lt is =
    rw (
      take_more text i 0 lt,
      filter-append (λ (b : ℕ). not (b == 10)) (take i text) (get_or text i 0 ∷ []),
      eq-eqb (get_or text i 0) 10 is,
    ) (append-nil (kept (take i text)))

kept_plain : (text : List ℕ) (i : ℕ) → i < length text → get_or text i 0 ≢ 10 →
    kept (take (i + 1) text) ≡ kept (take i text) ++ get_or text i 0 ∷ []
kept_plain text i lt ne =
    rw (
      take_more text i 0 lt,
      filter-append (λ (b : ℕ). not (b == 10)) (take i text) (get_or text i 0 ∷ []),
      ne_eqb (get_or text i 0) 10 ne,
    ) refl

pub short : (text : List ℕ) → length (one_line text) ≤ 1000
short text = omega (arith, length-take 1000 (kept text))

-- A line feed is left out.
pub feed : (text : List ℕ) (i : ℕ) → i < length text → get_or text i 0 ≡ 10 →
    one_line (take (i + 1) text) ≡ one_line (take i text)
feed text i lt is = ap (take 1000) (kept_feed text i lt is)

-- Bytes after the first 1,000 are left out.
pub full : (text : List ℕ) (i : ℕ) → i < length text → 1000 ≤ length (one_line (take i text)) →
    one_line (take (i + 1) text) ≡ one_line (take i text)
full text i lt many = full_by (get_or text i 0 == 10) refl
  where
    long : 1000 ≤ length (kept (take i text))
    long = omega (arith, many, length-take 1000 (kept (take i text)))

    full_by : (q : Bool) → (get_or text i 0 == 10) ≡ q → one_line (take (i + 1) text) ≡ one_line (take i text)
    full_by true is = feed text i lt (eqb-true (get_or text i 0) 10 is)
    full_by false is =
        ap (take 1000) (kept_plain text i lt (λ e. absurd (true≢false (sym (eq-eqb (get_or text i 0) 10 e) ∙ is)))) ∙
        take-append-le 1000 (kept (take i text)) (get_or text i 0 ∷ []) long

-- If fewer than 1,000 bytes are kept, a byte other than a line feed is kept too.
pub plain : (text : List ℕ) (i : ℕ) → i < length text → get_or text i 0 ≢ 10 →
    length (one_line (take i text)) < 1000 →
    one_line (take (i + 1) text) ≡ one_line (take i text) ++ get_or text i 0 ∷ []
plain text i lt ne few =
    let before = kept (take i text) in
    let small : length before < 1000 = omega (arith, few, length-take 1000 before) in
    ap (take 1000) (kept_plain text i lt ne) ∙
    take_all 1000 (before ++ get_or text i 0 ∷ [])
    (omega (arith, small, length-append before (get_or text i 0 ∷ []))) ∙
    ap (λ (l : List ℕ). l ++ get_or text i 0 ∷ []) (sym (take_all 1000 before (omega (arith, small))))
