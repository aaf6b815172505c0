-- Escaping text and writing it byte by byte.
use Rattle.std.proofs.Common.{◌≡◌, ℕ, ◌+◌, ◌*◌, ◌<◌, ◌≤◌, Bool, true, false, cond, List, [], ◌∷◌, ◌++◌, length, get_or, take, sym, ap, ◌∙◌, append_assoc, length-append, arith, codes, lit≤, ◌==◌, ◌||◌, nat_lt}
use Rattle.std.proofs.lemmas.List.Concat.{flat_map-append}
use Rattle.std.proofs.lemmas.List.{take_more, append-nil}
use Rattle.mg_bytes.specs.Bytes.{Written, appended}
use Rattle.mg_bytes.proofs.AppendedLemmas.{appended-appended}
use Rattle.mg_heard.specs.Escaped.{escaped_byte, escaped}

-- Writing one more escaped byte extends the written text by that byte.
pub escaped_more : (w : Written) (text : List ℕ) (i : ℕ) → i < length text →
    appended (appended w (escaped (take i text))) (escaped_byte (get_or text i 0)) ≡
    appended w (escaped (take (i + 1) text))
escaped_more w text i lt =
    let one : escaped (get_or text i 0 ∷ []) ≡ escaped_byte (get_or text i 0) =
    append-nil (escaped_byte (get_or text i 0)) in
    appended-appended w (escaped (take i text)) (escaped_byte (get_or text i 0))
    ∙ ap (appended w) (ap (λ (l : List ℕ). escaped (take i text) ++ l) (sym one) ∙
    sym (flat_map-append escaped_byte (take i text) (get_or text i 0 ∷ [])) ∙ ap escaped (sym (take_more text i 0 lt)))

escape_cases : (u v w x y z : Bool) (b : ℕ) → length
    (cond u (codes "&amp;") (cond v (codes "&lt;") (cond w (codes "&gt;") (cond x (codes "&quot;")
    (cond y (codes "&#39;") (cond z (codes "&#65533;") (b ∷ []))))))) ≤ 8
escape_cases true v w x y z b = lit≤ tt
escape_cases false true w x y z b = lit≤ tt
escape_cases false false true x y z b = lit≤ tt
escape_cases false false false true y z b = lit≤ tt
escape_cases false false false false true z b = lit≤ tt
escape_cases false false false false false true b = lit≤ tt
escape_cases false false false false false false b = omega arith

pub escape_short : (b : ℕ) → length (escaped_byte b) ≤ 8
escape_short b =
    escape_cases (b == 38) (b == 60) (b == 62) (b == 34) (b == 39) (nat_lt b 32 || b == 127) b

pub escaped_short : (text : List ℕ) → length (escaped text) ≤ 8 * length text
escaped_short [] = omega arith
escaped_short (b ∷ bs) =
    omega (arith, length-append (escaped_byte b) (escaped bs), escape_short b, escaped_short bs)

pub ruleset steps = (escaped_more, escape_short, escaped_short, appended-appended, append_assoc, length-append)
