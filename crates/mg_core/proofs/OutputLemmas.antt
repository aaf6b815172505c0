-- The line for an answer.
use Rattle.std.proofs.Common.{◌≡◌, ℕ, ◌+◌, ◌*◌, ◌<◌, ◌≤◌, Bool, true, false, cond, List, [], ◌∷◌, ◌++◌, length, get_or, take, sym, ap, ◌∙◌, append_assoc, length-append, arith, codes, lit≤, ◌==◌}
use Rattle.std.proofs.lemmas.List.Concat.{flat_map-append}
use Rattle.std.proofs.lemmas.List.{take_more, append-nil}
use Rattle.mg_bytes.specs.Bytes.{Written, appended}
use Rattle.mg_bytes.proofs.AppendedLemmas.{appended-appended}
use Rattle.mg_core.specs.Script.{escape_of, escaped}

-- If one more byte of the text is escaped, its escaped form is appended.
pub escaped_more : (w : Written) (text : List ℕ) (i : ℕ) → i < length text →
    appended (appended w (escaped (take i text))) (escape_of (get_or text i 0)) ≡
    appended w (escaped (take (i + 1) text))
escaped_more w text i lt =
    let one : escaped (get_or text i 0 ∷ []) ≡ escape_of (get_or text i 0) = append-nil (escape_of (get_or text i 0)) in
    appended-appended w (escaped (take i text)) (escape_of (get_or text i 0))
    ∙ ap (appended w) (ap (λ (l : List ℕ). escaped (take i text) ++ l) (sym one) ∙
    sym (flat_map-append escape_of (take i text) (get_or text i 0 ∷ [])) ∙ ap escaped (sym (take_more text i 0 lt)))

escape_cases : (x y z : Bool) (b : ℕ) → length
    (cond x (codes "\\n") (cond y (codes "\\r") (cond z (codes "\\\\") (b ∷ [])))) ≤ 2
escape_cases true y z b = lit≤ tt
escape_cases false true z b = lit≤ tt
escape_cases false false true b = lit≤ tt
escape_cases false false false b = omega arith

pub escape_short : (b : ℕ) → length (escape_of b) ≤ 2
escape_short b = escape_cases (b == 10) (b == 13) (b == 92) b

pub escaped_short : (text : List ℕ) → length (escaped text) ≤ 2 * length text
escaped_short [] = omega arith
escaped_short (b ∷ bs) = omega (arith, length-append (escape_of b) (escaped bs), escape_short b, escaped_short bs)

pub ruleset steps = (escaped_more, escape_short, escaped_short, appended-appended, append_assoc, length-append)
