-- Overwriting a packet of an outbox.
use Rattle.mg_engine.proofs.Common.{◌≡◌, ℕ, ◌++◌, ◌∷◌, [], List, length, take, drop, sym, ap, ◌∙◌, refill, length-set, Datagram, set-append_seam, take-append_seam, set}

pub refilled : (xs : List Datagram) (at : ℕ) (y : Datagram) → refill (length xs) xs (set xs at y) ≡ set xs at y
refilled xs at y =
    let ws = set xs at y in
    ap (λ (n : ℕ). take n (ws ++ drop (length ws) xs)) (sym (length-set xs at y)) ∙
    take-append_seam ws (drop (length ws) xs)

pub last_set : (before : List Datagram) (x y : Datagram) (xs : List Datagram) (at : ℕ) → xs ≡ before ++ x ∷ [] →
    at ≡ length before → set xs at y ≡ before ++ y ∷ []
last_set before x y xs at e i = ap (λ (n : ℕ). set xs n y) i ∙
    ap (λ (ys : List Datagram). set ys (length before) y) e ∙ set-append_seam before x [] y
