-- Texts to which parts are appended.
use Rattle.std.proofs.Common.{◌≡◌, ℕ, suc, ◌+◌, ◌<◌, true, false, eqb, eqb-true, true≢false, List, [], ◌∷◌, ◌++◌, codes, length, get_or, take, drop, Some, refl, sym, ap, ◌∙◌, append_assoc, append-nil, arith}
use Rattle.std.proofs.lemmas.List.{drop_more, drop_all, flat_map_more, take_more}
use Rattle.std.proofs.lemmas.Option.{get_or_from_slice_get, slice_get_within}
use Rattle.std.specs.List.{flat_map, slice_get}
use Rattle.mg_checkpoint.specs.aids.Forms.{numeral, after_dots}
use Rattle.mg_checkpoint.specs.aids.Text.{listener_line, muted_line}

-- ## Lists

-- One more element of a list was written.
pub written_more : {A : Type 0} (f : A → List ℕ) (start : List ℕ) (xs : List A) (i : ℕ) (d : A) → i < length xs
    → (start ++ flat_map f (take i xs)) ++ f (get_or xs i d) ≡ start ++ flat_map f (take (i + 1) xs)
written_more f start xs i d within =
    flat_map_more f start (take i xs) (get_or xs i d)
    ∙ ap (λ ys. start ++ flat_map f ys) (sym (take_more xs i d within))

-- The same, for an element that is known.
pub written_next : {A : Type 0} (f : A → List ℕ) (start : List ℕ) (xs : List A) (i : ℕ) (x : A)
    → slice_get xs i ≡ Some x
    → (start ++ flat_map f (take i xs)) ++ f x ≡ start ++ flat_map f (take (i + 1) xs)
written_next f start xs i x at =
    ap (λ y. (start ++ flat_map f (take i xs)) ++ f y) (sym (get_or_from_slice_get xs i x x at))
    ∙ written_more f start xs i x (slice_get_within xs i x at)

pub ruleset steps = (written_more, append_assoc)

-- Four parts, of which the last isn't appended yet.
pub four_parts : (o p q r a b c d : List ℕ) → p ≡ o ++ a → q ≡ p ++ b → r ≡ q ++ c
    → r ++ d ≡ o ++ (a ++ (b ++ (c ++ d)))
four_parts o p q r a b c d e f g = rw (g, f, e) (simp append_assoc)

-- ## Addresses

pub dots_more : (out ns : List ℕ) (i : ℕ) → i < length ns
    → ((out ++ codes ".") ++ numeral (get_or ns i 0)) ++ after_dots (drop (i + 1) ns) ≡ out ++ after_dots (drop i ns)
dots_more out ns i within = rw (drop_more ns i 0 within) (simp append_assoc)

pub dots_end : (ns : List ℕ) → after_dots (drop (length ns) ns) ≡ codes ":"
dots_end ns = rw (drop_all (length ns) ns (omega arith)) refl

pub ruleset dots = (dots_more, dots_end)

-- ## Listeners

pub muted_some : (n : ℕ) (ms : List ℕ) → eqb (length ms) 0 ≡ false → muted_line n ms ≡ listener_line n ms
muted_some n [] some = absurd (true≢false some)
muted_some n (m ∷ ms) some = refl

pub muted_none : (n : ℕ) (ms : List ℕ) → eqb (length ms) 0 ≡ true → muted_line n ms ≡ []
muted_none n [] none = refl
muted_none n (m ∷ ms) none = absurd (omega (arith, eqb-true (suc (length ms)) 0 none))

pub ruleset muted = (muted_some, muted_none, append-nil)
