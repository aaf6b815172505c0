-- The comment lines that report changes.
use Rattle.std.proofs.Common.{◌≡◌, ◌==◌, ◌∙◌, ℕ, zero, suc, ◌+◌, ◌*◌, ◌<◌, ◌≤◌, ◌^◌, Bool, true, false, cond, List, [], ◌∷◌, ◌++◌, Option, Some, None, flat_map, get_or, take, length, length-append, append_assoc, refl, sym, ap, arith, lit≤}
use Rattle.std.proofs.lemmas.Grind.{flat_map-append}
use Rattle.std.proofs.lemmas.List.{append-nil, take_more}
use Rattle.std.proofs.lemmas.Fmt.{length-decimal-le}
use Rattle.std.specs.Prelude.{decimal}
use Rattle.mg_words.specs.declared.mode.Mode.{Mode}
use Rattle.mg_words.specs.declared.mode.Mode.TheVariants.{Inactive, SendOnly, ReceiveOnly}
use Rattle.mg_words.specs.declared.mode.Mode.TheVariants.{SendReceive, Loopback}
use Rattle.mg_words.specs.Mode.{mode_text}
use Rattle.mg_bytes.specs.Bytes.{Written, appended}
use Rattle.mg_bytes.proofs.AppendedLemmas.{after, appended-appended}
use Rattle.mg_core.specs.Flows.{Listener, listener_at}

pub decimal_short : (n : ℕ) → n < 2 ^ 64 → length (decimal n) ≤ 20
decimal_short n lt = length-decimal-le 20 n (omega arith) (omega arith) lt

pub ruleset lengths = (decimal_short, length-append)

pub mode_short : (m : Mode) → length (mode_text m) ≤ 11
unfolding mode_text
mode_short Inactive = lit≤ tt
mode_short SendOnly = lit≤ tt
mode_short ReceiveOnly = lit≤ tt
mode_short SendReceive = lit≤ tt
mode_short Loopback = lit≤ tt

pub ruleset steps = (mode_short, appended-appended, append_assoc, length-append)

-- ## The listener with a number

none_cons : (b : Bool) (x : Listener) (o u : Option Listener) → cond b (Some x) o ≡ None → (o ≡ None → u ≡ None) →
    cond b (Some x) u ≡ None
none_cons true x o u n f = cc
none_cons false x o u n f = f n

some_cons : (b : Bool) (x y : Listener) (o u : Option Listener) → cond b (Some x) o ≡ None → (o ≡ None → u ≡ Some y) →
    cond b (Some x) u ≡ Some y
some_cons true x y o u n f = cc
some_cons false x y o u n f = f n

-- If none of the first `i` listeners has the number, and the next one doesn't either, none of the first `i + 1`
-- listeners has it.
pub none_more : (xs : List Listener) (n i : ℕ) (x : Listener) → i < length xs → listener_at (take i xs) n ≡ None →
    x ≡ get_or xs i x → x.number == n ≡ false → listener_at (take (suc i) xs) n ≡ None
none_more [] n i x lt none e f = refl
none_more (y ∷ ys) n zero x lt none e f = rw (← e, f) refl
none_more (y ∷ ys) n (suc i) x lt none e f = none_cons (y.number == n) y (listener_at (take i ys) n)
    (listener_at (take (suc i) ys) n) none (λ m. none_more ys n i x (omega arith) m e f)

-- If the first `i` listeners don't have the number and the next one does, `listener_at` returns that next one.
pub found_at : (xs : List Listener) (n i : ℕ) (x : Listener) → i < length xs → listener_at (take i xs) n ≡ None →
    x ≡ get_or xs i x → x.number == n ≡ true → listener_at xs n ≡ Some x
found_at [] n i x lt none e t = absurd (omega arith)
found_at (y ∷ ys) n zero x lt none e t = rw (← e, t) refl
found_at (y ∷ ys) n (suc i) x lt none e t = some_cons (y.number == n) y x (listener_at (take i ys) n)
    (listener_at ys n) none (λ m. found_at ys n i x (omega arith) m e t)

-- ## Text that is written in parts

pub three_parts : (w x y z : Written) (a b l : List ℕ) → x ≡ appended w a → y ≡ appended x b → z ≡ appended y l →
    z ≡ appended w (a ++ (b ++ l))
three_parts w x y z a b l h k m = after w x z a (b ++ l) h (after x y z b l k m)

-- If one more element is taken from the list, its text is appended.
each_more : {A : Type 0} (f : A → List ℕ) (xs : List A) (i : ℕ) (x : A) → i < length xs → x ≡ get_or xs i x →
    flat_map f (take (i + 1) xs) ≡ flat_map f (take i xs) ++ f x
each_more f xs i x lt is = ap (flat_map f) (take_more xs i x lt) ∙ flat_map-append f (take i xs) (get_or xs i x ∷ []) ∙
    ap (λ l. flat_map f (take i xs) ++ l) (append-nil (f (get_or xs i x)) ∙ ap f (sym is))

pub text_more : {A : Type 0} (f : A → List ℕ) (xs : List A) (i : ℕ) (x : A) (w m n : Written) → i < length xs →
    x ≡ get_or xs i x → m ≡ appended w (flat_map f (take i xs)) → n ≡ appended m (f x) →
    n ≡ appended w (flat_map f (take (i + 1) xs))
text_more f xs i x w m n lt is h k =
    after w m n (flat_map f (take i xs)) (f x) h k ∙ ap (appended w) (sym (each_more f xs i x lt is))

pub short_more : {A : Type 0} (f : A → List ℕ) (xs : List A) (i : ℕ) (x : A) (most : ℕ) → i < length xs →
    x ≡ get_or xs i x → length (flat_map f (take i xs)) ≤ most * i → length (f x) ≤ most →
    length (flat_map f (take (i + 1) xs)) ≤ most * (i + 1)
short_more f xs i x most lt is h k = rw (each_more f xs i x lt is)
    (omega (arith, length-append (flat_map f (take i xs)) (f x), h, k, times most i))
  where
    times : (m n : ℕ) → m * (n + 1) ≡ m * n + m
    times m n = omega arith
