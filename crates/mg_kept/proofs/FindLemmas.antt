-- Searches in a list of kept replies.
use Rattle.mg_words.proofs.CutLemmas.{same_letters}
use Rattle.std.proofs.Common.{◌≡◌, ℕ, zero, suc, ◌<◌, List, [], ◌∷◌, ◌++◌, Bool, true, false, cond, Option, Some, None, option_map, length, get_or, take, drop, refl, All, arith}
use Rattle.std.proofs.lemmas.List.Elements.{All-head, All-tail}
use Rattle.std.specs.List.{find, filter, AllPairs}
use Rattle.std.specs.Str.{str_eq_ignore_ascii_case}
use Rattle.mg_kept.specs.KeptReplies.{KeptReply, is_reply_to, kept_text, AreDistinct}

-- If no kept text is found, no kept reply is found.
none_of_map : (o : Option KeptReply) → option_map (λ (reply : KeptReply). reply.text) o ≡ None → o ≡ None
none_of_map None h = refl
none_of_map (Some x) h = cc

pub none_found : (replies : List KeptReply) (sender : List ℕ) (number : ℕ) → kept_text replies sender number ≡ None →
    find (is_reply_to sender number) replies ≡ None
none_found replies sender number h = none_of_map _ h

pub find_agree : (p q : KeptReply → Bool) → ((r : KeptReply) → p r ≡ q r) → (xs : List KeptReply) →
    find p xs ≡ find q xs
find_agree p q e [] = refl
find_agree p q e (x ∷ xs) = rw (e x, find_agree p q e xs) refl

-- Two spellings of a sender's name that differ only in case match the same replies.
pub same_sender : (a b : List ℕ) (number : ℕ) → str_eq_ignore_ascii_case a b ≡ true → (r : KeptReply) →
    is_reply_to a number r ≡ is_reply_to b number r
same_sender a b number e r = rw (same_letters a b e) refl

pub later_none : (b : Bool) (x : KeptReply) (o : Option KeptReply) → cond b (Some x) o ≡ None → o ≡ None
later_none true x o h = cc
later_none false x o h = h

pub none_in_drop : (p : KeptReply → Bool) (n : ℕ) (xs : List KeptReply) → find p xs ≡ None → find p (drop n xs) ≡ None
none_in_drop p zero xs h = h
none_in_drop p (suc n) [] h = refl
none_in_drop p (suc n) (x ∷ xs) h = none_in_drop p n xs (later_none (p x) x (find p xs) h)

pub find_before : (p : KeptReply → Bool) (xs : List KeptReply) (y : KeptReply) → p y ≡ false →
    find p (xs ++ y ∷ []) ≡ find p xs
find_before p [] y e = rw e refl
find_before p (x ∷ xs) y e = rw (find_before p xs y e) refl

last_step : (b : Bool) (x y : KeptReply) (o u : Option KeptReply) → cond b (Some x) o ≡ None →
    (o ≡ None → u ≡ Some y) → cond b (Some x) u ≡ Some y
last_step true x y o u n f = cc
last_step false x y o u n f = f n

pub find_last : (p : KeptReply → Bool) (xs : List KeptReply) (y : KeptReply) → find p xs ≡ None → p y ≡ true →
    find p (xs ++ y ∷ []) ≡ Some y
find_last p [] y n e = rw e refl
find_last p (x ∷ xs) y n e = last_step (p x) x y (find p xs) (find p (xs ++ y ∷ [])) n (λ m. find_last p xs y m e)

pub none_from_all : (p : KeptReply → Bool) (xs : List KeptReply) → All (λ x. p x ≡ false) xs → find p xs ≡ None
none_from_all p [] h = refl
none_from_all p (x ∷ xs) h = rw (All-head (λ x. p x ≡ false) x xs h)
    (none_from_all p xs (All-tail (λ x. p x ≡ false) x xs h))

-- If `x` fails the test or is left out, and no reply in `ys` passes the test, a search still finds nothing.
none_step : (p : KeptReply → Bool) (x : KeptReply) (ys : List KeptReply) (b : Bool) → (b ≡ true → p x ≡ false) →
    find p ys ≡ None → find p (cond b (x ∷ ys) ys) ≡ None
none_step p x ys true h n = rw (h refl) n
none_step p x ys false h n = n

pub none_in_filter : (p q : KeptReply → Bool) → ((r : KeptReply) → q r ≡ true → p r ≡ false) → (xs : List KeptReply) →
    find p (filter q xs) ≡ None
none_in_filter p q h [] = refl
none_in_filter p q h (x ∷ xs) = none_step p x (filter q xs) (q x) (h x) (none_in_filter p q h xs)

-- If `x` is left out only when it fails the test, a search still finds the same reply.
same_step : (p : KeptReply → Bool) (x : KeptReply) (ys xs : List KeptReply) (b : Bool) → (b ≡ false → p x ≡ false) →
    find p ys ≡ find p xs → find p (cond b (x ∷ ys) ys) ≡ find p (x ∷ xs)
same_step p x ys xs true h n = rw n refl
same_step p x ys xs false h n = rw (h refl) n

pub same_in_filter : (p q : KeptReply → Bool) → ((r : KeptReply) → q r ≡ false → p r ≡ false) →
    (xs : List KeptReply) → find p (filter q xs) ≡ find p xs
same_in_filter p q h [] = refl
same_in_filter p q h (x ∷ xs) = same_step p x (filter q xs) xs (q x) (h x) (same_in_filter p q h xs)

-- If every two entries of a list are related by `R`, the first entry is related to all the other entries.
pub first_differs : (R : KeptReply → KeptReply → Type 0) (x : KeptReply) (xs : List KeptReply) → AllPairs R (x ∷ xs) →
    All (R x) xs
first_differs R x xs h = λ k d lt. h 0 (suc k) d (omega arith) (omega arith)

none_cons : (b : Bool) (x : KeptReply) (o u : Option KeptReply) → cond b (Some x) o ≡ None → (o ≡ None → u ≡ None) →
    cond b (Some x) u ≡ None
none_cons true x o u n f = cc
none_cons false x o u n f = f n

-- If the first `i` replies and the reply after them fail the test, the first `i + 1` replies fail it.
pub none_more : (p : KeptReply → Bool) (xs : List KeptReply) (i : ℕ) (x : KeptReply) → i < length xs →
    find p (take i xs) ≡ None → x ≡ get_or xs i x → p x ≡ false → find p (take (suc i) xs) ≡ None
none_more p [] i x lt n e f = refl
none_more p (y ∷ ys) zero x lt n e f = rw (← e, f) refl
none_more p (y ∷ ys) (suc i) x lt n e f =
    none_cons (p y) y (find p (take i ys)) (find p (take (suc i) ys)) n (λ m. none_more p ys i x (omega arith) m e f)

-- If the first `i` replies fail the test and the next reply passes it, `find` returns the next reply.
pub found_at : (p : KeptReply → Bool) (xs : List KeptReply) (i : ℕ) (x : KeptReply) → i < length xs →
    find p (take i xs) ≡ None → x ≡ get_or xs i x → p x ≡ true → find p xs ≡ Some x
found_at p [] i x lt n e t = absurd (omega arith)
found_at p (y ∷ ys) zero x lt n e t = rw (← e, t) refl
found_at p (y ∷ ys) (suc i) x lt n e t =
    last_step (p y) y x (find p (take i ys)) (find p ys) n (λ m. found_at p ys i x (omega arith) m e t)

first_fails : (b : Bool) (x : KeptReply) (o : Option KeptReply) → cond b (Some x) o ≡ None → b ≡ false
first_fails true x o h = cc
first_fails false x o h = refl

-- If `find` returns `None`, each reply fails the test.
pub fails_at : (p : KeptReply → Bool) (xs : List KeptReply) (k : ℕ) (d : KeptReply) → find p xs ≡ None →
    k < length xs → p (get_or xs k d) ≡ false
fails_at p [] k d n lt = absurd (omega arith)
fails_at p (x ∷ xs) zero d n lt = first_fails (p x) x (find p xs) n
fails_at p (x ∷ xs) (suc k) d n lt = fails_at p xs k d (later_none (p x) x (find p xs) n) (omega arith)

-- Distinct replies stay distinct when the first reply is dropped.
pub rest_is_distinct : (xs : List KeptReply) → AreDistinct xs → AreDistinct (drop 1 xs)
rest_is_distinct [] h = h
rest_is_distinct (x ∷ xs) h = λ i j d lt within. h (suc i) (suc j) d (omega arith) (omega arith)
