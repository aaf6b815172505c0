-- A stream whose number exceeds the numbers of all earlier streams repeats none of these streams.
use Rattle.std.proofs.Common.{◌≡◌, ℕ, ◌+◌, ◌==◌, ◌<◌, max, false, List, [], ◌∷◌, ◌++◌, length, get_or, take, Option, refl, ap, arith}
use Rattle.std.proofs.lemmas.List.{take_more}
use Rattle.std.proofs.lemmas.Bool.{ne_eqb}
use Rattle.std.specs.List.{list_any}
use Rattle.mg_words.specs.declared.error_number.ErrorNumber.{ErrorNumber}
use Rattle.mg_text.specs.declared.media.StreamPart.{StreamPart}
use Rattle.mg_text.specs.declared.media.MediaPart.{MediaPart}
use Rattle.mg_text.specs.declared.media.MediaPart.TheVariants as media
use Rattle.mg_commands.specs.declared.part.Part.{Part}
use Rattle.mg_commands.specs.Search.{first_after}
use Rattle.mg_commands.specs.aids.Levels.{appears_in, stream_level, media_level, stream_of, greatest_stream}

pub greatest_push : (xs : List MediaPart) (x : MediaPart) →
    greatest_stream (xs ++ x ∷ []) ≡ max (greatest_stream xs) (stream_of x)
greatest_push [] x = omega arith
greatest_push (y ∷ xs) x = let rest = greatest_push xs x in omega (arith, rest)

pub greatest_next : (xs : List MediaPart) (i : ℕ) (x d : MediaPart) (g s h : ℕ) → i < length xs → x ≡ get_or xs i d →
    g ≡ greatest_stream (take i xs) → s ≡ stream_of x → h ≡ max g s → h ≡ greatest_stream (take (i + 1) xs)
greatest_next xs i x d g s h lt is front stream most =
    let pushed : greatest_stream (take (i + 1) xs) ≡ max (greatest_stream (take i xs)) (stream_of (get_or xs i d)) =
    rw (take_more xs i d lt) (greatest_push (take i xs) (get_or xs i d)) in
    let same : stream_of x ≡ stream_of (get_or xs i d) = ap stream_of is in
    omega (arith, pushed, same, front, stream, most)

-- A stream number does not occur in a part whose stream number is smaller.
stands_not : (source : List ℕ) (p : Part) (n : ℕ) (y : MediaPart) → stream_of y < n → appears_in source p n y ≡ false
stands_not source p n (media.Part x) lt = let other : (n == 1) ≡ false = ne_eqb n 1 (λ q. omega arith) in rw other refl
stands_not source p n (media.Stream k xs) lt = let other : (n == k) ≡ false = ne_eqb n k (λ q. omega arith) in
    rw other refl
stands_not source p n (media.TerminationState has_content) lt = refl

stands_nowhere : (source : List ℕ) (p : Part) (n : ℕ) (ys : List MediaPart) → greatest_stream ys < n →
    list_any (appears_in source p n) ys ≡ false
stands_nowhere source p n [] lt = refl
stands_nowhere source p n (y ∷ ys) lt = rw (
  stands_not source p n y (omega arith),
  stands_nowhere source p n ys (omega arith),
) refl

same_level : (source : List ℕ) (ys : List MediaPart) (n : ℕ) → greatest_stream ys < n →
    (before : List StreamPart) (x : StreamPart) → stream_level source [] n before x ≡ stream_level source ys n before x
same_level source ys n lt before x = rw (stands_nowhere source _ n ys lt) refl

first_same : {X : Type 0} (f g : List X → X → Option ErrorNumber) → ((b : List X) (x : X) → f b x ≡ g b x) →
    (b xs : List X) → first_after f b xs ≡ first_after g b xs
unfolding first_after
first_same f g h b [] = refl
first_same f g h b (x ∷ xs) = rw (h b x, first_same f g h (b ++ x ∷ []) xs) refl

pub level_alone : (source : List ℕ) (ys : List MediaPart) (x : MediaPart) → greatest_stream ys < stream_of x →
    media_level source [] x ≡ media_level source ys x
level_alone source ys (media.Part x) lt = same_level source ys 1 lt [] x
level_alone source ys (media.Stream n xs) lt =
    first_same (stream_level source [] n) (stream_level source ys n) (same_level source ys n lt) [] xs
level_alone source ys (media.TerminationState has_content) lt = absurd (omega arith)
