-- The values that have been read, and the strings that remain to be read.
use Rattle.std.proofs.Common.{◌≡◌, ◌∙◌, ◌+◌, ◌<◌, ℕ, List, [], ◌∷◌, ◌++◌, Result, Ok, Err, ap, append_assoc, drop, get_or, length, map, refl, sym}
use Rattle.std.proofs.lemmas.List.{at_drop_more}
use Rattle.mg_words.specs.ResultSteps.{◌>>=◌}
use Rattle.mg_service.specs.Read.{all_read}

-- The values in `done`, followed by those in `rest`. If `rest` is a fault, the result is this fault.
abbrev pub then_read : {A E : Type 0} → List A → Result (List A) E → Result (List A) E
then_read done (Ok rest) = Ok (done ++ rest)
then_read done (Err fault) = Err fault

pub none_read : {A E : Type 0} (rest : Result (List A) E) → then_read [] rest ≡ rest
none_read (Ok rest) = refl
none_read (Err fault) = refl

with_one : {A E : Type 0} (done : List A) (value : A) (rest : Result (List A) E)
    → then_read done (rest >>= λ values. Ok (value ∷ values)) ≡ then_read (done ++ value ∷ []) rest
with_one done value (Ok rest) = ap Ok (sym (append_assoc done (value ∷ []) rest))
with_one done value (Err fault) = refl

one_read : {A E : Type 0} (read : List ℕ → Result A E) (done : List A) (text : List ℕ) (texts : List (List ℕ)) (value : A)
    → read text ≡ Ok value
    → then_read done (all_read read (text ∷ texts)) ≡ then_read (done ++ value ∷ []) (all_read read texts)
one_read read done text texts value is = rw is (with_one done value (all_read read texts))

-- Reading the next string adds its value to `done`.
pub next_read : {X A E : Type 0} (read : List ℕ → Result A E) (now : X → List ℕ) (texts : List X) (i : ℕ) (d : X)
    (value : A) (done : List A) → i < length texts → read (now (get_or texts i d)) ≡ Ok value
    → then_read done (all_read read (map now (drop i texts))) ≡
    then_read (done ++ value ∷ []) (all_read read (map now (drop (i + 1) texts)))
next_read read now texts i d value done lt is =
    at_drop_more (λ rest. then_read done (all_read read (map now rest))) texts i d lt ∙
    one_read read done (now (get_or texts i d)) (map now (drop (i + 1) texts)) value is

-- The strings after the first one.
pub later_texts : {X : Type 0} (now : X → List ℕ) (texts : List X) → map now (drop 1 texts) ≡ drop 1 (map now texts)
later_texts now [] = refl
later_texts now (text ∷ texts) = refl
