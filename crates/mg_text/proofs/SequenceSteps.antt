-- Parsing the items of a message in a loop.
use Rattle.std.proofs.Common.{◌≡◌, ℕ, suc, ◌-◌, ◌+◌, ◌≤◌, ◌<◌, eqb, true, false, List, [], ◌∷◌, ◌++◌, length, Option, Some, None, Result, Ok, Err, refl, sym, ap, ◌∙◌, append_assoc, arith}
use Rattle.std.proofs.lemmas.List.{append-nil}
use Rattle.mg_scan.specs.declared.token.Token.{Token}
use Rattle.mg_text.specs.declared.body.MessageItem.{MessageItem}
use Rattle.mg_text.specs.declared.fault.ReadFault.{ReadFault}
use Rattle.mg_text.specs.declared.fault.ReadFault.TheVariants.{NoMemory, Syntax, Version, TooMany}
use Rattle.mg_words.specs.ResultSteps.{◌>>=◌}
use Rattle.mg_text.specs.aids.Reading.{Fails, place_of_rest}
use Rattle.mg_text.specs.aids.Requests.{kept_before, item_at, sequence_at}

-- The items of `front`, followed by the items that are parsed from the remaining tokens.
abbrev pub with_front : List MessageItem → Result (List MessageItem) ℕ → Result (List MessageItem) ℕ
with_front front read = read >>= λ xs. Ok (front ++ xs)

-- The items of `front`, followed by one more item, if that item is kept.
abbrev pub kept_after : List MessageItem → Option MessageItem → List MessageItem
kept_after front None = front
kept_after front (Some x) = front ++ x ∷ []

joined : (front : List MessageItem) (x : Option MessageItem) (xs : List MessageItem) →
    front ++ kept_before x xs ≡ kept_after front x ++ xs
joined front None xs = refl
joined front (Some x) xs = simp append_assoc

regroup : (front : List MessageItem) (x : Option MessageItem) (read : Result (List MessageItem) ℕ) →
    with_front front (read >>= λ xs. Ok (kept_before x xs)) ≡ with_front (kept_after front x) read
regroup front x (Ok xs) = ap (λ (all : List MessageItem). Ok all) (joined front x xs)
regroup front x (Err e) = refl

module _ (source : List ℕ) (front : List MessageItem) (count i : ℕ) (ts : List Token)
    (total : Result (List MessageItem) ℕ) (so_far : with_front front (sequence_at source (count - i) ts) ≡ total) where
  pub continues : (x : Option MessageItem) (after : List Token) → i < count → item_at source ts ≡ Ok (x, after) →
      eqb (length after) 0 ≡ false → with_front (kept_after front x) (sequence_at source (count - (i + 1)) after) ≡
      total
  unfolding sequence_at
  continues x after lt h more =
      let k : count - i ≡ suc (count - (i + 1)) = omega arith in
      let one : with_front front (sequence_at source (count - i) ts) ≡
      with_front (kept_after front x) (sequence_at source (count - (i + 1)) after) =
      rw (k, h, more) (regroup front x (sequence_at source (count - (i + 1)) after)) in
      sym one ∙ so_far

  pub is_done : (x : Option MessageItem) (after : List Token) → i < count → item_at source ts ≡ Ok (x, after) →
      eqb (length after) 0 ≡ true → total ≡ Ok (kept_after front x)
  unfolding sequence_at
  is_done x after lt h none =
      let k : count - i ≡ suc (count - (i + 1)) = omega arith in
      let one : with_front front (sequence_at source (count - i) ts) ≡ Ok (front ++ kept_before x []) =
      rw (k, h, none) refl in
      sym so_far ∙ one ∙ ap (λ (all : List MessageItem). Ok all) (joined front x [] ∙ append-nil (kept_after front x))

  pub ends : (e : ReadFault) → i < count → Fails e (item_at source ts) → Fails e total
  unfolding sequence_at
  ends NoMemory lt h = tt
  ends (Version n) lt h = absurd h
  ends TooMany lt h = absurd h
  ends (Syntax place) lt h =
      let k : count - i ≡ suc (count - (i + 1)) = omega arith in
      let one : with_front front (sequence_at source (count - i) ts) ≡ Err place = rw (k, h) refl in
      sym so_far ∙ one

  pub runs_out : count ≤ i → total ≡ Err (place_of_rest source ts)
  unfolding sequence_at
  runs_out le =
      let k : count - i ≡ 0 = omega arith in
      let one : with_front front (sequence_at source (count - i) ts) ≡ Err (place_of_rest source ts) = rw k refl in
      sym so_far ∙ one
