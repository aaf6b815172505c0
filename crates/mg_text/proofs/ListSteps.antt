-- Parsing a list in a loop.
use Rattle.std.proofs.Common.{◌≡◌, ℕ, suc, ◌-◌, ◌+◌, ◌≤◌, ◌<◌, List, [], ◌∷◌, ◌++◌, Some, None, Result, Ok, Err, refl, sym, ap, ◌∙◌, append_assoc, arith}
use Rattle.mg_scan.specs.declared.kind.TokenKind.TheVariants.{Close, Comma}
use Rattle.mg_scan.specs.declared.token.Token.{Token}
use Rattle.mg_text.specs.declared.fault.ReadFault.{ReadFault}
use Rattle.mg_text.specs.declared.fault.ReadFault.TheVariants.{NoMemory, Syntax, Version, TooMany}
use Rattle.mg_words.specs.ResultSteps.{◌>>=◌}
use Rattle.mg_text.specs.aids.Reading.{Fails, mark_at, list_at, place_of_rest}
use Rattle.mg_scan.specs.aids.Marks.{after_mark}

-- The items of `front`, followed by the items that are parsed from the remaining tokens.
abbrev pub with_front : {X : Type 0} → List X → Result (List X × List Token) ℕ → Result (List X × List Token) ℕ
with_front front read = read >>= λ x. Ok (front ++ x.0, x.1)

regroup : {X : Type 0} (front : List X) (x : X) (read : Result (List X × List Token) ℕ) →
    with_front front (read >>= λ xs. Ok (x ∷ xs.0, xs.1)) ≡ with_front (front ++ x ∷ []) read
regroup {X} front x (Ok xs) = ap (λ (all : List X). Ok (all, xs.1)) (simp append_assoc)
regroup front x (Err e) = refl

module _ {X : Type 0} (source : List ℕ) (read : List Token → Result (X × List Token) ℕ) (front : List X) (count i : ℕ)
    (ts : List Token) (total : Result (List X × List Token) ℕ)
    (so_far : with_front front (list_at source read (count - i) ts) ≡ total) where
  pub continues : (x : X) (after next : List Token) → i < count → read ts ≡ Ok (x, after) →
      after_mark Comma after ≡ Some next → with_front (front ++ x ∷ []) (list_at source read (count - (i + 1)) next) ≡
      total
  unfolding list_at
  continues x after next lt h comma =
      let k : count - i ≡ suc (count - (i + 1)) = omega arith in
      let one : with_front front (list_at source read (count - i) ts) ≡
      with_front (front ++ x ∷ []) (list_at source read (count - (i + 1)) next) =
      rw (k, h, comma) (regroup front x (list_at source read (count - (i + 1)) next)) in
      sym one ∙ so_far

  pub is_done : (x : X) (after rest : List Token) → i < count → read ts ≡ Ok (x, after) →
      after_mark Comma after ≡ None → mark_at source Close after ≡ Ok rest → total ≡ Ok (front ++ x ∷ [], rest)
  unfolding list_at
  is_done x after rest lt h no_comma close =
      let k : count - i ≡ suc (count - (i + 1)) = omega arith in
      let one : with_front front (list_at source read (count - i) ts) ≡ Ok (front ++ x ∷ [], rest) =
      rw (k, h, no_comma, close) refl in
      sym so_far ∙ one

  pub is_open : (x : X) (after : List Token) (e : ReadFault) → i < count → read ts ≡ Ok (x, after) →
      after_mark Comma after ≡ None → Fails e (mark_at source Close after) → Fails e total
  unfolding list_at
  is_open x after NoMemory lt h no_comma close = tt
  is_open x after (Version n) lt h no_comma close = absurd close
  is_open x after TooMany lt h no_comma close = absurd close
  is_open x after (Syntax place) lt h no_comma close =
      let k : count - i ≡ suc (count - (i + 1)) = omega arith in
      let one : with_front front (list_at source read (count - i) ts) ≡ Err place = rw (k, h, no_comma, close) refl in
      sym so_far ∙ one

  pub ends : (e : ReadFault) → i < count → Fails e (read ts) → Fails e total
  unfolding list_at
  ends NoMemory lt h = tt
  ends (Version n) lt h = absurd h
  ends TooMany lt h = absurd h
  ends (Syntax place) lt h =
      let k : count - i ≡ suc (count - (i + 1)) = omega arith in
      let one : with_front front (list_at source read (count - i) ts) ≡ Err place = rw (k, h) refl in
      sym so_far ∙ one

  pub runs_out : count ≤ i → total ≡ Err (place_of_rest source ts)
  unfolding list_at
  runs_out le =
      let k : count - i ≡ 0 = omega arith in
      let one : with_front front (list_at source read (count - i) ts) ≡ Err (place_of_rest source ts) = rw k refl in
      sym so_far ∙ one
