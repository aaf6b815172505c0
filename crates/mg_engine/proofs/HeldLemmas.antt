-- The slots that terminations hold, in order of termination number.
use Rattle.mg_engine.proofs.Common.{◌≡◌, ℕ, ◌<◌, ◌≤◌, eqb, List, length, map, get_or, Some, sym, ap, ◌∙◌, arith, get_or-map, length-map, Record, Registry, IsSound, record_at, AreApart, subst}
use Rattle.mg_engine.proofs.GatewayLemmas.{found_place}
use Rattle.mg_engine.proofs.KeyLemmas.{one_place}
use Rattle.mg_engine.proofs.SendingLemmas.{nobody}

module _ (w : Registry) (held : List ℕ) (is : held ≡ map (λ r. r.slot) w.terminations) where
  pub many : length held ≡ length w.terminations
  many = ap (λ (xs : List ℕ). length xs) is ∙ length-map w.terminations (λ r. r.slot)

  pub slot_at : (i : ℕ) → i < length w.terminations → get_or held i 0 ≡ (get_or w.terminations i nobody).slot
  slot_at i lt = ap (λ (xs : List ℕ). get_or xs i 0) is ∙ get_or-map (λ r. r.slot) w.terminations i nobody 0 lt

  pub held_below : (n : ℕ) → IsSound w → w.limits.slots ≤ n → (i : ℕ) → i < length held → get_or held i 0 < n
  held_below n sound few i lt =
      let within : i < length w.terminations = omega (arith, lt, many) in
      let r = get_or w.terminations i nobody in
      omega (arith, slot_at i within, few, (sound.termination r.number r (sound.by_number i nobody within)).1.slot)

  pub held_apart : IsSound w → AreApart held
  held_apart sound a b first second same =
      let i : a < length w.terminations = omega (arith, first, many) in
      let j : b < length w.terminations = omega (arith, second, many) in
      let x = get_or w.terminations a nobody in
      let y = get_or w.terminations b nobody in
      one_place (λ (r : Record). r.number) w.terminations a b nobody sound.consistent.terminations.one_number i j
      (sound.one_slot x.number y.number x y (sound.by_number a nobody i) (sound.by_number b nobody j)
      (sym (slot_at a i) ∙ same ∙ slot_at b j))

  -- A property of each held slot is a property of each termination's slot.
  pub each_held : (P : ℕ → Type 0) → ((i : ℕ) → i < length held → P (get_or held i 0)) → (n : ℕ) (r : Record) →
      record_at w n ≡ Some r → P r.slot
  each_held P all n r found =
      let (i, lt, there) = found_place (λ (x : Record). eqb x.number n) w.terminations r nobody found in
      subst P (slot_at i lt ∙ ap (λ (x : Record). x.slot) there) (all i (omega (arith, lt, many)))
