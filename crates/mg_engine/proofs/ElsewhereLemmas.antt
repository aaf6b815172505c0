-- A command does not change a context that it does not concern.
use Rattle.mg_engine.proofs.Common.{◌≡◌, ◌≢◌, ℕ, ◌<◌, eqb, false, Some, Ok, refl, sym, ap, subst, ◌∙◌, arith, IsSome, Record, Settings, Target, is_number, Registry, record_at, context_at, members_at, IsSound, has, eqb-false, Enters, add_done, modify_done, move_done, subtract_done, next_is_new, record_replaced, add_lasts, move_lasts, subtract_lasts, add, modify, move_to, subtract, LeavesOthers, false_from_ne_true, true≢false}
use Rattle.mg_engine.proofs.MemberLemmas.{some_context}

-- A termination that is not a member of a context is in another context.
in_another : (w : Registry) (c n : ℕ) (r : Record) → IsSound w → record_at w n ≡ Some r →
    has (members_at w c) n ≡ false → c ≢ r.context
in_another w c n r h found out same = true≢false (sym ((h.members c n).1 (r, found, sym same)) ∙ out)

-- The next termination to be created is not a member of any context.
newcomer : (w : Registry) (c n : ℕ) → IsSound w → n ≡ w.next_termination → has (members_at w c) n ≡ false
newcomer w c n h next = false_from_ne_true (has (members_at w c) n) (λ e.
    let (r, found, _) = (h.members c n).0 e in
    let none = ap (record_at w) next ∙ next_is_new w h.consistent in absurd (cc))

below_next : (w : Registry) (c : ℕ) → IsSound w → IsSome (context_at w c) → c < w.next_context
below_next w c h there =
    let (x, found) = some_context (context_at w c) there in
    let (number, is) = h.context c x found in
    omega (arith, number, is.below)

-- The context c is unchanged, and so is each termination except n, which is not a member of c.
pub record Spares (w next : Registry) (c n : ℕ) : Type 0 where
  pub context : context_at next c ≡ context_at w c
  pub records : (m : ℕ) → eqb n m ≡ false → record_at next m ≡ record_at w m
  pub apart : has (members_at w c) n ≡ false

-- If a command changes only other contexts and a termination that is not a member of c, the context c is unchanged.
spared : (w next : Registry) (c n a b : ℕ) → LeavesOthers w next n a b → c ≢ a → c ≢ b →
    has (members_at w c) n ≡ false → Spares w next c n
spared w next c n a b others not_a not_b out = record {
  context = others.context c not_a not_b;
  records = λ m other. others.termination m (λ same. eqb-false n m other (sym same));
  apart = out;
}

-- If the context c exists and is not the action's context, a termination that enters a context does not enter c.
elsewhere : (w : Registry) (target : Target) (place : _) (c d : ℕ) → IsSound w → IsSome (context_at w c) →
    is_number target c ≡ false → Enters w target place → d ≡ place.context → c ≢ d
elsewhere w target place c d h there apart enters is same =
    eqb-false place.context c (enters.other c (below_next w c h there) apart) (sym (same ∙ is))

pub add_spares : (w : Registry) (target : Target) (settings : Settings) (new : Registry) (d : Record) (c : ℕ) →
    IsSound w → IsSome (context_at w c) → is_number target c ≡ false → add w target settings ≡ Ok (new, d) →
    Spares w new c d.number
add_spares w target settings new d c h there apart e =
    let a = add_done w new target settings d e in
    let other = elsewhere w target a.place c d.context h there apart a.enters a.has.context in
    spared w new c d.number d.context d.context (add_lasts w new target d h.consistent a).1 other other
    (newcomer w c d.number h a.has.number)

pub modify_spares : (w : Registry) (target : Target) (n : ℕ) (settings : Settings) (new : Registry) (d : Record)
    (c : ℕ) → has (members_at w c) n ≡ false → modify w target n settings ≡ Ok (new, d) → Spares w new c d.number
modify_spares w target n settings new d c out e =
    let a = modify_done w new target n settings d e in
    rw a.is (record {
      context = refl;
      records = λ m other. record_replaced w d m other;
      apart = ap (has (members_at w c)) a.number ∙ out;
    })

pub move_spares : (w : Registry) (target : Target) (n : ℕ) (settings : Settings) (new : Registry) (d : Record) (c : ℕ)
    → IsSound w → IsSome (context_at w c) → is_number target c ≡ false → has (members_at w c) n ≡ false →
    move_to w target n settings ≡ Ok (new, d) → Spares w new c d.number
move_spares w target n settings new d c h there apart out e =
    let a = move_done w new target n settings d e in
    subst (Spares w new c) (sym a.number)
    (spared w new c n a.old.context d.context (move_lasts w new target n d h.consistent a).1
    (in_another w c n a.old h a.was out) (elsewhere w target a.place c d.context h there apart a.enters a.has.context)
    out)

pub subtract_spares : (w : Registry) (target : Target) (n : ℕ) (new : Registry) (d : Record) (c : ℕ) → IsSound w →
    has (members_at w c) n ≡ false → subtract w target n ≡ Ok (new, d) → Spares w new c d.number
subtract_spares w target n new d c h out e =
    let a = subtract_done w new target n d e in
    let other = in_another w c n d h a.was out in
    subst (Spares w new c) (sym a.number)
    (spared w new c n d.context d.context (subtract_lasts w new n d h.consistent a).1 other other out)
