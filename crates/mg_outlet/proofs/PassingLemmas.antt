-- Bytes move from a queue to a pipe in several steps.
use Rattle.std.proofs.Common.{◌≡◌, ◌≢◌, ◌⊎◌, inl, inr, ℕ, ◌-◌, ◌<◌, true, false, List, [], ◌∷◌, ◌++◌, length, take, drop, Option, Some, None, refl, sym, ap, subst, ◌∙◌, append_assoc, append-nil, take-append-drop}
use Rattle.std.proofs.lemmas.List.{take-append-le}
use Rattle.std.proofs.KnownBytes.{starts_with_rest}
use Rattle.mg_outlet.specs.Passing.{AreOldest, Asked, Continues, Passes, PipeCall, TookNone, TookSome, Wrote, taken_in}

-- ## Calls

pub called_none : (a : Option (List PipeCall)) → Continues a a []
called_none None = tt
called_none (Some a) = sym (append-nil a)

pub called_both : (a b c : Option (List PipeCall)) (p q : List PipeCall) → Continues a b p → Continues b c q → Continues a c (p ++ q)
called_both a b None p q h k = tt
called_both a None (Some c) p q h k = absurd k
called_both None (Some b) (Some c) p q h k = absurd h
called_both (Some a) (Some b) (Some c) p q h k = k ∙ ap (λ (l : List PipeCall). l ++ q) h ∙ append_assoc a p q

pub taken_both : (p q : List PipeCall) → taken_in (p ++ q) ≡ taken_in p ++ taken_in q
taken_both [] q = refl
taken_both (Asked ready ∷ p) q = taken_both p q
taken_both (Wrote offered None ∷ p) q = taken_both p q
taken_both (Wrote offered (Some n) ∷ p) q =
    ap (λ (l : List ℕ). take n offered ++ l) (taken_both p q) ∙ sym (append_assoc (take n offered) (taken_in p) (taken_in q))

-- ## Chunks

none_taken : (offered : List ℕ) (taken : Option ℕ) → TookNone taken → taken_in (Wrote offered taken ∷ []) ≡ []
none_taken offered None is = refl
none_taken offered (Some n) (inl is) = absurd (cc is)
none_taken offered (Some n) (inr is) = let zero : n ≡ 0 = cc is in rw zero refl

some_taken : (queue rest offered : List ℕ) (taken : Option ℕ) → AreOldest queue offered
    → TookSome queue rest offered taken → queue ≡ taken_in (Wrote offered taken ∷ []) ++ rest
some_taken queue rest offered taken (starts, small, some) (n, is, more, fits, left) =
    let whole : queue ≡ offered ++ drop (length offered) queue = starts_with_rest queue offered starts in
    let front : take n queue ≡ take n offered =
    ap (take n) whole ∙ take-append-le n offered (drop (length offered) queue) fits in
    let split : queue ≡ take n offered ++ drop n queue =
    sym (take-append-drop n queue) ∙ ap (λ (l : List ℕ). l ++ drop n queue) front in
    rw (is, left, append-nil (take n offered)) split

-- ## Passing on a whole queue

-- The calls so far passed on the old queue except for `rest`.
abbrev pub Drained : (old rest : List ℕ) → (a b : Option (List PipeCall)) → Type 0
Drained old rest a b = (calls : List PipeCall) × Continues a b calls × (old ≡ taken_in calls ++ rest)

drained_by : (old queue rest offered : List ℕ) (taken : Option ℕ) (a b c : Option (List PipeCall)) → Drained old queue a b
    → Continues b c (Wrote offered taken ∷ []) → queue ≡ taken_in (Wrote offered taken ∷ []) ++ rest → Drained old rest a c
drained_by old queue rest offered taken a b c (calls, called, all) wrote split =
    let one : List PipeCall = Wrote offered taken ∷ [] in (
      calls ++ one,
      called_both a b c calls one called wrote,
      all ∙ ap (λ (l : List ℕ). taken_in calls ++ l) split ∙ sym (append_assoc (taken_in calls) (taken_in one) rest)
          ∙ ap (λ (l : List ℕ). l ++ rest) (sym (taken_both calls one)),
    )

pub drained_more : (old queue rest offered : List ℕ) (taken : Option ℕ) (a b c : Option (List PipeCall)) → Drained old queue a b
    → Continues b c (Wrote offered taken ∷ []) → AreOldest queue offered → TookSome queue rest offered taken → Drained old rest a c
drained_more old queue rest offered taken a b c drained wrote oldest took =
    drained_by old queue rest offered taken a b c drained wrote (some_taken queue rest offered taken oldest took)

pub drained_refused : (old queue rest offered : List ℕ) (taken : Option ℕ) (a b c : Option (List PipeCall))
    → Drained old queue a b → Continues b c (Wrote offered taken ∷ []) → TookNone taken → rest ≡ queue → Drained old rest a c
drained_refused old queue rest offered taken a b c drained wrote none same =
    drained_by old queue rest offered taken a b c drained wrote
    (sym same ∙ ap (λ (l : List ℕ). l ++ rest) (sym (none_taken offered taken none)))

-- ## Passing on a queue in several steps

-- The calls so far lead from the queue `old` to `queue`: if further calls pass on `queue`, all the calls together pass
-- on `old`.
abbrev pub Leads : (most left : ℕ) → (old queue : List ℕ) → List PipeCall → Type 0
Leads most left old queue made =
    (rest : List ℕ) (more : List PipeCall) → Passes left queue rest more → Passes most old rest (made ++ more)

-- The calls so far on the pipe, which lead from `old` to `queue` and leave `left` writes.
pub record Led (most left : ℕ) (old queue : List ℕ) (a b : Option (List PipeCall)) : Type 0 where
  pub made : List PipeCall
  pub called : Continues a b made
  pub leads : Leads most left old queue made

pub led_none : (most left : ℕ) (queue : List ℕ) (a : Option (List PipeCall)) → left ≡ most → Led most left queue queue a a
led_none most left queue a is = record {
  made = [];
  called = called_none a;
  leads = λ rest more passes. subst (λ (n : ℕ). Passes n queue rest more) is passes;
}

-- One more chunk is passed on.
pub led_more : (most left next : ℕ) (old queue mid offered : List ℕ) (taken : Option ℕ) (a b c d : Option (List PipeCall))
    → Led most left old queue a b → 0 < left → next ≡ left - 1 → queue ≢ [] → Continues b c (Asked true ∷ [])
    → Continues c d (Wrote offered taken ∷ []) → AreOldest queue offered → TookSome queue mid offered taken
    → Led most next old mid a d
led_more most left next old queue mid offered taken a b c d led some is more asked wrote oldest took =
    let two : List PipeCall = Asked true ∷ Wrote offered taken ∷ [] in
    record {
      made = led.made ++ two;
      called = called_both a b d led.made two led.called
          (called_both b c d (Asked true ∷ []) (Wrote offered taken ∷ []) asked wrote);
      leads = λ rest calls passes. subst (λ (l : List PipeCall). Passes most old rest l) (sym (append_assoc led.made two calls))
          (led.leads rest (Asked true ∷ Wrote offered taken ∷ calls) (
            some,
            more,
            oldest,
            inr (mid, took, subst (λ (n : ℕ). Passes n mid rest calls) is passes),
          ));
    }

abbrev pub Passed : (most : ℕ) → (old rest : List ℕ) → (a b : Option (List PipeCall)) → Type 0
Passed most old rest a b = (calls : List PipeCall) × Continues a b calls × Passes most old rest calls

led_end : (most left : ℕ) (old queue rest : List ℕ) (a b c : Option (List PipeCall)) (more : List PipeCall)
    → Led most left old queue a b → Continues b c more → Passes left queue rest more → Passed most old rest a c
led_end most left old queue rest a b c more led called passes =
    (led.made ++ more, called_both a b c led.made more led.called called, led.leads rest more passes)

-- The calls are complete if the queue is empty or no writes are left.
pub led_over : (most left : ℕ) (old queue : List ℕ) (a b : Option (List PipeCall)) → Led most left old queue a b
    → (queue ≡ []) ⊎ (left ≡ 0) → Passed most old queue a b
led_over most left old queue a b led over = led_end most left old queue queue a b b [] led (called_none b) (refl, over)

-- The calls are complete if the pipe isn't ready.
pub led_unready : (most left : ℕ) (old queue : List ℕ) (a b c : Option (List PipeCall)) → Led most left old queue a b
    → 0 < left → queue ≢ [] → Continues b c (Asked false ∷ []) → Passed most old queue a c
led_unready most left old queue a b c led some more asked =
    led_end most left old queue queue a b c (Asked false ∷ []) led asked (some, more, refl)

-- The calls are complete if the pipe took nothing.
pub led_refused : (most left : ℕ) (old queue rest offered : List ℕ) (taken : Option ℕ) (a b c d : Option (List PipeCall))
    → Led most left old queue a b → 0 < left → queue ≢ [] → Continues b c (Asked true ∷ [])
    → Continues c d (Wrote offered taken ∷ []) → AreOldest queue offered → TookNone taken → rest ≡ queue
    → Passed most old rest a d
led_refused most left old queue rest offered taken a b c d led some more asked wrote oldest none same =
    led_end most left old queue rest a b d (Asked true ∷ Wrote offered taken ∷ []) led
    (called_both b c d (Asked true ∷ []) (Wrote offered taken ∷ []) asked wrote)
    (some, more, oldest, inl (none, refl, same))

-- The old queue consists of the bytes that the calls passed on and the rest.
pub passes_taken : (left : ℕ) (queue rest : List ℕ) (calls : List PipeCall) → Passes left queue rest calls
    → queue ≡ taken_in calls ++ rest
passes_taken left queue rest [] (same, over) = sym same
passes_taken left queue rest (Wrote offered taken ∷ calls) passes = absurd passes
passes_taken left queue rest (Asked false ∷ []) (some, more, same) = sym same
passes_taken left queue rest (Asked false ∷ call ∷ calls) passes = absurd passes
passes_taken left queue rest (Asked true ∷ []) passes = absurd passes
passes_taken left queue rest (Asked true ∷ Asked ready ∷ calls) passes = absurd passes
passes_taken left queue rest (Asked true ∷ Wrote offered taken ∷ calls) (some, more, oldest, inl (none, over, same)) =
    sym same ∙ ap (λ (l : List ℕ). l ++ rest) (sym (none_taken offered taken none))
    ∙ ap (λ (l : List PipeCall). taken_in (Wrote offered taken ∷ l) ++ rest) (sym over)
passes_taken left queue rest (Asked true ∷ Wrote offered taken ∷ calls) (some, more, oldest, inr (mid, took, passes)) =
    some_taken queue mid offered taken oldest took
    ∙ ap (λ (l : List ℕ). taken_in (Wrote offered taken ∷ []) ++ l) (passes_taken (left - 1) mid rest calls passes)
    ∙ sym (append_assoc (taken_in (Wrote offered taken ∷ [])) (taken_in calls) rest)
    ∙ ap (λ (l : List ℕ). l ++ rest) (sym (taken_both (Wrote offered taken ∷ []) calls))
