-- Moving bytes from a queue to a pipe.
use Rattle.std.specs.Prelude.{◌≡◌, ◌≢◌, ◌⊎◌, ℕ, ◌-◌, ◌<◌, ◌≤◌, Bool, true, false, List, [], ◌∷◌, ◌++◌}
use Rattle.std.specs.Prelude.{length, take, drop, Option, Some, None, IfSome, IsSomeAnd}
use Rattle.std.specs.Io.{StartsWith}

-- A call on a pipe. It asked whether the pipe was ready, or offered bytes to the pipe, which took some of them unless
-- the write failed.
pub data PipeCall : Type 0 where
  Asked : (ready : Bool) → PipeCall
  Wrote : (offered : List ℕ) (taken : Option ℕ) → PipeCall

-- A list, for example a log, grows by these elements. The list may be lost; if it is known at the end, it was known all
-- along.
abbrev pub Continues : {X : Type 0} → Option (List X) → Option (List X) → List X → Type 0
Continues old new more = IfSome new (λ all. IsSomeAnd old (λ before. all ≡ before ++ more))

-- All bytes that a pipe took.
abbrev pub taken_in : List PipeCall → List ℕ
taken_in [] = []
taken_in (Wrote offered (Some n) ∷ calls) = take n offered ++ taken_in calls
taken_in (_ ∷ calls) = taken_in calls

-- The oldest bytes of a queue: at most 4,096, and at least one unless the queue is empty.
abbrev pub AreOldest : (queue offered : List ℕ) → Type 0
AreOldest queue offered =
    StartsWith queue offered × (length offered ≤ 4096) × (length offered ≡ 0 → queue ≡ [])

abbrev pub TookNone : (taken : Option ℕ) → Type 0
TookNone taken = (taken ≡ None) ⊎ (taken ≡ Some 0)

-- A pipe took some of the offered bytes, starting with the first. `rest` is the queue after that.
abbrev pub TookSome : (queue rest offered : List ℕ) → (taken : Option ℕ) → Type 0
TookSome queue rest offered taken =
    (n : ℕ) × (taken ≡ Some n) × (0 < n) × (n ≤ length offered) × (rest ≡ drop n queue)

-- Calls that pass on a queue, by at most `left` writes. Before each write, the pipe is asked whether it is ready. The
-- calls end when the queue is empty, when no writes are left, or when the pipe isn't ready or takes nothing.
abbrev pub Passes : (left : ℕ) → (queue rest : List ℕ) → List PipeCall → Type 0
Passes left queue rest [] = (rest ≡ queue) × ((queue ≡ []) ⊎ (left ≡ 0))
Passes left queue rest (Asked false ∷ []) = (0 < left) × (queue ≢ []) × (rest ≡ queue)
Passes left queue rest (Asked true ∷ Wrote offered taken ∷ calls) =
    (0 < left) × (queue ≢ []) × AreOldest queue offered
    × ((TookNone taken × (calls ≡ []) × (rest ≡ queue))
    ⊎ ((mid : List ℕ) × TookSome queue mid offered taken × Passes (left - 1) mid rest calls))
Passes left queue rest calls = ⊥
