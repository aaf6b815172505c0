-- The cost of edits, counted from the items that report them.
use Rattle.std.proofs.Common.{◌≡◌, ℕ, ◌+◌, ◌*◌, Bool, true, false, cond, List, [], ◌∷◌, ◌++◌, if◌then◌else◌, arith}
use Rattle.std.proofs.lemmas.List.Sums.{sum_by-append, sum_by-cons}
use Rattle.mg_words.specs.declared.command_word.CommandWord.{CommandWord}
use Rattle.mg_reply.specs.declared.item.Item.{Item}
use Rattle.mg_reply.specs.declared.item.Item.TheVariants.{Command}
use Rattle.mg_reply.specs.declared.outcome.Outcome.TheVariants.{Done}
use Rattle.mg_reply.specs.declared.outcome.Parts.{Parts}
use Rattle.mg_engine.specs.aids.Stands.{EngineState}
use Rattle.mg_engine.specs.Work.{RisesAtMost}
use Rattle.mg_engine.proofs.WorkLemmas.{rises_twice, rises_less, stays}
use Rattle.mg_commands.specs.Work.{is_edit, reports_edit, edits_reported}
use Rattle.mg_commands.specs.aids.Runs.{Base, IsPaid}

edits-append : (xs ys : List Item) → edits_reported (xs ++ ys) ≡ edits_reported xs + edits_reported ys
edits-append xs ys = sum_by-append (λ x. cond (reports_edit x) 1 0) xs ys

edits-one : (x : Item) → edits_reported (x ∷ []) ≡ cond (reports_edit x) 1 0
edits-one x = omega (arith, sum_by-cons (λ y. cond (reports_edit y) 1 0) x [])

paid_more : (base : Base) (xs ys : List Item) (old new : EngineState) → IsPaid base xs old →
    RisesAtMost (4 * edits_reported ys) old.sums.work new.sums.work → IsPaid base (xs ++ ys) new
paid_more base xs ys old new h k =
    rises_twice (4 * edits_reported xs) (4 * edits_reported ys) (4 * edits_reported (xs ++ ys)) base.work
    old.sums.work new.sums.work (omega (arith, edits-append xs ys)) h k

-- If the work counter is unchanged, the bound on the work still holds after more items.
pub paid_still : (base : Base) (xs ys : List Item) (old new : EngineState) → IsPaid base xs old →
    new.sums.work ≡ old.sums.work → IsPaid base (xs ++ ys) new
paid_still base xs ys old new h same = paid_more base xs ys old new h
    (stays (4 * edits_reported ys) old.sums.work new.sums.work same)

four_each : (b : Bool) (x y : ℕ) → RisesAtMost (if b then 4 else 0) x y → RisesAtMost (4 * cond b 1 0) x y
four_each true x y h = h
four_each false x y h = h

-- After one more command, the bound on the work still holds if the command costs at most four rows, or none if it isn't
-- an edit.
pub paid_one : (base : Base) (xs : List Item) (word : CommandWord) (term : List ℕ) (parts : Parts)
    (old new : EngineState) → IsPaid base xs old →
    RisesAtMost (if is_edit word then 4 else 0) old.sums.work new.sums.work →
    IsPaid base (xs ++ Command word term (Done parts) ∷ []) new
paid_one base xs word term parts old new h k =
    let one = Command word term (Done parts) in
    paid_more base xs (one ∷ []) old new h (rises_less (4 * cond (is_edit word) 1 0) (4 * edits_reported (one ∷ []))
    old.sums.work new.sums.work (omega (arith, edits-one one))
    (four_each (is_edit word) old.sums.work new.sums.work k))

-- Before any command, the bound on the work holds.
pub paid_nothing : (base : Base) (engine : EngineState) → engine.sums.work ≡ base.work → IsPaid base [] engine
paid_nothing base engine same = stays (4 * edits_reported []) base.work engine.sums.work same
