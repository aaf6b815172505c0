-- Verifying files one after another.
use Rattle.std.proofs.Common.{◌≡◌, inl, inr, ◌∙◌, ℕ, ◌+◌, ◌<◌, ◌≤◌, Bool, true, false, ◌&&◌, ◌==◌, List, [], ◌∷◌}
use Rattle.std.proofs.Common.{Option, Some, None, Result, Ok, Err, ap, drop, get_or, length, refl, subst, sym}
use Rattle.std.proofs.lemmas.List.{drop_all, drop_more}
use Rattle.mg_host.specs.declared.host_call.HostCall.{HostCall}
use Rattle.mg_options.specs.Status.{UnlessFault}
use Rattle.mg_options.specs.declared.status.Status.{Status}
use Rattle.mg_options.specs.declared.status.Status.TheVariants.{Done}
use Rattle.mg_program.specs.Verify.{AreVerified, IsVerifiedFrom, with_rest}
use Rattle.mg_program.specs.aids.Verifying.{AreVerifiedSoFar, IsNext, UnlessErr, answer_if, end_status}

-- ## The files so far

joined : (are_valid is_valid : Bool) (rest : Status) →
    with_rest (answer_if are_valid) (with_rest (answer_if is_valid) rest) ≡ with_rest (answer_if (are_valid && is_valid)) rest
joined true is_valid rest = refl
joined false is_valid rest = refl

-- The next file was verified.
pub next_verified : (paths later : List (List ℕ)) (i : ℕ) (path d : List ℕ) (last end : Option (List ℕ))
    (before opened more : Option (List HostCall)) (old printed new : Option (List ℕ)) (are_valid is_valid both : Bool) →
    i < length later → path ≡ get_or later i d → both ≡ (are_valid && is_valid) →
    AreVerifiedSoFar paths (drop i later) last before opened old printed (answer_if are_valid) →
    IsNext path last end opened more printed new (answer_if is_valid) →
    AreVerifiedSoFar paths (drop (i + 1) later) end before more old new (answer_if both)
next_verified paths later i path d last end before opened more old printed new are_valid is_valid both within is are_both
    so_far (text, reads, next) =
    λ after last_new rest are. subst (λ (s : Status). AreVerified paths None before after old last_new s)
    (joined are_valid is_valid rest ∙ ap (λ (b : Bool). with_rest (answer_if b) rest) (sym are_both))
    (so_far after last_new (with_rest (answer_if is_valid) rest)
    (subst (λ (l : List (List ℕ)). AreVerified l last opened after printed last_new (with_rest (answer_if is_valid) rest))
    (sym (drop_more later i d within ∙ ap (λ (p : List ℕ). p ∷ drop (i + 1) later) (sym is)))
    (more, text, reads, end, new, answer_if is_valid, rest, next, are, refl)))

done : (are_valid : Bool) → with_rest (answer_if are_valid) Done ≡ answer_if are_valid
done true = refl
done false = refl

-- All files were verified.
pub all_verified : (paths later : List (List ℕ)) (i : ℕ) (last : Option (List ℕ)) (before opened : Option (List HostCall))
    (old printed : Option (List ℕ)) (are_valid : Bool) → length later ≤ i →
    AreVerifiedSoFar paths (drop i later) last before opened old printed (answer_if are_valid) →
    AreVerified paths None before opened old printed (answer_if are_valid)
all_verified paths later i last before opened old printed are_valid past so_far =
    subst (λ (s : Status). AreVerified paths None before opened old printed s) (done are_valid)
    (so_far opened printed Done (subst (λ (l : List (List ℕ)). AreVerified l last opened opened printed printed Done)
    (sym (drop_all i later past)) (refl, refl, refl)))

-- ## The end

ended : (P : Status → Type 0) (validity : Result Bool Status) → UnlessErr P validity →
    UnlessFault (P (end_status validity)) (end_status validity)
ended P (Ok are_valid) is = inr is
ended P (Err fault) is = inl is

-- A file and later files were verified.
pub from_files : (file : Option (List ℕ)) (path : List ℕ) (later : List (List ℕ)) (before after : Option (List HostCall))
    (input old new : Option (List ℕ)) (quiet : Type 0) (validity : Result Bool Status) (status : Status) →
    file ≡ Some path → (length later == 0) ≡ false → status ≡ end_status validity →
    UnlessErr (λ s. AreVerified (path ∷ later) None before after old new s × quiet) validity →
    UnlessFault (IsVerifiedFrom file later before after input old new status × quiet) status
from_files file path [] before after input old new quiet validity status is some ends are = absurd cc
from_files file path (next ∷ later) before after input old new quiet validity status is some ends are =
    subst (λ (f : Option (List ℕ)).
    UnlessFault (IsVerifiedFrom f (next ∷ later) before after input old new status × quiet) status) (sym is)
    (subst (λ (s : Status). UnlessFault (AreVerified (path ∷ next ∷ later) None before after old new s × quiet) s) (sym ends)
    (ended (λ s. AreVerified (path ∷ next ∷ later) None before after old new s × quiet) validity are))
