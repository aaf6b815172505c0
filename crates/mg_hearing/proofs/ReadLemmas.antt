-- Reading from the input, or from a file.
use Rattle.std.proofs.Common.{◌≡◌, ◌≢◌, ℕ, List, [], ◌∷◌, Option, Some, None, inl, inr, refl, subst, sym}
use Rattle.mg_host.specs.declared.host_call.HostCall.{HostCall}
use Rattle.mg_host.specs.declared.host_call.HostCall.TheVariants.{OpenText}
use Rattle.mg_host.specs.HostCalls.{Grows, IsLogged}
use Rattle.mg_options.specs.Status.{UnlessFault}
use Rattle.mg_options.specs.declared.status.Status.{Status}
use Rattle.mg_options.specs.declared.status.Status.TheVariants.{BadJournal, Failed, NoMemory}
use Rattle.std.specs.Prelude.{◌⊎◌, Err, IfOk, MatchResult, Ok, Result}
use Rattle.mg_hearing.specs.Files.{ReadsAll, ReadsFiles}

pub reads_input : (file : Option (List ℕ)) (later : List (List ℕ)) (calls : Option (List HostCall))
    (text : Option (List ℕ)) → file ≡ None → ReadsFiles file later calls calls text text
reads_input file later calls text none = rw none (refl, refl)

pub reads_file : (file : Option (List ℕ)) (later : List (List ℕ)) (path : List ℕ)
    (before after : Option (List HostCall)) (input text : Option (List ℕ)) → file ≡ Some path → later ≡ []
    → ((found : List ℕ) × Grows before after (OpenText path (Some found) ∷ []) × IsLogged after text found)
    → ReadsFiles file later before after input text
reads_file file later path before after input text is alone opens = rw (is, alone) opens

pub reads_files : (file : Option (List ℕ)) (later : List (List ℕ)) (path : List ℕ)
    (before after : Option (List HostCall)) (input text : Option (List ℕ)) → file ≡ Some path → later ≢ []
    → ReadsAll (path ∷ later) before after text → ReadsFiles file later before after input text
reads_files file [] path before after input text is some reads = absurd (some refl)
reads_files file (next ∷ others) path before after input text is some reads = rw is reads

-- An answer's status is the exit status, unless there is a fault instead of an answer.
pub told : {E F : Type 0} (P : E → Status → Type 0) (answer : Result Status F) (mid new : E) (result : Status) →
    IfOk answer (λ status. UnlessFault (P mid status) status) →
    MatchResult answer (λ status. (result ≡ status) × (new ≡ mid))
    (λ fault. (result ≡ Failed) ⊎ (result ≡ NoMemory) ⊎ (result ≡ BadJournal)) → UnlessFault (P new result) result
told P (Ok status) mid new result h (same, quiet) =
    subst (λ (s : Status). UnlessFault (P new s) s) (sym same)
    (subst (λ e. UnlessFault (P e status) status) (sym quiet) h)
told P (Err fault) mid new result h ends = inl ends

-- An answer that is always given is given unless there is a fault.
pub is_told : {F : Type 0} (P : Status → Type 0) (answer : Result Status F) → IfOk answer P →
    IfOk answer (λ status. UnlessFault (P status) status)
is_told P (Ok status) h = inr h
is_told P (Err fault) h = tt
