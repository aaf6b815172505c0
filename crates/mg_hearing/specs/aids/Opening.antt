-- The files of a script, while they are opened and read.
use Rattle.std.specs.Prelude.{◌≡◌, ℕ, true, List, [], ◌∷◌, ◌++◌, Option, Some, IfSome, map}
use Rattle.mg_host.specs.declared.host_call.HostCall.{HostCall}
use Rattle.mg_host.specs.declared.host_call.HostCall.TheVariants.{OpenText}
use Rattle.mg_host.specs.HostCalls.{Grows}
use Rattle.mg_joined.specs.Joined.{are_following, joined}

-- The files with these paths were opened in this order. If there is a log, these are the texts that are left of them.
abbrev pub OpensAll : (paths : List (List ℕ)) → (before after : Option (List HostCall))
    → (lefts : List (Option (List ℕ))) → Type 0
OpensAll paths before after lefts = (files : List (List ℕ × List ℕ)) × (map (λ f. f.0) files ≡ paths)
    × Grows before after (map (λ f. OpenText f.0 (Some f.1)) files)
    × IfSome after (λ calls. lefts ≡ map (λ f. Some f.1) files)

-- One more file was opened. If there is a log, its text is the last of those that are left.
abbrev pub OpensMore : (path : List ℕ) → (before after : Option (List HostCall))
    → (old new : List (Option (List ℕ))) → Type 0
OpensMore path before after old new = (text : List ℕ) × Grows before after (OpenText path (Some text) ∷ [])
    × IfSome after (λ calls. new ≡ old ++ Some text ∷ [])

-- If these texts are known, they follow one another, and the text is their script.
abbrev pub AreJoined : (texts : Option (List (List ℕ))) → (text : Option (List ℕ)) → Type 0
AreJoined texts text = IfSome texts (λ known. (text ≡ Some (joined known)) × (are_following known ≡ true))
