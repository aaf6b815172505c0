-- The files of a script.
use Rattle.std.specs.Prelude.{◌≡◌, ℕ, true, List, ◌∷◌, Option, Some, IfSome, map}
use Rattle.mg_host.specs.declared.host_call.HostCall.{HostCall}
use Rattle.mg_host.specs.declared.host_call.HostCall.TheVariants.{OpenText}
use Rattle.mg_host.specs.HostCalls.{Grows, IsLogged, ReadsFrom}
use Rattle.mg_joined.specs.Joined.{are_following, joined}

-- The files with these paths were opened in this order, and each follows the one before it. The text is their script.
abbrev pub ReadsAll : (paths : List (List ℕ)) → (before after : Option (List HostCall))
    → (text : Option (List ℕ)) → Type 0
ReadsAll paths before after text = (files : List (List ℕ × List ℕ)) × (map (λ f. f.0) files ≡ paths)
    × Grows before after (map (λ f. OpenText f.0 (Some f.1)) files)
    × IsLogged after text (joined (map (λ f. f.1) files))
    × IfSome after (λ calls. are_following (map (λ f. f.1) files) ≡ true)

-- The text that is read: the input, the content of a file or, if there are later files, the script of these files.
abbrev pub ReadsFiles : (file : Option (List ℕ)) → (later : List (List ℕ))
    → (before after : Option (List HostCall)) → (input text : Option (List ℕ)) → Type 0
ReadsFiles (Some file) (next ∷ later) before after input text = ReadsAll (file ∷ next ∷ later) before after text
ReadsFiles file later before after input text = ReadsFrom file before after input text
