-- The effect of `mg_bridge seal`.
use Rattle.std.specs.Prelude.{◌≡◌, ◌⊎◌, ℕ, List, Option, IfSome}
use Rattle.std.specs.Io.KnownBytes.{Appends}
use Rattle.mg_options.specs.declared.status.Status.{Status}
use Rattle.mg_options.specs.declared.status.Status.TheVariants.{Done, Failed, NoMemory}
use Rattle.mg_sealing.specs.Sealed.{sealed}

-- After a run with this status, the input was copied with seals, or a read or a write failed, or memory ran out.
abbrev pub SealsInput : (input old new : Option (List ℕ)) → (silent : Type 0) → Status → Type 0
SealsInput input old new silent status = (status ≡ Failed) ⊎ (status ≡ NoMemory)
    ⊎ ((status ≡ Done) × IfSome input (λ text. Appends old new (sealed text)) × silent)
