-- The bytes that a reader has hashed.
use Rattle.std.specs.Prelude.{ℕ, List, Option}
use Rattle.std.specs.Io.KnownBytes.{Consumes}
use Rattle.sha2.specs.declared.Sha256.{Sha256}
use Rattle.sha2.specs.Hashers.{Holds256}

-- The hasher has hashed the part of the text that was read.
abbrev pub IsHashed : (text rest : Option (List ℕ)) → Sha256 → Type 0
IsHashed text rest hasher =
    ∥ ((front : List ℕ) × Consumes text rest front × Holds256 hasher front) ∥₁
