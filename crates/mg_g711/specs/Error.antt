-- How far encoding and decoding move a sample.
use Rattle.std.specs.Prelude.{ℕ, ℤ, ◌+◌, ◌/◌, ◌^◌, ◌-ℤ◌, max, unsigned_abs}
use Rattle.mg_g711.specs.declared.law.Law.{Law}
use Rattle.mg_g711.specs.declared.law.Law.TheVariants.{Mu, A}
use Rattle.mg_g711.specs.Law.{quantized_of}

-- The distance between a sample and its value after encoding and decoding.
abbrev pub error_of : Law → ℤ → ℕ
error_of law v = unsigned_abs (v -ℤ quantized_of law v)

-- Half the interval size of a level in G.711, scaled by 4 for mu-law (table 2) and by 8 for A-law (table 1). This is
-- half the width of the level, but mu-law's first level is only this wide. The first two exponents of A-law have the
-- same size.
abbrev pub half_step_of : Law → ℕ → ℕ
half_step_of Mu k = 2 ^ (k / 16 + 2)
half_step_of A k = 2 ^ (max (k / 16) 1 + 2)

-- The end of the last level: the virtual decision value of G.711 (8159 for mu-law, 4096 for A-law), scaled in the same
-- way.
abbrev pub end_of : Law → ℕ
end_of Mu = 32636
end_of A = 32768
