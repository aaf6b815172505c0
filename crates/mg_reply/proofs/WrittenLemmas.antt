-- The lengths of message heads and numbers.
use Rattle.std.proofs.Common.{ℕ, ◌^◌, ◌<◌, ◌≤◌, List, ◌++◌, length, length-append, arith, decimal, codes}
use Rattle.mg_words.proofs.DecimalLemmas.{number_short, port_short}
use Rattle.mg_words.specs.Address.{address_text}
use Rattle.mg_reply.specs.Written.{head_text}

-- A message head is at most 33 bytes long.
pub head_short : (address : List ℕ) (port : ℕ) → length (address_text address) ≤ 15 → port < 2 ^ 16 →
    length (head_text address port) ≤ 33
head_short address port short small = parts (address_text address) (decimal port) short (port_short port small)
  where
    parts : (a p : List ℕ) → length a ≤ 15 → length p ≤ 5 →
        length (codes "MEGACO/1 [" ++ (a ++ (codes "]:" ++ (p ++ codes "\n")))) ≤ 33
    parts a p h k = simp length-append (omega arith)

pub ruleset lengths = (port_short, number_short)
