-- How a triple changes a row of talkers.
use Rattle.std.specs.Prelude.{ℕ, Bool, if◌then◌else◌}
use Rattle.mg_topology.specs.declared.triple.Triple.{Triple}
use Rattle.mg_topology.specs.Triple.{mentions, word_of}
use Rattle.mg_words.specs.declared.association.Association.TheVariants.{Bothway}

-- Whether the listener hears the talker after the triple. The flag says whether the listener heard the talker before.
abbrev pub after_triple : Triple → ℕ → ℕ → Bool → Bool
after_triple triple talker listener before =
    if mentions triple talker listener then word_of triple talker listener else before

-- A triple that does not mention any pair.
abbrev pub empty_triple : Triple
empty_triple = record { first = 0; second = 0; association = Bothway }
