-- How a step of the program changes the worlds that its state represents.

-- For each world that the old state represents, the relation leads to some world that the new state represents.
abbrev pub Leads : {S W : Type 0} → (S → W → Type 0) → S → S → (W → W → Type 0) → Type 0
Leads {S} {W} StandsFor old new Comes =
    (w : W) → StandsFor old w → (next : W) × Comes w next × StandsFor new next
