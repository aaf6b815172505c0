-- The shape of a date's text.
use Rattle.std.specs.Prelude.{◌≡◌, ◌≢◌, ℕ, ◌≤◌, All, List, ◌++◌, Option, codes, length}
use Rattle.mg_chain.specs.Seals.{IsFollowing}

-- The text is at most 64 bytes long, and has no line feed.
abbrev pub IsShortLine : List ℕ → Type 0
IsShortLine text = (length text ≤ 64) × All (λ b. b ≢ 10) text

-- A line that says which text the lines follow, and the line of a date, were appended to a text.
pub record IsJoined (known : Option (List ℕ)) (date old new : List ℕ) : Type 0 where
  pub follows : List ℕ
  pub is : IsFollowing known follows
  pub joined : new ≡ old ++ (follows ++ (codes "# time " ++ (date ++ codes "\n")))

-- The new text begins with the old one.
abbrev pub Extends : (old new : List ℕ) → Type 0
Extends old new = (more : List ℕ) × (new ≡ old ++ more)
