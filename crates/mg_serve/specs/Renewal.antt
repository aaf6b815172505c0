-- The text with which a session renews its journal.
use Rattle.std.specs.Prelude.{◌≡◌, ℕ, List, ◌++◌, codes}
use Rattle.mg_core.specs.Base.{IsBase}
use Rattle.mg_checkpoint.specs.Checkpoint.{checkpoint_text, without_speech}
use Rattle.mg_core.specs.World.{World}
use Rattle.mg_serve.specs.Fenced.{reached_line}

-- The head, a checkpoint, the line after which ticks are counted, and the number that messages have reached.
abbrev pub renewal_text : (head checkpoint : List ℕ) → (reached : ℕ) → List ℕ
renewal_text head checkpoint reached =
    head ++ (checkpoint ++ (codes "# counted ticks\n" ++ reached_line reached))

-- The checkpoint of this world is that of a world with which a gateway may begin.
abbrev pub IsRestorable : World → Type 0
IsRestorable w =
    (base : World) × IsBase base × (without_speech base ≡ base)
    × (checkpoint_text base ≡ checkpoint_text w)
