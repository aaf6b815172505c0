-- The lines that are written for several steps, and at one reading.
use Rattle.std.specs.Prelude.{◌≡◌, ℕ, ◌*◌, Bool, nat_le, List, ◌++◌, codes}
use Rattle.std.specs.Prelude.{Option, Result, Ok, Err}
use Rattle.std.specs.Io.KnownBytes.{Appends}
use Rattle.mg_lines.specs.declared.write_failed.WriteFailed.{WriteFailed}
use Rattle.mg_lines.specs.Streams.{Writes, WritesFront}
use Rattle.mg_pacer.specs.Pace.{Pace}
use Rattle.mg_clock.specs.Text.{text}
use Rattle.mg_pacer.specs.Text.{text_by}

-- The line that ends a run.
abbrev pub quit_line : List ℕ
quit_line = codes "quit\n"

-- The lines of the steps after `from`, up to `to`, were written, whatever lines precede them.
abbrev pub WritesSteps : ℕ → ℕ → ℕ → Option (List ℕ) → Option (List ℕ)
    → Result (Unit {0}) WriteFailed → Type 0
WritesSteps polls from to old new result =
    (lines : List ℕ) × (text polls to ≡ text polls from ++ lines) × Writes lines old new result

-- The lines of the steps after `from`, up to `to`, were written, and then the line that ends the
-- run.
abbrev pub WritesLast : ℕ → ℕ → ℕ → Option (List ℕ) → Option (List ℕ)
    → Result (Unit {0}) WriteFailed → Type 0
WritesLast polls from to old new result =
    (lines : List ℕ) × (text polls to ++ quit_line ≡ text polls from ++ lines)
    × Writes lines old new result

-- The lines of one reading were written, and the result says whether they end the run.
abbrev pub TurnEnds : ℕ → Pace → List ℕ → Option (List ℕ) → Option (List ℕ)
    → Result Bool WriteFailed → Type 0
TurnEnds wanted q lines old new (Ok done) =
    (done ≡ nat_le (wanted * q.polls) q.steps) × Appends old new lines
TurnEnds wanted q lines old new (Err failed) = WritesFront lines old new

-- The output at a reading of the clock that advances the pace from `p` to `q`.
abbrev pub Turns : ℕ → Pace → Pace → Option (List ℕ) → Option (List ℕ) → Result Bool WriteFailed
    → Type 0
Turns wanted p q old new result =
    (lines : List ℕ) × (text_by wanted q ≡ text p.polls p.steps ++ lines)
    × TurnEnds wanted q lines old new result
