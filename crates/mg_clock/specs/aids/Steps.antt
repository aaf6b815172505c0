-- The lines of one step.
use Rattle.std.specs.Prelude.{ℕ, ◌%◌, ◌==◌, List, ◌++◌, if◌then◌else◌}
use Rattle.mg_clock.specs.Text.{poll_line, tick_line}

-- The lines of the step with this number, counted from 1.
abbrev pub step_lines : ℕ → ℕ → List ℕ
step_lines polls step = if step % polls == 0 then poll_line ++ tick_line else poll_line
