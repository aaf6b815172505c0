-- The lines of polls and ticks.
use Rattle.std.specs.Prelude.{ℕ, ◌/◌, ◌%◌, List, ◌++◌, codes}
use Rattle.std.specs.List.{repeat}

abbrev pub poll_line : List ℕ
poll_line = codes "poll\n"

abbrev pub tick_line : List ℕ
tick_line = codes "tick\n"

-- The lines of one period of 20 ms: its polls, and then the tick.
abbrev pub period_lines : ℕ → List ℕ
period_lines polls = repeat polls poll_line ++ tick_line

-- The lines of this many steps: the lines of all complete periods of 20 ms, and then the polls of the current one.
unfoldable pub text : ℕ → ℕ → List ℕ
text polls steps =
    repeat (steps / polls) (period_lines polls) ++ repeat (steps % polls) poll_line
