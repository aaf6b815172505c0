-- The lines that a run writes.
use Rattle.std.specs.Prelude.{ℕ, ◌*◌, nat_le, List, ◌++◌, codes, if◌then◌else◌}
use Rattle.mg_clock.specs.Text.{text}
use Rattle.mg_pacer.specs.Pace.{Pace}

-- The lines that are written up to a pace. After the last requested tick, they include the line that ends the run.
abbrev pub text_by : ℕ → Pace → List ℕ
text_by wanted p =
    if nat_le (wanted * p.polls) p.steps then text p.polls (wanted * p.polls) ++ codes "quit\n"
    else text p.polls p.steps
