-- The lines for the missing terminations of all rules.
use Rattle.std.specs.Prelude.{ℕ, List}
use Rattle.std.specs.List.{flat_map, zip}
use Rattle.mg_heard.specs.declared.asked_rule.AskedRule.{AskedRule}
use Rattle.mg_heard.specs.declared.missing.Missing.{Missing}
use Rattle.mg_hearing.specs.Absence.{absences}

abbrev pub all_absences : (name : List ℕ) → List AskedRule → List Missing → List ℕ
all_absences name rules missing =
    flat_map (λ p. absences name p.0.talker p.0.listener p.1) (zip rules missing)
