use Rattle.std.proofs.Common.{◌≡◌, ◌++◌, drop}
use Rattle.mg_hearing.specs.aids.Absences.{all_absences}
use Rattle.mg_hearing.proofs.absence.push_all.Given as goal

-- The text, followed by the lines for the rules that are left, is the result.
abbrev pub invariant-loop-place : goal.invariant-loop-place
invariant-loop-place l =
    l.text.items ++ all_absences l.name (drop l.place l.rules) (drop l.place l.missing)
    ≡ l.fn.text.items ++ all_absences l.name l.rules l.missing
