-- The lines of several steps, one after another.
use Rattle.std.proofs.Common.{◌≡◌, ℕ, zero, suc, ◌+◌, ◌-◌, ◌<◌, List, [], ◌++◌, Option, Result, Ok, Err, sym, ap, ◌∙◌, append_assoc, arith}
use Rattle.std.proofs.lemmas.List.{append-nil}
use Rattle.std.specs.Io.KnownBytes.{Appends}
use Rattle.mg_lines.specs.declared.write_failed.WriteFailed.{WriteFailed}
use Rattle.mg_lines.specs.Streams.{Writes}
use Rattle.mg_lines.proofs.WriterLemmas.{appends_then, longer}
use Rattle.mg_clock.specs.Text.{text}
use Rattle.mg_pacer.specs.aids.Steps.{WritesLast, WritesSteps, quit_line}
use Rattle.mg_clock.specs.aids.Steps.{step_lines}
use Rattle.mg_clock.proofs.TextLemmas.{text_more}

-- The lines of a longer run begin with the lines of a shorter run.
pub text_gap : (polls from n : ℕ) → 0 < polls → (lines : List ℕ) × (text polls (from + n) ≡ text polls from ++ lines)
text_gap polls from zero some =
    let same : from + 0 ≡ from = omega arith in
    ([], rw same (sym (append-nil (text polls from))))
text_gap polls from (suc n) some =
    let before = text_gap polls from n some in
    let next : from + suc n ≡ from + n + 1 = omega arith in (
      before.0 ++ step_lines polls (from + n + 1),
      ap (text polls) next ∙ text_more polls (from + n) some ∙
          ap (λ (l : List ℕ). l ++ step_lines polls (from + n + 1)) before.1
          ∙ append_assoc (text polls from) before.0 (step_lines polls (from + n + 1)),
    )

pub step_written : (polls from step : ℕ) (a b c : Option (List ℕ)) → 0 < polls
    → (lines : List ℕ) × (text polls step ≡ text polls from ++ lines) × Appends a b lines
    → Appends b c (step_lines polls (step + 1))
    → (lines : List ℕ) × (text polls (step + 1) ≡ text polls from ++ lines) × Appends a c lines
step_written polls from step a b c some so_far now = (
  so_far.0 ++ step_lines polls (step + 1),
  text_more polls step some ∙ ap (λ (l : List ℕ). l ++ step_lines polls (step + 1)) so_far.1 ∙
      append_assoc (text polls from) so_far.0 (step_lines polls (step + 1)),
  appends_then a b c so_far.0 (step_lines polls (step + 1)) so_far.2 now,
)

pub stops_at : (polls from step to : ℕ) (a b c : Option (List ℕ)) (e : WriteFailed) → 0 < polls → step < to
    → (lines : List ℕ) × (text polls step ≡ text polls from ++ lines) × Appends a b lines
    → Writes (step_lines polls (step + 1)) b c (Err e) → WritesSteps polls from to a c (Err e)
stops_at polls from step to a b c e some lt so_far failed =
    let after = text_gap polls (step + 1) (to - (step + 1)) some in
    let lines = step_lines polls (step + 1) in
    let to_is : to ≡ step + 1 + (to - (step + 1)) = omega (arith, lt) in (
      so_far.0 ++ (lines ++ after.0),
      ap (text polls) to_is ∙ after.1 ∙ ap (λ (l : List ℕ). l ++ after.0)
          (text_more polls step some ∙ ap (λ (l : List ℕ). l ++ lines) so_far.1)
          ∙ append_assoc (text polls from ++ so_far.0) lines after.0 ∙
          append_assoc (text polls from) so_far.0 (lines ++ after.0),
      record {
        front = so_far.0 ++ failed.front;
        rest = failed.rest ++ after.0;
        cut = longer failed.rest after.0 failed.cut;
        parts = ap (λ (l : List ℕ). so_far.0 ++ (l ++ after.0)) failed.parts ∙
            ap (λ (l : List ℕ). so_far.0 ++ l) (append_assoc failed.front failed.rest after.0)
            ∙ sym (append_assoc so_far.0 failed.front (failed.rest ++ after.0));
        written = appends_then a b c so_far.0 failed.front so_far.2 failed.written;
      },
    )

pub last_stops : (polls from to : ℕ) (a b : Option (List ℕ)) (e : WriteFailed) →
    WritesSteps polls from to a b (Err e) → WritesLast polls from to a b (Err e)
last_stops polls from to a b e w = (
  w.0 ++ quit_line,
  ap (λ (l : List ℕ). l ++ quit_line) w.1 ∙ append_assoc (text polls from) w.0 quit_line,
  record {
    front = w.2.front;
    rest = w.2.rest ++ quit_line;
    cut = longer w.2.rest quit_line w.2.cut;
    parts = ap (λ (l : List ℕ). l ++ quit_line) w.2.parts ∙
        append_assoc w.2.front w.2.rest quit_line;
    written = w.2.written;
  },
)

quit_written : (x : List ℕ) (a b c : Option (List ℕ)) (r : Result (Unit {0}) WriteFailed) → Appends a b x →
    Writes quit_line b c r → Writes (x ++ quit_line) a c r
quit_written x a b c (Ok done) h k = appends_then a b c x quit_line h k
quit_written x a b c (Err e) h k =
    record {
      front = x ++ k.front;
      rest = k.rest;
      cut = k.cut;
      parts = ap (λ (l : List ℕ). x ++ l) k.parts ∙
          sym (append_assoc x k.front k.rest);
      written = appends_then a b c x k.front h k.written;
    }

pub last_written : (polls from to : ℕ) (a b c : Option (List ℕ)) (u : Unit {0}) (r : Result (Unit {0}) WriteFailed)
    → WritesSteps polls from to a b (Ok u) → Writes quit_line b c r → WritesLast polls from to a c r
last_written polls from to a b c u r w k = (
  w.0 ++ quit_line,
  ap (λ (l : List ℕ). l ++ quit_line) w.1 ∙
      append_assoc (text polls from) w.0 quit_line,
  quit_written w.0 a b c r w.2 k,
)
