use Rattle.std.proofs.Common.{◌≤◌, ◌∙◌, [], List, ap, length, subst, ℕ}
use Rattle.mg_bytes.specs.Bytes.{appended}
use Rattle.mg_heard.specs.declared.claim.Claim.TheVariants.{CouldHear}
use Rattle.mg_heard.specs.declared.format.Format.TheVariants.{Csv, Json}
use Rattle.mg_heard.specs.declared.interval.Interval.{Interval}
use Rattle.mg_heard.specs.declared.line.TheConstants.{LINE_LIMIT}
use Rattle.mg_heard.specs.aids.Shapes.{interval_object, interval_row}
use Rattle.mg_heard.proofs.ShapeLemmas.{violation_line_same, violation_sentence_same}
use Rattle.mg_heard.proofs.line.push_violation.Goals as goal

pub returns-in-Text-clause-value : goal.returns-in-Text-clause-value
returns-in-Text-clause-value c = c.push_violation_sentence.ensures.value
    ∙ ap (appended c.args.out.now) (violation_sentence_same c.args.style.now.format c.args.time.now c.args.style.now.names
    c.args.violation.now c.in-Text.is)

pub returns-in-Text-clause-short : goal.returns-in-Text-clause-short
returns-in-Text-clause-short c = subst (λ (l : List ℕ). length l ≤ LINE_LIMIT)
    (violation_sentence_same c.args.style.now.format c.args.time.now c.args.style.now.names c.args.violation.now c.in-Text.is)
    c.push_violation_sentence.ensures.short

pub returns-in-Csv-clause-value : goal.returns-in-Csv-clause-value
returns-in-Csv-clause-value c = rw c.in-Csv.is (c.push_row.ensures.value
    ∙ ap (λ (x : Interval). appended c.args.out.now (interval_row CouldHear c.args.time.now [] c.args.style.now.names x))
    c.interval_from.ensures.value
    ∙ ap (appended c.args.out.now) (violation_line_same Csv c.args.time.now c.args.style.now.names c.args.violation.now))

pub returns-in-Csv-clause-short : goal.returns-in-Csv-clause-short
returns-in-Csv-clause-short c = rw c.in-Csv.is (subst (λ (l : List ℕ). length l ≤ LINE_LIMIT)
    (ap (λ (x : Interval). interval_row CouldHear c.args.time.now [] c.args.style.now.names x) c.interval_from.ensures.value
    ∙ violation_line_same Csv c.args.time.now c.args.style.now.names c.args.violation.now) c.push_row.ensures.short)

pub returns-in-Json-clause-value : goal.returns-in-Json-clause-value
returns-in-Json-clause-value c = rw c.in-Json.is (c.push_object.ensures.value
    ∙ ap (λ (x : Interval). appended c.args.out.now (interval_object CouldHear c.args.time.now [] c.args.style.now.names x))
    c.interval_from-in-Json.ensures.value
    ∙ ap (appended c.args.out.now) (violation_line_same Json c.args.time.now c.args.style.now.names c.args.violation.now))

pub returns-in-Json-clause-short : goal.returns-in-Json-clause-short
returns-in-Json-clause-short c = rw c.in-Json.is (subst (λ (l : List ℕ). length l ≤ LINE_LIMIT)
    (ap (λ (x : Interval). interval_object CouldHear c.args.time.now [] c.args.style.now.names x)
    c.interval_from-in-Json.ensures.value
    ∙ violation_line_same Json c.args.time.now c.args.style.now.names c.args.violation.now) c.push_object.ensures.short)
