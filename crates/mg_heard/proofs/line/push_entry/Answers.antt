use Rattle.std.proofs.Common.{◌≤◌, ◌∙◌, List, ap, length, subst, ℕ}
use Rattle.mg_bytes.specs.Bytes.{appended}
use Rattle.mg_heard.specs.declared.claim.Claim.TheVariants.{CouldHear, Heard}
use Rattle.mg_heard.specs.declared.line.TheConstants.{LINE_LIMIT}
use Rattle.mg_heard.proofs.ShapeLemmas.{gap_same, interval_same}
use Rattle.mg_heard.proofs.line.push_entry.Goals as goal

pub returns-in-Interval-clause-value : goal.returns-in-Interval-clause-value
returns-in-Interval-clause-value c = rw c.in-Interval.is (c.push_interval.ensures.value
    ∙ ap (appended c.args.out.now) (interval_same CouldHear c.args.style.now.format c.args.from.now c.args.until.now
    c.args.style.now.names c.in-Interval.interval))

pub returns-in-Interval-clause-short : goal.returns-in-Interval-clause-short
returns-in-Interval-clause-short c = rw c.in-Interval.is (subst (λ (l : List ℕ). length l ≤ LINE_LIMIT)
    (interval_same CouldHear c.args.style.now.format c.args.from.now c.args.until.now c.args.style.now.names
    c.in-Interval.interval) c.push_interval.ensures.short)

pub returns-in-Gap-clause-value : goal.returns-in-Gap-clause-value
returns-in-Gap-clause-value c = rw c.in-Gap.is (c.push_gap.ensures.value
    ∙ ap (appended c.args.out.now) (gap_same c.args.style.now.format c.args.from.now c.args.until.now c.in-Gap.gap))

pub returns-in-Gap-clause-short : goal.returns-in-Gap-clause-short
returns-in-Gap-clause-short c = rw c.in-Gap.is (subst (λ (l : List ℕ). length l ≤ LINE_LIMIT)
    (gap_same c.args.style.now.format c.args.from.now c.args.until.now c.in-Gap.gap) c.push_gap.ensures.short)

pub returns-in-Audible-clause-value : goal.returns-in-Audible-clause-value
returns-in-Audible-clause-value c = rw c.in-Audible.is (c.push_interval-in-Audible.ensures.value
    ∙ ap (appended c.args.out.now) (interval_same Heard c.args.style.now.format c.args.from.now c.args.until.now
    c.args.style.now.names c.in-Audible.interval))

pub returns-in-Audible-clause-short : goal.returns-in-Audible-clause-short
returns-in-Audible-clause-short c = rw c.in-Audible.is (subst (λ (l : List ℕ). length l ≤ LINE_LIMIT)
    (interval_same Heard c.args.style.now.format c.args.from.now c.args.until.now c.args.style.now.names
    c.in-Audible.interval) c.push_interval-in-Audible.ensures.short)
