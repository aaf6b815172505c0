use Rattle.mg_scan.proofs.QuoteLemmas.{none_closes, other_ends, quote_closes}
use Rattle.mg_scan.proofs.first.quoted_at.Goals as goal

pub returns-in-Some : goal.returns-in-Some
returns-in-Some c = rw (← c.split_at.ensures.back)
    (quote_closes c.args.bytes.now c.split_at.result.1.now c.in-Some.n c.requires c.split_at.ensures.back
    c.in-Some.ensures c.if-tail-n-eq34.true)

pub returns-in_default : goal.returns-in_default
returns-in_default c = rw (← c.split_at.ensures.back)
    (other_ends c.split_at.result.1.now c.in-Some.n c.in-Some.ensures c.if-tail-n-eq34.false)

pub returns-in_default-2 : goal.returns-in_default-2
returns-in_default-2 c = rw (← c.split_at.ensures.back) (none_closes c.split_at.result.1.now c.in_default.ensures)
