use Rattle.std.proofs.Common.{ℕ, List, codes, refl, sym, subst}
use Rattle.mg_core.specs.aids.Resuming.{HasFollowed, IsAfterCopies}
use Rattle.mg_core.proofs.ResumeLemmas.{tens_read}
use Rattle.mg_core.proofs.resumer.Resumer.take_tens.Goals as goal

pub returns-clause-value : goal.returns-clause-value
returns-clause-value g c start base =
    let follows = g.F.Follower.follows in
    let old = c.args.self.now.runner in
    let new = c.take_ticks.new.self in
    let count = c.leading_tens-count.result in
    record {
      copies = count;
      number = refl;
      parts = subst (λ (l : List ℕ). IsAfterCopies (codes "ticks 10") count c.args.text.now l) (sym c.split_at.ensures.back)
          c.leading_tens-count.ensures.value;
      adds = tens_read base old.core.state new.core.state old.counts new.counts old.ticks new.ticks
          (HasFollowed follows start c.args.follower.now base) (HasFollowed follows start c.take_ticks.new.follower base)
          count c.if-not-self.false c.in_ok-take_ticks.ensures.counts
          (c.in_ok-take_ticks.ensures.value start base);
    }
