use Rattle.std.proofs.Common.{ℕ, List, codes, refl, sym, subst}
use Rattle.mg_core.specs.aids.Resuming.{HasFollowed, IsAfterCopies}
use Rattle.mg_core.proofs.ResumeLemmas.{ticks_read}
use Rattle.mg_core.proofs.resumer.Resumer.take_ticks.Goals as goal

pub returns-clause-value : goal.returns-clause-value
returns-clause-value g c start base =
    let follows = g.F.Follower.follows in
    let old = c.args.self.now.runner in
    let new = c.take_ticks.new.self in
    let count = c.leading_ticks-count.result in
    record {
      copies = count;
      number = refl;
      parts = subst (λ (l : List ℕ). IsAfterCopies (codes "tick") count c.args.text.now l) (sym c.split_at.ensures.back)
          c.leading_ticks-count.ensures.value;
      adds = ticks_read base old.core.state new.core.state old.counts new.counts old.ticks new.ticks
          (HasFollowed follows start c.args.follower.now base) (HasFollowed follows start c.take_ticks.new.follower base)
          count c.in_ok-take_ticks.ensures.counts (c.in_ok-take_ticks.ensures.value start base);
    }
