use Rattle.std.proofs.Common.{◌≡◌, ◌∙◌, List, [], ap, length, map, refl, subst, sym}
use Rattle.std.specs.List.{AllZip, refill}
use Rattle.mg_core.specs.Note.{Note, events_in}
use Rattle.mg_heard.specs.Never.{IsWatched}
use Rattle.mg_heard.specs.aids.Calling.{AreCalled, AreMissing, called}
use Rattle.mg_heard.specs.aids.Watching.{KeepsRules}
use Rattle.mg_heard.specs.declared.missing.Missing.{Missing}
use Rattle.mg_heard.specs.declared.roll.Roll.{Roll}
use Rattle.mg_heard.specs.declared.rule.Rule.{Rule}
use Rattle.mg_heard.proofs.CallingLemmas.{first_for, for_rules}
use Rattle.mg_heard.proofs.ContinueLemmas.{written}
use Rattle.mg_heard.proofs.WatchLemmas.{is_watched}
use Rattle.mg_heard.proofs.watching.find_violation.Goals as goal

pub returns-in-Ok-missing_of : goal.returns-in-Ok-missing_of
returns-in-Ok-missing_of g c = record {
  watched = λ base stands.
      let rules = c.args.rules.now in
      let vec = c.in-Ok.rolls in
      let new = vec.items in
      let at = c.deref_mut.ensures.value in
      let rolls = refill vec.len new c.call_all.new.rolls in
      let is : rolls ≡ map (called base.gateway) new =
      written vec.len new c.call_all.new.rolls vec.ok.0 (c.call_all.auto.rolls ∙ ap length at)
      ∙ c.call_all.ensures.value base stands ∙ ap (map (called base.gateway)) at in
      let first = c.in-Ok-new.follower in
      let last = c.watch_from.new.follower in
      let found = c.compare.new.self.violation in
      let missing = c.in-Ok-missing_of.missing.items in
      let input = g.R.Read.remaining c.args.reader.now in
      let rest = g.R.Read.remaining c.watch_from.new.reader in
      let same : first.rules.now ≡ rules = c.in-Ok-new.ensures.rules in
      subst (λ (l : List Rule). IsWatched l base input rest found missing) same
      (is_watched last (λ a. a.follower) (λ a notes. AreCalled base (events_in notes) rolls a.rolls.items)
      c.outcomes_are_unique.ensures.event first.rules.now base input rest c.in-Ok-watch_from.core.state found missing
      (c.in-Ok-watch_from.ensures.followed base stands (
        (
          refl,
          subst (λ (l : List Rule). KeepsRules l base [] first.clock.ticks first.is_changed first.violation) (sym same)
              (c.in-Ok-new.ensures.start base),
        ),
        first_for base rules new rolls is c.in-Ok.ensures.value,
      ))
      c.compare.ensures.value
      (λ notes called_last. subst
      (λ (l : List Rule). AllZip (λ rule m. AreMissing base (events_in notes) rule.talker rule.listener m) l missing)
      (sym same)
      (subst
      (λ (l : List Missing). AllZip (λ rule m. AreMissing base (events_in notes) rule.talker rule.listener m) rules l)
      (sym (rw c.as_slice.ensures.value at c.in-Ok-missing_of.ensures.value))
      (for_rules base (events_in notes) rules new last.rolls.items c.in-Ok.ensures.value
      (subst (λ (l : List Roll). AreCalled base (events_in notes) l last.rolls.items) is called_last)))));
}
