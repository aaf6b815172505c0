use Rattle.std.proofs.Common.{◌++◌, ◌∷◌, [], List, get_or, map, take, ap, subst, ◌∙◌}
use Rattle.std.proofs.lemmas.List.{get_or_default}
use Rattle.mg_heard.specs.declared.entry.Entry.{Entry}
use Rattle.mg_heard.specs.declared.entry.Entry.TheVariants as entries
use Rattle.mg_heard.proofs.ContinueLemmas.{unused}
use Rattle.mg_audible.specs.aids.Keeping.{entry_until}
use Rattle.mg_audible.proofs.KeepLemmas.{told_more, told_whole}
use Rattle.mg_audible.proofs.telling.tell_audible.Goals as goal

pub loop-interval-preserved : goal.loop-interval-preserved
loop-interval-preserved g c start before told =
    let i = c.loop-interval.interval-index in
    let xs = c.args.intervals.now in
    let x = get_or xs i unused in
    let there = c.loop-interval-test.true in
    let so_far = before ++ map (entry_until c.args.end) (take i xs) in
    subst (λ (l : List Entry). g.S.Sink.told start c.tell.new.self l)
    (ap (λ y. so_far ++ entries.Audible y ∷ []) c.until.ensures.value
    ∙ told_more c.args.end before xs i x there (get_or_default xs i x unused there))
    (c.in_ok-tell.ensures.value start so_far (c.loop-interval.invariant start before told))

pub returns : goal.returns
returns g c = record {
  value = λ start before told.
      subst (λ (l : List Entry). g.S.Sink.told start c.loop-interval.sink l)
      (told_whole c.args.end before c.args.intervals.now c.loop-interval.interval-index c.loop-interval-test.false)
      (c.loop-interval.invariant start before told);
}
