use Rattle.std.proofs.Common.{List, sym, subst}
use Rattle.mg_heard.specs.declared.open_interval.OpenInterval.{OpenInterval}
use Rattle.mg_audible.specs.aids.Keeping.{KeepsTimed}
use Rattle.mg_audible.proofs.KeepLemmas.{tells_all_on}
use Rattle.mg_audible.proofs.audible.Audible.finish.Goals as goal

pub returns : goal.returns
returns g c = record {
  value = λ start base notes valid h.
      let old = c.args.self.now in
      let pair = old.pair in
      let Told = g.S.Sink.told start old.sink in
      tells_all_on base pair.talker notes pair.whole.state pair.without.state old.clock c.as_slice.result.now Told
      (g.S.Sink.told start c.tell_audible.new.sink) c.tell_audible.result c.outcomes_are_unique.ensures.event
      c.differences_are_speech.ensures.theorem valid
      (subst (λ (l : List OpenInterval). KeepsTimed base pair.talker notes pair.whole.state pair.without.state
      old.clock l Told) (sym c.as_slice.ensures.value) h) (c.tell_audible.ensures.value start);
}
