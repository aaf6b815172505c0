use Rattle.std.proofs.Common.{List, ◌+◌, ◌∷◌, None, map, reverse, sym, subst, ◌∙◌}
use Rattle.mg_heard.specs.OpenFlows.{open_flows}
use Rattle.mg_heard.specs.Times.{tick_count}
use Rattle.mg_heard.specs.aids.Keeping.{TellsTimed, entry_until}
use Rattle.mg_heard.specs.aids.Rows.{intervals_of}
use Rattle.mg_heard.specs.aids.Timing.{Timed}
use Rattle.mg_heard.specs.declared.open_interval.OpenInterval.{OpenInterval}
use Rattle.mg_heard.proofs.KeepingLemmas.{now_is}
use Rattle.mg_heard.proofs.KeptTickLemmas.{tells_all_on, timed_until}
use Rattle.mg_heard.proofs.TimingLemmas.{timed_on}
use Rattle.mg_heard.proofs.heard.Heard.finish.Goals as goal

pub returns : goal.returns
returns g c = record {
  value = λ start base notes (sent, w, (run, stands)) h.
      let one = c.outcomes_are_unique.ensures.event in
      let old = c.args.self.now in
      let mid = c.update.new.self in
      let older = reverse notes in
      let bound = tick_count older + 1 in
      let last = intervals_of c.as_slice.result.now in
      let Told = g.S.Sink.told start old.sink in
      let ToldNow = g.S.Sink.told start mid.sink in
      let ToldNext = g.S.Sink.told start c.tell_rows.new.sink in
      let now = now_is one base notes old.clock.ticks old.is_changed old.open (Timed older (tick_count older) Told) sent
      w run h.opens in
      let tells = subst (λ (l : List OpenInterval). TellsTimed older bound (open_flows w.gateway ∷ h.opens.past) l ToldNow)
      (sym c.as_slice.ensures.value)
      (c.in_ok-update.ensures.value w h.opens.past older start stands h.clock_is h.opens.count
      (λ e. sym now ∙ h.opens.same e) (record { begun = h.begun; tells = h.opens.tells })) in
      tells_all_on one c.intervals_tell_the_flow.ensures.flow base notes old.clock.ticks bound old.is_changed old.open
      last (Timed older (tick_count older) Told) (Timed older bound ToldNow) ToldNext sent w c.tell_rows.result run h.opens
      tells.tells
      (timed_on older older bound bound ToldNow ToldNext (map (entry_until None) last) c.tell_rows.result
      (c.tell_rows.ensures.value start) (λ before t. timed_until older None last before tt tells.begun t));
  clock = c.update.ensures.clock;
}
