use Rattle.std.proofs.Common.{◌≡◌, ◌++◌, List, refl, sym, subst, ◌∙◌, ℕ, arith}
use Rattle.std.proofs.lemmas.List.{append-nil}
use Rattle.mg_core.specs.Follow.{ticks_of}
use Rattle.mg_core.specs.Note.{Note}
use Rattle.mg_audible.specs.aids.Keeping.{KeepsTimed}
use Rattle.mg_audible.proofs.KeepLemmas.{ticks_more}
use Rattle.mg_audible.proofs.audible.AudibleFollower.ticks.Goals as goal

pub loop-init : goal.loop-init
loop-init g c =
    let old = c.args.self.now in
    record {
      talker = refl;
      keeps = λ start base notes h.
          subst (λ (l : List Note). KeepsTimed base old.pair.talker l old.pair.whole.state old.pair.without.state
          old.clock old.open (g.S.Sink.told start old.sink)) (sym (append-nil notes)) h;
    }

pub loop-preserved : goal.loop-preserved
loop-preserved g c =
    let old = c.args.self.now in
    let now = c.loop.self in
    let next = c.pass_tick.new.self in
    let same = c.loop.invariant.talker in
    record {
      talker = c.in_ok-pass_tick.ensures.talker ∙ same;
      keeps = λ start base notes h.
          let Told = g.S.Sink.told start next.sink in
          subst (λ (l : List Note). KeepsTimed base old.pair.talker l next.pair.whole.state next.pair.without.state
          next.clock next.open Told) (ticks_more notes c.loop.counter)
          (subst (λ (n : ℕ). KeepsTimed base n ((notes ++ ticks_of c.loop.counter) ++ ticks_of 1)
          next.pair.whole.state next.pair.without.state next.clock next.open Told) same
          (c.in_ok-pass_tick.ensures.value start base (notes ++ ticks_of c.loop.counter)
          (subst (λ (n : ℕ). KeepsTimed base n (notes ++ ticks_of c.loop.counter) now.pair.whole.state
          now.pair.without.state now.clock now.open (g.S.Sink.told start now.sink)) (sym same)
          (c.loop.invariant.keeps start base notes h))));
    }

pub returns : goal.returns
returns g c =
    let old = c.args.self.now in
    let now = c.loop.self in
    record {
      value = λ start base notes h run.
          let all : c.loop.counter ≡ c.args.count = omega arith in (
            c.loop.invariant.talker ∙ h.0,
            subst (λ (n : ℕ). KeepsTimed base start.pair.talker (notes ++ ticks_of n) now.pair.whole.state
                now.pair.without.state now.clock now.open (g.S.Sink.told start.sink now.sink)) all
                (subst (λ (n : ℕ). KeepsTimed base n (notes ++ ticks_of c.loop.counter) now.pair.whole.state
                now.pair.without.state now.clock now.open (g.S.Sink.told start.sink now.sink)) h.0
                (c.loop.invariant.keeps start.sink base notes
                (subst (λ (n : ℕ). KeepsTimed base n notes old.pair.whole.state old.pair.without.state
                old.clock old.open (g.S.Sink.told start.sink old.sink)) (sym h.0) h.1))),
          );
      stops = tt;
    }
