-- The world after several ticks.
use Rattle.std.proofs.Common.{◌≡◌, ℕ, zero, suc, ◌+◌, List, [], ◌++◌, map, replicate, refl, ◌∙◌, arith}
use Rattle.mg_engine.specs.Tick.{after_tick, concealed_in_tick}
use Rattle.mg_engine.specs.aids.Ticks.{after_ticks, concealed_in_ticks}
use Rattle.mg_core.specs.declared.event.Event.TheVariants.{Tick}
use Rattle.mg_core.specs.declared.state.CoreState.{CoreState}
use Rattle.mg_core.specs.Headline.{ExtendsByTicks}
use Rattle.mg_core.specs.Step.{Sent, Packet, Run}
use Rattle.mg_core.specs.World.{World, packets_of, world_after_tick, world_after_ticks}
use Rattle.mg_core.specs.aids.Stands.{StandsFor}
use Rattle.mg_core.proofs.RunLemmas.{run_both}

-- The world after `n` ticks: its gateway has passed them, and its tally has counted them.
abbrev counted : ℕ → World → World
counted n w = record w {
  gateway = after_ticks n w.gateway;
  tally = record w.tally {
    ticks = w.tally.ticks + n;
    concealed = w.tally.concealed + concealed_in_ticks n w.gateway;
  };
}

pub ticks_counted : (n : ℕ) (w : World) → world_after_ticks n w ≡ counted n w
ticks_counted zero w =
    let ticks : w.tally.ticks ≡ w.tally.ticks + 0 = omega arith in
    let concealed : w.tally.concealed ≡ w.tally.concealed + 0 = omega arith in
    λ i. record {
      gateway = w.gateway;
      replies = w.replies;
      tally = record {
        control = w.tally.control;
        media = w.tally.media;
        ticks = ticks i;
        results = w.tally.results;
        concealed = concealed i;
      };
    }
ticks_counted (suc n) w =
    let first = concealed_in_tick w.gateway in
    let others = concealed_in_ticks n (after_tick w.gateway) in
    let ticks : w.tally.ticks + 1 + n ≡ w.tally.ticks + suc n = omega arith in
    let concealed : w.tally.concealed + first + others ≡ w.tally.concealed + (first + others) = omega arith in
    ticks_counted n (world_after_tick w)
    ∙ (λ i. record {
      gateway = after_ticks n (after_tick w.gateway);
      replies = w.replies;
      tally = record {
        control = w.tally.control;
        media = w.tally.media;
        ticks = ticks i;
        results = w.tally.results;
        concealed = concealed i;
      };
    })

-- A run of `n` ticks ends in the world after `n` ticks.
ticks_run : (n : ℕ) (w : World) → (sent : List Sent) × Run w (replicate n Tick) sent (world_after_ticks n w)
ticks_run zero w = ([], (refl, refl))
ticks_run (suc n) w =
    let first = map Packet (packets_of w) in
    let (others, run) = ticks_run n (world_after_tick w) in
    (first ++ others, (first, others, world_after_tick w, (refl, refl), run, refl))

pub extends_by_ticks : (old new : CoreState) (count : ℕ) →
    ((w : World) → StandsFor old w → StandsFor new (world_after_ticks count w)) → ExtendsByTicks old new count
extends_by_ticks old new count leads base events before w (run, stands) =
    let (sent, ran) = ticks_run count w in (
      sent,
      world_after_ticks count w,
      (
        run_both base w (world_after_ticks count w) events (replicate count Tick) before sent run ran,
        leads w stands,
      ),
    )
