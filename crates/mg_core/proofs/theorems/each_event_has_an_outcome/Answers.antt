use Rattle.std.proofs.Common.{refl, map, []}
use Rattle.mg_core.specs.Answer.{answered}
use Rattle.mg_core.specs.Step.{Packet, answer_to}
use Rattle.mg_core.specs.World.{packets_of, world_after_tick, with_control, with_taken}
use Rattle.mg_core.proofs.theorems.each_event_has_an_outcome.Goals as goal

pub returns-in-Tick : goal.returns-in-Tick
returns-in-Tick c = rw c.in-Tick.is
    (record { some = λ w. (map Packet (packets_of w), world_after_tick w, (refl, refl)) })

pub returns-in-Media : goal.returns-in-Media
returns-in-Media c = rw c.in-Media.is (record {
  some = λ w.
      let (g, taken, takes) = rw c.as_slice-in-Media.ensures.value at
      (c.one_arrival.ensures.some w.gateway c.in-Media._port c.in-Media._source.address) in
      ([], record w { gateway = g; tally = with_taken taken w.tally }, (taken, (g, takes, refl), refl));
})

pub returns-in-Control : goal.returns-in-Control
returns-in-Control c = rw c.in-Control.is (record {
  some = λ w.
      let (reading, is) = rw c.as_slice.ensures.value at c.one_reading.ensures.some in
      let p = answered c.in-Control.bytes reading (with_control w) in
      (answer_to c.in-Control._source p.0, p.1, (p.0, (reading, is, refl), refl));
})
