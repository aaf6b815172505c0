use Rattle.mg_engine.proofs.Common.{Option, refl, sym, ap, subst, ◌∙◌, Record, SumsState, arrived, at_port, taken_by, EngineState, StandsFor, Registry}
use Rattle.mg_rtp.specs.aids.Read.{reading_of}
use Rattle.mg_rtp.proofs.Once.{is_reading}
use Rattle.mg_engine.proofs.ArrivalLemmas.{media_alone, took_stands}
use Rattle.mg_engine.proofs.engine.Engine.media.Goals as goal

pub returns-in-None : goal.returns-in-None
returns-in-None c = record {
  work = refl;
  taken = λ w h.
      let reading = reading_of c.read-packet.result in
      let none = ap (λ (x : Registry). at_port x c.args.port) h.rooms ∙ sym c.at_port.ensures.value ∙
      c.in-None.is in (
        w,
        (
          reading,
          is_reading c.args.bytes.now c.read-packet.result c.read-packet.ensures.found
              c.read-packet.ensures.fault,
          ap (λ (o : Option Record). taken_by w o c.args.source.address reading) none,
        ),
        h,
      );
}

pub returns-in-Some : goal.returns-in-Some
returns-in-Some c = record {
  work = ap (λ (s : SumsState). s.work) c.place.ensures.sums;
  taken = λ w h.
      let k = c.args.self.now in
      let r = c.in-Some.termination in
      let reading = reading_of c.read-packet.result in
      let brought = arrived r c.args.source.address reading in
      let (now, represents, stands) = took_stands k w r c.place.new.self.media brought c.place.result
      c.at_port.ensures.sound c.in-Some.ensures.found c.in-Some.ensures.slot c.place.ensures.taken h in
      let here = ap (λ (x : Registry). at_port x c.args.port) h.rooms ∙ sym c.at_port.ensures.value ∙
      c.in-Some.is in (
        now,
        (
          reading,
          is_reading c.args.bytes.now c.read-packet.result c.read-packet.ensures.found
              c.read-packet.ensures.fault,
          ap (λ (o : Option Record). taken_by w o c.args.source.address reading) here ∙ represents,
        ),
        subst (λ (x : EngineState). StandsFor x now)
            (media_alone k c.place.new.self c.place.ensures.config c.place.ensures.rooms c.place.ensures.flows
            c.place.ensures.sums c.place.ensures.shares) stands,
      );
}
