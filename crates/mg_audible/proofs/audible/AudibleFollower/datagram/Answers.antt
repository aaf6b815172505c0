use Rattle.std.proofs.Common.{◌≡◌, ℕ, refl, sym, subst, ap, ◌∙◌}
use Rattle.mg_core.specs.declared.event.Event.{Event}
use Rattle.mg_core.specs.declared.event.Event.TheVariants.{Control, Media}
use Rattle.mg_audible.specs.aids.Keeping.{LeadsBoth}
use Rattle.mg_audible.proofs.KeepLemmas.{timed_datagram}
use Rattle.mg_audible.proofs.audible.AudibleFollower.datagram.Goals as goal

pub returns-in-Ok : goal.returns-in-Ok
returns-in-Ok g c =
    let old = c.args.self.now in
    let new = c.control.new.self in
    let source = c.in-Control.source in
    let is : c.args.event.now ≡ Control source c.as_slice.result.now =
    c.in-Control.is ∙ ap (Control source) (sym c.as_slice.ensures.value) in
    record {
      value = λ start base notes h run. (
        c.control.ensures.talker ∙ h.0,
        timed_datagram base start.pair.talker notes c.args.event.now old.pair.whole.state old.pair.without.state
            new.whole.state new.without.state old.clock old.clock old.open
            (g.S.Sink.told start.sink old.sink) refl
            (λ is. is) c.requires.datagram
            (subst (λ (n : ℕ). LeadsBoth n c.args.event.now old.pair.whole.state old.pair.without.state new.whole.state
            new.without.state) h.0
            (subst (λ (e : Event). LeadsBoth old.pair.talker e old.pair.whole.state old.pair.without.state
            new.whole.state new.without.state) (sym is) c.in-Ok.ensures.value)) h.1,
      );
      stops = tt;
    }

pub returns-in-Media : goal.returns-in-Media
returns-in-Media g c =
    let old = c.args.self.now in
    let new = c.media.new.self in
    let port = c.in-Media.port in
    let source = c.in-Media.source in
    let is : c.args.event.now ≡ Media port source c.as_slice-in-Media.result.now =
    c.in-Media.is ∙ ap (Media port source) (sym c.as_slice-in-Media.ensures.value) in
    record {
      value = λ start base notes h run. (
        c.media.ensures.talker ∙ h.0,
        timed_datagram base start.pair.talker notes c.args.event.now old.pair.whole.state old.pair.without.state
            new.whole.state new.without.state old.clock old.clock old.open
            (g.S.Sink.told start.sink old.sink) refl
            (λ is. is) c.requires.datagram
            (subst (λ (n : ℕ). LeadsBoth n c.args.event.now old.pair.whole.state old.pair.without.state new.whole.state
            new.without.state) h.0
            (subst (λ (e : Event). LeadsBoth old.pair.talker e old.pair.whole.state old.pair.without.state
            new.whole.state new.without.state) (sym is) c.media.ensures.value)) h.1,
      );
      stops = tt;
    }

pub returns-in-Tick : goal.returns-in-Tick
returns-in-Tick g c = absurd (c.requires.datagram c.in-Tick.is)
