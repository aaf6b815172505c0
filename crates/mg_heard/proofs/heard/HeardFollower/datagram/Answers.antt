use Rattle.std.proofs.Common.{refl, true}
use Rattle.std.proofs.lemmas.Bool.{true≢false}
use Rattle.mg_heard.proofs.KeepingLemmas.{not_control}
use Rattle.mg_heard.proofs.KeptTickLemmas.{heard_datagram}
use Rattle.mg_heard.proofs.heard.HeardFollower.datagram.Goals as goal

pub returns-in-Control-clause-value : goal.returns-in-Control-clause-value
returns-in-Control-clause-value g c start base notes h run =
    let old = c.args.self.now in
    heard_datagram c.outcomes_are_unique.ensures.event c.only_control_changes_flows.ensures.flows base notes
    c.args.event.now old.clock old.clock old.is_changed true old.open (g.S.Sink.told start.sink old.sink)
    c.args._core.now.state refl (λ is. is) c.requires.datagram
    (λ e. absurd (true≢false e)) run h

pub returns-in_default : goal.returns-in_default
returns-in_default g c =
    let old = c.args.self.now in
    record {
      value = λ start base notes h run.
          heard_datagram c.outcomes_are_unique.ensures.event c.only_control_changes_flows.ensures.flows base notes
          c.args.event.now old.clock old.clock old.is_changed old.is_changed old.open
          (g.S.Sink.told start.sink old.sink) c.args._core.now.state refl
          (λ is. is) c.requires.datagram
          (λ e. (not_control c.args.event.now c.in_default.not-Control, e)) run h;
      stops = tt;
    }
