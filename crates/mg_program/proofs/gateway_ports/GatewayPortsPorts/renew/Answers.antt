use Rattle.std.proofs.Common.{false, List, ℕ, [], ◌∷◌, ap, length, subst}
use Rattle.mg_ports.specs.declared.call.Call.TheVariants.{Renew}
use Rattle.mg_host.specs.declared.host_call.HostCall.TheVariants.{OnPorts}
use Rattle.mg_host.specs.HostCalls.{Grows}
use Rattle.mg_program.specs.Decisions.{knows}
use Rattle.mg_program.proofs.DecisionLemmas.{decided_more, does_logged, does_one}
use Rattle.mg_program.proofs.RenewLemmas.{front_of}
use Rattle.mg_program.proofs.gateway_ports.GatewayPortsPorts.renew.Goals as goal

pub invariant_of-self : goal.invariant_of-self
invariant_of-self g c =
    let before = g.H.Tells.calls c.args.self.now.host in
    let after = g.H.Tells.calls c.log_renewal.new.self in
    let knew = knows c.args.self.now.timing c.args.self.now.ready false in
    let call = Renew c.args.text.now.items c.args.durability c.renew-outcome.result in
    let front = front_of c.args.text.now.items c.renew-outcome.new.text.items (length c.as_slice-len.result.now) c.as_slice.result.now
    c.renew-outcome.ensures.front (ap length c.as_slice-len.ensures.value) c.as_slice.ensures.value in
    record {
      decided = decided_more g.K.LogKey.calls before after (call ∷ []) knew knew c.args.self.now.decided
          (does_one before after (OnPorts call) knew (subst (λ (text : List ℕ). Grows before after
          (OnPorts (Renew text c.args.durability c.renew-outcome.result) ∷ [])) front c.log_renewal.ensures.logged) tt);
    }

pub returns-clause-logged : goal.returns-clause-logged
returns-clause-logged g c =
    let before = g.H.Tells.calls c.args.self.now.host in
    let after = g.H.Tells.calls c.log_renewal.new.self in
    let knew = knows c.args.self.now.timing c.args.self.now.ready false in
    let call = Renew c.args.text.now.items c.args.durability c.renew-outcome.result in
    let front = front_of c.args.text.now.items c.renew-outcome.new.text.items (length c.as_slice-len.result.now) c.as_slice.result.now
    c.renew-outcome.ensures.front (ap length c.as_slice-len.ensures.value) c.as_slice.ensures.value in
    does_logged before after (call ∷ []) knew knew
    (does_one before after (OnPorts call) knew (subst (λ (text : List ℕ). Grows before after
    (OnPorts (Renew text c.args.durability c.renew-outcome.result) ∷ [])) front c.log_renewal.ensures.logged) tt)
