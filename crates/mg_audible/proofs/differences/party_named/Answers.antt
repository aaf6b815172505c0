use Rattle.std.proofs.Common.{◌≡◌, Some, eqb, eqb-true, sym, ap, subst, ◌∙◌}
use Rattle.mg_rooms.specs.Registry.{record_at}
use Rattle.mg_rooms.proofs.OrderLemmas.{found_key}
use Rattle.mg_heard.specs.aids.Parties.{IsParty}
use Rattle.mg_heard.specs.declared.party.Party.{Party}
use Rattle.mg_heard.proofs.PartyLemmas.{is_party}
use Rattle.mg_audible.proofs.differences.party_named.Goals as goal

pub returns-in-Some-clause-number : goal.returns-in-Some-clause-number
returns-in-Some-clause-number c =
    let r = c.in-Some.termination in
    ap (λ (p : Party). p.number) c.of.ensures.value ∙ eqb-true r.number c.args.number
    (found_key (λ x. eqb x.number c.args.number) c.rooms.result.now.terminations r (sym c.in-Some.ensures.value))

pub returns-in-Some-clause-value : goal.returns-in-Some-clause-value
returns-in-Some-clause-value c w stands =
    let r = c.in-Some.termination in
    let rooms = c.rooms.result.now in
    let number : r.number ≡ c.args.number = eqb-true r.number c.args.number
    (found_key (λ x. eqb x.number c.args.number) rooms.terminations r (sym c.in-Some.ensures.value)) in
    let same : w.gateway.rooms ≡ rooms = sym (c.rooms.ensures.value w stands) in
    let at : record_at w.gateway.rooms r.number ≡ Some r =
    (λ j. record_at (same j) (number j)) ∙ sym c.in-Some.ensures.value in
    subst (λ (p : Party). IsParty w.gateway p) (sym c.of.ensures.value) (is_party w.gateway r at)
