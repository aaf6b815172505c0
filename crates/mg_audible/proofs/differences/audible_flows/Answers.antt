use Rattle.std.proofs.Common.{◌≡◌, ◌+◌, ◌<◌, ◌≤◌, List, not, length, sym, ap, subst, ◌∙◌, Some, arith}
use Rattle.std.specs.Str.{bytes_eq}
use Rattle.std.proofs.lemmas.List.{take_all}
use Rattle.std.proofs.lemmas.Option.{get_or_from_slice_get}
use Rattle.mg_words.specs.Limits.{termination_limit}
use Rattle.mg_rooms.specs.Limits.{slot_port}
use Rattle.mg_rooms.specs.Registry.{Registry, record_at}
use Rattle.mg_rooms.specs.declared.record.Record.{Record}
use Rattle.mg_rooms.proofs.SoundLemmas.{sound_if}
use Rattle.mg_core.specs.World.{packets_of, world_after_tick}
use Rattle.mg_heard.specs.OpenFlows.{open_flow}
use Rattle.mg_heard.specs.aids.Parties.{IsParty}
use Rattle.mg_heard.specs.declared.open_flow.OpenFlow.{OpenFlow}
use Rattle.mg_heard.specs.declared.party.Party.{Party}
use Rattle.mg_heard.proofs.PartyLemmas.{is_party}
use Rattle.mg_audible.specs.Audible.{bytes_from, is_sent_other}
use Rattle.mg_audible.proofs.FlowLemmas.{few_more, flows_among, flows_more, flows_same}
use Rattle.mg_audible.proofs.differences.audible_flows.Goals as goal
use Rattle.mg_audible.proofs.differences.audible_flows.Goals.{then-differ, else-differ}

pub loop-place-preserved : goal.loop-place-preserved
loop-place-preserved c =
    let rooms = c.args.whole.now.state.engine.rooms in
    let rs = rooms.terminations in
    let i = c.loop-place.place in
    let r = c.termination-listener.result in
    let count = c.terminations-place-end.ensures in
    let there : i < length rs = omega (arith, c.loop-place-test.true, count.value) in
    let few : length rs ≤ termination_limit = omega (arith, count.value, count.few) in
    let is = get_or_from_slice_get rs i r r c.termination-listener.ensures.value in
    let old = c.loop-place.flows.items in
    record {
      few = elim c.if-differ.branch [
        | then-differ b ↦
            let e : c.if-differ.flows.items ≡ b.try_push.new.self.items = λ j. (b.flows-is j).items in
            subst (λ (l : List OpenFlow). length l ≤ i + 1) (sym e)
            (few_more rs i b.flow_to.result old b.try_push.new.self.items b.try_push.result there few
            c.loop-place.invariant.few b.try_push.ensures.ok b.try_push.ensures.full)
        | else-differ b ↦
            let e : c.if-differ.flows.items ≡ old = λ j. (b.flows-is j).items in
            let short = c.loop-place.invariant.few in
            omega (arith, ap length e)
      ];
      flows = λ v w stands sent also.
          let g = (world_after_tick v).gateway in
          let same = stands.gateway.rooms in
          let port : c.port.result ≡ slot_port v.gateway.rooms.limits r.slot =
          c.port.ensures.value ∙ ap (λ (x : Registry). slot_port x.limits r.slot) (sym same) in
          let first : c.outbox.result.now ≡ packets_of v = c.outbox.ensures.value ∙ sent in
          let second : c.outbox-in-loop-place.result.now ≡ packets_of w = c.outbox-in-loop-place.ensures.value ∙ also in
          let other : c.differ.result ≡ is_sent_other v w r = c.differ.ensures.value
          ∙ (λ j. not (bytes_eq (bytes_from (port j) (first j)) (bytes_from (port j) (second j)))) in
          let h = c.loop-place.invariant.flows v w stands sent also in
          elim c.if-differ.branch [
            | then-differ b ↦
                let e : c.if-differ.flows.items ≡ b.try_push.new.self.items = λ j. (b.flows-is j).items in
                let sound = sound_if rooms count.consistent in
                let at : record_at g.rooms r.number ≡ Some r =
                ap (λ (x : Registry). record_at x r.number) same
                ∙ subst (λ (x : Record). record_at rooms x.number ≡ Some x) is (sound.by_number i r there) in
                let talker = c.party_named-party.ensures in
                let party = subst (λ (p : Party). IsParty g p) (sym b.of.ensures.value) (is_party g r at) in
                let x : b.flow_to.result ≡ open_flow v.gateway r.number c.args.talker =
                b.flow_to.ensures.value g (talker.value (world_after_tick v) stands) party
                ∙ ap (λ (p : Party). open_flow g p.number c.party_named-party.result.number) b.of.ensures.value
                ∙ ap (open_flow g r.number) talker.number in
                e ∙ flows_more c.args.talker v w rs i r b.flow_to.result old b.try_push.new.self.items b.try_push.result
                there few is (sym other ∙ b.if-differ.true) x h c.loop-place.invariant.few b.try_push.ensures.ok
                b.try_push.ensures.full
            | else-differ b ↦
                let e : c.if-differ.flows.items ≡ old = λ j. (b.flows-is j).items in
                e ∙ flows_same c.args.talker v w rs i r old there is (sym other ∙ b.if-differ.false) h
          ];
    }

pub returns : goal.returns
returns c =
    let rs = c.args.whole.now.state.engine.rooms.terminations in
    let count = c.terminations-place-end.ensures in
    let past = take_all c.loop-place.place rs (omega (arith, c.loop-place-test.false, count.value)) in
    record {
      few = omega (arith, c.loop-place.invariant.few, count.value, count.few);
      consistent = count.consistent;
      value = λ v w stands sent also.
          c.loop-place.invariant.flows v w stands sent also ∙ ap (flows_among c.args.talker v w) past
          ∙ ap (λ (x : Registry). flows_among c.args.talker v w x.terminations) (sym stands.gateway.rooms);
    }
