use Rattle.std.proofs.Common.{rules, ◌≡◌, ◌+◌, ◌≤◌, ◌-◌, ◌^◌, ◌∙◌, ℕ, List, length, map, Ok, refl, ap, sym, arith}
use Rattle.std.proofs.lemmas.List.{length-map}
use Rattle.mg_engine.specs.declared.datagram.Datagram.{Datagram}
use Rattle.mg_core.specs.Run.{lines_for}
use Rattle.mg_core.specs.Step.{Packet}
use Rattle.mg_core.specs.World.{capped}
use Rattle.mg_core.proofs.LineLemmas.{sent_at_once, tick_steps}
use Rattle.mg_core.proofs.line_runner.LineRunner.take_tick.Goals as goal

pub returns : goal.returns
returns g c =
    let n = c.args.self.now.sent in
    let outbox = c.outbox.result.now in
    let written : c.as_slice.result.now ≡ lines_for (map Packet outbox) = search rules in
    let within : n ≤ 2 ^ 64 - 1 = omega arith in
    let as_many : length c.outbox-2.result.now ≡ length (map Packet outbox) =
    ap (λ (l : List Datagram). length l) (c.outbox-2.ensures.value ∙ sym c.outbox.ensures.value) ∙
    sym (length-map outbox Packet) in
    record {
      value = tick_steps c.args.self.now.core.state c.tick.new.self.state outbox c.as_slice.result.now n
          c.saturating_add-self.result
          (g.W.Write.contents c.args.writer.now) (g.W.Write.contents c.write_whole.new.writer) (Ok tt)
          (λ w stands. c.outbox.ensures.value ∙ c.tick.ensures.sent w stands) c.tick.ensures.next written
          c.in_ok-write_whole.ensures.value
          (c.saturating_add-self.ensures ∙ ap (λ (k : ℕ). capped (n + k)) as_many ∙
          sym (sent_at_once n (map Packet outbox) within));
      watched = refl;
    }
