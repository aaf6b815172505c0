use Rattle.std.proofs.Common.{◌≡◌, map, drop}
use Rattle.mg_reply.specs.Reply.{after_all}
use Rattle.mg_engine.specs.Gateway.{Gateway}
use Rattle.mg_engine.specs.aids.Stands.{StandsFor}
use Rattle.mg_commands.specs.ContextProperties.{audit_pair}
use Rattle.mg_commands.proofs.context_audit.put_pairs_of.Given as goal

abbrev pub invariant-loop-second : goal.invariant-loop-second
invariant-loop-second l = (w : Gateway) → StandsFor l.engine w →
    after_all l.reply (map (λ m. audit_pair w l.first.number m.number) (drop l.second-index l.later)) ≡
    after_all l.initial.reply (map (λ m. audit_pair w l.first.number m.number) l.later)
