use Rattle.std.proofs.Common.{◌≡◌, map, drop}
use Rattle.mg_reply.specs.Reply.{after_all}
use Rattle.mg_engine.specs.Gateway.{Gateway}
use Rattle.mg_engine.specs.aids.Stands.{StandsFor}
use Rattle.mg_commands.specs.ContextProperties.{audit_pairs}
use Rattle.mg_commands.proofs.context_audit.put_pairs.Given as goal

abbrev pub invariant-loop-i : goal.invariant-loop-i
invariant-loop-i l = (w : Gateway) → StandsFor l.engine w →
    after_all l.reply (audit_pairs w (drop l.i (map (λ m. m.number) l.members))) ≡
    after_all l.initial.reply (audit_pairs w (map (λ m. m.number) l.members))
