use Rattle.std.proofs.Common.{sym, subst}
use Rattle.std.proofs.lemmas.List.Elements.{All-get_or}
use Rattle.mg_engine.specs.declared.seated_member.SeatedMember.{SeatedMember}
use Rattle.mg_engine.specs.aids.Place.{IsOnSeat}
use Rattle.mg_commands.proofs.context_audit.put_pairs_of.Goals as goal

pub audit_pair-requires-clause-second : goal.audit_pair-requires-clause-second
audit_pair-requires-clause-second c =
    let second = c.second-item.result in
    let seated : SeatedMember → Type 0 = IsOnSeat c.args.engine.now.rooms in
    subst seated (sym c.second-item.is) (All-get_or seated c.args.later.now c.loop-second.second-index second
    c.loop-second-test.true c.requires.later)
