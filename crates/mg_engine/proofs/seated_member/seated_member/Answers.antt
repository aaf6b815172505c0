use Rattle.mg_engine.proofs.Common.{Option, subst, IfSome, Member, ExistsAs}
use Rattle.mg_engine.proofs.PlaceLemmas.{on_its_place}
use Rattle.mg_engine.proofs.seated_member.seated_member.Goals as goal

pub returns-clause-place : goal.returns-clause-place
returns-clause-place c =
    let w = c.args.rooms.now in
    let m = c.unwrap-member.result in
    let found = subst (λ (o : Option Member). IfSome o (ExistsAs w c.args.number)) c.unwrap-member.ensures
    c.member.ensures.some in
    (m.record, on_its_place w c.args.number m found)
