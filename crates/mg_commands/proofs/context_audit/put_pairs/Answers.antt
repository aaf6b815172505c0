use Rattle.std.proofs.Common.{List, map, get_or, ◌+◌, ap, sym, subst, ◌∙◌, arith}
use Rattle.std.specs.Prelude.{All}
use Rattle.std.proofs.lemmas.List.{length-map}
use Rattle.std.proofs.lemmas.List.Elements.{All-get_or, All-drop}
use Rattle.mg_engine.specs.declared.seated_member.SeatedMember.{SeatedMember}
use Rattle.mg_engine.specs.aids.Place.{IsOnSeat}
use Rattle.mg_reply.specs.Reply.{after_all}
use Rattle.mg_commands.specs.ContextProperties.{audit_pair}
use Rattle.mg_commands.proofs.PutLemmas.{numbers, seated_told, members_told}
use Rattle.mg_commands.proofs.context_audit.put_pairs.Goals as goal

pub put_pairs_of-requires-clause-first : goal.put_pairs_of-requires-clause-first
put_pairs_of-requires-clause-first c =
    let seated : SeatedMember → Type 0 = IsOnSeat c.args.engine.now.rooms in
    subst seated (sym c.index-members-i.is) (All-get_or seated c.args.members.now c.loop-i.i c.index-members-i.result
    c.loop-i-test.true c.requires.members)

pub put_pairs_of-requires-clause-later : goal.put_pairs_of-requires-clause-later
put_pairs_of-requires-clause-later c =
    let seated : SeatedMember → Type 0 = IsOnSeat c.args.engine.now.rooms in
    subst (All seated) (sym c.split_at.ensures.back)
    (All-drop seated (c.loop-i.i + 1) c.args.members.now c.requires.members)

pub loop-i-preserved : goal.loop-i-preserved
loop-i-preserved c w s =
    let ms = c.args.members.now in
    let i = c.loop-i.i in
    let first = c.index-members-i.result in
    let put = c.put_pairs_of.ensures.value w s
    ∙ ap (λ (m : SeatedMember). after_all c.loop-i.reply
    (map (λ n. audit_pair w m.number n.number) c.split_at.result.1.now)) c.index-members-i.is
    ∙ ap (λ (later : List SeatedMember). after_all c.loop-i.reply
    (map (λ n. audit_pair w (get_or ms i first).number n.number) later)) c.split_at.ensures.back in
    seated_told w ms i first c.loop-i.reply c.put_pairs_of.new.reply _ c.loop-i-test.true put (c.loop-i.invariant w s)

pub returns : goal.returns
returns c = record {
  value = λ w s. members_told w (numbers c.args.members.now) c.loop-i.i c.loop-i.reply _
      (omega (arith, c.loop-i-test.false, length-map c.args.members.now (λ (m : SeatedMember). m.number)))
      (c.loop-i.invariant w s);
}
