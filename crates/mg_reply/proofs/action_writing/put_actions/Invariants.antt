use Rattle.std.proofs.Common.{◌≡◌, ◌≤◌, [], take, drop}
use Rattle.mg_reply.specs.aids.Draft.{drafted}
use Rattle.mg_reply.specs.Written.{actions_text}
use Rattle.mg_reply.proofs.action_writing.put_actions.Given as goal

abbrev pub invariant-loop-i : goal.invariant-loop-i
invariant-loop-i l = record {
  after : l.from ≤ l.i;
  same : drafted l.draft (actions_text l.mark (drop l.from (take l.i l.items)) (drop l.i l.items)) ≡
      drafted l.initial.draft (actions_text [] [] l.items);
}
