use Rattle.mg_bytes.proofs.AppendedLemmas.{after}
use Rattle.mg_heard.proofs.line.push_table_head.Goals as goal

pub returns : goal.returns
returns c = record {
  value = after c.args.out.now c.push.new.self c.push-3.new.self _ _ c.push.ensures.value
      (after c.push.new.self c.push-2.new.self c.push-3.new.self _ _ c.push-2.ensures.value c.push-3.ensures.value);
}
