use Rattle.mg_bytes.proofs.AppendedLemmas.{after}
use Rattle.mg_heard.proofs.line.push_head.Goals as goal

pub returns-in-Csv : goal.returns-in-Csv
returns-in-Csv c = record {
  value = rw c.in-Csv.is (after c.args.out.now c.push.new.self c.push-in-Csv.new.self _ _ c.push.ensures.value
      c.push-in-Csv.ensures.value);
}
