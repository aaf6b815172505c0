use Rattle.mg_core.specs.Flows.{lines_of_old}
use Rattle.mg_core.proofs.ChangeLemmas.{short_more, text_more}
use Rattle.mg_core.proofs.changes.push_all_old.Goals as goal

pub loop-old-preserved : goal.loop-old-preserved
loop-old-preserved c =
    let f = lines_of_old c.args.ticks c.args.after.now in
    record {
      value = text_more f c.args.before.now c.loop-old.old-index c.old-item.result c.args.out.now c.loop-old.out
          c.push_old.new.out c.loop-old-test.true c.old-item.is c.loop-old.invariant.value c.push_old.ensures.value;
      short = short_more f c.args.before.now c.loop-old.old-index c.old-item.result 61 c.loop-old-test.true
          c.old-item.is c.loop-old.invariant.short c.push_old.ensures.short;
    }
