use Rattle.mg_outlet.proofs.PassingLemmas.{drained_more, drained_refused}
use Rattle.mg_outlet.proofs.passing.pass_all.Goals as goal
use Rattle.mg_outlet.proofs.passing.pass_all.Goals.{in-Ok, in-Err}

pub returns-in-Err-2-clause-passes : goal.returns-in-Err-2-clause-passes
returns-in-Err-2-clause-passes g c =
    let (offered, taken, wrote, oldest, (none, same)) = c.in-Err.ensures.wrote in
    drained_refused c.args.queue.now.items c.loop.queue.items c.pass_chunk.new.queue.items offered taken
    (g.P.Pipe.calls c.args.pipe.now) (g.P.Pipe.calls c.loop.pipe) (g.P.Pipe.calls c.pass_chunk.new.pipe)
    c.loop.invariant.passes wrote none same

pub loop-preserved : goal.loop-preserved
loop-preserved g c = record {
  passes = elim c.match-pass_chunk.branch [
    | in-Ok w ↦
        let (offered, taken, wrote, oldest, took) = w.in-Ok.ensures.wrote in
        drained_more c.args.queue.now.items c.loop.queue.items c.pass_chunk.new.queue.items offered taken
        (g.P.Pipe.calls c.args.pipe.now) (g.P.Pipe.calls c.loop.pipe) (g.P.Pipe.calls c.pass_chunk.new.pipe)
        c.loop.invariant.passes wrote oldest took
    | in-Err w ↦
        let (offered, taken, wrote, oldest, (none, same)) = w.in-Err.ensures.wrote in
        drained_refused c.args.queue.now.items c.loop.queue.items c.pass_chunk.new.queue.items offered taken
        (g.P.Pipe.calls c.args.pipe.now) (g.P.Pipe.calls c.loop.pipe) (g.P.Pipe.calls c.pass_chunk.new.pipe)
        c.loop.invariant.passes wrote none same
  ];
  limit = cc (c.pass_chunk.ensures.limit, c.loop.invariant.limit);
}
