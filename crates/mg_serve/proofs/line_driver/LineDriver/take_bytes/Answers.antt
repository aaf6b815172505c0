use Rattle.std.proofs.Common.{sym, ◌∙◌, false, arith}
use Rattle.std.proofs.lemmas.List.{take_all}
use Rattle.std.proofs.lemmas.Result.{err_from_is_err_and}
use Rattle.mg_ports.specs.Journaled.{ports_seen}
use Rattle.mg_serve.specs.aids.Outside.{outside}
use Rattle.mg_serve.proofs.Running.{bytes_start, index_plain, index_feed, index_quit, index_fault}
use Rattle.mg_serve.proofs.line_driver.LineDriver.take_bytes.Goals as goal

pub loop-b-init : goal.loop-b-init
loop-b-init g c = record {
  whole = c.requires.whole;
  few = omega arith;
  taken = λ partial is. bytes_start c.args.setup.now partial c.args.self.now.partial c.args.self.now.server.core.state
      (outside (ports_seen (g.P.Ports.Ports.calls c.args.ports.now) (g.P.Ports.Ports.journal c.args.ports.now))
      (g.P.Output.Write.contents c.args.writer.now) c.args.self.now.server.printer c.args.self.now.server.journal) is;
}

pub loop-b-preserved-then-b-ne10 : goal.loop-b-preserved-then-b-ne10
loop-b-preserved-then-b-ne10 g c = record {
  whole = c.loop-b.invariant.whole;
  few = omega (arith, c.loop-b.invariant.few);
  taken = λ partial is.
      index_plain c.args.setup.now partial c.args.bytes.now c.loop-b.self.partial c.push.new.self c.loop-b.b-index
      c.args.self.now.server.core.state c.loop-b.self.server.core.state (outside (ports_seen (g.P.Ports.Ports.calls c.args.ports.now) (g.P.Ports.Ports.journal c.args.ports.now))
      (g.P.Output.Write.contents c.args.writer.now) c.args.self.now.server.printer c.args.self.now.server.journal)
      (outside (ports_seen (g.P.Ports.Ports.calls c.loop-b.ports) (g.P.Ports.Ports.journal c.loop-b.ports))
      (g.P.Output.Write.contents c.loop-b.writer) c.loop-b.self.server.printer c.loop-b.self.server.journal)
      c.loop-b-test.true c.if-b-ne10.true c.push.ensures.value (c.loop-b.invariant.taken partial is);
}

pub loop-b-preserved : goal.loop-b-preserved
loop-b-preserved g c = record {
  whole = c.in_ok-end_line.ensures.whole;
  few = omega (arith, c.loop-b.invariant.few, c.end_line.ensures.few);
  taken = λ partial is.
      index_feed c.args.setup.now partial c.args.bytes.now c.loop-b.self.partial c.end_line.new.self.partial c.loop-b.b-index
      false c.args.self.now.server.core.state c.loop-b.self.server.core.state c.end_line.new.self.server.core.state
      (outside (ports_seen (g.P.Ports.Ports.calls c.args.ports.now) (g.P.Ports.Ports.journal c.args.ports.now))
      (g.P.Output.Write.contents c.args.writer.now) c.args.self.now.server.printer c.args.self.now.server.journal) (outside (ports_seen (g.P.Ports.Ports.calls c.loop-b.ports) (g.P.Ports.Ports.journal c.loop-b.ports))
      (g.P.Output.Write.contents c.loop-b.writer) c.loop-b.self.server.printer c.loop-b.self.server.journal) (outside (ports_seen (g.P.Ports.Ports.calls c.end_line.new.ports) (g.P.Ports.Ports.journal c.end_line.new.ports))
      (g.P.Output.Write.contents c.end_line.new.writer) c.end_line.new.self.server.printer c.end_line.new.self.server.journal)
      c.loop-b-test.true c.if-b-ne10.false (c.loop-b.invariant.taken partial is)
      (sym c.if-branch.false ∙ c.in_ok-end_line.ensures.quit) c.in_ok-end_line.ensures.partial c.end_line.ensures.value;
}

pub end_line-requires-clause-few : goal.end_line-requires-clause-few
end_line-requires-clause-few g c = omega (arith, c.loop-b.invariant.few, c.loop-b-test.true, c.requires.few)

pub returns-then-branch : goal.returns-then-branch
returns-then-branch g c = record {
  few = omega (arith, c.loop-b.invariant.few, c.end_line.ensures.few, c.loop-b-test.true);
  whole = c.in_ok-end_line.ensures.whole;
  failed = tt;
  value =
      λ partial is.
      index_quit c.args.setup.now partial c.args.bytes.now c.loop-b.self.partial c.end_line.new.self.partial c.loop-b.b-index
      c.args.self.now.server.core.state c.loop-b.self.server.core.state c.end_line.new.self.server.core.state
      (outside (ports_seen (g.P.Ports.Ports.calls c.args.ports.now) (g.P.Ports.Ports.journal c.args.ports.now))
      (g.P.Output.Write.contents c.args.writer.now) c.args.self.now.server.printer c.args.self.now.server.journal) (outside (ports_seen (g.P.Ports.Ports.calls c.loop-b.ports) (g.P.Ports.Ports.journal c.loop-b.ports))
      (g.P.Output.Write.contents c.loop-b.writer) c.loop-b.self.server.printer c.loop-b.self.server.journal) (outside (ports_seen (g.P.Ports.Ports.calls c.end_line.new.ports) (g.P.Ports.Ports.journal c.end_line.new.ports))
      (g.P.Output.Write.contents c.end_line.new.writer) c.end_line.new.self.server.printer c.end_line.new.self.server.journal)
      c.loop-b-test.true c.if-b-ne10.false (c.loop-b.invariant.taken partial is)
      (sym c.if-branch.true ∙ c.in_ok-end_line.ensures.quit) c.in_ok-end_line.ensures.partial
      c.end_line.ensures.value;
}

pub returns-in_err-end_line : goal.returns-in_err-end_line
returns-in_err-end_line g c = record {
  few = omega (arith, c.loop-b.invariant.few, c.end_line.ensures.few, c.loop-b-test.true);
  whole =
      rw (err_from_is_err_and c.from_residual.result c.from_residual.ensures.1).1 tt;
  failed =
      rw (err_from_is_err_and c.from_residual.result c.from_residual.ensures.1).1 c.in_err-end_line.ensures.failed;
  value =
      λ partial is.
      let p = err_from_is_err_and c.from_residual.result c.from_residual.ensures.1 in
      rw p.1 (index_fault c.args.setup.now partial c.args.bytes.now c.loop-b.self.partial c.end_line.new.self.partial
      c.loop-b.b-index _ c.args.self.now.server.core.state c.loop-b.self.server.core.state
      c.end_line.new.self.server.core.state (outside (ports_seen (g.P.Ports.Ports.calls c.args.ports.now) (g.P.Ports.Ports.journal c.args.ports.now))
      (g.P.Output.Write.contents c.args.writer.now) c.args.self.now.server.printer c.args.self.now.server.journal) (outside (ports_seen (g.P.Ports.Ports.calls c.loop-b.ports) (g.P.Ports.Ports.journal c.loop-b.ports))
      (g.P.Output.Write.contents c.loop-b.writer) c.loop-b.self.server.printer c.loop-b.self.server.journal)
      (outside (ports_seen (g.P.Ports.Ports.calls c.end_line.new.ports) (g.P.Ports.Ports.journal c.end_line.new.ports))
      (g.P.Output.Write.contents c.end_line.new.writer) c.end_line.new.self.server.printer c.end_line.new.self.server.journal)
      c.loop-b-test.true c.if-b-ne10.false (c.loop-b.invariant.taken partial is) c.loop-b.invariant.whole
      c.in_err-end_line.ensures.failed
      c.end_line.ensures.value);
}

pub returns : goal.returns
returns g c = record {
  few = omega (arith, c.loop-b.invariant.few, c.loop-b-test.false);
  whole = c.loop-b.invariant.whole;
  failed = tt;
  value =
      λ partial is. rw (take_all c.loop-b.b-index c.args.bytes.now c.loop-b-test.false) at (c.loop-b.invariant.taken partial
      is);
}
