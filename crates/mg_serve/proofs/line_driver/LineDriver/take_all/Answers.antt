use Rattle.std.proofs.Common.{Ok, Err, true, false, take, length-take, arith}
use Rattle.mg_ports.specs.Journaled.{ports_seen}
use Rattle.mg_serve.specs.aids.Outside.{outside}
use Rattle.mg_serve.proofs.Running.{read_start, read_more}
use Rattle.mg_serve.proofs.RunEnds.{takes_end, takes_end_fault, takes_quit, takes_broken, takes_unread, takes_enough}
use Rattle.mg_serve.proofs.line_driver.LineDriver.take_all.Goals as goal

pub loop-init : goal.loop-init
loop-init g c = record {
  whole = c.requires.whole;
  few = omega (arith, c.requires.start);
  read = read_start c.args.setup.now (g.R.Read.remaining c.args.reader.now) c.args.self.now.partial
      c.args.self.now.server.core.state (outside (ports_seen (g.P.Ports.Ports.calls c.args.ports.now) (g.P.Ports.Ports.journal c.args.ports.now))
      (g.P.Output.Write.contents c.args.writer.now) c.args.self.now.server.printer c.args.self.now.server.journal) c.requires.partial;
}

pub returns-in_default-clause-value : goal.returns-in_default-clause-value
returns-in_default-clause-value g c =
    takes_unread c.args.setup.now (g.R.Read.remaining c.args.reader.now) (g.R.Read.remaining c.loop.reader)
    (g.R.Read.remaining c.read_some.new.reader) c.loop.self.partial c.args.self.now.server.core.state
    c.loop.self.server.core.state (outside (ports_seen (g.P.Ports.Ports.calls c.args.ports.now) (g.P.Ports.Ports.journal c.args.ports.now))
    (g.P.Output.Write.contents c.args.writer.now) c.args.self.now.server.printer c.args.self.now.server.journal) (outside (ports_seen (g.P.Ports.Ports.calls c.loop.ports) (g.P.Ports.Ports.journal c.loop.ports))
    (g.P.Output.Write.contents c.loop.writer) c.loop.self.server.printer c.loop.self.server.journal)
    c.in_default.ensures.value c.loop.invariant.read

pub returns-in-Ok-finish-clause-value : goal.returns-in-Ok-finish-clause-value
returns-in-Ok-finish-clause-value g c =
    takes_end c.args.setup.now (g.R.Read.remaining c.args.reader.now) (g.R.Read.remaining c.loop.reader)
    (g.R.Read.remaining c.read_some.new.reader) c.loop.self.partial c.args.self.now.server.core.state
    c.loop.self.server.core.state c.finish.new.self.server.core.state
    (outside (ports_seen (g.P.Ports.Ports.calls c.args.ports.now) (g.P.Ports.Ports.journal c.args.ports.now))
    (g.P.Output.Write.contents c.args.writer.now) c.args.self.now.server.printer c.args.self.now.server.journal)
    (outside (ports_seen (g.P.Ports.Ports.calls c.loop.ports) (g.P.Ports.Ports.journal c.loop.ports))
    (g.P.Output.Write.contents c.loop.writer) c.loop.self.server.printer c.loop.self.server.journal)
    (outside (ports_seen (g.P.Ports.Ports.calls c.finish.new.ports) (g.P.Ports.Ports.journal c.finish.new.ports))
    (g.P.Output.Write.contents c.finish.new.writer) c.finish.new.self.server.printer c.finish.new.self.server.journal)
    c.loop.invariant.read (rw c.in_default-read.is at c.in-Ok.ensures.value) c.finish.ensures.value

pub returns-in-Err-clause-value : goal.returns-in-Err-clause-value
returns-in-Err-clause-value g c =
    takes_end_fault c.args.setup.now (g.R.Read.remaining c.args.reader.now) (g.R.Read.remaining c.loop.reader)
    (g.R.Read.remaining c.read_some.new.reader) c.loop.self.partial
    c.args.self.now.server.core.state c.loop.self.server.core.state c.finish.new.self.server.core.state
    (outside (ports_seen (g.P.Ports.Ports.calls c.args.ports.now) (g.P.Ports.Ports.journal c.args.ports.now))
    (g.P.Output.Write.contents c.args.writer.now) c.args.self.now.server.printer c.args.self.now.server.journal)
    (outside (ports_seen (g.P.Ports.Ports.calls c.loop.ports) (g.P.Ports.Ports.journal c.loop.ports))
    (g.P.Output.Write.contents c.loop.writer) c.loop.self.server.printer c.loop.self.server.journal)
    (outside (ports_seen (g.P.Ports.Ports.calls c.finish.new.ports) (g.P.Ports.Ports.journal c.finish.new.ports))
    (g.P.Output.Write.contents c.finish.new.writer) c.finish.new.self.server.printer c.finish.new.self.server.journal)
    c.loop.invariant.read (rw c.in_default-read.is at c.in-Ok.ensures.value) c.loop.invariant.whole
    c.in-Err.ensures.failed c.finish.ensures.value

pub returns-in-Ok-true-clause-value : goal.returns-in-Ok-true-clause-value
returns-in-Ok-true-clause-value g c =
    let read = rw c.in-Some.is at c.in-Ok.ensures.value in
    takes_quit c.args.setup.now (g.R.Read.remaining c.args.reader.now) (g.R.Read.remaining c.read_some.new.reader)
    c.take_bytes.new.self.partial c.args.self.now.server.core.state c.take_bytes.new.self.server.core.state
    (outside (ports_seen (g.P.Ports.Ports.calls c.args.ports.now) (g.P.Ports.Ports.journal c.args.ports.now))
    (g.P.Output.Write.contents c.args.writer.now) c.args.self.now.server.printer c.args.self.now.server.journal)
    (outside (ports_seen (g.P.Ports.Ports.calls c.take_bytes.new.ports) (g.P.Ports.Ports.journal c.take_bytes.new.ports))
    (g.P.Output.Write.contents c.take_bytes.new.writer) c.take_bytes.new.self.server.printer c.take_bytes.new.self.server.journal)
    (read_more c.args.setup.now (g.R.Read.remaining c.args.reader.now) (g.R.Read.remaining c.loop.reader)
    (g.R.Read.remaining c.read_some.new.reader) (take c.in-Some.n c.read_some.new.buffer) c.loop.self.partial
    c.take_bytes.new.self.partial (Ok true) c.args.self.now.server.core.state c.loop.self.server.core.state
    c.take_bytes.new.self.server.core.state (outside (ports_seen (g.P.Ports.Ports.calls c.args.ports.now) (g.P.Ports.Ports.journal c.args.ports.now))
    (g.P.Output.Write.contents c.args.writer.now) c.args.self.now.server.printer c.args.self.now.server.journal) (outside (ports_seen (g.P.Ports.Ports.calls c.loop.ports) (g.P.Ports.Ports.journal c.loop.ports))
    (g.P.Output.Write.contents c.loop.writer) c.loop.self.server.printer c.loop.self.server.journal)
    (outside (ports_seen (g.P.Ports.Ports.calls c.take_bytes.new.ports) (g.P.Ports.Ports.journal c.take_bytes.new.ports))
    (g.P.Output.Write.contents c.take_bytes.new.writer) c.take_bytes.new.self.server.printer c.take_bytes.new.self.server.journal)
    c.loop.invariant.read read.1 (rw c.in-Ok-true.field-0-test at (rw c.in-Ok-true.is at c.take_bytes.ensures.value)))

pub returns-in-Err-take_bytes-clause-value : goal.returns-in-Err-take_bytes-clause-value
returns-in-Err-take_bytes-clause-value g c =
    let read = rw c.in-Some.is at c.in-Ok.ensures.value in
    takes_broken c.args.setup.now (g.R.Read.remaining c.args.reader.now) (g.R.Read.remaining c.read_some.new.reader)
    c.take_bytes.new.self.partial c.in-Err-take_bytes.field-0 c.args.self.now.server.core.state
    c.take_bytes.new.self.server.core.state (outside (ports_seen (g.P.Ports.Ports.calls c.args.ports.now) (g.P.Ports.Ports.journal c.args.ports.now))
    (g.P.Output.Write.contents c.args.writer.now) c.args.self.now.server.printer c.args.self.now.server.journal)
    (outside (ports_seen (g.P.Ports.Ports.calls c.take_bytes.new.ports) (g.P.Ports.Ports.journal c.take_bytes.new.ports))
    (g.P.Output.Write.contents c.take_bytes.new.writer) c.take_bytes.new.self.server.printer c.take_bytes.new.self.server.journal)
    (read_more c.args.setup.now (g.R.Read.remaining c.args.reader.now) (g.R.Read.remaining c.loop.reader)
    (g.R.Read.remaining c.read_some.new.reader) (take c.in-Some.n c.read_some.new.buffer) c.loop.self.partial
    c.take_bytes.new.self.partial (Err c.in-Err-take_bytes.field-0) c.args.self.now.server.core.state
    c.loop.self.server.core.state c.take_bytes.new.self.server.core.state (outside (ports_seen (g.P.Ports.Ports.calls c.args.ports.now) (g.P.Ports.Ports.journal c.args.ports.now))
    (g.P.Output.Write.contents c.args.writer.now) c.args.self.now.server.printer c.args.self.now.server.journal)
    (outside (ports_seen (g.P.Ports.Ports.calls c.loop.ports) (g.P.Ports.Ports.journal c.loop.ports))
    (g.P.Output.Write.contents c.loop.writer) c.loop.self.server.printer c.loop.self.server.journal) (outside (ports_seen (g.P.Ports.Ports.calls c.take_bytes.new.ports) (g.P.Ports.Ports.journal c.take_bytes.new.ports))
    (g.P.Output.Write.contents c.take_bytes.new.writer) c.take_bytes.new.self.server.printer c.take_bytes.new.self.server.journal)
    c.loop.invariant.read read.1 (rw c.in-Err-take_bytes.is at c.take_bytes.ensures.value))

pub loop-preserved : goal.loop-preserved
loop-preserved g c =
    let read = rw c.in-Some.is at c.in-Ok.ensures.value in
    record {
      whole = c.in-Ok-false.ensures.whole;
      few = omega (
        arith,
        c.loop.invariant.few,
        c.take_bytes.ensures.few,
        length-take c.in-Some.n c.read_some.new.buffer,
        c.read_some.array_long,
      );
      read = read_more c.args.setup.now (g.R.Read.remaining c.args.reader.now) (g.R.Read.remaining c.loop.reader)
          (g.R.Read.remaining c.read_some.new.reader) (take c.in-Some.n c.read_some.new.buffer) c.loop.self.partial
          c.take_bytes.new.self.partial (Ok false) c.args.self.now.server.core.state c.loop.self.server.core.state
          c.take_bytes.new.self.server.core.state (outside (ports_seen (g.P.Ports.Ports.calls c.args.ports.now) (g.P.Ports.Ports.journal c.args.ports.now))
          (g.P.Output.Write.contents c.args.writer.now) c.args.self.now.server.printer c.args.self.now.server.journal) (outside (ports_seen (g.P.Ports.Ports.calls c.loop.ports) (g.P.Ports.Ports.journal c.loop.ports))
          (g.P.Output.Write.contents c.loop.writer) c.loop.self.server.printer c.loop.self.server.journal)
          (outside (ports_seen (g.P.Ports.Ports.calls c.take_bytes.new.ports) (g.P.Ports.Ports.journal c.take_bytes.new.ports))
          (g.P.Output.Write.contents c.take_bytes.new.writer) c.take_bytes.new.self.server.printer c.take_bytes.new.self.server.journal)
          c.loop.invariant.read read.1 (rw c.in-Ok-false.field-0-test at (rw c.in-Ok-false.is at
          c.take_bytes.ensures.value));
    }

pub returns-clause-value : goal.returns-clause-value
returns-clause-value g c =
    takes_enough c.args.setup.now (g.R.Read.remaining c.args.reader.now) (g.R.Read.remaining c.loop.reader)
    c.loop.self.partial c.args.self.now.server.core.state c.loop.self.server.core.state
    (outside (ports_seen (g.P.Ports.Ports.calls c.args.ports.now) (g.P.Ports.Ports.journal c.args.ports.now))
    (g.P.Output.Write.contents c.args.writer.now) c.args.self.now.server.printer c.args.self.now.server.journal)
    (outside (ports_seen (g.P.Ports.Ports.calls c.loop.ports) (g.P.Ports.Ports.journal c.loop.ports))
    (g.P.Output.Write.contents c.loop.writer) c.loop.self.server.printer c.loop.self.server.journal)
    c.loop.invariant.read

pub finish-requires-clause-few : goal.finish-requires-clause-few
finish-requires-clause-few g c = omega (arith, c.loop.invariant.few, c.loop-test.true)

pub take_bytes-requires-clause-few : goal.take_bytes-requires-clause-few
take_bytes-requires-clause-few g c = omega (
  arith,
  c.loop.invariant.few,
  c.loop-test.true,
  length-take c.in-Some.n c.read_some.new.buffer,
  c.read_some.array_long,
)
