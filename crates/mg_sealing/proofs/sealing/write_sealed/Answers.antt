use Rattle.std.proofs.Common.{rules, arith}
use Rattle.mg_sealing.proofs.SealedLemmas.{copied_if, goes_on, starts}
use Rattle.mg_sealing.proofs.sealing.write_sealed.Goals as goal

pub returns-then-branch-eq0 : goal.returns-then-branch-eq0
returns-then-branch-eq0 g c = record {
  value = copied_if c.put_last_seal.result (g.R.Read.remaining c.args.reader.now) (g.R.Read.remaining c.loop.reader)
      (g.W.Write.contents c.args.output.now) (g.W.Write.contents c.loop.output)
      (g.W.Write.contents c.put_last_seal.new.output) c.loop.chain c.loop.ticks c.loop.is_due
      c.loop.invariant.1 (c.in_ok-read_until.ensures.end c.if-branch-eq0.true) c.put_last_seal.ensures.prints;
}

pub loop-init : goal.loop-init
loop-init g c = (
  omega arith,
  starts (g.R.Read.remaining c.args.reader.now) (g.W.Write.contents c.args.output.now) c.new-chain.result c.new-chain.ensures.value,
)

pub loop-preserved : goal.loop-preserved
loop-preserved g c = (
  c.ticks_with-ticks.ensures.few,
  goes_on (g.R.Read.remaining c.args.reader.now) (g.R.Read.remaining c.loop.reader)
      (g.R.Read.remaining c.read_until.new.self) (g.W.Write.contents c.args.output.now)
      (g.W.Write.contents c.loop.output) (g.W.Write.contents c.put_line.new.output) c.loop.chain c.put_line.new.chain
      c.loop.ticks c.ticks_with-ticks.result c.loop.is_due c.needs_seal-is_due.result
      c.clear.new.self.items c.read_until.new.buf.items c.as_slice-text.result.now c.loop.invariant.1
      c.in_ok-read_until.ensures.bytes c.clear.ensures.items c.as_slice-text.ensures.value (search rules)
      c.in_ok-read_until.ensures.rest c.ticks_with-ticks.ensures.value c.needs_seal-is_due.ensures.value
      c.in_ok-put_line.ensures.hash c.in_ok-put_line.ensures.prints,
)
