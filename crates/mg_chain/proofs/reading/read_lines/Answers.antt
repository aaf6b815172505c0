use Rattle.std.proofs.Common.{rules, ap, arith}
use Rattle.mg_chain.specs.declared.seals.Seals.{Seals}
use Rattle.mg_chain.proofs.ReadLemmas.{goes_on, linked, starts}
use Rattle.mg_chain.proofs.reading.read_lines.Goals as goal

pub returns-then-branch-eq0 : goal.returns-then-branch-eq0
returns-then-branch-eq0 g c = record {
  value = linked (g.R.Read.remaining c.args.reader.now) (g.R.Read.remaining c.loop-number.reader)
      c.loop-number.check.chain c.loop-number.check.seals (record { seals = c.seals.result; end = c.end.result })
      c.loop-number.number c.loop-number.invariant.1 (c.in_ok-read_until.ensures.end c.if-branch-eq0.true)
      c.seals.ensures.value c.end.ensures.value;
}

pub loop-number-preserved : goal.loop-number-preserved
loop-number-preserved g c = (
  omega (arith, c.take_line.ensures.few),
  goes_on (g.R.Read.remaining c.args.reader.now) (g.R.Read.remaining c.loop-number.reader)
      (g.R.Read.remaining c.read_until.new.self) c.loop-number.check.chain c.take_line.new.self.chain
      c.loop-number.check.seals c.take_line.new.self.seals c.loop-number.number c.clear.new.self.items
      c.read_until.new.buf.items c.as_slice.result.now c.loop-number.invariant.1 c.in_ok-read_until.ensures.bytes
      c.clear.ensures.items c.as_slice.ensures.value (search rules) c.in_ok-read_until.ensures.rest c.take_line.ensures.value,
)

pub loop-number-init : goal.loop-number-init
loop-number-init g c = (
  omega (arith, ap (λ (s : Seals). s.count) c.new-check.ensures.seals),
  starts (g.R.Read.remaining c.args.reader.now) c.new-check.result.chain c.new-check.result.seals c.new-check.ensures.text
      c.new-check.ensures.seals,
)

pub take_line-requires : goal.take_line-requires
take_line-requires g c = record { few = c.loop-number.invariant.0 }
