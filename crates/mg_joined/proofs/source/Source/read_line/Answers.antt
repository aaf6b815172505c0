use Rattle.std.proofs.Common.{rules}
use Rattle.mg_joined.proofs.LineLemmas.{reads_line, reads_none}
use Rattle.mg_joined.proofs.source.Source.read_line.Goals as goal

pub returns-then-branch-eq0-clause-value : goal.returns-then-branch-eq0-clause-value
returns-then-branch-eq0-clause-value g c = λ before left known is_before.
    reads_none before left c.args.line.now.items c.read_until.new.buf.items (g.B.Read.remaining c.args.self.now.reader)
    (g.B.Read.remaining c.read_until.new.self) c.args.self.now.chain known c.requires.empty
    c.in_ok-read_until.ensures.bytes c.in_ok-read_until.ensures.rest
    (c.in_ok-read_until.ensures.end c.if-branch-eq0.true) is_before

pub returns-clause-value : goal.returns-clause-value
returns-clause-value g c = λ before left known is_before.
    reads_line before left c.args.line.now.items c.read_until.new.buf.items c.as_slice.result.now
    (g.B.Read.remaining c.args.self.now.reader) (g.B.Read.remaining c.read_until.new.self) c.args.self.now.chain
    c.add.new.self known c.requires.empty c.in_ok-read_until.ensures.bytes c.in_ok-read_until.ensures.rest
    c.as_slice.ensures.value (search rules) is_before c.add.ensures.value
