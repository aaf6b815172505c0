use Rattle.std.proofs.Common.{rules}
use Rattle.mg_joined.proofs.LineLemmas.{reads_lines, taken_too}
use Rattle.mg_joined.proofs.source.Source.read_lines.Goals as goal

pub returns-in_err-take_buffered-clause-none_lost : goal.returns-in_err-take_buffered-clause-none_lost
returns-in_err-take_buffered-clause-none_lost g c =
    taken_too (g.B.Read.remaining c.args.self.now.reader) (g.B.Read.remaining c.read_until.new.self)
    (g.B.Read.remaining c.take_buffered.new.reader) c.args.lines.now.items c.read_until.new.buf.items
    c.take_buffered.new.lines.items c.requires.empty c.in_ok-read_until.ensures.none_lost c.take_buffered.ensures.value

pub returns-clause-value : goal.returns-clause-value
returns-clause-value g c = λ before left known is_before.
    reads_lines before left c.args.lines.now.items c.read_until.new.buf.items c.take_buffered.new.lines.items
    c.as_slice.result.now (g.B.Read.remaining c.args.self.now.reader) (g.B.Read.remaining c.read_until.new.self)
    (g.B.Read.remaining c.take_buffered.new.reader) c.args.self.now.chain c.add.new.self known c.requires.empty
    c.in_ok-read_until.ensures.bytes c.in_ok-read_until.ensures.rest (search rules) c.take_buffered.ensures.value
    c.as_slice.ensures.value is_before c.add.ensures.value
