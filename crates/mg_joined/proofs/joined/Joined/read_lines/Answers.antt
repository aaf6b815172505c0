use Rattle.mg_joined.proofs.JoinLemmas.{ends_file, joins_line}
use Rattle.mg_joined.proofs.joined.Joined.read_lines.Goals as goal

pub invariant_of-self-clause-joining : goal.invariant_of-self-clause-joining
invariant_of-self-clause-joining g c =
    joins_line g.B.Read.remaining g.K.TextsKey.texts c.args.self.now.is_broken c.args.self.now.source c.read_lines.new.self
    c.args.self.now.later.items c.in-Ok-true.field-0 c.read_lines.new.lines.items c.in-Ok-true.ensures.value
    c.args.self.now.joining

pub invariant_of-self-in-Ok-false-clause-joining : goal.invariant_of-self-in-Ok-false-clause-joining
invariant_of-self-in-Ok-false-clause-joining g c =
    joins_line g.B.Read.remaining g.K.TextsKey.texts c.args.self.now.is_broken c.args.self.now.source c.read_lines.new.self
    c.args.self.now.later.items c.in-Ok-false.field-0 c.read_lines.new.lines.items c.in-Ok-false.ensures.value
    c.args.self.now.joining

pub returns-in-Ok-false-clause-none : goal.returns-in-Ok-false-clause-none
returns-in-Ok-false-clause-none g c = λ none. (
  c.in-Ok-false.ensures.some.1 c.in-Ok-false.field-0-test,
  ends_file g.B.Read.remaining g.K.TextsKey.texts c.args.self.now.is_broken c.args.self.now.source c.read_lines.new.self
      c.args.self.now.later.items c.read_lines.new.lines.items c.requires.whole
      (rw c.in-Ok-false.field-0-test at c.in-Ok-false.ensures.value) c.args.self.now.joining,
)
