use Rattle.std.specs.Io.KnownBytes.{Consumes}
use Rattle.mg_hearing.proofs.checkpoint.read_words.Given as goal

abbrev pub invariant-loop : goal.invariant-loop
invariant-loop g l =
    Consumes (g.R.Read.remaining l.initial.reader) (g.R.Read.remaining l.reader) l.words.items
