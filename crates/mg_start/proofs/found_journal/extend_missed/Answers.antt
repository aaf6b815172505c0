use Rattle.std.proofs.Common.{◌∙◌}
use Rattle.std.proofs.lemmas.Bool.{ne_eqb}
use Rattle.mg_start.proofs.JournalLemmas.{missed_extended}
use Rattle.mg_start.proofs.found_journal.extend_missed.Goals as goal

pub returns-clause-value : goal.returns-clause-value
returns-clause-value c =
    missed_extended c.args.missed c.args.lines.now.items c.extend.new.lines.items c.extend-2.new.lines.items
    c.extend-3.new.lines.items c.extend-4.new.lines.items c.as_bytes.result.now c.as_slice.result.now
    (ne_eqb c.args.missed 0 c.if-missed-eq0.false)
    c.extend.ensures.value c.extend-2.ensures.value c.extend-3.ensures.value c.extend-4.ensures.value
    (c.as_bytes.ensures.value ∙ c.format.ensures.text) (c.as_slice.ensures.value ∙ c.ticks_line.ensures.value)
