use Rattle.std.proofs.Common.{sym, ◌∙◌}
use Rattle.mg_commands.proofs.FindingLemmas.{checked}
use Rattle.mg_commands.proofs.checks.check_descriptors.Goals as goal

pub returns-in-Some : goal.returns-in-Some
returns-in-Some c = record {
  value = checked c.args.descriptors.now (rw c.nothing-found.ensures.value at c.read_descriptors.ensures.reads)
      (sym c.in-Some.is ∙ c.or.ensures);
}

pub returns-in-None : goal.returns-in-None
returns-in-None c = record {
  value = checked c.args.descriptors.now (rw c.nothing-found.ensures.value at c.read_descriptors.ensures.reads)
      (sym c.in-None.is ∙ c.or.ensures);
}
