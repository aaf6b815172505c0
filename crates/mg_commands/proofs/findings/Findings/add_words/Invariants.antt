use Rattle.std.proofs.Common.{◌≡◌, map, take}
use Rattle.mg_commands.specs.declared.part.Part.TheVariants.{Audited}
use Rattle.mg_commands.specs.aids.Findings.{with_parts}
use Rattle.mg_commands.proofs.findings.Findings.add_words.Given as goal

abbrev pub invariant-loop-word : goal.invariant-loop-word
invariant-loop-word l = l.self ≡ with_parts l.source l.fn.self (map Audited (take l.word-index l.words))
