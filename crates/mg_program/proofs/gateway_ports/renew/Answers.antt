use Rattle.std.proofs.Common.{Option, ap, subst, sym}
use Rattle.std.specs.Option.{option_map_or}
use Rattle.mg_journal.specs.Journal.{JournalState, no_journal}
use Rattle.mg_journal.specs.declared.append_fault.AppendFault.TheVariants.{Broken}
use Rattle.mg_ports.specs.Journaled.{RenewsDated}
use Rattle.mg_ports.proofs.FollowLemmas.{unchanged}
use Rattle.mg_program.proofs.gateway_ports.renew.Goals as goal

pub returns-in-None-clause-value : goal.returns-in-None-clause-value
returns-in-None-clause-value g c =
    unchanged c.args.text.now.items c.args.durability (option_map_or (λ d. d) c.args.journal.now no_journal) Broken

pub returns-in-Some-clause-value : goal.returns-in-Some-clause-value
returns-in-Some-clause-value g c = subst (λ (j : JournalState). RenewsDated c.args.text.now.items c.args.durability j
    c.renew.new.self c.renew.result)
    (ap (λ (o : Option JournalState). option_map_or (λ j. j) o no_journal) (sym c.in-Some.is)) c.renew.ensures.value
