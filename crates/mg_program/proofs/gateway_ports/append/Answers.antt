use Rattle.std.proofs.Common.{◌≡◌, true, [], inl, refl}
use Rattle.std.specs.Option.{option_map_or}
use Rattle.mg_journal.specs.Journal.{JournalState, no_journal}
use Rattle.mg_journal.proofs.AppendLemmas.{still_broken}
use Rattle.mg_program.proofs.gateway_ports.append.Goals as goal

pub returns-in-None : goal.returns-in-None
returns-in-None g c =
    let old : JournalState = option_map_or (λ d. d) c.args.journal.now no_journal in
    let broken : old.is_broken ≡ true = rw c.in-None.is refl in
    record { value = ([], [], inl refl, inl refl, still_broken old c.args.durability c.args.lines.now broken) }
