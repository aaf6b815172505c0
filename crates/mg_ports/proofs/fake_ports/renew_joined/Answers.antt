use Rattle.std.proofs.Common.{◌∙◌}
use Rattle.std.specs.Option.{option_map_or}
use Rattle.mg_journal.specs.declared.append_fault.AppendFault.TheVariants.{Refused}
use Rattle.mg_journal.specs.Journal.{no_journal, text_to_seal}
use Rattle.mg_ports.proofs.FollowLemmas.{follows_feed, renews_joined, unchanged}
use Rattle.mg_ports.proofs.fake_ports.renew_joined.Goals as goal

pub returns-in_default : goal.returns-in_default
returns-in_default c = record {
  value = unchanged c.args.text.now.items c.args.durability (option_map_or (λ j. j) c.args.journal.now no_journal) Refused;
}

pub renew-requires : goal.renew-requires
renew-requires c = record {
  line_feed = follows_feed (text_to_seal (option_map_or (λ j. j) c.args.journal.now no_journal)) c.args.text.now.items
      c.seal_end-end.result c.as_slice.result.now c.seal_end-end.ensures.value
      (c.as_slice.ensures.value ∙ c.in-Ok.ensures.value);
}

pub returns : goal.returns
returns c = record {
  value = renews_joined c.args.text.now.items c.seal_end-end.result c.as_slice.result.now c.args.durability
      (option_map_or (λ j. j) c.args.journal.now no_journal) (option_map_or (λ j. j) c.renew.new.self no_journal)
      c.renew.result c.seal_end-end.ensures.value (c.as_slice.ensures.value ∙ c.in-Ok.ensures.value)
      c.renew.ensures.value;
}
