use Rattle.mg_flow.proofs.WordLemmas.{word_set, said}
use Rattle.mg_flow.proofs.flow_table.FlowTable.set_word.Goals as goal

pub returns-clause-hears : goal.returns-clause-hears
returns-clause-hears c = word_set c.args.self.now c.on_triples.new.self c.args.talker c.args.listener c.args.is_heard
    c.hears-back.result c.word_on-word.result c.requires.together c.hears-back.ensures.kept
    (rw (c.from-from.ensures, c.from-to.ensures) at c.word_on-word.ensures.says)
    (said c.on_triples.result c.word_on-word.result c.on_triples.ensures.hears c.on_triples.ensures.overlap
    c.word_on-word.ensures.sound)
    c.on_triples.ensures.others
