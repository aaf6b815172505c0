use Rattle.std.proofs.Common.{◌++◌, ap, codes, sym, ◌∙◌}
use Rattle.mg_words.specs.Association.{association_text}
use Rattle.mg_words.specs.declared.association.Association.{Association}
use Rattle.mg_reply.specs.aids.Draft.{drafted}
use Rattle.mg_reply.proofs.action_writing.put_association.Goals as goal

pub returns-in-Isolate : goal.returns-in-Isolate
unfolding association_text
returns-in-Isolate c = record {
  value = c.put.ensures.value ∙
      ap (λ (a : Association). drafted c.args.draft.now (codes "," ++ association_text a)) (sym c.in-Isolate.is);
}

pub returns-in-Oneway : goal.returns-in-Oneway
unfolding association_text
returns-in-Oneway c = record {
  value = c.put-in-Oneway.ensures.value ∙
      ap (λ (a : Association). drafted c.args.draft.now (codes "," ++ association_text a)) (sym c.in-Oneway.is);
}

pub returns-in-Bothway : goal.returns-in-Bothway
unfolding association_text
returns-in-Bothway c = record {
  value = c.put-in-Bothway.ensures.value ∙
      ap (λ (a : Association). drafted c.args.draft.now (codes "," ++ association_text a)) (sym c.in-Bothway.is);
}
