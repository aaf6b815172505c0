use Rattle.mg_words.proofs.CutLemmas.{none_cut, first_cut}
use Rattle.mg_words.proofs.parts.cut.Goals as goal

pub returns-in-Some : goal.returns-in-Some
returns-in-Some c = record {
  value = first_cut c.args.byte c.args.text.now _ _ _ c.in-Some.n c.in-Some.ensures
      c.split_at.ensures.front c.split_at.ensures.back c.split_at-in-Some.ensures.back;
}

pub returns-in-None : goal.returns-in-None
returns-in-None c = record { value = none_cut c.args.byte c.args.text.now c.in-None.ensures }
