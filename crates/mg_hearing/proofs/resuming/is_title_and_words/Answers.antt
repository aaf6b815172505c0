use Rattle.std.proofs.Common.{◌∙◌, Some, refl, sym}
use Rattle.std.proofs.lemmas.Bool.Decides.{Decides-eqb}
use Rattle.std.proofs.lemmas.Slice.Eq.{strip_suffix_is}
use Rattle.mg_hearing.proofs.ResumeLemmas.{title_and_words}
use Rattle.mg_hearing.proofs.resuming.is_title_and_words.Goals as goal

pub returns-in-Some : goal.returns-in-Some
returns-in-Some c = record {
  value = λ some. title_and_words c.args.seen.now c.in-Some.line.now _ c.config_in.result
      (strip_suffix_is Decides-eqb c.args.seen.now _ (Some c.in-Some.line) c.in-Some.ensures.cases) refl
      c.config_in.ensures.value (sym c.is_some.ensures ∙ some);
}
