use Rattle.mg_checkpoint.proofs.RebuildLemmas.{keeps_both}
use Rattle.mg_checkpoint.proofs.rebuilding.put_back.Goals as goal

pub returns : goal.returns
returns c = record {
  quiet = keeps_both _ _ _ (keeps_both _ _ _
      (record { config = c.skip_to.ensures.config; quiet = c.skip_to.ensures.quiet }) c.put_contexts.ensures.quiet)
      c.mute_all.ensures.quiet;
}
