use Rattle.mg_checkpoint.proofs.RestoringLemmas.{rebuilt_base, rebuilt_restores}
use Rattle.mg_checkpoint.proofs.restoring.assert_represents.Goals as goal

pub returns : goal.returns
returns c = record {
  base = rebuilt_base c.args.config c.args.state.now c.requires.rebuilt c.assert_represents.ensures.gateway
      c.assert_represents.ensures.limits c.terminations.ensures.consistent c.kept_replies_are_distinct.ensures;
  restored = rebuilt_restores c.args.config c.args.state.now c.requires.rebuilt
      c.quiet_engines_represent.ensures.theorem;
}
