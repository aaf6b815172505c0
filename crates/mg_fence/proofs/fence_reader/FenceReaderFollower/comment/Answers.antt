use Rattle.std.proofs.Common.{◌≡◌, rules}
use Rattle.mg_fence.specs.Reached.{after_comment}
use Rattle.mg_fence.proofs.ReachedLemmas.{reaches_comment}
use Rattle.mg_fence.proofs.fence_reader.FenceReaderFollower.comment.Goals as goal

pub returns-clause-value : goal.returns-clause-value
returns-clause-value c start base notes h =
    let is : c.unwrap_or-self.result ≡ after_comment c.args.self.now.reached c.args.line.now = search rules in
    reaches_comment notes c.args.line.now c.args.self.now.reached c.unwrap_or-self.result h is
