use Rattle.std.proofs.Common.{[]}
use Rattle.mg_core.proofs.ResumedScriptLemmas.{is_followed_until}
use Rattle.mg_core.proofs.watching.watch_from.Goals as goal

pub returns : goal.returns
returns g c = record {
  followed = λ base stands start.
      let follows = g.F.Follower.follows in
      let first = c.args.follower.now in
      let last = c.take_until_done.new.follower in
      is_followed_until base (g.R.Read.remaining c.args.reader.now)
      (g.R.Read.remaining c.take_until_done.new.reader) c.take_until_done.new.self.runner.core.state g.F.Watcher.done
      (follows first first base []) (λ f. follows first f base) last start
      (c.in_ok-take_until_done.ensures.value base (c.in-Ok.ensures.start base stands));
}
