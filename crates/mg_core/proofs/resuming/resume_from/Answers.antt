use Rattle.std.proofs.Common.{[]}
use Rattle.std.proofs.lemmas.Result.{err_from_is_err_and}
use Rattle.mg_core.specs.aids.Resuming.{HasFollowed}
use Rattle.mg_core.proofs.ResumedScriptLemmas.{bad_line_found, follower_stopped, is_followed, is_resumed}
use Rattle.mg_core.proofs.ScriptLemmas.{not_bad}
use Rattle.mg_core.proofs.resuming.resume_from.Goals as goal

pub returns-in_err-take_all-clause-script : goal.returns-in_err-take_all-clause-script
returns-in_err-take_all-clause-script g c base number stands =
    let p = err_from_is_err_and c.from_residual.result c.from_residual.ensures.1 in
    bad_line_found g.F.Follower.may_stop base (g.R.Read.remaining c.args.reader.now)
    (g.R.Read.remaining c.take_all.new.reader) c.take_all.new.self.runner.core.state
    (HasFollowed g.F.Follower.follows c.args.follower.now c.take_all.new.follower base)
    c.from_residual.result p.0 c.in_err-take_all.field-0.0
    (c.in_err-take_all.ensures.value base (c.in-Ok.ensures.start base stands)) p.1 p.2 number

pub returns-in_err-take_all-clause-good : goal.returns-in_err-take_all-clause-good
returns-in_err-take_all-clause-good g c =
    let p = err_from_is_err_and c.from_residual.result c.from_residual.ensures.1 in
    not_bad c.from_residual.result p.0 c.in_err-take_all.field-0.0 p.1 p.2

pub returns-in_err-take_all-clause-stops : goal.returns-in_err-take_all-clause-stops
returns-in_err-take_all-clause-stops g c base stands =
    let p = err_from_is_err_and c.from_residual.result c.from_residual.ensures.1 in
    follower_stopped g.F.Follower.may_stop base (g.R.Read.remaining c.args.reader.now)
    (g.R.Read.remaining c.take_all.new.reader) c.take_all.new.self.runner.core.state
    (HasFollowed g.F.Follower.follows c.args.follower.now c.take_all.new.follower base)
    c.from_residual.result p.0 c.in_err-take_all.field-0.0
    (c.in_err-take_all.ensures.value base (c.in-Ok.ensures.start base stands)) p.1 p.2

pub returns-clause-resumed : goal.returns-clause-resumed
returns-clause-resumed g c base stands =
    is_resumed base (g.R.Read.remaining c.args.reader.now) (g.R.Read.remaining c.take_all.new.reader)
    c.take_all.new.self.runner.core.state
    (HasFollowed g.F.Follower.follows c.args.follower.now c.take_all.new.follower base)
    (c.in_ok-take_all.ensures.value base (c.in-Ok.ensures.start base stands))

pub returns-clause-followed : goal.returns-clause-followed
returns-clause-followed g c base stands start =
    let follows = g.F.Follower.follows in
    let first = c.args.follower.now in
    is_followed base (g.R.Read.remaining c.args.reader.now) (g.R.Read.remaining c.take_all.new.reader)
    c.take_all.new.self.runner.core.state (follows first first base [])
    (follows first c.take_all.new.follower base) start
    (c.in_ok-take_all.ensures.value base (c.in-Ok.ensures.start base stands))
