use Rattle.std.proofs.Common.{◌≡◌, ◌++◌, [], ◌∷◌, rules}
use Rattle.mg_joined.specs.aids.Joining.{Opens}
use Rattle.mg_joined.proofs.JoinLemmas.{opens_more}
use Rattle.mg_joined.proofs.joined.open_rest.Goals as goal

pub loop-file-preserved : goal.loop-file-preserved
loop-file-preserved g c =
    let pushed : c.push_back.new.self.items ≡ c.loop-file.later.items ++ c.in_ok-opened.opened ∷ [] = search rules in
    opens_more (Opens g.B.Read.remaining c.args.title.now) c.args.files.items c.loop-file.yielded
    c.loop-file.file-iterator.rest.items c.loop-file.later.items c.in-Some.file c.in_ok-opened.opened
    c.next.new.self.rest.items c.push_back.new.self.items c.in-Some.ensures.steps.0 pushed c.in_ok-opened.ensures.value
    c.loop-file.invariant
