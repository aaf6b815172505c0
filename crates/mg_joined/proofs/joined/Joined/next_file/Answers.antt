use Rattle.std.proofs.Common.{◌≡◌, ◌∙◌, rules, sym}
use Rattle.mg_joined.proofs.JoinLemmas.{first_is, joins_next}
use Rattle.mg_joined.proofs.joined.Joined.next_file.Goals as goal

pub invariant_of-self-in-Some-pop_front-clause-joining : goal.invariant_of-self-in-Some-pop_front-clause-joining
invariant_of-self-in-Some-pop_front-clause-joining g c =
    let next = c.in-Some-pop_front.next in
    let first : c.in-Some.next.now ≡ next =
    first_is c.in-Some.next.now next c.args.self.now.later.items c.pop_front.new.self.items c.in-Some.ensures.lookup
    c.in-Some-pop_front.ensures.items in
    let compared : c.as_slice.result.now ≡ c.as_slice-2.result.now = search rules in
    let shown : c.in-Some.next.now.follows.items ≡ c.seal_end.result =
    sym c.as_slice.ensures.value ∙ compared ∙ c.as_slice-2.ensures in
    joins_next g.B.Read.remaining g.K.TextsKey.texts c.args.self.now.is_broken c.args.self.now.source next
    c.args.self.now.later.items c.pop_front.new.self.items c.seal_end.result c.in-Some-pop_front.ensures.items
    c.requires.ended c.seal_end.ensures.value (rw first at shown) c.args.self.now.joining
