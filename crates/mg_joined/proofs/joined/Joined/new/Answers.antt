use Rattle.std.proofs.Common.{◌∙◌, ap, map}
use Rattle.mg_joined.specs.aids.Joining.{all_known}
use Rattle.mg_joined.proofs.JoinLemmas.{begins, joins_first, script_is}
use Rattle.mg_joined.proofs.joined.Joined.new.Goals as goal

pub invariant_of-result-clause-joining : goal.invariant_of-result-clause-joining
invariant_of-result-clause-joining g c =
    let left = g.B.Read.remaining in
    let texts = g.K.TextsKey.texts in
    joins_first left texts c.read_line.new.line.items c.read_line.new.self c.in_ok-later.later.items
    (begins left texts c.in-Some.file c.pop_front.new.self.items c.new-source.result c.read_line.new.self
    c.in_default-read_line.field-0 c.read_line.new.line.items c.in_ok-later.later.items
    (c.requires.texts ∙ ap (λ files. all_known (map left files)) c.in-Some.ensures.items) c.new-source.ensures.reader
    c.new-source.ensures.chain c.in_default-read_line.ensures.value
    (rw c.as_slice.ensures.value at c.in_ok-later.ensures.value))

pub returns : goal.returns
returns g c =
    let left = g.B.Read.remaining in
    let texts = g.K.TextsKey.texts in
    record {
      text = script_is left texts c.read_line.new.line.items c.read_line.new.self c.in_ok-later.later.items
          (begins left texts c.in-Some.file c.pop_front.new.self.items c.new-source.result c.read_line.new.self
          c.in_default-read_line.field-0 c.read_line.new.line.items c.in_ok-later.later.items
          (c.requires.texts ∙ ap (λ files. all_known (map left files)) c.in-Some.ensures.items) c.new-source.ensures.reader
          c.new-source.ensures.chain c.in_default-read_line.ensures.value
          (rw c.as_slice.ensures.value at c.in_ok-later.ensures.value));
    }
