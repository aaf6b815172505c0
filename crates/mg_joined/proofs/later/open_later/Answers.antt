use Rattle.std.proofs.Common.{◌∙◌, ap}
use Rattle.std.specs.Io.BufRead.{drop_through}
use Rattle.mg_joined.specs.aids.Reading.{HasPassed, IsOpened}
use Rattle.mg_joined.proofs.LaterLemmas.{if_ok_more, is_opened}
use Rattle.mg_joined.proofs.later.open_later.Goals as goal

pub returns : goal.returns
returns g c =
    let left = g.B.Read.remaining in
    let title = c.args.title.now in
    record {
      value = λ text known.
          let t = c.in_ok-pass_title.ensures.value text (ap left c.new-source.ensures.reader ∙ known)
          (c.new-source.ensures.chain text) in
          if_ok_more c.pass_front.result
          (λ later. HasPassed title (drop_through 10 text) (left later.source.reader) later.source.chain later.follows.items)
          (λ later. IsOpened title text (left later.source.reader) later.source.chain later.follows.items)
          (λ later p. is_opened title text later.follows.items _ _ _ _ t p)
          (c.pass_front.ensures.value title (drop_through 10 text) t.rest_is t.is_before);
    }
