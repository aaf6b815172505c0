use Rattle.std.proofs.Common.{rules, ◌≡◌, []}
use Rattle.mg_joined.proofs.LaterLemmas.{is_titled}
use Rattle.mg_joined.proofs.later.pass_title.Goals as goal

pub returns-in-Ok : goal.returns-in-Ok
returns-in-Ok g c =
    let same : c.as_slice.result.now ≡ c.args.title.now = search rules in
    record {
      value = λ text known is_before. is_titled c.args.title.now text c.read_line.new.line.items c.as_slice.result.now
          c.in-Ok.field-0 (g.B.Read.remaining c.read_line.new.self.reader) c.read_line.new.self.chain
          (c.in-Ok.ensures.value [] text known is_before) c.as_slice.ensures.value same;
    }
