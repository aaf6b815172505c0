use Rattle.std.proofs.Common.{◌≡◌, ◌∙◌, false, rules, sym}
use Rattle.mg_joined.proofs.JoinLemmas.{all_follow, no_items}
use Rattle.mg_joined.proofs.joined.Joined.drain.Goals as goal

pub returns-then-is_empty : goal.returns-then-is_empty
returns-then-is_empty g c =
    let self = c.next_lines.new.self in
    let whole : self.is_broken ≡ false = search rules in
    record {
      follows = λ empty. all_follow g.B.Read.remaining g.K.TextsKey.texts self.is_broken self.source self.later.items whole
          (no_items self.later.len self.later.items self.later.ok.0 (sym c.is_empty-then-is_empty.ensures ∙ empty)) self.joining;
    }
