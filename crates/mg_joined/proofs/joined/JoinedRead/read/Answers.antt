use Rattle.std.proofs.Common.{◌≡◌, ◌+◌, ◌-◌, ◌++◌, ℕ, arith, drop, length, min, rules, subst, take}
use Rattle.std.proofs.lemmas.List.{length-drop}
use Rattle.std.specs.Io.KnownBytes.{IsAtEnd}
use Rattle.mg_joined.specs.aids.Joining.{script_left}
use Rattle.mg_joined.proofs.JoinLemmas.{copied_front, reads_known, used_up}
use Rattle.mg_joined.proofs.joined.JoinedRead.read.Goals as goal

pub returns-clause-bytes : goal.returns-clause-bytes
returns-clause-bytes g c =
    let left = g.B.Read.remaining in
    let texts = g.K.TextsKey.texts in
    let self = c.fill.new.self in
    let line = self.front.items in
    let n = c.min-n.result in
    let rest = drop n c.args.buffer.now in
    let copied = c.copy_from_slice.new.self in
    let few : n ≡ min (length c.args.buffer.now) (length line - self.at) = search rules in
    let is : copied ≡ take n (drop self.at line) = search rules in
    let long : length copied ≡ n = search rules in (
      reads_known left texts _ (drop self.at line) (take n (copied ++ rest)) (drop (self.at + n) line) self.source
          self.later.items (copied_front n self.at line copied rest long is) c.in_ok-fill.ensures.kept,
      λ none room. subst (λ (k : ℕ). IsAtEnd (script_left left texts (drop k line) self.source self.later.items))
          (omega (arith, none))
          (c.in_ok-fill.ensures.last (used_up n self.at (length c.args.buffer.now) line copied rest few self.within long
          (length-drop n c.args.buffer.now) none room)),
    )
