use Rattle.std.proofs.Common.{◌≡◌, ◌≢◌, ◌++◌, List, ℕ, take, MatchOption}
use Rattle.std.proofs.lemmas.Bool.Decides.{Decides-eqb}
use Rattle.std.proofs.lemmas.Slice.Eq.{strip_prefix_is}
use Rattle.mg_start.proofs.StartLemmas.{marked_line}
use Rattle.mg_start.proofs.history.title_in.Goals as goal

pub returns : goal.returns
returns c =
    let front = c.args.front.now in
    let end = c.in_ok-end.end in
    let mark = c.as_slice.result.now in
    let cut : MatchOption c.strip_prefix.result ((rest : List ℕ) → take end front ≢ mark ++ rest) (λ title. take end front ≡ mark ++ title.now) =
    strip_prefix_is Decides-eqb (take end front) mark c.strip_prefix.result c.strip_prefix.ensures.cases in
    record {
      line = marked_line front end c.strip_prefix.result c.in_ok-end.ensures.0.high c.in_ok-end.ensures.1
          (rw c.as_slice.ensures at cut);
    }
