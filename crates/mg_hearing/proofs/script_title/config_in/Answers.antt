use Rattle.std.proofs.Common.{◌≡◌, ◌++◌, Some, codes}
use Rattle.std.proofs.lemmas.Bool.Decides.{Decides-eqb}
use Rattle.std.proofs.lemmas.Slice.Eq.{strip_prefix_is, strip_suffix_is}
use Rattle.mg_hearing.proofs.HeardLemmas.{title_is}
use Rattle.mg_hearing.proofs.script_title.config_in.Goals as goal

pub returns : goal.returns
returns c =
    let line = c.args.line.now in
    let text = c.in_ok-text.text in
    let title = c.in_ok-title.title in
    let cut : line ≡ text.now ++ c.as_slice.result.now =
    strip_suffix_is Decides-eqb line c.as_slice.result.now (Some text) c.in_ok-text.ensures.cases in
    let fed : line ≡ text.now ++ codes "\n" = rw c.as_slice.ensures at cut in
    let begun : text.now ≡ c.as_slice-2.result.now ++ title.now =
    strip_prefix_is Decides-eqb text.now c.as_slice-2.result.now (Some title) c.in_ok-title.ensures.cases in
    let marked : text.now ≡ codes "# " ++ title.now = rw c.as_slice-2.ensures at begun in
    record { value = title_is line text.now title.now c.titled.result fed marked c.titled.ensures.value }
