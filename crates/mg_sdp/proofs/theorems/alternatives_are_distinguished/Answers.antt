use Rattle.std.proofs.Common.{sym, ◌∙◌}
use Rattle.mg_sdp.proofs.GroupLemmas.{alternatives_same}
use Rattle.mg_sdp.proofs.theorems.alternatives_are_distinguished.Goals as goal

pub returns : goal.returns
returns c = record {
  one = λ lines one other h k. sym (alternatives_same lines one h) ∙
      alternatives_same lines other k;
}
