use Rattle.std.proofs.Common.{◌≡◌, ℕ, true, List, Some, None, sym, ap, ◌∙◌}
use Rattle.std.specs.Str.{str_eq_ignore_ascii_case}
use Rattle.mg_kept.specs.KeptReplies.{KeptReply, kept_text, with_reply}
use Rattle.mg_kept.specs.Theorems.{KeptIsFound}
use Rattle.mg_text.specs.declared.request.Request.{Request}
use Rattle.mg_commands.specs.Transaction.{replied}
use Rattle.mg_core.specs.Answer.{request_replied, run_and_kept}
use Rattle.mg_core.specs.World.{World}
use Rattle.mg_core.proofs.RetransmissionLemmas.{replied_by}
use Rattle.mg_core.proofs.theorems.retransmissions_are_answered_alike.Goals as goal

alike : KeptIsFound → (source other sender same : List ℕ) (request again : Request) (w : World) →
    kept_text w.replies sender request.number ≡ None → again.number ≡ request.number →
    str_eq_ignore_ascii_case sender same ≡ true
    → request_replied other same again (request_replied source sender request w).1 ≡
    request_replied source sender request w
alike found source other sender same request again w none number name =
    let ran = run_and_kept sender request.number w (replied source request w.gateway) in
    let reply : KeptReply = record { sender = sender; number = request.number; text = ran.0 } in
    let kept : kept_text ran.1.replies same again.number ≡ Some ran.0 =
    ap (kept_text (with_reply reply w.replies) same) number ∙ found w.replies reply same none name in
    let first = replied_by source sender request w None none in
    ap (λ (p : List ℕ × World). request_replied other same again p.1) first ∙
    replied_by other same again ran.1 (Some ran.0) kept ∙ sym first

pub returns : goal.returns
returns c = record {
  kept = λ source sender request w text is. replied_by source sender request w (Some text) is;
  again = alike c.kept_reply_is_found.ensures.theorem;
  others = λ source sender request w none. replied_by source sender request w None none;
}
