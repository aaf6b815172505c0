use Rattle.std.proofs.Common.{◌<◌, ◌++◌, [], get_or, length, ap, ◌∙◌, arith}
use Rattle.std.proofs.lemmas.Option.{slice_get-get_or}
use Rattle.mg_kept.specs.KeptReplies.{KeptReply}
use Rattle.mg_checkpoint.specs.aids.Text.{reply_line}
use Rattle.mg_checkpoint.proofs.WritingLemmas.{written_more}
use Rattle.mg_checkpoint.proofs.saving.put_replies.Goals as goal

no_reply : KeptReply
no_reply = record { sender = []; number = 0; text = [] }

pub loop-place-preserved : goal.loop-place-preserved
loop-place-preserved c =
    let i = c.loop-place.place in
    let kept = c.args.kept.now in
    let within : i < length kept = omega arith in
    c.in_ok-put_reply.ensures.value (get_or kept i no_reply) (slice_get-get_or kept i no_reply within)
    ∙ ap (λ o. o ++ reply_line (get_or kept i no_reply)) c.loop-place.invariant
    ∙ written_more reply_line c.args.out.now.items kept i no_reply within
