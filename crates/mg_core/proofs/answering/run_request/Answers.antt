use Rattle.std.proofs.Common.{◌≡◌, ◌++◌, ℕ, List, drop, length, refl, ap, ◌∙◌}
use Rattle.std.proofs.Math.Seq.{drop-append_seam}
use Rattle.mg_kept.specs.KeptReplies.{with_reply}
use Rattle.mg_bytes.specs.Bytes.{Written}
use Rattle.mg_core.specs.declared.state.CoreState.{CoreState}
use Rattle.mg_core.specs.aids.Steps.{put_text}
use Rattle.mg_core.proofs.ReplyLemmas.{request_run}
use Rattle.mg_core.proofs.answering.run_request.Goals as goal

pub returns-clause-ran : goal.returns-clause-ran
returns-clause-ran c =
    let sent = put_text c.transaction.new.reply in
    let before = c.args.answer.now.text in
    let state : CoreState = record {
      engine = c.transaction.new.engine;
      kept = c.keep.new.self;
      counts = c.args.state.now.counts;
    } in
    let text = ap (λ (w : Written). w.text) c.put_reply.ensures.text in
    let all = c.as_slice.ensures.value ∙ text in
    let last : c.split_at.result.1.now ≡ sent = c.split_at.ensures.back ∙
    ap (λ (l : List ℕ). drop (length c.as_slice-start.result.now) l) all
    ∙ ap (λ (l : List ℕ). drop (length l) (before ++ sent)) c.as_slice-start.ensures.value ∙
    drop-append_seam before sent in
    let kept = c.keep.ensures.value ∙ ap (λ (l : List ℕ). with_reply
    (record { sender = c.args.sender.now; number = c.args.request.now.number; text = l }) c.args.state.now.kept)
    last in
    request_run c.too_long_by_text.ensures.theorem c.too_long_by_text.ensures.kept c.args.source.now
    c.args.sender.now c.args.request.now c.args.state.now state c.transaction.new.reply before
    c.put_reply.new.answer.text c.transaction.ensures.wide c.transaction.ensures.ended refl
    c.transaction.ensures.ran kept text

pub returns-clause-work : goal.returns-clause-work
returns-clause-work c w h = c.transaction.ensures.work w.gateway h.gateway
