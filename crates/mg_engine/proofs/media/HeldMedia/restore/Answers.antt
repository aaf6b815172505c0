use Rattle.mg_engine.proofs.Common.{PlayList, ap, ◌∙◌}
use Rattle.mg_playout.specs.Playout.{first_list, with_depth}
use Rattle.mg_engine.proofs.RestoringLemmas.{restored_list}
use Rattle.mg_engine.proofs.media.HeldMedia.restore.Goals as goal

pub returns : goal.returns
returns c =
    let play = c.set_depth.ensures.step ∙ ap (λ (list : PlayList). with_depth list c.from.result) c.clear.ensures.first ∙
    ap (with_depth first_list) c.from.ensures ∙ restored_list c.args.depth in
    let sent = c.args.sent in
    record {
      value = λ i. record {
        play = play i;
        stats = record { ps = sent.sent; pr = 0; os = sent.octets; or_ = 0 };
        timestamp = sent.timestamp;
        sequence = sent.sequence;
        is_sending = sent.is_sending;
      };
    }
