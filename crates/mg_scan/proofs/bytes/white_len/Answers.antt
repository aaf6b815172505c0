use Rattle.std.proofs.Common.{◌+◌, ap, ◌∙◌, length, arith, length-drop}
use Rattle.std.proofs.lemmas.List.{take_rest}
use Rattle.std.specs.List.{position_or_len}
use Rattle.mg_words.specs.LineEnd.{is_line_end}
use Rattle.mg_scan.proofs.WhiteSteps.{comment_step}
use Rattle.mg_scan.proofs.bytes.white_len.Goals as goal

pub loop-n-preserved : goal.loop-n-preserved
loop-n-preserved c =
    let bytes = c.args.bytes.now in
    let n = c.loop-n.n in
    let rest = take_rest bytes (n + 1) in
    record {
      in_range = omega (arith, ap length rest, length-drop (n + 1) bytes, c.comment_len-n.ensures.in_range);
      white = comment_step bytes n c.comment_len-n.result c.loop-n-test.true c.if-b-eq59.true
          (c.comment_len-n.ensures.value ∙ ap (position_or_len is_line_end) rest) ∙ c.loop-n.invariant.white;
    }
