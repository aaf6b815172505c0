use Rattle.std.proofs.Common.{◌+◌, length, ap, arith}
use Rattle.mg_bytes.specs.Bytes.{Written}
use Rattle.mg_reply.specs.Written.{head_text}
use Rattle.mg_words.specs.ErrorNumber.{error_text}
use Rattle.mg_core.proofs.AnswerLemmas.{appended-total}
use Rattle.mg_core.proofs.answering.put_error.Goals as goal

pub returns-clause-total : goal.returns-clause-total
returns-clause-total c =
    let head = head_text c.args.config.now.control_address c.args.config.now.control_port in
    let error = error_text c.args.number in
    let first_room = ap (λ (w : Written). w.room) c.write_head.ensures.value in
    let first_total = ap (λ (w : Written). w.room + length w.text) c.write_head.ensures.value in
    let second_total = ap (λ (w : Written). w.room + length w.text) c.write_error.ensures.value in
    omega (
      arith,
      c.write_head.ensures.short,
      c.write_error.ensures.short,
      first_total,
      second_total,
      appended-total c.args.answer.now head (omega (arith, c.write_head.ensures.short)),
      appended-total c.write_head.new.out error
          (omega (arith, c.write_head.ensures.short, c.write_error.ensures.short, first_room)),
    )
