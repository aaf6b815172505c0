use Rattle.std.proofs.Common.{sym, ◌∙◌, arith, length-append}
use Rattle.mg_journal.proofs.TextLemmas.{length_more, length_same, whole_le}
use Rattle.mg_journal.proofs.extent.Extent.after.Goals as goal

pub returns-then-len-eq0 : goal.returns-then-len-eq0
returns-then-len-eq0 c = record {
  value = λ text is.
      let part = c.args.part.now in (
        is.0 ∙ sym (length_same text part (omega (arith, c.whole_len-len.ensures.value, c.if-len-eq0.true))),
        omega (arith, is.1, c.in_ok-all.ensures.1, length-append text part),
      );
}

pub overflow_add-whole : goal.overflow_add-whole
overflow_add-whole c =
    omega (arith, c.whole_len-len.ensures.value, whole_le c.args.part.now, c.in_ok-all.ensures.0)

pub returns : goal.returns
returns c = record {
  value = λ text is.
      let part = c.args.part.now in (
        omega (
          arith,
          is.1,
          c.whole_len-len.ensures.value,
          length_more text part (λ none. c.if-len-eq0.false (c.whole_len-len.ensures.value ∙ none)),
        ),
        omega (arith, is.1, c.in_ok-all.ensures.1, length-append text part),
      );
}
