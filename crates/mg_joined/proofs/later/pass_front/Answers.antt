use Rattle.std.proofs.Common.{◌≡◌, ◌∙◌, ◌++◌, drop, sym}
use Rattle.mg_joined.proofs.LaterLemmas.{passes_line, passes_none, passes_to, slice_to_end}
use Rattle.mg_joined.proofs.later.pass_front.Goals as goal

pub returns-then-starts_with : goal.returns-then-starts_with
returns-then-starts_with g c =
    let line = c.read_line.new.line.items in
    let end_is : c.in_ok-from_slice.field-0.items ≡ drop 10 line =
    (rw c.deref-then-starts_with.ensures.value at c.in_ok-from_slice.ensures.items) ∙ slice_to_end 10 line in
    record {
      value = λ before left known is_before.
          let p = c.loop-lines.invariant before left known is_before in
          passes_to before left line c.in_ok-from_slice.field-0.items _ _ _ _ _ p
          (c.in-Ok-true.ensures.value (before ++ p.passed) p.after p.rest_is p.is_before)
          (sym (rw c.deref.ensures.value at c.starts_with.ensures.value) ∙ c.if-starts_with.true) end_is;
    }

pub loop-lines-preserved : goal.loop-lines-preserved
loop-lines-preserved g c = λ before left known is_before.
    let p = c.loop-lines.invariant before left known is_before in
    passes_line before left c.read_line.new.line.items _ _ _ _ _ p
    (c.in-Ok-true.ensures.value (before ++ p.passed) p.after p.rest_is p.is_before)
    (sym (rw c.deref.ensures.value at c.starts_with.ensures.value) ∙ c.if-starts_with.false)

pub loop-lines-init : goal.loop-lines-init
loop-lines-init g c = λ before left known is_before.
    passes_none before left (g.B.Read.remaining c.args.source.reader) c.args.source.chain known is_before
