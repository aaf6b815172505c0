use Rattle.std.proofs.Common.{sym, ◌∙◌, inl, inr, refl, length, arith, length-drop, ap}
use Rattle.mg_scan.proofs.BraceLemmas.{closes, passes, runs_out, not_escaped, is_escaped}
use Rattle.mg_scan.proofs.octets.content_len.Goals as goal
use Rattle.mg_scan.proofs.octets.content_len.Goals.{then-n-eq0-via-then-n-eq0, then-n-eq0-via-else-n-eq0+then-rest-n-ne-ESCAPE}

pub returns-in_default-clause-value : goal.returns-in_default-clause-value
returns-in_default-clause-value c = sym (runs_out c.args.bytes.now c.loop-n.from c.split_at.result.1.now
    c.split_at.ensures.back c.in_default.ensures) ∙ c.loop-n.invariant.same

pub returns-then-n-eq0-clause-value : goal.returns-then-n-eq0-clause-value
returns-then-n-eq0-clause-value c =
    let first = not_escaped c.split_at.result.1.now c.in-Some.n
    (elim c.then-n-eq0.branch [
      | then-n-eq0-via-then-n-eq0 w ↦ inl w.if-n-eq0.true
      | then-n-eq0-via-else-n-eq0+then-rest-n-ne-ESCAPE w ↦ inr w.if-rest-n-ne-ESCAPE.true
    ]) in
    sym (closes c.args.bytes.now c.loop-n.from c.split_at.result.1.now c.split_at.ensures.back c.in-Some.n
    c.in-Some.ensures first) ∙ c.loop-n.invariant.same

pub loop-n-preserved : goal.loop-n-preserved
loop-n-preserved c =
    let rest = c.split_at.result.1.now in
    record {
      in_range = omega (
        arith,
        c.in-Some.ensures.0.high,
        ap length c.split_at.ensures.back,
        length-drop c.loop-n.from c.args.bytes.now,
      );
      same = sym (passes c.args.bytes.now c.loop-n.from rest c.split_at.ensures.back c.in-Some.n _ c.in-Some.ensures
          (is_escaped rest c.in-Some.n c.if-n-eq0.false c.if-rest-n-ne-ESCAPE.false) refl) ∙ c.loop-n.invariant.same;
    }
