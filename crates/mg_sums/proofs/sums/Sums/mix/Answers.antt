use Rattle.std.proofs.Common.{◌≡◌, ◌<◌, ◌∙◌, ℕ, ℤ, List, length, ap, sym, subst, arith, [], slice_index_or}
use Rattle.std.proofs.lemmas.Int.{ints}
use Rattle.std.proofs.lemmas.List.{get_or_read}
use Rattle.mg_sums.specs.Samples.{sample, sum_of}
use Rattle.mg_sums.specs.Sums.{SumsState, AreOfRoom, left_out_by, sample_in}
use Rattle.mg_sums.proofs.HeardLemmas.{few_rows, few_minus, mix_is, whole_is}
use Rattle.mg_sums.proofs.TotalLemmas.{read_near}
use Rattle.mg_sums.proofs.sums.Sums.mix.Goals as goal

pub write_rest-requires-clause-near : goal.write_rest-requires-clause-near
write_rest-requires-clause-near c =
    let lt : c.number.result < length c.self.inside.totals.items = omega (arith, c.self.invariant.rooms) in
    let total : c.index-total.result.now ≡ slice_index_or c.self.inside.totals.items c.number.result [] =
    get_or_read _ _ _ lt c.index-total.ensures [] in
    read_near _ _ c.number.result _ c.self.invariant (omega arith) total

pub write_rest-requires-clause-few : goal.write_rest-requires-clause-few
write_rest-requires-clause-few c =
    let rows : List ℕ = left_out_by c.args.base c.args.minus.now in
    let are : AreOfRoom c.self.inside.rooms c.args.room rows =
    subst (λ (k : SumsState). AreOfRoom k.rooms c.args.room rows) (sym c.self.view_is) c.requires.rows in
    omega (
      arith,
      few_rows c.self.inside.rooms c.args.room rows are,
      few_minus c.args.base c.args.minus.now,
      c.self.invariant.valid.rooms,
    )

pub returns-clause-mix : goal.returns-clause-mix
returns-clause-mix c =
    let rows : List ℕ = left_out_by c.args.base c.args.minus.now in
    let are : AreOfRoom c.self.inside.rooms c.args.room rows =
    subst (λ (k : SumsState). AreOfRoom k.rooms c.args.room rows) (sym c.self.view_is) c.requires.rows in
    let lt : c.number.result < length c.self.inside.totals.items = omega (arith, c.self.invariant.rooms) in
    let total : c.index-total.result.now ≡ slice_index_or c.self.inside.totals.items c.number.result [] =
    get_or_read _ _ _ lt c.index-total.ensures [] in
    rw (← c.self.view_is) (mix_is _ c.args.room rows _ c.write_rest.new.rest are c.limited.ensures.long
    c.limited.ensures.limits (λ i l.
    let whole = ap (λ (xs : List ℤ). sample xs i) (rw c.number.ensures.value at total) ∙
    c.self.invariant.sums c.args.room i (omega arith) l in
    let left = ap (λ (fs : List (List ℤ)). sum_of (sample_in fs i) rows) c.as_slice-frames.ensures.value in
    omega (arith, ints, c.write_rest.ensures.sums i l, whole, left)))

pub returns-clause-heard : goal.returns-clause-heard
returns-clause-heard c = λ i. whole_is (sample_in c.args.self.now.frames i) c.args.self.now.rooms c.args.room
    (left_out_by c.args.base c.args.minus.now) c.requires.rows
