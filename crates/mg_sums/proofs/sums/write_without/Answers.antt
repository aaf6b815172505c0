use Rattle.std.proofs.Common.{◌≡◌, ◌<◌, ℤ, List, length, ap, arith, [], slice_index_or}
use Rattle.std.proofs.lemmas.Int.{ints}
use Rattle.std.proofs.lemmas.List.{get_or_read}
use Rattle.mg_sums.specs.Samples.{sample, silence}
use Rattle.mg_sums.specs.Sums.{sample_in}
use Rattle.mg_sums.proofs.SumLemmas.{left_out-one, sum_of-nil}
use Rattle.mg_sums.proofs.TotalLemmas.{silent}
use Rattle.mg_sums.proofs.sums.write_without.Goals as goal

pub returns-in-Some-clause-sums : goal.returns-in-Some-clause-sums
returns-in-Some-clause-sums c = λ i l.
    let within : c.number.result < length c.args.frames.now = omega (arith, c.requires.frames.0) in
    let frame : c.index-frames-number.result ≡ slice_index_or c.args.frames.now c.number.result [] =
    get_or_read _ _ _ within c.index-frames-number.is [] in
    let read = ap (λ (xs : List ℤ). sample xs i) (rw c.number.ensures.value at frame) in
    rw c.in-Some.is (omega (
      arith,
      ints,
      c.write_difference.ensures.sums i l,
      read,
      left_out-one (sample_in c.args.frames.now i) c.in-Some.row,
    ))

pub returns-in-None-clause-sums : goal.returns-in-None-clause-sums
returns-in-None-clause-sums c = λ i l.
    let zero : sample c.new.result i ≡ sample silence i = ap (λ (xs : List ℤ). sample xs i) c.new.ensures.value in
    rw c.in-None.is (omega (
      arith,
      ints,
      c.write_difference-in-None.ensures.sums i l,
      zero,
      silent i,
      sum_of-nil (sample_in c.args.frames.now i),
    ))

pub returns-in-None-clause-near : goal.returns-in-None-clause-near
returns-in-None-clause-near c = λ i l.
    let zero : sample c.new.result i ≡ sample silence i = ap (λ (xs : List ℤ). sample xs i) c.new.ensures.value in
    omega (arith, ints, c.write_difference-in-None.ensures.sums i l, zero, silent i, c.requires.near i l)
