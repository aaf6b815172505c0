use Rattle.std.proofs.Common.{◌≡◌, ◌<◌, ◌∙◌, ◌-ℤ◌, None, Some, ℤ, List, length, ap, arith, [], slice_index_or, get_or}
use Rattle.std.proofs.lemmas.List.{get_or_read}
use Rattle.mg_sums.specs.Samples.{sample}
use Rattle.mg_sums.specs.Sums.{SumsState}
use Rattle.mg_sums.specs.aids.Sums.{room_of}
use Rattle.mg_sums.proofs.TotalLemmas.{left_totals, read_near}
use Rattle.mg_sums.proofs.sums.Sums.leave.Goals as goal

pub take-requires : goal.take-requires
take-requires c =
    let lt : c.number-3.result < length c.self.inside.totals.items = omega (arith, c.self.invariant.rooms) in
    let total : c.index_mut.result.now ≡ slice_index_or c.self.inside.totals.items c.number-3.result [] =
    get_or_read _ _ _ lt c.index_mut.ensures.value [] in
    record {
      near = λ i l. let near = read_near _ _ c.number-3.result _ c.self.invariant (omega arith) total i l in
          omega arith;
    }

pub invariant_of-self : goal.invariant_of-self
invariant_of-self c =
    let lt : c.number-3.result < length c.self.inside.totals.items = omega (arith, c.self.invariant.rooms) in
    let within : c.number-2.result < length c.self.inside.frames.items = omega (arith, c.self.invariant.valid.frames) in
    let total : c.index_mut.result.now ≡ slice_index_or c.self.inside.totals.items c.number-3.result [] =
    get_or_read _ _ _ lt c.index_mut.ensures.value [] in
    let frame : c.index-frame.result.now ≡ slice_index_or c.self.inside.frames.items c.number-2.result [] =
    get_or_read _ _ _ within c.index-frame.ensures [] in
    let home : get_or c.self.inside.rooms c.args.row None ≡ Some c.args.room =
    ap (λ (k : SumsState). room_of k c.args.row) c.self.view_is ∙ c.requires.joined in
    rw (c.number.ensures.value, c.number-3.ensures.value)
    (left_totals _ _ _ _ _ c.self.invariant c.args.row c.args.room _ (omega arith) (omega arith) home (λ i l.
    c.take.ensures.sums i l
    ∙ (ap (λ (xs : List ℤ). sample xs i -ℤ sample c.index-frame.result.now i) (rw c.number-3.ensures.value at total)
    ∙ ap (λ (xs : List ℤ). sample (slice_index_or c.self.inside.totals.items c.args.room []) i -ℤ sample xs i)
    (rw c.number-2.ensures.value at frame))))

pub returns-clause-valid : goal.returns-clause-valid
returns-clause-valid c = (invariant_of-self c).valid
