use Rattle.std.proofs.Common.{◌≡◌, ◌<◌, ◌∙◌, None, Some, ℤ, List, length, ap, sym, arith, [], slice_index_or, get_or}
use Rattle.std.proofs.lemmas.Int.{ints}
use Rattle.std.proofs.lemmas.List.{get_or_read}
use Rattle.mg_sums.specs.Samples.{sample}
use Rattle.mg_sums.specs.Sums.{SumsState}
use Rattle.mg_sums.specs.aids.Sums.{room_of}
use Rattle.mg_sums.proofs.TotalLemmas.{framed_totals, reframed_totals, read_near}
use Rattle.mg_sums.proofs.sums.Sums.set_frame.Goals.{in-Some, in_default}
use Rattle.mg_sums.proofs.sums.Sums.set_frame.Goals as goal

pub replace-requires : goal.replace-requires
replace-requires c =
    let lt : c.number-in-Some.result < length c.self.inside.totals.items = omega (arith, c.self.invariant.rooms) in
    let total : c.index_mut.result.now ≡ slice_index_or c.self.inside.totals.items c.number-in-Some.result [] =
    get_or_read _ _ _ lt c.index_mut.ensures.value [] in
    record {
      near = λ i l. let near = read_near _ _ c.number-in-Some.result _ c.self.invariant (omega arith) total i l
          in omega arith;
    }

pub invariant_of-self : goal.invariant_of-self
invariant_of-self c = elim c.match-room.branch [
  | in-Some w ↦
      let lt : w.number-in-Some.result < length c.self.inside.totals.items = omega (arith, c.self.invariant.rooms) in
      let within : w.number.result < length c.self.inside.frames.items = omega (arith, c.self.invariant.valid.frames) in
      let total : w.index_mut.result.now ≡ slice_index_or c.self.inside.totals.items w.number-in-Some.result [] =
      get_or_read _ _ _ lt w.index_mut.ensures.value [] in
      let frame : w.index-old.result.now ≡ slice_index_or c.self.inside.frames.items w.number.result [] =
      get_or_read _ _ _ within w.index-old.ensures [] in
      let home : get_or c.self.inside.rooms c.args.row None ≡ Some w.in-Some.room =
      ap (λ (k : SumsState). room_of k c.args.row) c.self.view_is ∙ sym w.in-Some.ensures.value in
      rw (w.self-inside-is, c.number-2.ensures.value, w.number-in-Some.ensures.value)
      (reframed_totals _ _ _ _ _ c.self.invariant c.args.row w.in-Some.room c.new-new.result w.replace.new.self
      (omega arith) (omega arith) c.new-new.ensures.frame home (λ i l.
      let read = ap (λ (xs : List ℤ). sample xs i) (rw w.number-in-Some.ensures.value at total) in
      let old = ap (λ (xs : List ℤ). sample xs i) (rw w.number.ensures.value at frame) in
      omega (arith, ints, w.replace.ensures.sums i l, read, old)))
  | in_default w ↦
      let free : get_or c.self.inside.rooms c.args.row None ≡ None =
      ap (λ (k : SumsState). room_of k c.args.row) c.self.view_is ∙ (sym c.room.ensures.value ∙ w.in_default.is) in
      rw (w.self-inside-is, c.number-2.ensures.value)
      (framed_totals _ _ _ _ _ c.self.invariant c.args.row c.new-new.result (omega arith) c.new-new.ensures.frame
      free)
]

pub returns-clause-valid : goal.returns-clause-valid
returns-clause-valid c = (invariant_of-self c).valid
