use Rattle.std.proofs.Common.{ℕ, ◌+◌, ◌≤◌, List, take, drop, subst, sym, arith}
use Rattle.std.proofs.lemmas.List.{length-take, length-take-le, take-append-le}
use Rattle.std.specs.Io.KnownBytes.{Consumes}
use Rattle.mg_journal.specs.JournalFile.{FileState}
use Rattle.mg_journal.specs.Opening.{IsSound}
use Rattle.mg_journal.specs.aids.Opened.{OpeningState, left_to_read}
use Rattle.mg_journal.specs.aids.Opening.{HasExtent}
use Rattle.mg_journal.proofs.OpeningLemmas.{consumes}
use Rattle.mg_journal.proofs.opening.OpeningRead.read.Goals as goal

pub returns-in-Ok-clause-bytes : goal.returns-in-Ok-clause-bytes
returns-in-Ok-clause-bytes g c =
    let n = c.in-Ok.n in
    let at = c.self.inside.read in
    let old = g.F.JournalFile.file c.self.inside.file in
    let new = g.F.JournalFile.file c.read.new.self in
    let part = take n c.read.new.buffer in
    let front = take-append-le n c.read.new.buffer (drop c.min-most.result c.args.buffer.now) c.in-Ok.ensures.value.0 in
    let within : at + n ≤ c.self.inside.extent.whole =
    omega (
      arith,
      c.min-most.ensures,
      c.read.auto.buffer,
      length-take c.min-most.result c.args.buffer.now,
      c.in-Ok.ensures.value.0,
      c.self.invariant.2,
    ) in
    let has = c.in-Ok.ensures.value.1 (omega (arith, c.in-Ok.n-test.1, c.in-Ok.ensures.value.0)) in (
      subst (λ (l : List ℕ). Consumes (left_to_read c.args.self.now) (left_to_read (record { file = new; read = at + n })) l)
          (sym front)
          (subst (λ (o : OpeningState). Consumes (left_to_read o) (left_to_read (record { file = new; read = at + n })) part)
          c.self.view_is
          (subst (λ (f : FileState). Consumes (left_to_read (record { file = old; read = at }))
          (left_to_read (record { file = f; read = at + n })) part) (sym c.in-Ok.ensures.value.2)
          (consumes old c.self.inside.extent at n part c.self.invariant.0 within
          (length-take-le n c.read.new.buffer c.in-Ok.ensures.value.0) has))),
      λ none. absurd (c.in-Ok.n-test.1 none),
    )

pub invariant_of-self-in-Ok : goal.invariant_of-self-in-Ok
invariant_of-self-in-Ok g c =
    let n = c.in-Ok.n in
    let at = c.self.inside.read in
    let within : at + n ≤ c.self.inside.extent.whole =
    omega (
      arith,
      c.min-most.ensures,
      c.read.auto.buffer,
      length-take c.min-most.result c.args.buffer.now,
      c.in-Ok.ensures.value.0,
      c.self.invariant.2,
    ) in
    subst (λ (f : FileState). HasExtent f c.self.inside.extent × IsSound f × (at + n ≤ c.self.inside.extent.whole))
    (sym c.in-Ok.ensures.value.2) (c.self.invariant.0, c.self.invariant.1, within)
