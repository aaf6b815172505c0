use Rattle.mg_rooms.proofs.Common.{◌≡◌, ℕ, Option, Some, None, sym, subst, IfOk, ok_or, ◌==◌, eqb-true, Record, ErrorNumber, Registry, record_at}
use Rattle.mg_rooms.proofs.OrderLemmas.{found_key}
use Rattle.mg_words.specs.declared.error_number.ErrorNumber.TheVariants.{UnknownTermination}
use Rattle.mg_rooms.proofs.tables.Tables.named.Goals as goal

-- A record that is found is also found by its own number.
found_there : (w : Registry) (n : ℕ) (e : ErrorNumber) (o : Option Record) → o ≡ record_at w n →
    IfOk (ok_or o e) (λ r. record_at w r.number ≡ Some r)
found_there w n e None h = tt
found_there w n e (Some r) h =
    let key : r.number ≡ n = eqb-true r.number n (found_key (λ x. x.number == n) w.terminations r (sym h)) in
    subst (λ (m : ℕ). record_at w m ≡ Some r) (sym key) (sym h)

pub returns-clause-there : goal.returns-clause-there
returns-clause-there c =
    rw c.ok_or.ensures.value (found_there c.args.self.now c.args.number UnknownTermination c.record.result
    c.record.ensures.value)
