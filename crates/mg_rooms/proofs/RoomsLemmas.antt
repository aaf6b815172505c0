-- The terminations and contexts after a call, in terms of the outcome of its command.
use Rattle.mg_rooms.proofs.Common.{◌≡◌, Result, Ok, Err, OnErr, Record, ErrorNumber, Registry}
use Rattle.mg_rooms.specs.aids.Gives.{Gives}

-- A refused call changes nothing.
pub refused : {A : Type 0} (record_of : A → Record) (old new : Registry) (r : Result A ErrorNumber)
    (outcome : Result (Registry × Record) ErrorNumber) → Gives record_of old new r outcome → OnErr r (new ≡ old)
refused record_of old new (Ok d) outcome h = tt
refused record_of old new (Err e) outcome h = h.1

pub gives_refusal : {A : Type 0} (record_of : A → Record) (old new : Registry) (r : Result A ErrorNumber)
    (outcome : Result (Registry × Record) ErrorNumber) (e : ErrorNumber) → r ≡ Err e → outcome ≡ Err e → new ≡ old →
    Gives record_of old new r outcome
gives_refusal record_of old new r outcome e is refused same = rw is (refused, same)

pub ruleset rules = (refused)
