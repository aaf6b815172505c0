-- The relation between a call and the outcome of its command.
use Rattle.std.specs.Prelude.{◌≡◌, Result, Ok, Err}
use Rattle.mg_rooms.specs.declared.record.Record.{Record}
use Rattle.mg_words.specs.declared.error_number.ErrorNumber.{ErrorNumber}
use Rattle.mg_rooms.specs.Registry.{Registry}

-- The outcome is the call's result and the state after the call. A refused call changes nothing.
abbrev pub Gives : {A : Type 0} → (A → Record) → Registry → Registry → Result A ErrorNumber
    → Result (Registry × Record) ErrorNumber → Type 0
Gives record_of old new (Ok x) outcome = outcome ≡ Ok (new, record_of x)
Gives record_of old new (Err e) outcome = (outcome ≡ Err e) × (new ≡ old)
