-- The addresses of controllers, and how they are written.
use Rattle.std.specs.Prelude.{ℕ, nat_lt, List, length, ok_or, Result, Err, if◌then◌else◌}
use Rattle.mg_words.specs.Address.{address_of}
use Rattle.mg_service.specs.Read.{all_read}
use Rattle.mg_service.specs.declared.controller_fault.ControllerFault.{ControllerFault}
use Rattle.mg_service.specs.declared.controller_fault.ControllerFault.TheVariants.{Unreadable}
use Rattle.mg_service.specs.declared.controller_fault.ControllerFault.TheVariants.{TooMany}

-- The addresses of the controllers, in dotted decimal. There are at most eight.
abbrev pub controllers_of : List (List ℕ) → Result (List (List ℕ)) ControllerFault
controllers_of texts = if nat_lt 8 (length texts) then Err TooMany
    else all_read (λ text. ok_or (address_of text) Unreadable) texts
