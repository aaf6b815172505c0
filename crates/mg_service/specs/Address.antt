-- The addresses of a gateway, and how they are written.
use Rattle.std.specs.Prelude.{ℕ, Bool, nat_le, nat_lt, List, [], ◌∷◌, length, slice_index, ok_or}
use Rattle.std.specs.Prelude.{Result, Ok, Err, if◌then◌else◌}
use Rattle.std.specs.Str.{bytes_eq}
use Rattle.mg_words.specs.Address.{address_of}
use Rattle.mg_words.specs.ResultSteps.{◌>>=◌}
use Rattle.mg_service.specs.Read.{all_read}
use Rattle.mg_service.specs.declared.address.AddressFault.{AddressFault}
use Rattle.mg_service.specs.declared.address.AddressFault.TheVariants.{Unreadable, Unspecified}
use Rattle.mg_service.specs.declared.address.AddressFault.TheVariants.{Multicast}
use Rattle.mg_service.specs.declared.bind_address_fault.BindAddressFault.{BindAddressFault}
use Rattle.mg_service.specs.declared.bind_address_fault.BindAddressFault.TheVariants as bind_faults

-- Whether an address is 224.0.0.0 or above: multicast, reserved or broadcast.
abbrev pub is_multicast : List ℕ → Bool
is_multicast address = nat_le 224 (slice_index address 0)

-- The gateway's own address, in dotted decimal. It appears in session descriptions, or as the gateway's name. So it is
-- a unicast address, and not 0.0.0.0. The address from which a check sends messages has the same form.
abbrev pub own_address : List ℕ → Result (List ℕ) AddressFault
own_address text = do
  address ← ok_or (address_of text) Unreadable
  if bytes_eq address (0 ∷ 0 ∷ 0 ∷ 0 ∷ []) then Err Unspecified
      else (if is_multicast address then Err Multicast else Ok address)

-- An address that sockets are bound to. 0.0.0.0 means all addresses of the machine.
abbrev pub bind_address : List ℕ → Result (List ℕ) BindAddressFault
bind_address text = do
  address ← ok_or (address_of text) bind_faults.Unreadable
  if is_multicast address then Err bind_faults.Multicast else Ok address

-- The addresses that sockets are bound to. There are at most eight.
abbrev pub bind_addresses_of : List (List ℕ) → Result (List (List ℕ)) BindAddressFault
bind_addresses_of texts =
    if nat_lt 8 (length texts) then Err bind_faults.TooMany else all_read bind_address texts
