-- The calls on a host, as far as they are known.
use Rattle.std.specs.Prelude.{◌≡◌, ℕ, Bool, true, List, [], ◌∷◌, ◌++◌, map, slice_set}
use Rattle.std.specs.Prelude.{Option, Some, None, IfSome, Result, Ok, Err, is_ok}
use Rattle.mg_host.specs.declared.host_call.HostCall.{HostCall}
use Rattle.mg_host.specs.declared.host_call.HostCall.TheVariants.{OpenText}
use Rattle.mg_host.specs.declared.host_call.HostCall.TheVariants.{Reported, Poll, OnPorts}
use Rattle.mg_host.specs.declared.host_call.HostCall.TheVariants.{NotReported, NotSent}
use Rattle.mg_ports.specs.declared.call.Call.{Call}
use Rattle.mg_ports.specs.declared.call.Call.TheVariants.{Receive, Send}
use Rattle.mg_ports.specs.declared.receipt.Receipt.TheVariants.{Nothing}
use Rattle.std.specs.Option.{option_map}
pub use Rattle.mg_ports.specs.Calls.{Grows}

-- If there is a log, the known bytes are the bytes in the log.
abbrev pub IsLogged : Option (List HostCall) → (known : Option (List ℕ)) → List ℕ → Type 0
IsLogged calls known logged = IfSome calls (λ all. known ≡ Some logged)

-- The text that is read. If a file is given, the text is the content of the file, and opening the file is logged.
-- Otherwise, the text is the input.
abbrev pub ReadsFrom : (file : Option (List ℕ)) → (before after : Option (List HostCall))
    → (input text : Option (List ℕ)) → Type 0
ReadsFrom None before after input text = (text ≡ input) × (after ≡ before)
ReadsFrom (Some path) before after input text =
    (found : List ℕ) × Grows before after (OpenText path (Some found) ∷ [])
    × IsLogged after text found

-- A file with the logged bytes was opened, or opening it failed. The log grows by this call.
abbrev pub OpensFile : {F E : Type 0} → (Option (List ℕ) → HostCall) → (F → Option (List ℕ))
    → (old new : Option (List HostCall)) → Result F E → Type 0
OpensFile call known old new (Ok opened) =
    (bytes : List ℕ) × Grows old new (call (Some bytes) ∷ []) × IsLogged new (known opened) bytes
OpensFile call known old new (Err error) = Grows old new (call None ∷ [])

-- The marks after these sockets were marked.
abbrev pub mark_all : (sockets : List ℕ) → (marks : List Bool) → List Bool
mark_all [] marks = marks
mark_all (socket ∷ sockets) marks = mark_all sockets (slice_set marks socket true)

-- The host was asked at which sockets a datagram had arrived, and marked the sockets that it reported.
abbrev pub Polls : {E : Type 0} → (old new : Option (List HostCall)) → (marks marked : List Bool)
    → Result (Unit {0}) E → Type 0
Polls old new marks marked result =
    (sockets : List ℕ) × Grows old new (map Reported sockets ++ Poll (is_ok result) ∷ [])
    × IfSome new (λ all. marked ≡ mark_all sockets marks)

-- The calls that sessions made on their ports, including those that they decided without asking the host.
abbrev pub on_ports : List HostCall → List Call
on_ports [] = []
on_ports (OnPorts call ∷ calls) = call ∷ on_ports calls
on_ports (NotReported socket ∷ calls) = Receive socket Nothing ∷ on_ports calls
on_ports (NotSent socket to bytes cause ∷ calls) = Send socket to bytes ∷ on_ports calls
on_ports (_ ∷ calls) = on_ports calls

abbrev pub port_calls : Option (List HostCall) → Option (List Call)
port_calls calls = option_map on_ports calls
