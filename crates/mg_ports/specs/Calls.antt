-- The calls on a gateway's ports, as far as they are known.
use Rattle.std.specs.Prelude.{◌≡◌, ◌⊎◌, ℕ, ◌-◌, ◌^◌, ◌<◌, List, ◌++◌, take, Option, Some, None}
use Rattle.std.specs.Prelude.{Result, Ok, Err, IfSome, IsSomeAnd}
use Rattle.mg_words.specs.declared.peer.Peer.{Peer}
use Rattle.mg_ports.specs.declared.port_fault.PortFault.{PortFault}
use Rattle.mg_ports.specs.declared.call.Call.{Call}
use Rattle.mg_ports.specs.declared.receipt.Receipt.{Receipt}
use Rattle.mg_ports.specs.declared.receipt.Receipt.TheVariants.{Delivered, Nothing, Failed}

-- A log grows by these calls. Ports and hosts may lose their log; if it is known at the end, it was known all along.
abbrev pub Grows : {C : Type 0} → (old new : Option (List C)) → List C → Type 0
Grows old new calls = IfSome new (λ all. IsSomeAnd old (λ before. all ≡ before ++ calls))

-- A failure was counted. A counter that reaches its maximum stays there.
abbrev pub IsCounted : ℕ → ℕ → Type 0
IsCounted old new = (old < new) ⊎ (old ≡ 2 ^ 64 - 1)

-- The result of a receive, with the bytes received.
abbrev pub receipt_of : Result (Option (ℕ × Peer)) PortFault → List ℕ → Receipt
receipt_of (Ok (Some (n, source))) buffer = Delivered source (take n buffer)
receipt_of (Ok None) buffer = Nothing
receipt_of (Err fault) buffer = Failed
