use Rattle.std.proofs.Common.{◌≡◌, drop, length, map}
use Rattle.mg_service.specs.Address.{bind_address}
use Rattle.mg_service.specs.Read.{all_read}
use Rattle.mg_service.proofs.ReadLemmas.{then_read}
use Rattle.mg_service.proofs.bind_addresses.BindAddresses.of.Given as goal

abbrev pub invariant-loop-text : goal.invariant-loop-text
invariant-loop-text l =
    (then_read l.addresses.items (all_read bind_address (map (λ t. t.now) (drop l.text-index l.texts)))
    ≡ all_read bind_address (map (λ t. t.now) l.texts))
    × (length l.addresses.items ≡ l.text-index)
