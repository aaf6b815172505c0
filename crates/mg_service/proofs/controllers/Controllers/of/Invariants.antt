use Rattle.std.proofs.Common.{◌≡◌, drop, length, map}
use Rattle.std.specs.Prelude.{ok_or}
use Rattle.mg_words.specs.Address.{address_of}
use Rattle.mg_service.specs.declared.controller_fault.ControllerFault.TheVariants.{Unreadable}
use Rattle.mg_service.specs.Read.{all_read}
use Rattle.mg_service.proofs.ReadLemmas.{then_read}
use Rattle.mg_service.proofs.controllers.Controllers.of.Given as goal

abbrev pub invariant-loop-text : goal.invariant-loop-text
invariant-loop-text l =
    (then_read l.addresses.items (all_read (λ text. ok_or (address_of text) Unreadable)
    (map (λ t. t.now) (drop l.text-index l.texts)))
    ≡ all_read (λ text. ok_or (address_of text) Unreadable) (map (λ t. t.now) l.texts))
    × (length l.addresses.items ≡ l.text-index)
