use Rattle.std.proofs.Common.{◌∙◌, [], ◌∷◌, ap, arith, length, length-append, map, drop, refl, sym, ◌+◌}
use Rattle.mg_service.specs.Address.{bind_address}
use Rattle.mg_service.specs.Read.{all_read}
use Rattle.mg_service.proofs.ReadLemmas.{next_read, none_read, then_read}
use Rattle.mg_service.proofs.bind_addresses.BindAddresses.of.Goals as goal

pub loop-text-init : goal.loop-text-init
loop-text-init c = rw c.new-addresses.ensures (none_read _, refl)

pub loop-text-preserved : goal.loop-text-preserved
loop-text-preserved c =
    let rest = all_read bind_address (map (λ t. t.now) (drop (c.loop-text.text-index + 1) c.args.texts.now)) in
    let next = next_read bind_address (λ t. t.now) c.args.texts.now c.loop-text.text-index _ c.in-Ok.address
    c.loop-text.addresses.items c.loop-text-test.true (sym c.in-Ok.ensures.value) in (
      ap (λ items. then_read items rest) c.push.ensures.items ∙ (sym next ∙ c.loop-text.invariant.0),
      omega (
        arith,
        ap length c.push.ensures.items,
        length-append c.loop-text.addresses.items (c.in-Ok.address ∷ []),
        c.loop-text.invariant.1,
      ),
    )
