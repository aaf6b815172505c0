-- The description of a termination in an interval is right.
use Rattle.std.proofs.Common.{◌≡◌, Option, Some, sym, ap}
use Rattle.std.specs.Option.{option_and_then, option_map, option_map_or}
use Rattle.mg_rooms.specs.Registry.{record_at}
use Rattle.mg_rooms.specs.declared.record.Record.{Record}
use Rattle.mg_engine.specs.Gateway.{Gateway}
use Rattle.mg_heard.specs.aids.Parties.{IsParty, party_of}

pub is_party : (w : Gateway) (r : Record) → record_at w.rooms r.number ≡ Some r → IsParty w (party_of r)
is_party w r is = record {
  context = sym (ap (λ (o : Option Record). option_map_or (λ r. r.context) o 0) is);
  at = sym (ap (λ (o : Option Record).
      option_and_then (λ r. option_map (λ c. record { address = c.address; port = c.port }) r.remote) o) is);
}
