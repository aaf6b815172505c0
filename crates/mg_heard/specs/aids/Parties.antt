-- Terminations as an interval describes them.
use Rattle.std.specs.Prelude.{◌≡◌}
use Rattle.std.specs.Option.{option_map}
use Rattle.mg_rooms.specs.declared.record.Record.{Record}
use Rattle.mg_engine.specs.Gateway.{Gateway, context_of}
use Rattle.mg_heard.specs.OpenFlows.{remote_of}
use Rattle.mg_heard.specs.declared.party.Party.{Party}

abbrev pub party_of : Record → Party
party_of r = record {
  number = r.number;
  context = r.context;
  at = option_map (λ c. record { address = c.address; port = c.port }) r.remote;
}

-- The description of a termination is right in this gateway.
pub record IsParty (w : Gateway) (p : Party) : Type 0 where
  pub context : p.context ≡ context_of w p.number
  pub at : p.at ≡ remote_of w p.number
