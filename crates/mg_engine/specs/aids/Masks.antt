-- The flows and the silenced talkers that the table of flows represents for each member (not from a standard).
use Rattle.std.specs.Prelude.{◌≡◌, ℕ, IsTrue, List}
use Rattle.mg_rooms.specs.declared.record.Record.{Record}
use Rattle.mg_flow.specs.declared.place.Place.{Place}
use Rattle.mg_flow.specs.aids.Table as table
use Rattle.mg_engine.specs.Gateway.{Gateway}
use Rattle.mg_engine.specs.Flow.{flow, is_silenced}
use Rattle.mg_engine.specs.aids.Place.{IsOnPlace}
use Rattle.mg_engine.specs.aids.Stands.{ShareContext}

-- The held places are exactly the places of members. For any two members of a context, the table and the gateway agree
-- on whether speech flows and on whether the talker is silenced.
pub record RepresentsFlows (w : Gateway) (rooms : List table.RoomFlows) : Type 0 where
  pub held : (n : ℕ) (r : Record) (p : Place) → IsOnPlace w.rooms n r p
      → IsTrue (table.holds rooms p)
  pub nobody : (p : Place) → IsTrue (table.holds rooms p)
      → (n : ℕ) × (r : Record) × IsOnPlace w.rooms n r p
  pub flows : (talker listener : ℕ) (t l : Record) (p q : Place)
      → ShareContext w.rooms talker listener t l p q
      → table.flows rooms p q ≡ flow w talker listener
  pub silenced : (talker listener : ℕ) (t l : Record) (p q : Place)
      → ShareContext w.rooms talker listener t l p q
      → table.is_silenced rooms p q ≡ is_silenced w talker listener
