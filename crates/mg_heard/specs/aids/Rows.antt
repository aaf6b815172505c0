-- The intervals of each listener, as the code stores and continues them.
use Rattle.std.specs.Prelude.{◌≡◌, List, flat_map, map, All}
use Rattle.mg_heard.specs.aids.Hearers.{flows_heard, seats_of, AreRising}
use Rattle.mg_heard.specs.aids.Opening.{flows_of}
use Rattle.mg_heard.specs.declared.hearer.Hearer.{Hearer}
use Rattle.mg_heard.specs.declared.listener_row.ListenerRow.{ListenerRow}
use Rattle.mg_heard.specs.declared.open_interval.OpenInterval.{OpenInterval}

abbrev pub intervals_of : List ListenerRow → List OpenInterval
intervals_of rows = flat_map (λ r. r.row) rows

abbrev pub listeners_of : List ListenerRow → List Hearer
listeners_of rows = map (λ r. r.listener) rows

-- The rows are in order of their listeners, and each row has the flows to its listener.
pub record AreRows (rows : List ListenerRow) : Type 0 where
  pub rising : AreRising (listeners_of rows)
  pub flows : All (λ r. flows_of r.row ≡ flows_heard (seats_of (listeners_of rows)) r.listener) rows
