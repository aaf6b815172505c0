-- Running the same request in two gateways that differ only in what some terminations received.
use Rattle.std.specs.Prelude.{◌≡◌, ℕ, List, map}
use Rattle.std.specs.Option.{option_map}
use Rattle.mg_reply.specs.declared.item.Item.{Item}
use Rattle.mg_reply.specs.declared.item.Item.TheVariants.{Triple, Command, Fault, Action}
use Rattle.mg_reply.specs.declared.outcome.Outcome.{Outcome}
use Rattle.mg_reply.specs.declared.outcome.Outcome.TheVariants.{Failed, Done}
use Rattle.mg_reply.specs.declared.outcome.Parts.{Parts}
use Rattle.mg_engine.specs.Apart.{AgreeOutside, but_received}
use Rattle.mg_engine.specs.Gateway.{Gateway}
use Rattle.mg_text.specs.declared.request.Request.{Request}
use Rattle.mg_commands.specs.Transaction.{replied}

abbrev pub parts_but_received : Parts → Parts
parts_but_received parts =
    record parts { statistics = option_map but_received parts.statistics }

abbrev pub outcome_but_received : Outcome → Outcome
outcome_but_received (Failed e) = Failed e
outcome_but_received (Done parts) = Done (parts_but_received parts)

-- An item of a reply, without the counts of received packets in its statistics.
abbrev pub item_but_received : Item → Item
item_but_received (Triple a b association) = Triple a b association
item_but_received (Command word term outcome) = Command word term (outcome_but_received outcome)
item_but_received (Fault e) = Fault e
item_but_received (Action id) = Action id

-- If two gateways agree outside some terminations, they still do after the same request. The
-- replies are equal, item by item, except for the counts of received packets in statistics.
abbrev pub RequestsKeepAgreement : Type 0
RequestsKeepAgreement =
    (some : List ℕ) (source : List ℕ) (request : Request) (a b : Gateway) → AgreeOutside some a b
    → AgreeOutside some (replied source request a).gateway (replied source request b).gateway
    × (map item_but_received (replied source request a).items
    ≡ map item_but_received (replied source request b).items)
