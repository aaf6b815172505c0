-- Properties that reading ensures for requests. Each request has an action, and each name of a termination is a word of
-- 1 to 64 bytes. A topology has at most 1,200 triples.
use Rattle.std.specs.Prelude.{ℕ, ◌==◌, Bool, true, ◌&&◌, not, nat_le, List, length}
use Rattle.std.specs.List.{list_all}
use Rattle.mg_scan.specs.Span.{text_of}
use Rattle.mg_words.specs.Term.{is_term}
use Rattle.mg_text.specs.declared.command.Command.{Command}
use Rattle.mg_text.specs.declared.context_property.NamedTriple.{NamedTriple}
use Rattle.mg_text.specs.declared.context_property.ContextProperty.{ContextProperty}
use Rattle.mg_text.specs.declared.context_property.ContextProperty.TheVariants.{Topology}
use Rattle.mg_text.specs.declared.context_property.ContextProperty.TheVariants.{ContextAudit}
use Rattle.mg_text.specs.declared.context_property.ContextProperty.TheVariants.{Priority, Emergency}
use Rattle.mg_text.specs.declared.request.Action.{Action}
use Rattle.mg_text.specs.declared.request.Request.{Request}
use Rattle.mg_text.specs.declared.body.MessageItem.{MessageItem}
use Rattle.mg_text.specs.declared.body.MessageItem.TheVariants as items

abbrev pub command_is_proper : List ℕ → Command → Bool
command_is_proper source x = is_term (text_of source x.term)

abbrev pub triple_is_proper : List ℕ → NamedTriple → Bool
triple_is_proper source x = is_term (text_of source x.first) && is_term (text_of source x.second)

abbrev pub property_is_proper : List ℕ → ContextProperty → Bool
property_is_proper source (Topology xs) =
    nat_le (length xs) 1200 && list_all (triple_is_proper source) xs
property_is_proper source (ContextAudit xs) = true
property_is_proper source (Priority word) = true
property_is_proper source (Emergency word) = true

abbrev pub action_is_proper : List ℕ → Action → Bool
action_is_proper source x =
    list_all (property_is_proper source) x.properties
    && list_all (command_is_proper source) x.commands

abbrev pub request_is_proper : List ℕ → Request → Bool
request_is_proper source x =
    not (length x.actions == 0) && list_all (action_is_proper source) x.actions

abbrev pub item_is_proper : List ℕ → MessageItem → Bool
item_is_proper source (items.Request x) = request_is_proper source x
item_is_proper source (items.Acknowledgement xs) = true

abbrev pub are_proper : List ℕ → List MessageItem → Bool
are_proper source xs = list_all (item_is_proper source) xs
