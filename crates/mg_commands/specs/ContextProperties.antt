-- In addition to its commands, an action can request a topology and an audit of the topology (RFC 3525, sections 7.1.18
-- and 8.2.1). The error numbers and the order of the checks are this project's own.
use Rattle.std.specs.Prelude.{ℕ, Bool, true, false, not, List, [], ◌∷◌, ◌++◌, map}
use Rattle.std.specs.Prelude.{Option, Some, None, Result, Ok, if◌then◌else◌}
use Rattle.std.specs.List.{list_any}
use Rattle.std.specs.Bool.{then_some}
use Rattle.std.specs.Option.{unwrap_or}
use Rattle.mg_scan.specs.Span.{text_of}
use Rattle.mg_words.specs.ResultSteps.{◌>>=◌}
use Rattle.mg_words.specs.Term.{rtp_name}
use Rattle.mg_words.specs.declared.association.Association.TheVariants.{Isolate, Oneway, Bothway}
use Rattle.mg_words.specs.declared.context_id.ContextId.{ContextId}
use Rattle.mg_words.specs.declared.context_id.ContextId.TheVariants as contexts
use Rattle.mg_words.specs.declared.error_number.ErrorNumber.{ErrorNumber}
use Rattle.mg_words.specs.declared.error_number.ErrorNumber.TheVariants.{DescriptorTwice}
use Rattle.mg_words.specs.declared.error_number.ErrorNumber.TheVariants.{DescriptorNotServed}
use Rattle.mg_words.specs.declared.error_number.ErrorNumber.TheVariants.{NotServed}
use Rattle.mg_reply.specs.declared.item.Item.{Item}
use Rattle.mg_reply.specs.declared.item.Item.TheVariants as replies
use Rattle.mg_rooms.specs.declared.target.Target.{Target}
use Rattle.mg_rooms.specs.Registry.{members_at}
use Rattle.mg_engine.specs.declared.topology_triple.TopologyTriple.{TopologyTriple}
use Rattle.mg_engine.specs.declared.triple_term.TripleTerm.{TripleTerm}
use Rattle.mg_engine.specs.declared.triple_term.TripleTerm.TheVariants as terms
use Rattle.mg_engine.specs.Gateway.{Gateway}
use Rattle.mg_engine.specs.Flow.{hears}
use Rattle.mg_engine.specs.Outcome.{apply_triples}
use Rattle.mg_text.specs.declared.context_property.ContextProperty.{ContextProperty}
use Rattle.mg_text.specs.declared.context_property.ContextProperty.TheVariants as properties
use Rattle.mg_text.specs.declared.context_property.ContextWord.{ContextWord}
use Rattle.mg_text.specs.declared.context_property.ContextWord.TheVariants as words
use Rattle.mg_text.specs.declared.context_property.NamedTriple.{NamedTriple}
use Rattle.mg_text.specs.declared.request.Action.{Action}
use Rattle.mg_commands.specs.declared.name.Name.{Name}
use Rattle.mg_commands.specs.declared.name.Name.TheVariants as names
use Rattle.mg_commands.specs.Name.{name_of}
use Rattle.mg_commands.specs.Search.{first_of, first_after}

-- ## Before the commands

abbrev pub is_topology : ContextProperty → Bool
is_topology (properties.Topology xs) = true
is_topology _ = false

abbrev pub is_context_audit : ContextProperty → Bool
is_context_audit (properties.ContextAudit ws) = true
is_context_audit _ = false

-- Whether a word of a ContextAudit is Topology, the only supported word.
abbrev pub is_topology_word : ContextWord → Bool
is_topology_word words.Topology = true
is_topology_word _ = false

-- The error for a property that is repeated or not supported, given the properties before it.
abbrev pub context_property_fault : List ContextProperty → ContextProperty
    → Option ErrorNumber
context_property_fault before (properties.Topology xs) =
    then_some (list_any is_topology before) DescriptorTwice
context_property_fault before (properties.ContextAudit ws) =
    if list_any is_context_audit before then Some DescriptorTwice
    else then_some (list_any (λ w. not (is_topology_word w)) ws) DescriptorNotServed
context_property_fault before _ = Some DescriptorNotServed

abbrev pub is_all : ContextId → Bool
is_all contexts.All = true
is_all _ = false

-- The error with which an action is rejected as a whole, or `None`. The action is rejected if it names all contexts or
-- has a faulty property. The first faulty property in the text counts.
abbrev pub action_fault : Action → Option ErrorNumber
action_fault a =
    if is_all a.context then Some NotServed else first_after context_property_fault [] a.properties

-- ## After the commands

-- The meaning of a name in a triple. `$` is the first termination that an Add of the action created, if there is one.
abbrev pub term_of : Option ℕ → Name → TripleTerm
term_of made names.Root = terms.Barred
term_of (Some n) names.Choose = terms.Number n
term_of None names.Choose = terms.Barred
term_of made names.All = terms.Every
term_of made (names.Number n) = terms.Number n
term_of made names.Other = terms.Stranger

abbrev pub topology_triple_of : List ℕ → Option ℕ → NamedTriple → TopologyTriple
topology_triple_of source made x =
    record {
      first = term_of made (name_of (text_of source x.first));
      second = term_of made (name_of (text_of source x.second));
      association = x.association;
    }

abbrev pub triples_in : ContextProperty → Option (List NamedTriple)
triples_in (properties.Topology xs) = Some xs
triples_in _ = None

-- The triples of the topology, or none if there is no topology.
abbrev pub triples_of : List ℕ → Option ℕ → List ContextProperty → List TopologyTriple
triples_of source made ps =
    map (topology_triple_of source made) (unwrap_or (first_of triples_in ps) [])

-- The item that reports who hears whom of two members. The flags say whether `b` hears `a`, and whether `a` hears `b`.
abbrev pub pair_item : Bool → Bool → ℕ → ℕ → Item
pair_item true true a b = replies.Triple (rtp_name a) (rtp_name b) Bothway
pair_item true false a b = replies.Triple (rtp_name a) (rtp_name b) Oneway
pair_item false true a b = replies.Triple (rtp_name b) (rtp_name a) Oneway
pair_item false false a b = replies.Triple (rtp_name a) (rtp_name b) Isolate

abbrev pub audit_pair : Gateway → ℕ → ℕ → Item
audit_pair w a b = pair_item (hears w a b) (hears w b a) a b

-- The items for all pairs of members, in order of entry.
unfoldable pub audit_pairs : Gateway → List ℕ → List Item
audit_pairs w [] = []
audit_pairs w (a ∷ members) = map (audit_pair w a) members ++ audit_pairs w members

-- The items with which the audit reports about a context, if the action has an audit.
abbrev pub audit_items : List ContextProperty → Gateway → ℕ → List Item
audit_items ps w c =
    if list_any is_context_audit ps then audit_pairs w (members_at w.rooms c) else []

-- The outcome of an action's properties: its triples are applied, and then its audit is answered. If the triples can't
-- be applied, the outcome is the error. Without properties, nothing happens.
abbrev pub context_outcome : List ℕ → Option ℕ → List ContextProperty → Gateway → Target
    → Result (Gateway × List Item) ErrorNumber
context_outcome source made [] w target = Ok (w, [])
context_outcome source made (x ∷ ps) w target = do
  p ← apply_triples w target (triples_of source made (x ∷ ps))
  Ok (p.0, audit_items (x ∷ ps) p.0 p.1)
