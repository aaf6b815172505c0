-- The entries of an action (RFC 3525, Annex B.2, actionReply).
use Rattle.std.specs.Prelude.{ℕ, Bool, true, false, List, [], ◌∷◌, ◌++◌, map}
use Rattle.std.specs.Prelude.{codes}
use Rattle.std.specs.List.{filter}
use Rattle.mg_words.specs.Association.{association_text}
use Rattle.mg_words.specs.CommandWord.{command_text}
use Rattle.mg_reply.specs.declared.entry_kind.EntryKind.{EntryKind}
use Rattle.mg_reply.specs.declared.entry_kind.EntryKind.TheVariants.{Triples, Commands, Faults}
use Rattle.mg_reply.specs.declared.outcome.Outcome.{Outcome}
use Rattle.mg_reply.specs.declared.outcome.Outcome.TheVariants.{Failed, Done}
use Rattle.mg_reply.specs.declared.item.Item.{Item}
use Rattle.mg_reply.specs.declared.item.Item.TheVariants.{Triple, Command, Fault, Action}
use Rattle.mg_words.specs.ErrorNumber.{error_text}
use Rattle.mg_reply.specs.Listed.{listed, grouped}
use Rattle.mg_reply.specs.Media.{reported_parts}

-- The text after a command's termination: the error, or what is reported about the termination.
abbrev pub outcome_text : Outcome → List ℕ
outcome_text (Failed e) = grouped (error_text e ∷ [])
outcome_text (Done parts) = grouped (reported_parts parts)

-- The text of an item: a triple, a command or an error. The end of an action has no text.
abbrev pub item_text : Item → List ℕ
item_text (Triple a b association) =
    a ++ (codes "," ++ (b ++ (codes "," ++ association_text association)))
item_text (Command word term outcome) =
    command_text word ++ (codes "=" ++ (term ++ outcome_text outcome))
item_text (Fault e) = error_text e
item_text (Action id) = []

-- Whether an item is written among the entries of a kind.
abbrev pub is_of : EntryKind → Item → Bool
is_of Triples (Triple a b association) = true
is_of Commands (Command word term outcome) = true
is_of Faults (Fault e) = true
is_of _ _ = false

-- The text of each item of a kind, in order.
abbrev pub texts_of : EntryKind → List Item → List (List ℕ)
texts_of kind items = map item_text (filter (is_of kind) items)

-- The topology as one entry with all triples, or no entry if there are no triples.
abbrev pub topology_entry : List (List ℕ) → List (List ℕ)
topology_entry [] = []
topology_entry (x ∷ xs) = (listed (codes "Topology{") (x ∷ xs) ++ codes "}") ∷ []

-- The entries of an action: the topology, then the commands, then the errors.
abbrev pub entries_of : List Item → List (List ℕ)
entries_of items =
    topology_entry (texts_of Triples items) ++ (texts_of Commands items ++ texts_of Faults items)
