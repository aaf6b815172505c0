-- The text of replies (RFC 3525, Annex B.2, in long forms). The layout is this gateway's own.
use Rattle.std.specs.Prelude.{ℕ, List, [], ◌∷◌, ◌++◌, codes, decimal}
use Rattle.mg_words.specs.Address.{address_text}
use Rattle.mg_words.specs.declared.context_id.ContextId.{ContextId}
use Rattle.mg_words.specs.ContextId.{context_text}
use Rattle.mg_reply.specs.declared.item.Item.{Item}
use Rattle.mg_reply.specs.declared.item.Item.TheVariants.{Fault, Action}
use Rattle.mg_words.specs.ErrorNumber.{error_text}
use Rattle.mg_reply.specs.Listed.{grouped}
use Rattle.mg_reply.specs.Entries.{entries_of}

-- The head of a message: "MEGACO/1 [" address "]:" port LF.
abbrev pub head_text : List ℕ → ℕ → List ℕ
head_text address port =
    codes "MEGACO/1 [" ++ (address_text address ++ (codes "]:" ++ (decimal port ++ codes "\n")))

-- The text of an action: "Context=" id ["{" entry *("," entry) "}"].
abbrev pub action_text : ContextId → List Item → List ℕ
action_text id items = codes "Context=" ++ (context_text id ++ grouped (entries_of items))

-- The actions, with a mark before each. An action consists of the items since the previous action. The list `pending`
-- holds the items of the next action so far. Items after the last action are not written.
unfoldable pub actions_text : List ℕ → List Item → List Item → List ℕ
actions_text mark pending [] = []
actions_text mark pending (Action id ∷ xs) =
    mark ++ (action_text id pending ++ actions_text (codes ",") [] xs)
actions_text mark pending (x ∷ xs) = actions_text mark (pending ++ x ∷ []) xs

-- A single error, or actions with commas between them.
abbrev pub items_text : List Item → List ℕ
items_text (Fault e ∷ []) = error_text e
items_text items = actions_text [] [] items

-- The text of a reply: "Reply=" n "{" (error | action *("," action)) "}".
abbrev pub reply_text : ℕ → List Item → List ℕ
reply_text n items = codes "Reply=" ++ (decimal n ++ (codes "{" ++ (items_text items ++ codes "}")))
