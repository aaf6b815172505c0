-- Steps toward the rule that an error replaces a reply that is too long.
use Rattle.std.specs.Prelude.{◌≡◌, ℕ, Bool, true, false, ◌||◌, nat_le, nat_lt, List, [], length}
use Rattle.std.specs.List.{list_all}
use Rattle.mg_reply.specs.declared.item.Item.{Item}
use Rattle.mg_reply.specs.declared.item.Item.TheVariants.{Triple, Command, Fault, Action}
use Rattle.mg_words.specs.Limits.{reply_limit}
use Rattle.mg_reply.specs.Entries.{item_text}
use Rattle.mg_reply.specs.Reply.{Answered, new_reply, is_refusal, last_is_action, after_all}
use Rattle.mg_reply.specs.Written.{action_text, reply_text}

-- Whether an item, with its comma, is at least 10 bytes long. Every item of a request's reply is. The end of an action
-- counts without its entries.
abbrev pub is_wide : Item → Bool
is_wide (Triple a b association) = nat_le 9 (length (item_text (Triple a b association)))
is_wide (Command word term outcome) = nat_le 9 (length (item_text (Command word term outcome)))
is_wide (Fault e) = nat_le 9 (length (item_text (Fault e)))
is_wide (Action id) = nat_le 9 (length (action_text id []))

-- Whether a reply is too long: it is marked as too long, or its text exceeds the limit.
abbrev pub is_too_long : Answered → Bool
is_too_long r = r.is_long || nat_lt reply_limit (length (reply_text r.number r.items))

-- Let each of the items be at least 10 bytes long with its comma. Let them be a single error, or let the last of them
-- end an action. A new reply that gets these items is too long if and only if the text of all of them exceeds the
-- limit. This includes the items for which there was no room. If the reply is not marked as too long, it has all items.
abbrev pub TooLongByText : Type 0
TooLongByText =
    (n : ℕ) (xs : List Item) → list_all is_wide xs ≡ true
    → (is_refusal xs || last_is_action false xs) ≡ true
    → is_too_long (after_all (new_reply n) xs) ≡ nat_lt reply_limit (length (reply_text n xs))

abbrev pub AllItemsAreKept : Type 0
AllItemsAreKept =
    (n : ℕ) (xs : List Item) → (after_all (new_reply n) xs).is_long ≡ false
    → (after_all (new_reply n) xs).items ≡ xs
