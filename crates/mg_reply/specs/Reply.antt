-- The items of a reply.
use Rattle.std.specs.Prelude.{ℕ, ◌-◌, Bool, true, false, ◌&&◌}
use Rattle.std.specs.Prelude.{◌==◌, not, List, [], ◌∷◌, ◌++◌, if◌then◌else◌}
use Rattle.mg_reply.specs.declared.item.Item.{Item}
use Rattle.mg_reply.specs.declared.item.Item.TheVariants.{Fault, Action}

-- A reply: the number of its transaction, its items so far, and the room that remains. Two flags say whether items wait
-- for the end of their action, and whether an item found no room.
pub record Answered : Type 0 where
  pub number : ℕ
  pub items : List Item
  pub room : ℕ
  pub has_pending : Bool
  pub is_long : Bool

abbrev pub new_reply : ℕ → Answered
new_reply n = record { number = n; items = []; room = 1600; has_pending = false; is_long = false }

abbrev pub is_action : Item → Bool
is_action (Action id) = true
is_action _ = false

-- Whether the last item ends an action. If there are no items, the result is the flag `before`.
abbrev pub last_is_action : Bool → List Item → Bool
last_is_action before [] = before
last_is_action before (x ∷ xs) = last_is_action (is_action x) xs

-- Whether the items are a single error, which rejects the whole request.
abbrev pub is_refusal : List Item → Bool
is_refusal (Fault e ∷ []) = true
is_refusal _ = false

abbrev pub marked : Answered → Answered
marked r = record r { is_long = true }

-- The reply with one more item, which takes `size` places.
abbrev pub with_item : Answered → Item → ℕ → Answered
with_item r item size =
    record r {
      items = r.items ++ item ∷ [];
      room = r.room - size;
      has_pending = not (is_action item);
    }

-- The reply after an item is put into it. The end of an action takes no place if the action has items. Any other item
-- takes one place. If an item needs a place and none is left, the item is dropped and the reply is marked as too long.
abbrev pub after_put : Answered → Item → Answered
after_put r item =
    if is_action item && r.has_pending then with_item r item 0
    else (if r.room == 0 then marked r else with_item r item 1)

-- The reply after these items are put into it, one after another.
abbrev pub after_all : Answered → List Item → Answered
after_all r [] = r
after_all r (x ∷ xs) = after_all (after_put r x) xs
