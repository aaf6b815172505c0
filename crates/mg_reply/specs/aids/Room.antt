-- The room that a reply's items need.
use Rattle.std.specs.Prelude.{◌≡◌, ℕ, ◌+◌, ◌*◌, ◌^◌, ◌<◌, ◌≤◌, Bool, true, false, not, List, [], ◌∷◌, length}
use Rattle.std.specs.Prelude.{Option, Some, None, if◌then◌else◌}
use Rattle.mg_words.specs.declared.context_id.ContextId.{ContextId}
use Rattle.mg_reply.specs.declared.item.Item.{Item}
use Rattle.mg_reply.specs.declared.item.Item.TheVariants.{Action}
use Rattle.mg_reply.specs.Reply.{last_is_action}

-- The context of the action that ends with this item, or `None` if no action ends with it.
abbrev pub action_id : Item → Option ContextId
action_id (Action id) = Some id
action_id _ = None

-- The number of places that items need. The flag says whether earlier items wait for the end of their action. Each item
-- needs one place, except for the end of an action that has items.
abbrev pub places_of : Bool → List Item → ℕ
places_of waits [] = 0
places_of waits (Action id ∷ xs) = (if waits then 0 else 1) + places_of false xs
places_of waits (_ ∷ xs) = 1 + places_of true xs

-- The invariant of a reply. The last item shows whether items wait for the end of their action. The capacity is at
-- least twice the initial room, so that there is a place for the end of each item's action.
pub record IsReply (number : ℕ) (items : List Item) (capacity room : ℕ)
    (has_pending : Bool) : Type 0 where
  pub in_range : number < 2 ^ 32
  pub small : room ≤ 1600
  pub reserved : 3200 ≤ capacity
  pub pending : has_pending ≡ not (last_is_action true items)
  pub used : length items + (if has_pending then 1 else 0) + 2 * room ≤ 3200
