-- Lemmas about the last item of a reply.
use Rattle.std.proofs.Common.{◌≡◌, ◌<◌, Bool, true, false, List, [], ◌∷◌, ◌++◌, length, refl, arith}
use Rattle.mg_reply.specs.declared.item.Item.{Item}
use Rattle.mg_reply.specs.declared.item.Item.TheVariants.{Triple, Command, Fault, Action}
use Rattle.mg_reply.specs.Reply.{is_action, last_is_action, is_refusal}

pub last_is_action-append : (before : Bool) (xs : List Item) (x : Item) →
    last_is_action before (xs ++ x ∷ []) ≡ is_action x
last_is_action-append before [] x = refl
last_is_action-append before (y ∷ ys) x = last_is_action-append (is_action y) ys x

-- The flag of `last_is_action` matters only if there are no items.
pub last_is_action-some : (xs : List Item) → 0 < length xs → last_is_action false xs ≡ last_is_action true xs
last_is_action-some [] h = absurd (omega arith)
last_is_action-some (x ∷ xs) h = refl

-- A reply with two or more items is not a single error.
pub is_refusal-two : (xs : List Item) → 1 < length xs → is_refusal xs ≡ false
is_refusal-two [] h = absurd (omega arith)
is_refusal-two (x ∷ []) h = absurd (omega arith)
is_refusal-two (Triple a b association ∷ (y ∷ ys)) h = refl
is_refusal-two (Command word term outcome ∷ (y ∷ ys)) h = refl
is_refusal-two (Fault e ∷ (y ∷ ys)) h = refl
is_refusal-two (Action id ∷ (y ∷ ys)) h = refl

pub ruleset last_items = (last_is_action-append, last_is_action-some, is_refusal-two)
