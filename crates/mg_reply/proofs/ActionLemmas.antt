-- The loop that writes the actions of a reply.
use Rattle.std.proofs.Common.{◌≡◌, ℕ, ◌+◌, ◌<◌, ◌≤◌, List, [], ◌∷◌, ◌++◌, length, get_or, take, drop, Some, None, refl, sym, ap, ◌∙◌, append_assoc, arith, codes}
use Rattle.std.proofs.lemmas.List.{drop_more, drop_all, take_more, drop-append-le, length-take-le, length-take}
use Rattle.std.proofs.Math.ListN.{drop_of_length-le}
use Rattle.mg_reply.specs.declared.item.Item.{Item}
use Rattle.mg_reply.specs.declared.item.Item.TheVariants.{Triple, Command, Fault, Action}
use Rattle.mg_words.specs.declared.context_id.ContextId.{ContextId}
use Rattle.mg_reply.specs.aids.Draft.{Drafted, drafted}
use Rattle.mg_reply.specs.aids.Room.{action_id}
use Rattle.mg_reply.specs.Written.{action_text, actions_text}
use Rattle.mg_reply.proofs.DraftLemmas.{drafted-drafted}

other_item : (mark : List ℕ) (pending ys : List Item) (y : Item) → action_id y ≡ None →
    actions_text mark pending (y ∷ ys) ≡ actions_text mark (pending ++ y ∷ []) ys
unfolding actions_text
other_item mark pending ys (Command word term outcome) e = refl
other_item mark pending ys (Fault n) e = refl
other_item mark pending ys (Triple a b association) e = refl
other_item mark pending ys (Action id) e = absurd cc

last_item : (mark : List ℕ) (pending ys : List Item) (y : Item) (id : ContextId) → action_id y ≡ Some id →
    actions_text mark pending (y ∷ ys) ≡ mark ++ (action_text id pending ++ actions_text (codes ",") [] ys)
unfolding actions_text
last_item mark pending ys (Command word term outcome) id e = absurd cc
last_item mark pending ys (Fault n) id e = absurd cc
last_item mark pending ys (Triple a b association) id e = absurd cc
last_item mark pending ys (Action own) id e =
    let same : own ≡ id = cc in
    ap (λ (x : ContextId). mark ++ (action_text x pending ++ actions_text (codes ",") [] ys)) same

pub continues : (d : Drafted) (mark : List ℕ) (xs : List Item) (from i : ℕ) (x : Item) → from ≤ i → i < length xs →
    action_id (get_or xs i x) ≡ None → drafted d (actions_text mark (drop from (take (i + 1) xs)) (drop (i + 1) xs)) ≡
    drafted d (actions_text mark (drop from (take i xs)) (drop i xs))
continues d mark xs from i x le lt none =
    let front : length (take i xs) ≡ i = length-take-le i xs (omega arith) in
    let more = drop-append-le from (take i xs) (get_or xs i x ∷ []) (omega arith) in
    rw (take_more xs i x lt, more, drop_more xs i x lt)
    (ap (drafted d) (sym (other_item mark (drop from (take i xs)) (drop (i + 1) xs) (get_or xs i x) none)))

pub action_ends : (d : Drafted) (mark : List ℕ) (xs : List Item) (from i : ℕ) (x : Item) (id : ContextId) →
    i < length xs → action_id (get_or xs i x) ≡ Some id →
    drafted (drafted d (mark ++ action_text id (drop from (take i xs))))
    (actions_text (codes ",") [] (drop (i + 1) xs)) ≡ drafted d (actions_text mark (drop from (take i xs)) (drop i xs))
action_ends d mark xs from i x id lt ends =
    let parts = drafted-drafted d (mark ++ action_text id (drop from (take i xs)))
    (actions_text (codes ",") [] (drop (i + 1) xs)) in
    let joined = append_assoc mark (action_text id (drop from (take i xs)))
    (actions_text (codes ",") [] (drop (i + 1) xs)) in
    rw (drop_more xs i x lt) (parts ∙ ap (drafted d)
    (joined ∙ sym (last_item mark (drop from (take i xs)) (drop (i + 1) xs) (get_or xs i x) id ends)))

pub all_done : (d : Drafted) (mark : List ℕ) (pending xs : List Item) (i : ℕ) → length xs ≤ i →
    drafted d (actions_text mark pending (drop i xs)) ≡ drafted d []
unfolding actions_text
all_done d mark pending xs i le = rw (drop_all i xs le) refl

pub none_pending : (xs : List Item) (i : ℕ) → drop (i + 1) (take (i + 1) xs) ≡ []
none_pending xs i = drop_of_length-le (take (i + 1) xs) (omega (arith, length-take (i + 1) xs))
