-- Each request of a message has an action, and each name of a termination is a word of 1 to 64 bytes. A topology has at
-- most 1,200 triples.
use Rattle.std.proofs.Common.{◌≡◌, ℕ, ◌≤◌, ◌&&◌, nat_le, eqb, not, Bool, true, List, [], ◌∷◌, Option, Some, None, length, refl, inl, inr, arith}
use Rattle.std.proofs.lemmas.Bool.{ne_eqb, le-leb, and_from}
use Rattle.std.specs.List.{list_all}
use Rattle.mg_scan.specs.declared.kind.TokenKind.TheVariants.{Word, Open, Comma, Equals}
use Rattle.mg_scan.specs.declared.token.Token.{Token}
use Rattle.mg_words.specs.Limits.{message_limit}
use Rattle.mg_words.specs.Numbers.{number_of}
use Rattle.mg_words.specs.ContextId.{context_id_of}
use Rattle.mg_text.specs.declared.keyword.Keyword.TheVariants as keywords
use Rattle.mg_text.specs.declared.command.Command.{Command}
use Rattle.mg_text.specs.declared.context_property.NamedTriple.{NamedTriple}
use Rattle.mg_text.specs.declared.context_property.ContextProperty.{ContextProperty}
use Rattle.mg_text.specs.declared.context_property.ContextProperty.TheVariants.{Topology, ContextAudit, Priority, Emergency}
use Rattle.mg_text.specs.declared.request.Action.{Action}
use Rattle.mg_text.specs.declared.request.Request.{Request}
use Rattle.mg_text.specs.declared.body.Body.{Body}
use Rattle.mg_text.specs.declared.body.MessageItem.{MessageItem}
use Rattle.mg_text.specs.declared.body.MessageItem.TheVariants as items
use Rattle.mg_text.specs.declared.message.Message.{Message}
use Rattle.mg_text.specs.Head.{version_in_head}
use Rattle.mg_text.specs.Keyword.{keyword_of}
use Rattle.mg_text.specs.Production.{Production}
use Rattle.mg_text.specs.Grammar.{IsMark, IsListed, IsMore, IsBraced, IsCommand, IsTriple, IsContextProperty, IsParts, IsAction, IsRequest, IsItem, IsSequence, IsBody, body_of}
use Rattle.mg_text.specs.aids.Parts.{kept}
use Rattle.mg_text.specs.aids.Requests.{kept_before}
use Rattle.mg_text.specs.Message.{IsTree, items_of}
use Rattle.mg_text.specs.Proper.{command_is_proper, triple_is_proper, property_is_proper, action_is_proper, request_is_proper, are_proper}
use Rattle.mg_text.proofs.Shorter.{span_shorter, mark_shorter, worded_shorter, command_shorter, triple_shorter, property_shorter, action_shorter, item_shorter}
use Rattle.mg_text.proofs.ByteLemmas.{bytes, by_bytes, tokens_within, topology_takes}

-- The tokens have at most 8,192 bytes.
abbrev IsSmall : List Token → Type 0
IsSmall ts = bytes ts ≤ message_limit

-- If each item that the grammar allows passes a test, all items of a list pass it.
module _ {X : Type 0} (P : X → Production) (f : X → Bool)
    (each : (x : X) (ts rest : List Token) → IsSmall ts → P x ts rest → f x ≡ true)
    (shorter : (ts : List Token) (x : X) (rest : List Token) → P x ts rest → bytes rest ≤ bytes ts) where
  more_all : (xs : List X) (ts rest : List Token) → IsSmall ts → IsMore P xs ts rest → list_all f xs ≡ true
  more_all [] ts rest small h = refl
  more_all (x ∷ xs) ts rest small h =
      let here : IsSmall h.0 = omega (arith, mark_shorter by_bytes Comma ts h.0 h.1) in
      let after : IsSmall h.2.0 = omega (arith, shorter h.0 x h.2.0 h.2.1) in
      and_from (f x) (list_all f xs) (each x h.0 h.2.0 here h.2.1) (more_all xs h.2.0 rest after h.2.2)

  listed_all : (xs : List X) (ts rest : List Token) → IsSmall ts → IsListed P xs ts rest → list_all f xs ≡ true
  listed_all [] ts rest small h = absurd h
  listed_all (x ∷ xs) ts rest small h =
      let after : IsSmall h.0 = omega (arith, shorter ts x h.0 h.1) in
      and_from (f x) (list_all f xs) (each x ts h.0 small h.1) (more_all xs h.0 rest after h.2)

  braced_all : (xs : List X) (ts rest : List Token) → IsSmall ts → IsBraced P xs ts rest → list_all f xs ≡ true
  braced_all xs ts rest small h =
      listed_all xs h.0 rest (omega (arith, mark_shorter by_bytes Open ts h.0 h.1)) h.2

some_listed : {X : Type 0} (P : X → Production) (xs : List X) (ts rest : List Token) →
    IsListed P xs ts rest → not (eqb (length xs) 0) ≡ true
some_listed P [] ts rest h = absurd h
some_listed P (x ∷ xs) ts rest h = rw (ne_eqb (length (x ∷ xs)) 0 (λ q. omega (arith, q))) refl

command_proper : (source : List ℕ) (x : Command) (ts rest : List Token) → IsSmall ts → IsCommand source x ts rest →
    command_is_proper source x ≡ true
command_proper source x ts rest small h = h.2.2.1.0

triple_proper : (source : List ℕ) (x : NamedTriple) (ts rest : List Token) → IsSmall ts → IsTriple source x ts rest →
    triple_is_proper source x ≡ true
triple_proper source x ts rest small h = and_from _ _ h.1.0 h.2.2.1.0

few_triples : (source : List ℕ) (xs : List NamedTriple) (ts rest : List Token) → IsSmall ts →
    IsBraced (IsTriple source) xs ts rest → nat_le (length xs) 1200 ≡ true
few_triples source xs ts rest small h = le-leb (length xs) 1200 (omega (arith, topology_takes source xs ts rest h))

property_proper : (source : List ℕ) (x : ContextProperty) (ts rest : List Token) → IsSmall ts →
    IsContextProperty source x ts rest → property_is_proper source x ≡ true
property_proper source (Topology xs) ts rest small h =
    let after : IsSmall h.0 = omega (arith, worded_shorter by_bytes keyword_of source keywords.Topology ts h.0 h.1) in
    and_from _ _ (few_triples source xs h.0 rest after h.2)
    (braced_all (IsTriple source) (triple_is_proper source) (triple_proper source) (triple_shorter by_bytes source)
    xs h.0 rest after h.2)
property_proper source (ContextAudit xs) ts rest small h = refl
property_proper source (Priority word) ts rest small h = refl
property_proper source (Emergency word) ts rest small h = refl

abbrev parts_are_proper : List ℕ → List ContextProperty → List Command → Bool
parts_are_proper source ps xs = list_all (property_is_proper source) ps && list_all (command_is_proper source) xs

parts_more : (source : List ℕ) (p : ContextProperty) (ps : List ContextProperty) (xs : List Command) →
    property_is_proper source p ≡ true → parts_are_proper source ps xs ≡ true →
    parts_are_proper source (p ∷ ps) xs ≡ true
parts_more source p ps xs e f = rw e f

after_property : (source : List ℕ) (p : ContextProperty) (ts between rest : List Token) → IsSmall ts →
    IsContextProperty source p ts between → IsMark Comma between rest → IsSmall rest
after_property source p ts between rest small h comma =
    omega (arith, property_shorter by_bytes source p ts between h, mark_shorter by_bytes Comma between rest comma)

parts_proper : (source : List ℕ) (ps : List ContextProperty) (xs : List Command) (ts rest : List Token) →
    IsSmall ts → IsParts source ps xs ts rest → parts_are_proper source ps xs ≡ true
parts_proper source [] xs ts rest small h =
    listed_all (IsCommand source) (command_is_proper source) (command_proper source) (command_shorter by_bytes source)
    xs ts rest small h
parts_proper source (p ∷ []) [] ts rest small h =
    parts_more source p [] [] (property_proper source p ts h.0 small h.1) refl
parts_proper source (p ∷ []) (x ∷ xs) ts rest small h =
    parts_more source p [] (x ∷ xs) (property_proper source p ts h.0 small h.1)
    (parts_proper source [] (x ∷ xs) h.2.0 rest (after_property source p ts h.0 h.2.0 small h.1 h.2.1) h.2.2)
parts_proper source (p ∷ q ∷ ps) xs ts rest small h =
    parts_more source p (q ∷ ps) xs (property_proper source p ts h.0 small h.1)
    (parts_proper source (q ∷ ps) xs h.2.0 rest (after_property source p ts h.0 h.2.0 small h.1 h.2.1) h.2.2)

action_proper : (source : List ℕ) (x : Action) (ts rest : List Token) → IsSmall ts → IsAction source x ts rest →
    action_is_proper source x ≡ true
action_proper source x ts rest small h =
    let after : IsSmall h.2.2.2.0 =
    omega (
      arith,
      worded_shorter by_bytes keyword_of source keywords.Context ts h.0 h.1,
      mark_shorter by_bytes Equals h.0 h.2.0 h.2.1,
      worded_shorter by_bytes context_id_of source x.context h.2.0 h.2.2.0 h.2.2.1,
      mark_shorter by_bytes Open h.2.2.0 h.2.2.2.0 h.2.2.2.1,
    ) in
    parts_proper source x.properties x.commands h.2.2.2.0 rest after h.2.2.2.2

request_proper : (source : List ℕ) (x : Request) (ts rest : List Token) → IsSmall ts → IsRequest source x ts rest →
    request_is_proper source x ≡ true
request_proper source x ts rest small h =
    let after : IsSmall h.2.2.0 =
    omega (
      arith,
      worded_shorter by_bytes keyword_of source keywords.Transaction ts h.0 h.1,
      mark_shorter by_bytes Equals h.0 h.2.0 h.2.1,
      worded_shorter by_bytes number_of source x.number h.2.0 h.2.2.0 h.2.2.1,
    ) in
    and_from _ _ (some_listed (IsAction source) x.actions h.2.2.2.0 rest h.2.2.2.2)
    (braced_all (IsAction source) (action_is_proper source) (action_proper source) (action_shorter by_bytes source)
    x.actions h.2.2.0 rest after h.2.2.2)

kept_proper : (source : List ℕ) (x : Option MessageItem) (xs : List MessageItem) (ts rest : List Token) →
    IsSmall ts → IsItem source x ts rest → are_proper source xs ≡ true → are_proper source (kept_before x xs) ≡ true
kept_proper source None xs ts rest small h e = e
kept_proper source (Some (items.Request x)) xs ts rest small h e =
    and_from _ _ (request_proper source x ts rest small h) e
kept_proper source (Some (items.Acknowledgement ranges)) xs ts rest small h e = e

sequence_proper : (source : List ℕ) (xs : List (Option MessageItem)) (ts : List Token) → IsSmall ts →
    IsSequence source xs ts [] → are_proper source (kept xs) ≡ true
sequence_proper source [] ts small h = absurd h
sequence_proper source (x ∷ []) ts small h = kept_proper source x [] ts [] small h refl
sequence_proper source (x ∷ y ∷ xs) ts small h =
    let after : IsSmall h.0 = omega (arith, item_shorter by_bytes source x ts h.0 h.1) in
    kept_proper source x (kept (y ∷ xs)) ts h.0 small h.1 (sequence_proper source (y ∷ xs) h.0 after h.2)

items_of_body : (xs : List MessageItem) → items_of (body_of xs) ≡ xs
items_of_body [] = refl
items_of_body (x ∷ xs) = refl

body_proper : (source : List ℕ) (x : Body) (ts : List Token) → IsSmall ts → IsBody source x ts [] →
    are_proper source (items_of x) ≡ true
body_proper source x ts small (inl h) = rw h.0 refl
body_proper source x ts small (inr h) =
    rw (h.1, items_of_body (kept h.0)) (sequence_proper source h.0 ts small h.2)

pub tree_proper : (source : List ℕ) (m : Message) → IsTree source m → are_proper source (items_of m.body) ≡ true
tree_proper source m tree =
    let after : IsSmall tree.is.2.0 =
    omega (
      arith,
      tree.short,
      tokens_within source tree.tokens None tree.are,
      worded_shorter by_bytes version_in_head source 1 tree.tokens tree.is.0 tree.is.1,
      span_shorter by_bytes Word m.sender tree.is.0 tree.is.2.0 tree.is.2.1.1,
    ) in
    body_proper source m.body tree.is.2.0 after tree.is.2.2
