-- Parsing properties, actions and the items of a message.
use Rattle.std.specs.Prelude.{ℕ, zero, suc, ◌==◌, Bool, true, false, List, [], ◌∷◌, length, Option}
use Rattle.std.specs.Prelude.{Some, None, Result, Ok, Err, if◌then◌else◌}
use Rattle.std.specs.List.{cons_option}
use Rattle.mg_scan.specs.declared.kind.TokenKind.TheVariants.{Open, Close, Comma, Equals}
use Rattle.mg_scan.specs.declared.span.Span.{Span}
use Rattle.mg_scan.specs.declared.token.Token.{Token}
use Rattle.mg_text.specs.declared.keyword.Keyword.{Keyword}
use Rattle.mg_text.specs.declared.keyword.Keyword.TheVariants as keywords
use Rattle.mg_words.specs.declared.context_id.ContextId.{ContextId}
use Rattle.mg_words.specs.declared.association.Association.{Association}
use Rattle.mg_text.specs.declared.context_property.NamedTriple.{NamedTriple}
use Rattle.mg_text.specs.declared.context_property.ContextProperty.{ContextProperty}
use Rattle.mg_text.specs.declared.context_property.ContextProperty.TheVariants as properties
use Rattle.mg_text.specs.declared.command.Command.{Command}
use Rattle.mg_text.specs.declared.actions.ActionParts.{ActionParts}
use Rattle.mg_text.specs.declared.request.Action.{Action}
use Rattle.mg_text.specs.declared.body.Body.{Body}
use Rattle.mg_text.specs.declared.body.Body.TheVariants as bodies
use Rattle.mg_text.specs.declared.body.MessageItem.{MessageItem}
use Rattle.mg_text.specs.declared.body.MessageItem.TheVariants as items
use Rattle.mg_scan.specs.Span.{text_of}
use Rattle.mg_text.specs.Keyword.{keyword_of}
use Rattle.mg_text.specs.Words.{by_keyword, context_word_named, range_of}
use Rattle.mg_text.specs.aids.Words.{association_named}
use Rattle.mg_words.specs.ResultSteps.{◌>>=◌}
use Rattle.mg_text.specs.aids.Reading.{mark_at, if_some, word_at, named_at, meaning_at}
use Rattle.mg_scan.specs.aids.Marks.{after_mark}
use Rattle.mg_text.specs.aids.Reading.{keyword_at, number_at, context_id_at, term_at, group_at}
use Rattle.mg_text.specs.aids.Reading.{items_at, braced_at, place_of_rest}
use Rattle.mg_text.specs.Grammar.{body_of}
use Rattle.mg_text.specs.aids.Commands.{command_at}

abbrev pub triple_of : Span → Span → Association → NamedTriple
triple_of first second association =
    record { first = first; second = second; association = association }

unfoldable pub triple_at : List ℕ → List Token → Result (NamedTriple × List Token) ℕ
triple_at source ts = do
  first ← term_at source ts
  ts ← mark_at source Comma first.1
  second ← term_at source ts
  ts ← mark_at source Comma second.1
  association ← meaning_at (by_keyword association_named) source ts
  Ok (triple_of first.0 second.0 association.0, association.1)

unfoldable pub priority_at : List ℕ → List Token → Result (ContextProperty × List Token) ℕ
priority_at source ts = do
  ts ← mark_at source Equals ts
  word ← word_at source ts
  Ok (properties.Priority word.0, word.1)

unfoldable pub emergency_at : List ℕ → List Token → Result (ContextProperty × List Token) ℕ
emergency_at source ts =
    if_some (after_mark Equals ts)
    (λ rest. word_at source rest >>= λ word. Ok (properties.Emergency (Some word.0), word.1))
    (Ok (properties.Emergency None, ts))

-- The rest of a property after its keyword, or the position of the keyword if it names no property.
abbrev pub property_named : List ℕ → Keyword → ℕ → List Token
    → Result (ContextProperty × List Token) ℕ
property_named source keywords.Topology place ts =
    braced_at source (triple_at source) ts >>= λ xs. Ok (properties.Topology xs.0, xs.1)
property_named source keywords.ContextAudit place ts =
    braced_at source (meaning_at (by_keyword context_word_named) source) ts >>= λ xs. Ok
    (properties.ContextAudit xs.0, xs.1)
property_named source keywords.Priority place ts = priority_at source ts
property_named source keywords.Emergency place ts = emergency_at source ts
property_named source _ place ts = Err place

unfoldable pub property_at : List ℕ → List Token → Result (ContextProperty × List Token) ℕ
property_at source ts = do
  keyword ← keyword_at source ts
  property_named source keyword.0 (place_of_rest source ts) keyword.1

-- Whether a keyword names a property of a context.
abbrev pub is_property : Option Keyword → Bool
is_property (Some keywords.Topology) = true
is_property (Some keywords.ContextAudit) = true
is_property (Some keywords.Priority) = true
is_property (Some keywords.Emergency) = true
is_property _ = false

unfoldable pub begins_property : List ℕ → List Token → Bool
begins_property source [] = false
begins_property source (t ∷ ts) = is_property (keyword_of (text_of source t.span))

-- An action's parts, with a property added at the front.
abbrev pub with_property : ContextProperty → ActionParts → ActionParts
with_property x parts = record { properties = x ∷ parts.properties; commands = parts.commands }

-- The parts of an action without properties.
abbrev pub just_commands : List Command → ActionParts
just_commands xs = record { properties = []; commands = xs }

-- Properties and then commands, up to their closing brace, with at most n properties.
unfoldable pub parts_at : List ℕ → ℕ → List Token → Result (ActionParts × List Token) ℕ
parts_at source zero ts = Err (place_of_rest source ts)
parts_at source (suc n) ts =
    if begins_property source ts
    then (property_at source ts >>= λ x.
    if_some (after_mark Comma x.1)
    (λ next. parts_at source n next >>= λ parts. Ok (with_property x.0 parts.0, parts.1))
    (mark_at source Close x.1 >>= λ rest. Ok (with_property x.0 (just_commands []), rest)))
    else (items_at source (command_at source) ts >>= λ xs. Ok (just_commands xs.0, xs.1))

abbrev pub action_of : ContextId → ActionParts → Action
action_of context parts =
    record { context = context; properties = parts.properties; commands = parts.commands }

unfoldable pub action_at : List ℕ → List Token → Result (Action × List Token) ℕ
action_at source ts = do
  ts ← named_at source keywords.Context ts
  ts ← mark_at source Equals ts
  context ← context_id_at source ts
  ts ← mark_at source Open context.1
  parts ← parts_at source (length ts) ts
  Ok (action_of context.0 parts.0, parts.1)

-- A request as a kept item of a message.
abbrev pub request_of : ℕ → List Action → Option MessageItem
request_of number actions = Some (items.Request (record { number = number; actions = actions }))

unfoldable pub request_at : List ℕ → List Token → Result (Option MessageItem × List Token) ℕ
request_at source ts = do
  ts ← mark_at source Equals ts
  number ← number_at source ts
  actions ← braced_at source (action_at source) number.1
  Ok (request_of number.0 actions.0, actions.1)

unfoldable pub ranges_at : List ℕ → List Token → Result (Option MessageItem × List Token) ℕ
ranges_at source ts = do
  ranges ← braced_at source (meaning_at range_of source) ts
  Ok (Some (items.Acknowledgement ranges.0), ranges.1)

unfoldable pub answer_at : List ℕ → List Token → Result (Option MessageItem × List Token) ℕ
answer_at source ts = do
  ts ← mark_at source Equals ts
  number ← number_at source ts
  rest ← group_at source number.1
  Ok (None, rest)

-- The rest of an item after its keyword, or the position of the keyword if it starts no item.
abbrev pub item_named : List ℕ → Keyword → ℕ → List Token
    → Result (Option MessageItem × List Token) ℕ
item_named source keywords.Transaction place ts = request_at source ts
item_named source keywords.TransactionResponseAck place ts = ranges_at source ts
item_named source keywords.Reply place ts = answer_at source ts
item_named source keywords.Pending place ts = answer_at source ts
item_named source _ place ts = Err place

unfoldable pub item_at : List ℕ → List Token → Result (Option MessageItem × List Token) ℕ
item_at source ts = do
  keyword ← keyword_at source ts
  item_named source keyword.0 (place_of_rest source ts) keyword.1

-- The items with one more item at the front, if that item is kept.
abbrev pub kept_before : Option MessageItem → List MessageItem → List MessageItem
kept_before item items = cons_option item items

-- The kept items among at most n items, up to the end of the tokens.
unfoldable pub sequence_at : List ℕ → ℕ → List Token → Result (List MessageItem) ℕ
sequence_at source zero ts = Err (place_of_rest source ts)
sequence_at source (suc n) ts = do
  x ← item_at source ts
  if length x.1 == 0 then Ok (kept_before x.0 [])
      else (sequence_at source n x.1 >>= λ xs. Ok (kept_before x.0 xs))

-- An Error body after its keyword, up to the end of the tokens.
unfoldable pub error_at : List ℕ → List Token → Result Body ℕ
error_at source ts = do
  ts ← mark_at source Equals ts
  word ← word_at source ts
  rest ← group_at source word.1
  if length rest == 0 then Ok bodies.Ignored else Err (place_of_rest source rest)

-- The body of a message. The tokens `ts` start with its keyword, and `rest` follows the keyword.
abbrev pub body_named : List ℕ → Keyword → List Token → List Token → Result Body ℕ
body_named source keywords.Error ts rest = error_at source rest
body_named source _ ts rest = sequence_at source (length ts) ts >>= λ xs. Ok (body_of xs)

unfoldable pub body_at : List ℕ → List Token → Result Body ℕ
body_at source ts = do
  keyword ← keyword_at source ts
  body_named source keyword.0 ts keyword.1
