-- The parser accepts the properties, actions, items and messages that are in the grammar.
use Rattle.std.proofs.Common.{◌≡◌, ℕ, zero, suc, ◌<◌, ◌≤◌, eqb, true, false, List, [], ◌∷◌, length, Option, Some, None, Result, Ok, refl, inl, inr, sym, ap, ◌∙◌, arith}
use Rattle.std.proofs.lemmas.Bool.{ne_eqb}
use Rattle.mg_scan.specs.declared.kind.TokenKind.TheVariants.{Open, Close, Comma, Equals}
use Rattle.mg_scan.specs.declared.span.Span.{Span}
use Rattle.mg_scan.specs.declared.token.Token.{Token}
use Rattle.mg_scan.specs.Span.{text_of}
use Rattle.mg_words.specs.Numbers.{number_of}
use Rattle.mg_text.specs.declared.keyword.Keyword.{Keyword}
use Rattle.mg_text.specs.declared.keyword.Keyword.TheVariants as keywords
use Rattle.mg_text.specs.declared.context_property.NamedTriple.{NamedTriple}
use Rattle.mg_text.specs.declared.context_property.ContextProperty.{ContextProperty}
use Rattle.mg_text.specs.declared.context_property.ContextProperty.TheVariants as properties
use Rattle.mg_text.specs.declared.command.Command.{Command}
use Rattle.mg_text.specs.declared.actions.ActionParts.{ActionParts}
use Rattle.mg_text.specs.declared.request.Action.{Action}
use Rattle.mg_text.specs.declared.body.Body.{Body}
use Rattle.mg_text.specs.declared.body.MessageItem.{MessageItem}
use Rattle.mg_text.specs.declared.body.MessageItem.TheVariants as items
use Rattle.mg_text.specs.declared.command_head.CommandHead.{CommandHead}
use Rattle.mg_text.specs.declared.message.Message.{Message}
use Rattle.std.specs.Prelude.{codes}
use Rattle.std.specs.Option.{option_map_or}
use Rattle.mg_words.specs.Cut.{after_prefix}
use Rattle.mg_text.specs.Keyword.{keyword_of}
use Rattle.mg_words.specs.ContextId.{context_id_of}
use Rattle.mg_text.specs.Words.{by_keyword, context_word_named, range_of}
use Rattle.mg_text.specs.aids.Words.{association_named, prefixed, headed, command_of}
use Rattle.mg_text.specs.Head.{version_in_head}
use Rattle.mg_text.specs.Sender.{is_sender}
use Rattle.mg_words.specs.ResultSteps.{◌>>=◌}
use Rattle.mg_text.specs.aids.Reading.{meaning_at}
use Rattle.mg_text.specs.aids.Commands.{command_at}
use Rattle.mg_text.specs.aids.Requests.{triple_at, priority_at, emergency_at, property_at, is_property, begins_property, parts_at, action_at, request_at, ranges_at, answer_at, item_at, sequence_at, error_at, body_at}
use Rattle.mg_text.specs.aids.Text.{version_at, sender_at, text_at}
use Rattle.mg_text.specs.Grammar.{IsWordThat, IsWorded, IsListed, IsCommand, IsTriple, IsContextProperty, IsParts, IsAction, IsAnswer, IsItem, IsSequence, body_of, IsItems, IsBody, IsText}
use Rattle.mg_text.specs.aids.Words.{head_of}
use Rattle.mg_text.specs.aids.Parts.{kept}
use Rattle.mg_text.proofs.KeywordLemmas.{named_is}
use Rattle.mg_text.proofs.Complete.{Stops, at_comma, at_close, mark_read, after_read, after_other, word_read, named_read, worded_read, group_read, term_read, items_read, braced_read, each_word_read}
use Rattle.mg_text.proofs.Shorter.{by_count, each_word_shorter, command_shorter, triple_shorter, parts_shorter, action_shorter, sequence_shorter}
use Rattle.mg_text.proofs.CompleteCommands.{command_read}
use Rattle.mg_text.proofs.WordLemmas.{association_means, worded_head}

triple_read : (source : List ℕ) (ts : List Token) (x : NamedTriple) (rest : List Token) → Stops rest →
    IsTriple source x ts rest → triple_at source ts ≡ Ok (x, rest)
unfolding triple_at
triple_read source ts x rest stops m =
    rw (
      term_read source x.first ts m.0 m.1,
      mark_read source Comma m.0 m.2.0 m.2.1,
      term_read source x.second m.2.0 m.2.2.0 m.2.2.1,
      mark_read source Comma m.2.2.0 m.2.2.2.0 m.2.2.2.1,
      worded_read (by_keyword association_named) source x.association m.2.2.2.0 rest
          (association_means source x.association m.2.2.2.0 rest m.2.2.2.2),
    ) refl

property_read : (source : List ℕ) (x : ContextProperty) (ts rest : List Token) → Stops rest →
    IsContextProperty source x ts rest → property_at source ts ≡ Ok (x, rest)
unfolding property_at priority_at emergency_at
property_read source (properties.Topology xs) ts rest stops m =
    rw (
      worded_read keyword_of source keywords.Topology ts m.0 m.1,
      braced_read source (triple_at source) (IsTriple source) (triple_read source) (triple_shorter by_count source) xs
          m.0 rest m.2,
    ) refl
property_read source (properties.ContextAudit xs) ts rest stops m =
    rw (
      worded_read keyword_of source keywords.ContextAudit ts m.0 m.1,
      braced_read source (meaning_at (by_keyword context_word_named) source)
          (IsWorded (by_keyword context_word_named) source) (each_word_read (by_keyword context_word_named) source)
          (each_word_shorter by_count (by_keyword context_word_named) source) xs m.0 rest m.2,
    ) refl
property_read source (properties.Priority w) ts rest stops m =
    rw (
      worded_read keyword_of source keywords.Priority ts m.0 m.1,
      mark_read source Equals m.0 m.2.0 m.2.1,
      word_read source w m.2.0 rest m.2.2,
    ) refl
property_read source (properties.Emergency None) ts rest stops m =
    rw (worded_read keyword_of source keywords.Emergency ts m.0 m.1, m.2, stops.equals) refl
property_read source (properties.Emergency (Some w)) ts rest stops m =
    rw (
      worded_read keyword_of source keywords.Emergency ts m.0 m.1,
      after_read Equals m.0 m.2.0 m.2.1,
      word_read source w m.2.0 rest m.2.2,
    ) refl

-- These lemmas show that a property starts with the keyword of a property, and that a command does not.
begins_with : (source : List ℕ) (k : Keyword) (ts rest : List Token) → is_property (Some k) ≡ true →
    IsWorded keyword_of source k ts rest → begins_property source ts ≡ true
unfolding begins_property
begins_with source k ts rest e m = rw (m.2, m.1) e

property_begins : (source : List ℕ) (x : ContextProperty) (ts rest : List Token) →
    IsContextProperty source x ts rest → begins_property source ts ≡ true
property_begins source (properties.Topology xs) ts rest m = begins_with source keywords.Topology ts m.0 refl m.1
property_begins source (properties.ContextAudit xs) ts rest m =
    begins_with source keywords.ContextAudit ts m.0 refl m.1
property_begins source (properties.Priority w) ts rest m = begins_with source keywords.Priority ts m.0 refl m.1
property_begins source (properties.Emergency o) ts rest m = begins_with source keywords.Emergency ts m.0 refl m.1

-- The command that a word names. The option is the keyword that the word spells, or `None`.
abbrev command_for : List ℕ → Option Keyword → Option CommandHead
command_for text keyword =
    option_map_or (headed false false) keyword
    (prefixed true true (after_prefix (codes "O-W-") text)
    (prefixed true false (after_prefix (codes "O-") text)
    (prefixed false true (after_prefix (codes "W-") text) None)))

no_property : (text : List ℕ) (k : Option Keyword) (head : CommandHead) → command_for text k ≡ Some head →
    is_property k ≡ false
no_property text (Some keywords.Topology) head e = absurd cc
no_property text (Some keywords.ContextAudit) head e = absurd cc
no_property text (Some keywords.Priority) head e = absurd cc
no_property text (Some keywords.Emergency) head e = absurd cc
no_property text _ head e = refl

command_begins : (source : List ℕ) (head : CommandHead) (ts rest : List Token) →
    IsWorded command_of source head ts rest → begins_property source ts ≡ false
unfolding begins_property command_of
command_begins source head ts rest m = rw m.2
    (no_property (text_of source m.0) (keyword_of (text_of source m.0)) head m.1)

commands_begin : (source : List ℕ) (xs : List Command) (ts rest : List Token) →
    IsListed (IsCommand source) xs ts rest → begins_property source ts ≡ false
commands_begin source [] ts rest h = absurd h
commands_begin source (x ∷ xs) ts rest h =
    command_begins source (head_of x) ts h.1.0 (worded_head source (head_of x) ts h.1.0 h.1.1)

abbrev parts_of : List ContextProperty → List Command → ActionParts
parts_of properties commands = record { properties = properties; commands = commands }

parts_read : (source : List ℕ) (n : ℕ) (ps : List ContextProperty) (xs : List Command) (ts rest : List Token) →
    length ps < n → IsParts source ps xs ts rest → parts_at source n ts ≡ Ok (parts_of ps xs, rest)
unfolding parts_at
parts_read source zero ps xs ts rest lt m = absurd (omega arith)
parts_read source (suc n) [] xs ts rest lt m =
    rw (
      commands_begin source xs ts rest m,
      items_read source (command_at source) (IsCommand source)
          (command_read source) (command_shorter by_count source) xs ts rest m,
    ) refl
parts_read source (suc n) (p ∷ []) [] ts rest lt m =
    rw (
      property_begins source p ts m.0 m.1,
      property_read source p ts m.0 (at_close m.0 rest m.2) m.1,
      after_other Close Comma m.0 rest refl m.2,
      mark_read source Close m.0 rest m.2,
    ) refl
parts_read source (suc n) (p ∷ []) (x ∷ xs) ts rest lt m =
    rw (
      property_begins source p ts m.0 m.1,
      property_read source p ts m.0 (at_comma m.0 m.2.0 m.2.1) m.1,
      after_read Comma m.0 m.2.0 m.2.1,
      parts_read source n [] (x ∷ xs) m.2.0 rest (omega arith) m.2.2,
    ) refl
parts_read source (suc n) (p ∷ q ∷ qs) xs ts rest lt m =
    rw (
      property_begins source p ts m.0 m.1,
      property_read source p ts m.0 (at_comma m.0 m.2.0 m.2.1) m.1,
      after_read Comma m.0 m.2.0 m.2.1,
      parts_read source n (q ∷ qs) xs m.2.0 rest (omega arith) m.2.2,
    ) refl

action_read : (source : List ℕ) (ts : List Token) (x : Action) (rest : List Token) → Stops rest →
    IsAction source x ts rest → action_at source ts ≡ Ok (x, rest)
unfolding action_at
action_read source ts x rest stops m =
    rw (
      named_read source keywords.Context m.1.0 ts m.0 (named_is (text_of source m.1.0) keywords.Context m.1.1) m.1.2,
      mark_read source Equals m.0 m.2.0 m.2.1,
      worded_read context_id_of source x.context m.2.0 m.2.2.0 m.2.2.1,
      mark_read source Open m.2.2.0 m.2.2.2.0 m.2.2.2.1,
      parts_read source (length m.2.2.2.0) x.properties x.commands m.2.2.2.0 rest
          (omega (arith, parts_shorter by_count source x.properties x.commands m.2.2.2.0 rest m.2.2.2.2)) m.2.2.2.2,
    ) refl

answer_read : (source : List ℕ) (ts rest : List Token) (m : IsAnswer source ts rest) →
    answer_at source m.0 ≡ Ok (None, rest)
unfolding answer_at
answer_read source ts rest m = rw (
  mark_read source Equals m.0 m.2.0 m.2.1,
  worded_read number_of source m.2.2.1.0 m.2.0 m.2.2.0 m.2.2.1.1,
  group_read source m.2.2.0 rest m.2.2.2,
) refl

item_read : (source : List ℕ) (x : Option MessageItem) (ts rest : List Token) → IsItem source x ts rest →
    item_at source ts ≡ Ok (x, rest)
unfolding item_at request_at ranges_at
item_read source (Some (items.Request x)) ts rest m =
    rw (
      worded_read keyword_of source keywords.Transaction ts m.0 m.1,
      mark_read source Equals m.0 m.2.0 m.2.1,
      worded_read number_of source x.number m.2.0 m.2.2.0 m.2.2.1,
      braced_read source (action_at source) (IsAction source) (action_read source) (action_shorter by_count source)
          x.actions m.2.2.0 rest m.2.2.2,
    ) refl
item_read source (Some (items.Acknowledgement xs)) ts rest m =
    rw (
      worded_read keyword_of source keywords.TransactionResponseAck ts m.0 m.1,
      braced_read source (meaning_at range_of source) (IsWorded range_of source) (each_word_read range_of source)
          (each_word_shorter by_count range_of source) xs m.0 rest m.2,
    ) refl
item_read source None ts rest m = elim m.1 [
  | inl name ↦ rw (worded_read keyword_of source keywords.Reply ts m.0 name) (answer_read source ts rest m)
  | inr name ↦ rw (worded_read keyword_of source keywords.Pending ts m.0 name) (answer_read source ts rest m)
]

sequence_some : (source : List ℕ) (xs : List (Option MessageItem)) (ts : List Token) → IsSequence source xs ts [] →
    eqb (length ts) 0 ≡ false
sequence_some source [] ts h = absurd h
sequence_some source (x ∷ xs) ts h = let some = sequence_shorter by_count source (x ∷ xs) ts h in
    ne_eqb (length ts) 0 (λ e. absurd (omega arith))

sequence_read : (source : List ℕ) (n : ℕ) (xs : List (Option MessageItem)) (ts : List Token) → length xs ≤ n →
    IsSequence source xs ts [] → sequence_at source n ts ≡ Ok (kept xs)
unfolding sequence_at
sequence_read source n [] ts le h = absurd h
sequence_read source zero (x ∷ xs) ts le h = absurd (omega arith)
sequence_read source (suc n) (x ∷ []) ts le h = rw (item_read source x ts [] h) refl
sequence_read source (suc n) (x ∷ y ∷ xs) ts le h =
    rw (
      item_read source x ts h.0 h.1,
      sequence_some source (y ∷ xs) h.0 h.2,
      sequence_read source n (y ∷ xs) h.0 (omega arith) h.2,
    ) refl

abbrev items_body : List ℕ → List Token → Result Body ℕ
items_body source ts = sequence_at source (length ts) ts >>= λ xs. Ok (body_of xs)

-- Tokens that start with an item are parsed as a body of items, because an item does not start with the keyword ERROR.
item_first : (source : List ℕ) (x : Option MessageItem) (ts rest : List Token) → IsItem source x ts rest →
    body_at source ts ≡ items_body source ts
unfolding body_at
item_first source (Some (items.Request x)) ts rest m =
    rw (worded_read keyword_of source keywords.Transaction ts m.0 m.1) refl
item_first source (Some (items.Acknowledgement xs)) ts rest m =
    rw (worded_read keyword_of source keywords.TransactionResponseAck ts m.0 m.1) refl
item_first source None ts rest m = elim m.1 [
  | inl name ↦ rw (worded_read keyword_of source keywords.Reply ts m.0 name) refl
  | inr name ↦ rw (worded_read keyword_of source keywords.Pending ts m.0 name) refl
]

sequence_first : (source : List ℕ) (xs : List (Option MessageItem)) (ts : List Token) → IsSequence source xs ts [] →
    body_at source ts ≡ items_body source ts
sequence_first source [] ts h = absurd h
sequence_first source (x ∷ []) ts h = item_first source x ts [] h
sequence_first source (x ∷ y ∷ xs) ts h = item_first source x ts h.0 h.1

items_body_read : (source : List ℕ) (x : Body) (ts : List Token) (m : IsItems source x ts []) →
    items_body source ts ≡ Ok x
items_body_read source x ts m = rw (sequence_read source (length ts) m.0 ts
    (omega (arith, sequence_shorter by_count source m.0 ts m.2)) m.2) (ap (λ (b : Body). Ok b) (sym m.1))

body_read : (source : List ℕ) (x : Body) (ts : List Token) → IsBody source x ts [] → body_at source ts ≡ Ok x
unfolding body_at error_at
body_read source x ts (inl m) =
    rw (
      worded_read keyword_of source keywords.Error ts m.1.0 m.1.1,
      mark_read source Equals m.1.0 m.1.2.0 m.1.2.1,
      word_read source m.1.2.2.1.0 m.1.2.0 m.1.2.2.0 m.1.2.2.1.1,
      group_read source m.1.2.2.0 [] m.1.2.2.2,
    )
    (ap (λ (b : Body). Ok b) (sym m.0))
body_read source x ts (inr m) = sequence_first source m.0 ts m.2 ∙ items_body_read source x ts m

sender_read : (source : List ℕ) (s : Span) (ts rest : List Token) → IsWordThat is_sender source s ts rest →
    sender_at source ts ≡ Ok (s, rest)
unfolding sender_at
sender_read source s ts rest m = rw (word_read source s ts rest m.1, m.0) refl

-- These lemmas show that the parser accepts the head of a message and the text after the head.
pub head_read : (source : List ℕ) (n : ℕ) (ts rest : List Token) → IsWorded version_in_head source n ts rest →
    version_at source ts ≡ Ok (n, rest)
head_read source n ts rest m = worded_read version_in_head source n ts rest m

pub text_read : (source : List ℕ) (m : Message) (ts : List Token) (is : IsText source m ts) → text_at source is.0 ≡ Ok m
unfolding text_at
text_read source m ts is = rw (
  sender_read source m.sender is.0 is.2.0 is.2.1,
  body_read source m.body is.2.0 is.2.2,
) refl
