-- Parsing a part of a message leaves fewer tokens, or at least not more, by any measure that grows with each token. The
-- number of tokens bounds the length of a list, and the bytes of the tokens bound the length of a topology.
use Rattle.std.proofs.Common.{◌≡◌, ℕ, ◌+◌, ◌<◌, ◌≤◌, Bool, true, false, List, [], ◌∷◌, length, Option, Some, None, inl, inr, ap, arith}
use Rattle.mg_scan.specs.declared.kind.TokenKind.{TokenKind}
use Rattle.mg_scan.specs.declared.kind.TokenKind.TheVariants.{Word, Open, Close, Comma, Equals, Quoted, Octets}
use Rattle.mg_scan.specs.declared.span.Span.{Span}
use Rattle.mg_scan.specs.declared.token.Token.{Token}
use Rattle.mg_text.specs.declared.keyword.Keyword.{Keyword}
use Rattle.mg_text.specs.declared.keyword.Keyword.TheVariants as keywords
use Rattle.mg_text.specs.declared.media.PropertyValue.{PropertyValue}
use Rattle.mg_text.specs.declared.media.PropertyValue.TheVariants as values
use Rattle.mg_text.specs.declared.media.ControlPart.{ControlPart}
use Rattle.mg_text.specs.declared.media.ControlPart.TheVariants as controls
use Rattle.mg_text.specs.declared.media.StreamPart.{StreamPart}
use Rattle.mg_text.specs.declared.media.StreamPart.TheVariants as streams
use Rattle.mg_text.specs.declared.media.MediaPart.{MediaPart}
use Rattle.mg_text.specs.declared.media.MediaPart.TheVariants as parts
use Rattle.mg_text.specs.declared.descriptor.AuditWord.{AuditWord}
use Rattle.mg_text.specs.declared.descriptor.Descriptor.{Descriptor}
use Rattle.mg_text.specs.declared.descriptor.Descriptor.TheVariants as descriptors
use Rattle.mg_words.specs.declared.command_word.CommandWord.{CommandWord}
use Rattle.mg_words.specs.declared.command_word.CommandWord.TheVariants as commands
use Rattle.mg_text.specs.declared.command.Command.{Command}
use Rattle.mg_text.specs.declared.context_property.NamedTriple.{NamedTriple}
use Rattle.mg_text.specs.declared.context_property.ContextProperty.{ContextProperty}
use Rattle.mg_text.specs.declared.context_property.ContextProperty.TheVariants as properties
use Rattle.mg_text.specs.declared.request.Action.{Action}
use Rattle.mg_text.specs.declared.body.MessageItem.{MessageItem}
use Rattle.mg_text.specs.declared.body.MessageItem.TheVariants as items
use Rattle.mg_words.specs.Numbers.{number_of}
use Rattle.mg_words.specs.Mode.{mode_text}
use Rattle.mg_words.specs.ContextId.{context_id_of}
use Rattle.mg_text.specs.Keyword.{long_word}
use Rattle.mg_text.specs.Words.{by_keyword, audit_word_named, context_word_named, switch_of, range_of}
use Rattle.mg_text.specs.Production.{Production, ◌▹◌, ◌or◌}
use Rattle.mg_text.specs.Grammar.{IsMark, IsSpan, IsWorded, IsName, IsOptionalAssigned, IsMore, IsListed, IsBraced, IsOptionalBraced, IsAnyBraced, IsBalanced, nothing, plain, nested, IsGroup, IsContent, IsOptionalGroup, IsValue, IsControlPart, IsStreamPart, IsMediaPart, IsAudit, IsOtherContent, keyword_for, IsDescriptor, IsOptionalAudit, IsDescribed, IsCommand, IsTriple, IsContextProperty, IsParts, IsAction, IsItem, IsSequence}

-- A measure of lists of tokens that grows with each token.
pub record Measure : Type 0 where
  pub of : List Token → ℕ
  pub falls : (t : Token) (ts : List Token) → of ts < of (t ∷ ts)

-- The number of tokens, as a measure.
abbrev pub by_count : Measure
by_count = record { of = length; falls = λ t ts. omega arith }

module _ (size : Measure) where
  -- ## Tokens and groups

  same_size : (ts rest : List Token) → ts ≡ rest → size.of rest ≤ size.of ts
  same_size ts rest m = omega (arith, ap size.of m)

  pub span_shorter : (kind : TokenKind) (w : Span) (ts rest : List Token) → IsSpan kind w ts rest →
      size.of rest < size.of ts
  span_shorter kind w ts rest m = omega (arith, ap size.of m, size.falls (record { kind = kind; span = w }) rest)

  pub mark_shorter : (kind : TokenKind) (ts rest : List Token) → IsMark kind ts rest → size.of rest < size.of ts
  mark_shorter kind ts rest m = span_shorter kind m.0 ts rest m.1

  pub worded_shorter : {X : Type 0} (meaning : List ℕ → Option X) (source : List ℕ) (x : X) (ts rest : List Token) →
      IsWorded meaning source x ts rest → size.of rest < size.of ts
  worded_shorter meaning source x ts rest m = span_shorter Word m.0 ts rest m.2

  name_shorter : (source : List ℕ) (keyword : Keyword) (ts rest : List Token) → IsName source keyword ts rest →
      size.of rest < size.of ts
  name_shorter source keyword ts rest m = span_shorter Word m.0 ts rest m.2

  balanced_shorter : (ts rest : List Token) → IsBalanced ts rest → size.of rest ≤ size.of ts
  balanced_shorter _ _ (nothing ts) = omega arith
  balanced_shorter _ _ (plain t ts rest p q inside) = omega (arith, size.falls t ts, balanced_shorter ts rest inside)
  balanced_shorter _ _ (nested ts a b c rest opens inside closes after) =
      omega (
        arith,
        mark_shorter Open ts a opens,
        balanced_shorter a b inside,
        mark_shorter Close b c closes,
        balanced_shorter c rest after,
      )

  group_shorter : (ts rest : List Token) → IsGroup ts rest → size.of rest < size.of ts
  group_shorter ts rest m = omega (
    arith,
    mark_shorter Open ts m.0 m.1,
    balanced_shorter m.0 m.2.0 m.2.1,
    mark_shorter Close m.2.0 rest m.2.2,
  )

  content_shorter : (b : Bool) (ts rest : List Token) → IsContent b ts rest → size.of rest ≤ size.of ts
  content_shorter true ts rest m = omega (arith, group_shorter ts rest m.0)
  content_shorter false ts rest (inl none) = same_size ts rest none
  content_shorter false ts rest (inr empty) =
      omega (arith, mark_shorter Open ts empty.0 empty.1, mark_shorter Close empty.0 rest empty.2)

  -- ## Lists

  module _ {X : Type 0} (P : X → Production)
      (shorter : (ts : List Token) (x : X) (rest : List Token) → P x ts rest → size.of rest ≤ size.of ts) where
    more_shorter : (xs : List X) (ts rest : List Token) → IsMore P xs ts rest →
        length xs + size.of rest < size.of ts
    more_shorter [] ts rest m = omega (arith, mark_shorter Close ts rest m)
    more_shorter (x ∷ xs) ts rest m = omega (
      arith,
      mark_shorter Comma ts m.0 m.1,
      shorter m.0 x m.2.0 m.2.1,
      more_shorter xs m.2.0 rest m.2.2,
    )

    pub list_shorter : (xs : List X) (ts rest : List Token) → IsListed P xs ts rest →
        length xs + size.of rest ≤ size.of ts
    list_shorter [] ts rest h = absurd h
    list_shorter (x ∷ xs) ts rest h = omega (arith, shorter ts x h.0 h.1, more_shorter xs h.0 rest h.2)

    braced_shorter : (xs : List X) (ts rest : List Token) → IsBraced P xs ts rest → size.of rest < size.of ts
    braced_shorter xs ts rest m = omega (arith, mark_shorter Open ts m.0 m.1, list_shorter xs m.0 rest m.2)

    optional_braced_shorter : (xs : List X) (ts rest : List Token) → IsOptionalBraced P xs ts rest →
        size.of rest ≤ size.of ts
    optional_braced_shorter [] ts rest m = same_size ts rest m
    optional_braced_shorter (x ∷ xs) ts rest m = omega (arith, braced_shorter (x ∷ xs) ts rest m)

    any_braced_shorter : (xs : List X) (ts rest : List Token) → IsAnyBraced P xs ts rest → size.of rest < size.of ts
    any_braced_shorter [] ts rest m =
        omega (arith, mark_shorter Open ts m.0 m.1, mark_shorter Close m.0 rest m.2)
    any_braced_shorter (x ∷ xs) ts rest m = braced_shorter (x ∷ xs) ts rest m

  -- Parsing a word of a list does not leave more tokens.
  pub each_word_shorter : {X : Type 0} (meaning : List ℕ → Option X) (source : List ℕ) (ts : List Token) (x : X)
      (rest : List Token) → IsWorded meaning source x ts rest → size.of rest ≤ size.of ts
  each_word_shorter meaning source ts x rest m = omega (arith, worded_shorter meaning source x ts rest m)

  -- ## Media descriptors

  value_shorter : (v : PropertyValue) (ts rest : List Token) → IsValue v ts rest → size.of rest < size.of ts
  value_shorter (values.Word w) ts rest m = span_shorter Word w ts rest m
  value_shorter (values.Quoted w) ts rest m = span_shorter Quoted w ts rest m
  value_shorter values.Group ts rest m = group_shorter ts rest m

  optional_value_shorter : (o : Option PropertyValue) (ts rest : List Token) →
      IsOptionalAssigned IsValue o ts rest → size.of rest ≤ size.of ts
  optional_value_shorter None ts rest m = same_size ts rest m
  optional_value_shorter (Some v) ts rest m =
      omega (arith, mark_shorter Equals ts m.0 m.1, value_shorter v m.0 rest m.2)

  set_shorter : {X : Type 0} (meaning : List ℕ → Option X) (source : List ℕ) (keyword : Keyword) (x : X)
      (ts rest : List Token) → (IsName source keyword ▹ IsMark Equals ▹ IsWorded meaning source x) ts rest →
      size.of rest ≤ size.of ts
  set_shorter meaning source keyword x ts rest m =
      omega (
        arith,
        name_shorter source keyword ts m.0 m.1,
        mark_shorter Equals m.0 m.2.0 m.2.1,
        worded_shorter meaning source x m.2.0 rest m.2.2,
      )

  pub control_shorter : (source : List ℕ) (ts : List Token) (x : ControlPart) (rest : List Token) →
      IsControlPart source x ts rest → size.of rest ≤ size.of ts
  control_shorter source ts (controls.Mode mode) rest m =
      set_shorter long_word source keywords.Mode (mode_text mode) ts rest m
  control_shorter source ts (controls.ReservedValue on) rest m =
      set_shorter switch_of source keywords.ReservedValue on ts rest m
  control_shorter source ts (controls.ReservedGroup on) rest m =
      set_shorter switch_of source keywords.ReservedGroup on ts rest m
  control_shorter source ts (controls.Property w o) rest m =
      omega (arith, span_shorter Word w ts m.0 m.1.1, optional_value_shorter o m.0 rest m.2)

  pub stream_part_shorter : (source : List ℕ) (ts : List Token) (x : StreamPart) (rest : List Token) →
      IsStreamPart source x ts rest → size.of rest ≤ size.of ts
  stream_part_shorter source ts (streams.Local w) rest m =
      omega (arith, name_shorter source keywords.Local ts m.0 m.1, span_shorter Octets w m.0 rest m.2)
  stream_part_shorter source ts (streams.Remote w) rest m =
      omega (arith, name_shorter source keywords.Remote ts m.0 m.1, span_shorter Octets w m.0 rest m.2)
  stream_part_shorter source ts (streams.LocalControl xs) rest m =
      omega (
        arith,
        name_shorter source keywords.LocalControl ts m.0 m.1,
        braced_shorter (IsControlPart source) (control_shorter source) xs m.0 rest m.2,
      )

  pub media_part_shorter : (source : List ℕ) (ts : List Token) (x : MediaPart) (rest : List Token) →
      IsMediaPart source x ts rest → size.of rest ≤ size.of ts
  media_part_shorter source ts (parts.Part x) rest m = stream_part_shorter source ts x rest m
  media_part_shorter source ts (parts.Stream number xs) rest m =
      omega (
        arith,
        name_shorter source keywords.Stream ts m.0 m.1,
        mark_shorter Equals m.0 m.2.0 m.2.1,
        worded_shorter number_of source number m.2.0 m.2.2.0 m.2.2.1,
        braced_shorter (IsStreamPart source) (stream_part_shorter source) xs m.2.2.0 rest m.2.2.2,
      )
  media_part_shorter source ts (parts.TerminationState b) rest m =
      omega (arith, name_shorter source keywords.TerminationState ts m.0 m.1, content_shorter b m.0 rest m.2)

  -- ## Commands

  audit_shorter : (source : List ℕ) (xs : List AuditWord) (ts rest : List Token) → IsAudit source xs ts rest →
      size.of rest ≤ size.of ts
  audit_shorter source xs ts rest m =
      omega (
        arith,
        name_shorter source keywords.Audit ts m.0 m.1,
        any_braced_shorter (IsWorded (by_keyword audit_word_named) source)
            (each_word_shorter (by_keyword audit_word_named) source) xs m.0 rest m.2,
      )

  assigned_shorter : (ts rest : List Token) → (IsGroup or IsMark Word ▹ IsOptionalGroup) ts rest →
      size.of rest < size.of ts
  assigned_shorter ts rest (inl m) = group_shorter ts rest m
  assigned_shorter ts rest (inr m) =
      omega (arith, mark_shorter Word ts m.0 m.1, content_shorter m.2.0 m.0 rest m.2.1)

  other_shorter : (b : Bool) (ts rest : List Token) → IsOtherContent b ts rest → size.of rest ≤ size.of ts
  other_shorter false ts rest m = content_shorter false ts rest m
  other_shorter true ts rest (inl m) = content_shorter true ts rest m
  other_shorter true ts rest (inr m) = omega (arith, mark_shorter Equals ts m.0 m.1, assigned_shorter m.0 rest m.2)

  pub descriptor_shorter : (source : List ℕ) (ts : List Token) (x : Descriptor) (rest : List Token) →
      IsDescriptor source x ts rest → size.of rest ≤ size.of ts
  descriptor_shorter source ts (descriptors.Media xs) rest m =
      omega (
        arith,
        name_shorter source keywords.Media ts m.0 m.1,
        braced_shorter (IsMediaPart source) (media_part_shorter source) xs m.0 rest m.2,
      )
  descriptor_shorter source ts (descriptors.Audit xs) rest m = audit_shorter source xs ts rest m
  descriptor_shorter source ts (descriptors.Other word b) rest m =
      omega (arith, name_shorter source (keyword_for word) ts m.0 m.1, other_shorter b m.0 rest m.2)

  optional_audit_shorter : (source : List ℕ) (xs : List Descriptor) (ts rest : List Token) →
      IsOptionalAudit source xs ts rest → size.of rest ≤ size.of ts
  optional_audit_shorter source [] ts rest m = same_size ts rest m
  optional_audit_shorter source (descriptors.Audit xs ∷ []) ts rest m =
      omega (
        arith,
        mark_shorter Open ts m.0 m.1,
        audit_shorter source xs m.0 m.2.0 m.2.1,
        mark_shorter Close m.2.0 rest m.2.2,
      )
  optional_audit_shorter source _ ts rest m = absurd m

  described_shorter : (source : List ℕ) (word : CommandWord) (xs : List Descriptor) (ts rest : List Token) →
      IsDescribed source word xs ts rest → size.of rest ≤ size.of ts
  described_shorter source commands.Add xs ts rest m =
      optional_braced_shorter (IsDescriptor source) (descriptor_shorter source) xs ts rest m
  described_shorter source commands.Modify xs ts rest m =
      optional_braced_shorter (IsDescriptor source) (descriptor_shorter source) xs ts rest m
  described_shorter source commands.Move xs ts rest m =
      optional_braced_shorter (IsDescriptor source) (descriptor_shorter source) xs ts rest m
  described_shorter source commands.Subtract xs ts rest m = optional_audit_shorter source xs ts rest m
  described_shorter source commands.AuditValue xs ts rest m = optional_audit_shorter source xs ts rest m
  described_shorter source commands.AuditCapability xs ts rest m = content_shorter m.1.0 ts rest m.1.1
  described_shorter source commands.Notify xs ts rest m = content_shorter m.1.0 ts rest m.1.1
  described_shorter source commands.ServiceChange xs ts rest m = content_shorter m.1.0 ts rest m.1.1

  pub command_shorter : (source : List ℕ) (ts : List Token) (x : Command) (rest : List Token) →
      IsCommand source x ts rest → size.of rest ≤ size.of ts
  command_shorter source ts x rest m =
      omega (
        arith,
        span_shorter Word m.1.0 ts m.0 m.1.2,
        mark_shorter Equals m.0 m.2.0 m.2.1,
        span_shorter Word x.term m.2.0 m.2.2.0 m.2.2.1.1,
        described_shorter source x.word x.descriptors m.2.2.0 rest m.2.2.2,
      )

  -- ## Actions

  pub triple_shorter : (source : List ℕ) (ts : List Token) (x : NamedTriple) (rest : List Token) →
      IsTriple source x ts rest → size.of rest ≤ size.of ts
  triple_shorter source ts x rest m =
      omega (
        arith,
        span_shorter Word x.first ts m.0 m.1.1,
        mark_shorter Comma m.0 m.2.0 m.2.1,
        span_shorter Word x.second m.2.0 m.2.2.0 m.2.2.1.1,
        mark_shorter Comma m.2.2.0 m.2.2.2.0 m.2.2.2.1,
        span_shorter Word m.2.2.2.2.0 m.2.2.2.0 rest m.2.2.2.2.2,
      )

  pub property_shorter : (source : List ℕ) (x : ContextProperty) (ts rest : List Token) →
      IsContextProperty source x ts rest → size.of rest < size.of ts
  property_shorter source (properties.Topology xs) ts rest m =
      omega (
        arith,
        name_shorter source keywords.Topology ts m.0 m.1,
        braced_shorter (IsTriple source) (triple_shorter source) xs m.0 rest m.2,
      )
  property_shorter source (properties.ContextAudit xs) ts rest m =
      omega (
        arith,
        name_shorter source keywords.ContextAudit ts m.0 m.1,
        braced_shorter (IsWorded (by_keyword context_word_named) source)
            (each_word_shorter (by_keyword context_word_named) source) xs m.0 rest m.2,
      )
  property_shorter source (properties.Priority w) ts rest m =
      omega (
        arith,
        name_shorter source keywords.Priority ts m.0 m.1,
        mark_shorter Equals m.0 m.2.0 m.2.1,
        span_shorter Word w m.2.0 rest m.2.2,
      )
  property_shorter source (properties.Emergency None) ts rest m =
      omega (arith, name_shorter source keywords.Emergency ts m.0 m.1, same_size m.0 rest m.2)
  property_shorter source (properties.Emergency (Some w)) ts rest m =
      omega (
        arith,
        name_shorter source keywords.Emergency ts m.0 m.1,
        mark_shorter Equals m.0 m.2.0 m.2.1,
        span_shorter Word w m.2.0 rest m.2.2,
      )

  pub parts_shorter : (source : List ℕ) (ps : List ContextProperty) (xs : List Command) (ts rest : List Token) →
      IsParts source ps xs ts rest → length ps + size.of rest < size.of ts
  parts_shorter source [] [] ts rest m = absurd m
  parts_shorter source [] (x ∷ xs) ts rest m =
      omega (arith, list_shorter (IsCommand source) (command_shorter source) (x ∷ xs) ts rest m)
  parts_shorter source (p ∷ []) [] ts rest m =
      omega (arith, property_shorter source p ts m.0 m.1, mark_shorter Close m.0 rest m.2)
  parts_shorter source (p ∷ []) (x ∷ xs) ts rest m =
      omega (
        arith,
        property_shorter source p ts m.0 m.1,
        mark_shorter Comma m.0 m.2.0 m.2.1,
        parts_shorter source [] (x ∷ xs) m.2.0 rest m.2.2,
      )
  parts_shorter source (p ∷ q ∷ qs) xs ts rest m =
      omega (
        arith,
        property_shorter source p ts m.0 m.1,
        mark_shorter Comma m.0 m.2.0 m.2.1,
        parts_shorter source (q ∷ qs) xs m.2.0 rest m.2.2,
      )

  pub action_shorter : (source : List ℕ) (ts : List Token) (x : Action) (rest : List Token) →
      IsAction source x ts rest → size.of rest ≤ size.of ts
  action_shorter source ts x rest m =
      omega (
        arith,
        name_shorter source keywords.Context ts m.0 m.1,
        mark_shorter Equals m.0 m.2.0 m.2.1,
        worded_shorter context_id_of source x.context m.2.0 m.2.2.0 m.2.2.1,
        mark_shorter Open m.2.2.0 m.2.2.2.0 m.2.2.2.1,
        parts_shorter source x.properties x.commands m.2.2.2.0 rest m.2.2.2.2,
      )

  -- ## The items of a message

  answer_name_shorter : (source : List ℕ) (ts rest : List Token) →
      (IsName source keywords.Reply or IsName source keywords.Pending) ts rest → size.of rest < size.of ts
  answer_name_shorter source ts rest (inl name) = name_shorter source keywords.Reply ts rest name
  answer_name_shorter source ts rest (inr name) = name_shorter source keywords.Pending ts rest name

  pub item_shorter : (source : List ℕ) (x : Option MessageItem) (ts rest : List Token) → IsItem source x ts rest →
      size.of rest < size.of ts
  item_shorter source (Some (items.Request x)) ts rest m =
      omega (
        arith,
        name_shorter source keywords.Transaction ts m.0 m.1,
        mark_shorter Equals m.0 m.2.0 m.2.1,
        worded_shorter number_of source x.number m.2.0 m.2.2.0 m.2.2.1,
        braced_shorter (IsAction source) (action_shorter source) x.actions m.2.2.0 rest m.2.2.2,
      )
  item_shorter source (Some (items.Acknowledgement xs)) ts rest m =
      omega (
        arith,
        name_shorter source keywords.TransactionResponseAck ts m.0 m.1,
        braced_shorter (IsWorded range_of source) (each_word_shorter range_of source) xs m.0 rest m.2,
      )
  item_shorter source None ts rest m =
      omega (
        arith,
        answer_name_shorter source ts m.0 m.1,
        mark_shorter Equals m.0 m.2.0 m.2.1,
        worded_shorter number_of source m.2.2.1.0 m.2.0 m.2.2.0 m.2.2.1.1,
        group_shorter m.2.2.0 rest m.2.2.2,
      )

  pub sequence_shorter : (source : List ℕ) (xs : List (Option MessageItem)) (ts : List Token) →
      IsSequence source xs ts [] → length xs + size.of [] ≤ size.of ts
  sequence_shorter source [] ts h = absurd h
  sequence_shorter source (x ∷ []) ts h = omega (arith, item_shorter source x ts [] h)
  sequence_shorter source (x ∷ y ∷ xs) ts h =
      omega (arith, item_shorter source x ts h.0 h.1, sequence_shorter source (y ∷ xs) h.0 h.2)
