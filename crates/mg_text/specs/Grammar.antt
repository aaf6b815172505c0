-- The grammar of messages by productions: the part of RFC 3525, Annex B.2, that this gateway reads. `IsX x ts rest`
-- says that the tokens ts start with x, and that rest follows it. `P ▹ Q` is P followed by Q, and `P or Q` is one of
-- the two. Above each production is its text: parts in square brackets are optional, and * repeats. Words in capitals
-- are keywords in either form, except for ON and OFF, which have one form.
use Rattle.std.specs.Prelude.{◌≡◌, ◌≢◌, ℕ, ◌⊎◌, Bool, true, false, ◌==◌, List, [], ◌∷◌, ◌++◌}
use Rattle.std.specs.Prelude.{Option, Some, None, filter_map, codes, if◌then◌else◌}
use Rattle.std.specs.Option.{option_and_then}
use Rattle.std.specs.List.{list_any}
use Rattle.mg_scan.specs.declared.kind.TokenKind.{TokenKind}
use Rattle.mg_scan.specs.declared.kind.TokenKind.TheVariants.{Word, Open, Close, Comma, Equals}
use Rattle.mg_scan.specs.declared.kind.TokenKind.TheVariants.{Quoted, Octets}
use Rattle.mg_scan.specs.declared.span.Span.{Span}
use Rattle.mg_scan.specs.declared.token.Token.{Token}
use Rattle.mg_scan.specs.Span.{text_of}
use Rattle.mg_words.specs.Numbers.{number_of}
use Rattle.mg_words.specs.Cut.{after_prefix}
use Rattle.mg_words.specs.Mode.{mode_text}
use Rattle.mg_words.specs.Association.{association_text}
use Rattle.mg_words.specs.CommandWord.{command_text}
use Rattle.mg_text.specs.declared.keyword.Keyword.{Keyword}
use Rattle.mg_text.specs.declared.keyword.Keyword.TheVariants as keywords
use Rattle.mg_text.specs.declared.media.PropertyValue.{PropertyValue}
use Rattle.mg_text.specs.declared.media.PropertyValue.TheVariants as values
use Rattle.mg_text.specs.declared.media.ControlPart.{ControlPart}
use Rattle.mg_text.specs.declared.media.ControlPart.TheVariants as controls
use Rattle.mg_text.specs.declared.media.StreamPart.{StreamPart}
use Rattle.mg_text.specs.declared.media.StreamPart.TheVariants as streams
use Rattle.mg_text.specs.declared.media.MediaPart.{MediaPart}
use Rattle.mg_text.specs.declared.media.MediaPart.TheVariants as parts
use Rattle.mg_text.specs.declared.descriptor.AuditWord.{AuditWord}
use Rattle.mg_text.specs.declared.descriptor.OtherWord.{OtherWord}
use Rattle.mg_text.specs.declared.descriptor.OtherWord.TheVariants as others
use Rattle.mg_text.specs.declared.descriptor.Descriptor.{Descriptor}
use Rattle.mg_text.specs.declared.descriptor.Descriptor.TheVariants as descriptors
use Rattle.mg_words.specs.declared.command_word.CommandWord.{CommandWord}
use Rattle.mg_words.specs.declared.command_word.CommandWord.TheVariants as commands
use Rattle.mg_text.specs.declared.command.Command.{Command}
use Rattle.mg_text.specs.declared.context_property.NamedTriple.{NamedTriple}
use Rattle.mg_text.specs.declared.context_property.ContextProperty.{ContextProperty}
use Rattle.mg_text.specs.declared.context_property.ContextProperty.TheVariants as properties
use Rattle.mg_text.specs.declared.request.Action.{Action}
use Rattle.mg_text.specs.declared.request.Request.{Request}
use Rattle.mg_text.specs.declared.body.Body.{Body}
use Rattle.mg_text.specs.declared.body.Body.TheVariants as bodies
use Rattle.mg_text.specs.declared.body.MessageItem.{MessageItem}
use Rattle.mg_text.specs.declared.body.MessageItem.TheVariants as items
use Rattle.mg_text.specs.declared.message.Message.{Message}
use Rattle.mg_text.specs.Production.{Production, ◌▹◌, ◌or◌, IsNothing, IsAny}
use Rattle.mg_text.specs.Keyword.{keyword_of, long_word}
use Rattle.mg_words.specs.ContextId.{context_id_of}
use Rattle.mg_text.specs.Words.{by_keyword, context_word_named}
use Rattle.mg_text.specs.Words.{audit_word_named, switch_of, range_of}
use Rattle.mg_words.specs.Term.{is_term}
use Rattle.mg_text.specs.Head.{version_in_head}
use Rattle.mg_text.specs.Sender.{is_sender}

-- A single token of this kind, with this text.
abbrev pub IsSpan : TokenKind → Span → Production
IsSpan kind w ts rest = ts ≡ record { kind = kind; span = w } ∷ rest

-- A single token of this kind.
abbrev pub IsMark : TokenKind → Production
IsMark kind = IsAny (IsSpan kind)

abbrev pub IsWord : Span → Production
IsWord = IsSpan Word

-- A word whose text passes a test.
abbrev pub IsWordThat : (List ℕ → Bool) → List ℕ → Span → Production
IsWordThat test source w ts rest = (test (text_of source w) ≡ true) × IsWord w ts rest

-- A word with this value.
abbrev pub IsWorded : {X : Type 0} → (List ℕ → Option X) → List ℕ → X → Production
IsWorded meaning source x ts rest =
    (w : Span) × (meaning (text_of source w) ≡ Some x) × IsWord w ts rest

-- A keyword, in either of its forms.
abbrev pub IsName : List ℕ → Keyword → Production
IsName = IsWorded keyword_of

-- An optional equals sign and value: ["=" x]
abbrev pub IsOptionalAssigned : {X : Type 0} → (X → Production) → Option X → Production
IsOptionalAssigned P None = IsNothing
IsOptionalAssigned P (Some x) = IsMark Equals ▹ P x

-- The other items of a list, up to the closing brace: *("," x) "}"
abbrev pub IsMore : {X : Type 0} → (X → Production) → List X → Production
IsMore P [] = IsMark Close
IsMore P (x ∷ xs) = IsMark Comma ▹ P x ▹ IsMore P xs

-- One or more items, up to the closing brace: x *("," x) "}"
abbrev pub IsListed : {X : Type 0} → (X → Production) → List X → Production
IsListed P [] ts rest = ⊥
IsListed P (x ∷ xs) ts rest = (P x ▹ IsMore P xs) ts rest

-- One or more items in braces: "{" x *("," x) "}"
abbrev pub IsBraced : {X : Type 0} → (X → Production) → List X → Production
IsBraced P xs = IsMark Open ▹ IsListed P xs

-- Optional items in braces: ["{" x *("," x) "}"]
abbrev pub IsOptionalBraced : {X : Type 0} → (X → Production) → List X → Production
IsOptionalBraced P [] = IsNothing
IsOptionalBraced P (x ∷ xs) = IsBraced P (x ∷ xs)

-- Braces without content: "{" "}"
abbrev pub IsEmptyBraces : Production
IsEmptyBraces = IsMark Open ▹ IsMark Close

-- Any number of items in braces: "{" [x *("," x)] "}"
abbrev pub IsAnyBraced : {X : Type 0} → (X → Production) → List X → Production
IsAnyBraced P [] = IsEmptyBraces
IsAnyBraced P (x ∷ xs) = IsBraced P (x ∷ xs)

-- Tokens with balanced braces.
pub data IsBalanced : List Token → List Token → Type 0 where
  nothing : (ts : List Token) → IsBalanced ts ts
  plain : (t : Token) (ts rest : List Token) → t.kind ≢ Open → t.kind ≢ Close → IsBalanced ts rest
      → IsBalanced (t ∷ ts) rest
  nested : (ts a b c rest : List Token) → IsMark Open ts a → IsBalanced a b → IsMark Close b c
      → IsBalanced c rest → IsBalanced ts rest

-- A group: "{" tokens with balanced braces "}"
abbrev pub IsGroup : Production
IsGroup = IsMark Open ▹ IsBalanced ▹ IsMark Close

-- An optional group, and whether it contains a token: [group]
abbrev pub IsContent : Bool → Production
IsContent true ts rest = IsGroup ts rest × (IsEmptyBraces ts rest → ⊥)
IsContent false ts rest = (IsNothing or IsEmptyBraces) ts rest

-- An optional group with any content: [group]
abbrev pub IsOptionalGroup : Production
IsOptionalGroup = IsAny IsContent

-- The value of a property: Word | Quoted | group
abbrev pub IsValue : PropertyValue → Production
IsValue (values.Word w) = IsWord w
IsValue (values.Quoted w) = IsSpan Quoted w
IsValue values.Group = IsGroup

-- Whether a word has a slash (47).
abbrev pub has_slash : List ℕ → Bool
has_slash text = list_any (λ b. b == 47) text

-- A part of a LocalControl: lparm = MODE "=" mode | (RESERVEDVALUE | RESERVEDGROUP) "=" (ON | OFF) | prop ["=" (Word |
-- Quoted | group)], where prop is a Word with a slash, which no keyword has.
abbrev pub IsControlPart : List ℕ → ControlPart → Production
IsControlPart source (controls.Mode mode) =
    IsName source keywords.Mode ▹ IsMark Equals ▹ IsWorded long_word source (mode_text mode)
IsControlPart source (controls.ReservedValue on) =
    IsName source keywords.ReservedValue ▹ IsMark Equals ▹ IsWorded switch_of source on
IsControlPart source (controls.ReservedGroup on) =
    IsName source keywords.ReservedGroup ▹ IsMark Equals ▹ IsWorded switch_of source on
IsControlPart source (controls.Property name value) =
    IsWordThat has_slash source name ▹ IsOptionalAssigned IsValue value

-- A part of a stream: sparm = LOCAL Octets | REMOTE Octets | LOCALCONTROL "{" lparm *("," lparm) "}"
abbrev pub IsStreamPart : List ℕ → StreamPart → Production
IsStreamPart source (streams.Local text) = IsName source keywords.Local ▹ IsSpan Octets text
IsStreamPart source (streams.Remote text) = IsName source keywords.Remote ▹ IsSpan Octets text
IsStreamPart source (streams.LocalControl xs) =
    IsName source keywords.LocalControl ▹ IsBraced (IsControlPart source) xs

-- A part of a Media descriptor: mparm = sparm | STREAM "=" number "{" sparm *("," sparm) "}" | TERMINATIONSTATE [group]
abbrev pub IsMediaPart : List ℕ → MediaPart → Production
IsMediaPart source (parts.Part part) = IsStreamPart source part
IsMediaPart source (parts.Stream number xs) =
    IsName source keywords.Stream ▹ IsMark Equals ▹ IsWorded number_of source number
    ▹ IsBraced (IsStreamPart source) xs
IsMediaPart source (parts.TerminationState filled) =
    IsName source keywords.TerminationState ▹ IsContent filled

-- An Audit: audit = AUDIT "{" [aword *("," aword)] "}"
abbrev pub IsAudit : List ℕ → List AuditWord → Production
IsAudit source xs =
    IsName source keywords.Audit ▹ IsAnyBraced (IsWorded (by_keyword audit_word_named) source) xs

-- The rest of an `other` descriptor: [group | "=" group | "=" Word [group]]. The flag says whether the descriptor has
-- content. A bare keyword, or one directly followed by empty braces, has none.
abbrev pub IsOtherContent : Bool → Production
IsOtherContent false = IsContent false
IsOtherContent true =
    IsContent true or IsMark Equals ▹ (IsGroup or IsMark Word ▹ IsOptionalGroup)

abbrev pub keyword_for : OtherWord → Keyword
keyword_for others.Signals = keywords.Signals
keyword_for others.Events = keywords.Events
keyword_for others.Modem = keywords.Modem
keyword_for others.Mux = keywords.Mux
keyword_for others.DigitMap = keywords.DigitMap
keyword_for others.EventBuffer = keywords.EventBuffer

-- A descriptor: param = MEDIA "{" mparm *("," mparm) "}" | audit | other, where other = (SIGNALS | EVENTS | MODEM | MUX
-- | DIGITMAP | EVENTBUFFER) [group | "=" group | "=" Word [group]]
abbrev pub IsDescriptor : List ℕ → Descriptor → Production
IsDescriptor source (descriptors.Media xs) =
    IsName source keywords.Media ▹ IsBraced (IsMediaPart source) xs
IsDescriptor source (descriptors.Audit xs) = IsAudit source xs
IsDescriptor source (descriptors.Other word filled) =
    IsName source (keyword_for word) ▹ IsOtherContent filled

-- An optional Audit in braces: ["{" audit "}"]
abbrev pub IsOptionalAudit : List ℕ → List Descriptor → Production
IsOptionalAudit source [] ts rest = IsNothing ts rest
IsOptionalAudit source (descriptors.Audit xs ∷ []) ts rest =
    (IsMark Open ▹ IsAudit source xs ▹ IsMark Close) ts rest
IsOptionalAudit source _ ts rest = ⊥

-- An optional group, which yields no descriptor: [group]
abbrev pub IsSkipped : List Descriptor → Production
IsSkipped xs ts rest = (xs ≡ []) × IsOptionalGroup ts rest

-- The descriptors after the name of a command's termination:
-- (ADD | MODIFY | MOVE) ["{" param *("," param) "}"] | (SUBTRACT | AUDITVALUE) ["{" audit "}"]
-- | (NOTIFY | SERVICECHANGE | AUDITCAPABILITY) [group]
abbrev pub IsDescribed : List ℕ → CommandWord → List Descriptor → Production
IsDescribed source commands.Add xs = IsOptionalBraced (IsDescriptor source) xs
IsDescribed source commands.Modify xs = IsOptionalBraced (IsDescriptor source) xs
IsDescribed source commands.Move xs = IsOptionalBraced (IsDescriptor source) xs
IsDescribed source commands.Subtract xs = IsOptionalAudit source xs
IsDescribed source commands.AuditValue xs = IsOptionalAudit source xs
IsDescribed source _ xs = IsSkipped xs

-- The prefix of a command: O- if the command is optional, then W- if it requests one reply for all matches.
abbrev pub prefix_of : Bool → Bool → List ℕ
prefix_of optional wildcard =
    (if optional then codes "O-" else []) ++ (if wildcard then codes "W-" else [])

-- The long form of the keyword after a prefix.
abbrev pub word_after : List ℕ → List ℕ → Option (List ℕ)
word_after prefix text = option_and_then long_word (after_prefix prefix text)

-- A command with its descriptors: command = ["O-"]["W-"] word "=" term, where term is a Word of 1 to 64 bytes.
abbrev pub IsCommand : List ℕ → Command → Production
IsCommand source x =
    IsWorded (word_after (prefix_of x.is_optional x.wants_wildcard)) source (command_text x.word)
    ▹ IsMark Equals ▹ IsWordThat is_term source x.term
    ▹ IsDescribed source x.word x.descriptors

-- A topology triple: triple = term "," term "," (ISOLATE | ONEWAY | BOTHWAY)
abbrev pub IsTriple : List ℕ → NamedTriple → Production
IsTriple source x =
    IsWordThat is_term source x.first ▹ IsMark Comma ▹ IsWordThat is_term source x.second
    ▹ IsMark Comma ▹ IsWorded long_word source (association_text x.association)

-- A context property: property = TOPOLOGY "{" triple *("," triple) "}" | CONTEXTAUDIT "{" caword *("," caword) "}"
--          | PRIORITY "=" Word | EMERGENCY ["=" Word]
abbrev pub IsContextProperty : List ℕ → ContextProperty → Production
IsContextProperty source (properties.Topology xs) =
    IsName source keywords.Topology ▹ IsBraced (IsTriple source) xs
IsContextProperty source (properties.ContextAudit xs) =
    IsName source keywords.ContextAudit
    ▹ IsBraced (IsWorded (by_keyword context_word_named) source) xs
IsContextProperty source (properties.Priority word) =
    IsName source keywords.Priority ▹ IsMark Equals ▹ IsWord word
IsContextProperty source (properties.Emergency word) =
    IsName source keywords.Emergency ▹ IsOptionalAssigned IsWord word

-- The content of an action: parts "}", where parts = property *("," property) ["," commands] | commands, and commands =
-- command *("," command)
abbrev pub IsParts : List ℕ → List ContextProperty → List Command → Production
IsParts source [] xs = IsListed (IsCommand source) xs
IsParts source (p ∷ []) [] = IsContextProperty source p ▹ IsMark Close
IsParts source (p ∷ ps) xs = IsContextProperty source p ▹ IsMark Comma ▹ IsParts source ps xs

-- An action: action = CONTEXT "=" context "{" parts "}"
abbrev pub IsAction : List ℕ → Action → Production
IsAction source x =
    IsName source keywords.Context ▹ IsMark Equals ▹ IsWorded context_id_of source x.context
    ▹ IsMark Open ▹ IsParts source x.properties x.commands

-- A transaction request: request = TRANSACTION "=" number "{" action *("," action) "}"
abbrev pub IsRequest : List ℕ → Request → Production
IsRequest source x =
    IsName source keywords.Transaction ▹ IsMark Equals ▹ IsWorded number_of source x.number
    ▹ IsBraced (IsAction source) x.actions

-- A Reply or Pending item: answer = (REPLY | PENDING) "=" number group
abbrev pub IsAnswer : List ℕ → Production
IsAnswer source =
    (IsName source keywords.Reply or IsName source keywords.Pending) ▹ IsMark Equals
    ▹ IsAny (IsWorded number_of source) ▹ IsGroup

-- An item of a message: item = request | TRANSACTIONRESPONSEACK "{" range *("," range) "}" | answer, where an answer is
-- not kept.
abbrev pub IsItem : List ℕ → Option MessageItem → Production
IsItem source (Some (items.Request x)) = IsRequest source x
IsItem source (Some (items.Acknowledgement xs)) =
    IsName source keywords.TransactionResponseAck ▹ IsBraced (IsWorded range_of source) xs
IsItem source None = IsAnswer source

-- One or more items of a message: item *(item)
abbrev pub IsSequence : List ℕ → List (Option MessageItem) → Production
IsSequence source [] ts rest = ⊥
IsSequence source (x ∷ []) ts rest = IsItem source x ts rest
IsSequence source (x ∷ y ∷ xs) ts rest = (IsItem source x ▹ IsSequence source (y ∷ xs)) ts rest

-- The body with these items, or `Ignored` if there are none.
abbrev pub body_of : List MessageItem → Body
body_of [] = bodies.Ignored
body_of (x ∷ xs) = bodies.Requests (x ∷ xs)

-- An Error body: error = ERROR "=" Word group
abbrev pub IsError : List ℕ → Production
IsError source = IsName source keywords.Error ▹ IsMark Equals ▹ IsMark Word ▹ IsGroup

-- A body of items: item *(item). The body contains the items that are kept.
abbrev pub IsItems : List ℕ → Body → Production
IsItems source x ts rest =
    (xs : List (Option MessageItem)) × (x ≡ body_of (filter_map (λ item. item) xs))
    × IsSequence source xs ts rest

-- The body of a message: body = error | item *(item)
abbrev pub IsBody : List ℕ → Body → Production
IsBody source x ts rest =
    ((x ≡ bodies.Ignored) × IsError source ts rest) ⊎ IsItems source x ts rest

-- A message: message = head mid body, with version 1 in the head and nothing after the body.
abbrev pub IsText : List ℕ → Message → List Token → Type 0
IsText source m ts =
    (IsWorded version_in_head source 1 ▹ IsWordThat is_sender source m.sender
    ▹ IsBody source m.body) ts []
