-- The keywords of the encoding (RFC 3525, Annex B.2). Each has two forms; case is ignored.
use Rattle.std.specs.Prelude.{ℕ, Bool, ◌||◌, List, [], ◌∷◌, Option, find, codes}
use Rattle.std.specs.Option.{option_map}
use Rattle.std.specs.Str.{str_eq_ignore_ascii_case}
use Rattle.mg_text.specs.declared.keyword.Keyword.{Keyword}
use Rattle.mg_text.specs.declared.keyword.Keyword.TheVariants.{Transaction, Reply, Pending}
use Rattle.mg_text.specs.declared.keyword.Keyword.TheVariants.{TransactionResponseAck, Context}
use Rattle.mg_text.specs.declared.keyword.Keyword.TheVariants.{ContextAudit, Add, Modify, Move}
use Rattle.mg_text.specs.declared.keyword.Keyword.TheVariants.{Subtract, AuditValue}
use Rattle.mg_text.specs.declared.keyword.Keyword.TheVariants.{AuditCapability, Notify}
use Rattle.mg_text.specs.declared.keyword.Keyword.TheVariants.{ServiceChange, Audit, Media, Stream}
use Rattle.mg_text.specs.declared.keyword.Keyword.TheVariants.{LocalControl, Local, Remote}
use Rattle.mg_text.specs.declared.keyword.Keyword.TheVariants.{TerminationState, Mode, SendOnly}
use Rattle.mg_text.specs.declared.keyword.Keyword.TheVariants.{ReceiveOnly, SendReceive, Inactive}
use Rattle.mg_text.specs.declared.keyword.Keyword.TheVariants.{Loopback, Topology, Isolate, Oneway}
use Rattle.mg_text.specs.declared.keyword.Keyword.TheVariants.{Bothway, ReservedValue}
use Rattle.mg_text.specs.declared.keyword.Keyword.TheVariants.{ReservedGroup, Statistics, Error}
use Rattle.mg_text.specs.declared.keyword.Keyword.TheVariants.{Signals, Events, Modem, Mux}
use Rattle.mg_text.specs.declared.keyword.Keyword.TheVariants.{DigitMap, EventBuffer}
use Rattle.mg_text.specs.declared.keyword.Keyword.TheVariants.{ObservedEvents, Packages, Priority}
use Rattle.mg_text.specs.declared.keyword.Keyword.TheVariants.{Emergency}

-- The long and the short form of a keyword.
unfoldable pub forms_of : Keyword → List ℕ × List ℕ
forms_of Transaction = (codes "Transaction", codes "T")
forms_of Reply = (codes "Reply", codes "P")
forms_of Pending = (codes "Pending", codes "PN")
forms_of TransactionResponseAck = (codes "TransactionResponseAck", codes "K")
forms_of Context = (codes "Context", codes "C")
forms_of ContextAudit = (codes "ContextAudit", codes "CA")
forms_of Add = (codes "Add", codes "A")
forms_of Modify = (codes "Modify", codes "MF")
forms_of Move = (codes "Move", codes "MV")
forms_of Subtract = (codes "Subtract", codes "S")
forms_of AuditValue = (codes "AuditValue", codes "AV")
forms_of AuditCapability = (codes "AuditCapability", codes "AC")
forms_of Notify = (codes "Notify", codes "N")
forms_of ServiceChange = (codes "ServiceChange", codes "SC")
forms_of Audit = (codes "Audit", codes "AT")
forms_of Media = (codes "Media", codes "M")
forms_of Stream = (codes "Stream", codes "ST")
forms_of LocalControl = (codes "LocalControl", codes "O")
forms_of Local = (codes "Local", codes "L")
forms_of Remote = (codes "Remote", codes "R")
forms_of TerminationState = (codes "TerminationState", codes "TS")
forms_of Mode = (codes "Mode", codes "MO")
forms_of SendOnly = (codes "SendOnly", codes "SO")
forms_of ReceiveOnly = (codes "ReceiveOnly", codes "RC")
forms_of SendReceive = (codes "SendReceive", codes "SR")
forms_of Inactive = (codes "Inactive", codes "IN")
forms_of Loopback = (codes "Loopback", codes "LB")
forms_of Topology = (codes "Topology", codes "TP")
forms_of Isolate = (codes "Isolate", codes "IS")
forms_of Oneway = (codes "Oneway", codes "OW")
forms_of Bothway = (codes "Bothway", codes "BW")
forms_of ReservedValue = (codes "ReservedValue", codes "RV")
forms_of ReservedGroup = (codes "ReservedGroup", codes "RG")
forms_of Statistics = (codes "Statistics", codes "SA")
forms_of Error = (codes "Error", codes "ER")
forms_of Signals = (codes "Signals", codes "SG")
forms_of Events = (codes "Events", codes "E")
forms_of Modem = (codes "Modem", codes "MD")
forms_of Mux = (codes "Mux", codes "MX")
forms_of DigitMap = (codes "DigitMap", codes "DM")
forms_of EventBuffer = (codes "EventBuffer", codes "EB")
forms_of ObservedEvents = (codes "ObservedEvents", codes "OE")
forms_of Packages = (codes "Packages", codes "PG")
forms_of Priority = (codes "Priority", codes "PR")
forms_of Emergency = (codes "Emergency", codes "EG")

-- Whether the text is the keyword in one of its forms.
unfoldable pub is_named : List ℕ → Keyword → Bool
is_named text keyword =
    str_eq_ignore_ascii_case text (forms_of keyword).0
    || str_eq_ignore_ascii_case text (forms_of keyword).1

-- All keywords.
abbrev pub keywords : List Keyword
keywords =
    Transaction ∷ Reply ∷ Pending ∷ TransactionResponseAck ∷ Context ∷ ContextAudit ∷ Add ∷
    Modify ∷ Move ∷ Subtract ∷ AuditValue ∷ AuditCapability ∷ Notify ∷ ServiceChange ∷ Audit ∷
    Media ∷ Stream ∷ LocalControl ∷ Local ∷ Remote ∷ TerminationState ∷ Mode ∷ SendOnly ∷
    ReceiveOnly ∷ SendReceive ∷ Inactive ∷ Loopback ∷ Topology ∷ Isolate ∷ Oneway ∷ Bothway ∷
    ReservedValue ∷ ReservedGroup ∷ Statistics ∷ Error ∷ Signals ∷ Events ∷ Modem ∷ Mux ∷
    DigitMap ∷ EventBuffer ∷ ObservedEvents ∷ Packages ∷ Priority ∷ Emergency ∷ []

-- The keyword that the text spells, in either form.
unfoldable pub keyword_of : List ℕ → Option Keyword
keyword_of text = find (is_named text) keywords

-- The long form of the keyword that the text spells.
abbrev pub long_word : List ℕ → Option (List ℕ)
long_word text = option_map (λ keyword. (forms_of keyword).0) (keyword_of text)
