-- The actions of a gateway, in order, and the text that is printed about them.
use Rattle.std.specs.Prelude.{ℕ, ◌==◌, not, List, [], ◌∷◌, ◌++◌, codes, flat_map, take}
use Rattle.std.specs.List.{filter}
use Rattle.mg_words.specs.declared.peer.Peer.{Peer}
use Rattle.mg_core.specs.declared.event.Event.{Event}
use Rattle.mg_core.specs.Recording.{Entry, entry_line, event_line}
use Rattle.mg_core.specs.Recording as entry
use Rattle.mg_ports.specs.declared.call.Call.{Call}
use Rattle.mg_serve.specs.declared.form.Form.{Form}
use Rattle.mg_serve.specs.declared.form.Form.TheVariants.{Plain, Recording}

-- An entry of a trace. The gateway calls its ports, an event happens, or the gateway drops a stale control datagram. Or
-- the gateway prints text: `Printed` text is for its driver, and `Noted` text is printed only in a recording.
pub data TraceEntry : Type 0 where
  Called : (call : Call) → TraceEntry
  Happened : (event : Event) → TraceEntry
  Printed : (text : List ℕ) → TraceEntry
  Noted : (text : List ℕ) → TraceEntry
  Stale : (source : Peer) (bytes : List ℕ) → TraceEntry

abbrev pub calls_of : List TraceEntry → List Call
calls_of [] = []
calls_of (Called call ∷ trace) = call ∷ calls_of trace
calls_of (_ ∷ trace) = calls_of trace

abbrev pub events_of_trace : List TraceEntry → List Event
events_of_trace [] = []
events_of_trace (Happened event ∷ trace) = event ∷ events_of_trace trace
events_of_trace (_ ∷ trace) = events_of_trace trace

-- Text as one line: without line feeds, and only the first 1,000 of its other bytes.
abbrev pub one_line : List ℕ → List ℕ
one_line text = take 1000 (filter (λ b. not (b == 10)) text)

-- The text that is printed for an entry. In plain form, this is the text for the gateway's driver. In a recording, it
-- is a script line for an event, and a comment for printed or noted text. For any other entry, nothing is printed.
abbrev pub printed_text : Form → TraceEntry → List ℕ
printed_text Plain (Printed text) = one_line text ++ codes "\n"
printed_text Plain _ = []
printed_text Recording (Happened event) = event_line event
printed_text Recording (Printed text) = entry_line (entry.Noted (one_line text))
printed_text Recording (Noted text) = entry_line (entry.Noted (one_line text))
printed_text Recording _ = []

abbrev pub output_of : Form → List TraceEntry → List ℕ
output_of form trace = flat_map (printed_text form) trace
