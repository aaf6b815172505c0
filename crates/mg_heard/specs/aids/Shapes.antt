-- The lines for intervals and gaps, in the pieces that the code writes.
use Rattle.std.specs.Prelude.{ℕ, ◌++◌, List, [], Option, Some, None, codes}
use Rattle.std.specs.Prelude.{decimal, length, ◌==◌, if◌then◌else◌}
use Rattle.std.specs.Prelude.{option_and_then}
use Rattle.mg_words.specs.Term.{rtp_name}
use Rattle.mg_words.specs.declared.peer.Peer.{Peer}
use Rattle.mg_core.specs.Peer.{peer_text}
use Rattle.mg_dates.specs.declared.date.Date.{Date}
use Rattle.mg_heard.specs.declared.claim.Claim.{Claim}
use Rattle.mg_heard.specs.declared.claim.Claim.TheVariants as claims
use Rattle.mg_heard.specs.declared.format.Format.{Format}
use Rattle.mg_heard.specs.declared.format.Format.TheVariants.{Text, Csv, Json, Page}
use Rattle.mg_heard.specs.declared.gap.Gap.{Gap}
use Rattle.mg_heard.specs.declared.interval.Interval.{Interval}
use Rattle.mg_heard.specs.declared.moment.Moment.{Moment}
use Rattle.mg_heard.specs.declared.named.Named.{Named}
use Rattle.mg_heard.specs.declared.open_flow.OpenFlow.{OpenFlow}
use Rattle.mg_heard.specs.declared.violation.Violation.{Violation}
use Rattle.mg_heard.specs.Escaped.{escaped}
use Rattle.mg_heard.specs.Lines.{end_text, extent_text, gap_word, moment_text}
use Rattle.mg_heard.specs.Names.{name_of}

-- ## Sentences

abbrev pub at_text : Option Peer → List ℕ
at_text None = []
at_text (Some peer) = codes " (" ++ (peer_text peer ++ codes ")")

-- A comma and the Remote, or nothing if there is no Remote.
abbrev pub comma_text : Option Peer → List ℕ
comma_text None = []
comma_text (Some peer) = codes ", " ++ peer_text peer

-- The text for a termination with this name, or without a name if `name` is empty.
abbrev pub called_text : List ℕ → ℕ → Option Peer → List ℕ
called_text name n at =
    if length name == 0 then rtp_name n ++ at_text at
    else name ++ (codes " (" ++ (rtp_name n ++ (comma_text at ++ codes ")")))

abbrev pub called_party : List Named → ℕ → Option Peer → List ℕ
called_party names n at = called_text (name_of names n at) n at

-- The verb of a sentence: the listener could hear the talker, or did hear the talker.
abbrev pub verb_of : Claim → List ℕ
verb_of claims.CouldHear = codes " could hear "
verb_of claims.Heard = codes " heard "

abbrev pub sentence_of : Claim → List ℕ → List ℕ → List Named → Interval → List ℕ
sentence_of claim from until names x =
    called_party names x.flow.listener x.flow.listener_at ++ (verb_of claim
    ++ (called_party names x.flow.talker x.flow.talker_at ++ (codes " in context "
    ++ (decimal x.flow.context ++ extent_text from until x.first x.end))))

-- ## Rows

abbrev pub peer_column : Option Peer → List ℕ
peer_column None = []
peer_column (Some peer) = peer_text peer

abbrev pub tick_column : Option Moment → List ℕ
tick_column None = []
tick_column (Some end) = decimal end.tick

abbrev pub time_column : List ℕ → Option Date → List ℕ
time_column time None = []
time_column time (Some date) = time

-- The date of a moment, or `None` if there is no moment or its date is not known.
abbrev pub date_of_end : Option Moment → Option Date
date_of_end end = option_and_then (λ m. m.date) end

abbrev pub extent_columns : List ℕ → List ℕ → Moment → Option Moment → List ℕ
extent_columns from until first end =
    decimal first.tick ++ (codes "," ++ (tick_column end ++ (codes ","
    ++ (time_column from first.date ++ (codes ","
    ++ time_column until (date_of_end end))))))

-- The name in quotes, or nothing if `name` is empty. Names contain no quotes.
abbrev pub name_column : List ℕ → List ℕ
name_column name =
    if length name == 0 then [] else codes "\"" ++ (name ++ codes "\"")

abbrev pub name_columns : List Named → OpenFlow → List ℕ
name_columns names x =
    codes "," ++ (name_column (name_of names x.listener x.listener_at)
    ++ (codes "," ++ (name_column (name_of names x.talker x.talker_at) ++ codes "\n")))

-- The kind of a row or an object.
abbrev pub kind_of : Claim → List ℕ
kind_of claims.CouldHear = codes "heard"
kind_of claims.Heard = codes "audible"

abbrev pub interval_row : Claim → List ℕ → List ℕ → List Named → Interval → List ℕ
interval_row claim from until names x =
    kind_of claim ++ (codes "," ++ (rtp_name x.flow.listener
    ++ (codes "," ++ (peer_column x.flow.listener_at
    ++ (codes "," ++ (rtp_name x.flow.talker ++ (codes "," ++ (peer_column x.flow.talker_at
    ++ (codes "," ++ (decimal x.flow.context
    ++ (codes "," ++ (extent_columns from until x.first x.end
    ++ name_columns names x.flow))))))))))))

-- ## Objects

abbrev pub peer_member : Option Peer → List ℕ
peer_member None = codes "null"
peer_member (Some peer) = codes "\"" ++ (peer_text peer ++ codes "\"")

abbrev pub tick_member : Option Moment → List ℕ
tick_member None = codes "null"
tick_member (Some end) = decimal end.tick

abbrev pub time_member : List ℕ → Option Date → List ℕ
time_member time None = codes "null"
time_member time (Some date) = codes "\"" ++ (time ++ codes "\"")

abbrev pub extent_members : List ℕ → List ℕ → Moment → Option Moment → List ℕ
extent_members from until first end =
    codes ",\"first_tick\":" ++ (decimal first.tick ++ (codes ",\"end_tick\":" ++ (tick_member end
    ++ (codes ",\"from\":" ++ (time_member from first.date ++ (codes ",\"until\":"
    ++ time_member until (date_of_end end)))))))

abbrev pub name_member : List ℕ → List ℕ
name_member name =
    if length name == 0 then codes "null" else codes "\"" ++ (name ++ codes "\"")

abbrev pub name_members : List Named → OpenFlow → List ℕ
name_members names x =
    codes ",\"listener_name\":" ++ (name_member (name_of names x.listener x.listener_at)
    ++ (codes ",\"talker_name\":" ++ (name_member (name_of names x.talker x.talker_at)
    ++ codes "}\n")))

abbrev pub interval_object : Claim → List ℕ → List ℕ → List Named → Interval → List ℕ
interval_object claim from until names x =
    codes "{\"kind\":\"" ++ (kind_of claim
    ++ (codes "\",\"listener\":\"" ++ (rtp_name x.flow.listener
    ++ (codes "\",\"listener_at\":" ++ (peer_member x.flow.listener_at
    ++ (codes ",\"talker\":\"" ++ (rtp_name x.flow.talker
    ++ (codes "\",\"talker_at\":" ++ (peer_member x.flow.talker_at
    ++ (codes ",\"context\":" ++ (decimal x.flow.context
    ++ (extent_members from until x.first x.end ++ name_members names x.flow))))))))))))

-- ## Rows of a page

-- The tick at which a bar ends. A bar without an end ends with the timeline.
abbrev pub bar_end : Option Moment → List ℕ
bar_end None = codes "var(--t1)"
bar_end (Some end) = decimal end.tick

-- The ticks between which the page draws a row's bar.
abbrev pub bar_of : Moment → Option Moment → List ℕ
bar_of first end =
    codes "style=\"--a:" ++ (decimal first.tick ++ (codes ";--b:" ++ (bar_end end ++ codes "\">")))

-- The last three cells of a row.
abbrev pub extent_cells : List ℕ → List ℕ → Moment → Option Moment → List ℕ
extent_cells from until first end =
    codes "<td>" ++ (moment_text from first.tick first.date ++ (codes "</td><td>"
    ++ (end_text until end ++ codes "</td><td><div></div></td></tr>\n")))

-- The text for a termination in a page, with its escaped name, or without a name if `name` is empty.
abbrev pub shown_text : List ℕ → ℕ → Option Peer → List ℕ
shown_text name n at =
    if length name == 0 then rtp_name n ++ at_text at
    else escaped name ++ (codes " (" ++ (rtp_name n ++ (comma_text at ++ codes ")")))

abbrev pub shown_party : List Named → ℕ → Option Peer → List ℕ
shown_party names n at = shown_text (name_of names n at) n at

abbrev pub table_row_shape : List ℕ → List ℕ → List Named → Interval → List ℕ
table_row_shape from until names x =
    codes "<tr " ++ (bar_of x.first x.end ++ (codes "<th scope=\"row\">"
    ++ (shown_party names x.flow.listener x.flow.listener_at ++ (codes "</th><td>"
    ++ (shown_party names x.flow.talker x.flow.talker_at ++ (codes "</td><td>"
    ++ (decimal x.flow.context ++ (codes "</td>" ++ extent_cells from until x.first x.end))))))))

-- ## Each format

abbrev pub interval_shape : Claim → Format → List ℕ → List ℕ → List Named → Interval → List ℕ
interval_shape claim Text from until names x = sentence_of claim from until names x
interval_shape claim Csv from until names x = interval_row claim from until names x
interval_shape claim Json from until names x = interval_object claim from until names x
interval_shape claim Page from until names x = table_row_shape from until names x

abbrev pub gap_shape : Format → List ℕ → List ℕ → Gap → List ℕ
gap_shape Text from until gap = gap_word gap ++ extent_text from until gap.first (Some gap.end)
gap_shape Csv from until gap =
    gap_word gap ++ (codes ",,,,,," ++ (extent_columns from until gap.first (Some gap.end) ++ codes ",,\n"))
gap_shape Json from until gap =
    codes "{\"kind\":\"" ++ (gap_word gap ++ (codes "\""
    ++ (extent_members from until gap.first (Some gap.end) ++ codes "}\n")))
gap_shape Page from until gap =
    codes "<tr class=\"gap\" " ++ (bar_of gap.first (Some gap.end)
    ++ (codes "<th scope=\"row\" colspan=\"3\">" ++ (gap_word gap
    ++ (codes "</th>" ++ extent_cells from until gap.first (Some gap.end)))))

-- ## Violations

abbrev pub violation_sentence : List ℕ → List Named → Violation → List ℕ
violation_sentence time names v =
    called_party names v.flow.listener v.flow.listener_at ++ (codes " could hear "
    ++ (called_party names v.flow.talker v.flow.talker_at ++ (codes " in context "
    ++ (decimal v.flow.context ++ (codes " from "
    ++ (moment_text time v.at.tick v.at.date ++ codes "\n"))))))

-- The line for a violation: a sentence, or the line of an interval whose end is not known.
abbrev pub violation_shape : Format → List ℕ → List Named → Violation → List ℕ
violation_shape Text time names v = violation_sentence time names v
violation_shape Page time names v = violation_sentence time names v
violation_shape Csv time names v =
    interval_row claims.CouldHear time [] names (record { flow = v.flow; first = v.at; end = None })
violation_shape Json time names v =
    interval_object claims.CouldHear time [] names
    (record { flow = v.flow; first = v.at; end = None })
