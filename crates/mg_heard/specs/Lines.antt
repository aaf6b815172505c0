-- The lines for intervals and gaps: English sentences, rows (CSV, RFC 4180), objects (JSON, RFC 8259) and rows of a
-- table in a page (HTML). The format of a date's text is not defined here, because `jiff` has no definition of its
-- output. So the texts of a line's two dates are parameters.
use Rattle.std.specs.Prelude.{◌≡◌, ℕ, ◌∷◌, ◌++◌, List, [], Option, Some, None, codes, map, replicate}
use Rattle.std.specs.Prelude.{decimal, length, ◌==◌, if◌then◌else◌}
use Rattle.std.specs.Prelude.{option_and_then, option_to_list}
use Rattle.std.specs.List.{AllZip, concat, filter_map, join_by, join_with_byte, zip}
use Rattle.std.specs.Option.{option_map, option_map_or}
use Rattle.mg_words.specs.Term.{rtp_name}
use Rattle.mg_words.specs.declared.peer.Peer.{Peer}
use Rattle.mg_core.specs.Peer.{peer_text}
use Rattle.mg_dates.specs.declared.date.Date.{Date}
use Rattle.mg_heard.specs.declared.entry.Entry.{Entry}
use Rattle.mg_heard.specs.declared.entry.Entry.TheVariants as entries
use Rattle.mg_heard.specs.declared.format.Format.{Format}
use Rattle.mg_heard.specs.declared.format.Format.TheVariants.{Text, Csv, Json, Page}
use Rattle.mg_heard.specs.declared.gap.Gap.{Gap}
use Rattle.mg_heard.specs.declared.interval.Interval.{Interval}
use Rattle.mg_heard.specs.declared.moment.Moment.{Moment}
use Rattle.mg_heard.specs.declared.named.Named.{Named}
use Rattle.mg_heard.specs.declared.open_flow.OpenFlow.{OpenFlow}
use Rattle.mg_heard.specs.declared.style.Style.{Style}
use Rattle.mg_heard.specs.declared.verdict.Verdict.{Verdict}
use Rattle.mg_heard.specs.declared.verdict.Verdict.TheVariants.{CouldHear, CouldNotHear, Unknown}
use Rattle.mg_heard.specs.Escaped.{escaped}
use Rattle.mg_heard.specs.Names.{name_of}

-- ## Terminations and moments

-- The strings in brackets, or nothing if the list is empty.
abbrev pub in_brackets : List (List ℕ) → List ℕ
in_brackets [] = []
in_brackets (x ∷ xs) = codes " (" ++ (join_by (λ text. text) (codes ", ") (x ∷ xs) ++ codes ")")

-- The text for a termination: its number and, if it has them, its name and its Remote.
abbrev pub party_text : (shown : List ℕ → List ℕ) → List Named → ℕ → Option Peer → List ℕ
party_text shown names n at =
    let name = name_of names n at in
    let remote = option_to_list (option_map peer_text at) in
    if length name == 0 then rtp_name n ++ in_brackets remote
    else shown name ++ in_brackets (rtp_name n ∷ remote)

-- A tick and, if it is known, the tick's time.
abbrev pub moment_text : List ℕ → ℕ → Option Date → List ℕ
moment_text time tick None = codes "tick " ++ decimal tick
moment_text time tick (Some date) = time ++ (codes " (tick " ++ (decimal tick ++ codes ")"))

abbrev pub end_text : List ℕ → Option Moment → List ℕ
end_text time end = option_map_or (λ m. moment_text time m.tick m.date) end (codes "the end")

-- ## Sentences

-- A clause such as "RTP/1 could hear RTP/2 in context 3", with this verb.
abbrev pub flow_text : (verb : List ℕ) → List Named → OpenFlow → List ℕ
flow_text verb names x = concat (
    party_text (λ name. name) names x.listener x.listener_at ∷ verb
    ∷ party_text (λ name. name) names x.talker x.talker_at
    ∷ codes " in context " ∷ decimal x.context ∷ [])

abbrev pub extent_text : (from until : List ℕ) → Moment → Option Moment → List ℕ
extent_text from until first end =
    codes " from " ++ (moment_text from first.tick first.date
    ++ (codes " until " ++ (end_text until end ++ codes "\n")))

-- ## Rows of a page

-- The cells of a flow, with escaped names.
abbrev pub flow_cells : List Named → OpenFlow → List ℕ
flow_cells names x = concat (
    codes "<th scope=\"row\">" ∷ party_text escaped names x.listener x.listener_at
    ∷ codes "</th><td>" ∷ party_text escaped names x.talker x.talker_at
    ∷ codes "</td><td>" ∷ decimal x.context ∷ codes "</td>" ∷ [])

-- A row of a table. Its tag has the class, and the ticks between which the page draws the bar. After the first cells
-- come those for the beginning, the end and the bar. Without an end, the bar ends with the timeline.
abbrev pub table_row : (class cells from until : List ℕ) → Moment → Option Moment → List ℕ
table_row class cells from until first end = concat (
    codes "<tr " ∷ class ∷ codes "style=\"--a:" ∷ decimal first.tick ∷ codes ";--b:"
    ∷ option_map_or (λ m. decimal m.tick) end (codes "var(--t1)") ∷ codes "\">" ∷ cells
    ∷ codes "<td>" ∷ moment_text from first.tick first.date ∷ codes "</td><td>"
    ∷ end_text until end ∷ codes "</td><td><div></div></td></tr>\n" ∷ [])

-- ## Rows and objects

-- The text of a value in a row, and its text in an object. An object leaves out a value whose second text is `None`.
abbrev pub Value : Type 0
Value = List ℕ × Option (List ℕ)

abbrev pub in_quotes : List ℕ → List ℕ
in_quotes text = codes "\"" ++ (text ++ codes "\"")

-- A string, which has quotes only in an object.
abbrev pub word : List ℕ → Value
word text = (text, Some (in_quotes text))

abbrev pub number : ℕ → Value
number n = (decimal n, Some (decimal n))

-- A value that isn't known or doesn't exist.
abbrev pub unknown : Value
unknown = ([], Some (codes "null"))

-- A name, which has quotes both in a row and in an object. Names contain no quotes.
abbrev pub name_value : List ℕ → Value
name_value name =
    if length name == 0 then unknown else (in_quotes name, Some (in_quotes name))

abbrev pub peer_value : Option Peer → Value
peer_value at = option_map_or (λ peer. word (peer_text peer)) at unknown

-- This many empty columns, which an object leaves out.
abbrev pub left_out : ℕ → List Value
left_out count = replicate count ([], None)

abbrev pub extent_values : (from until : List ℕ) → Moment → Option Moment → List Value
extent_values from until first end =
    number first.tick ∷ option_map_or (λ m. number m.tick) end unknown
    ∷ option_map_or (λ date. word from) first.date unknown
    ∷ option_map_or (λ date. word until) (option_and_then (λ m. m.date) end) unknown ∷ []

abbrev pub interval_values : (kind from until : List ℕ) → List Named → Interval → List Value
interval_values kind from until names x =
    word kind ∷ word (rtp_name x.flow.listener) ∷ peer_value x.flow.listener_at
    ∷ word (rtp_name x.flow.talker) ∷ peer_value x.flow.talker_at ∷ number x.flow.context
    ∷ (extent_values from until x.first x.end
    ++ name_value (name_of names x.flow.listener x.flow.listener_at)
    ∷ name_value (name_of names x.flow.talker x.flow.talker_at) ∷ [])

-- The names of a row's columns and of an object's members.
abbrev pub columns : List (List ℕ)
columns =
    codes "kind" ∷ codes "listener" ∷ codes "listener_at" ∷ codes "talker" ∷ codes "talker_at"
    ∷ codes "context" ∷ codes "first_tick" ∷ codes "end_tick" ∷ codes "from" ∷ codes "until"
    ∷ codes "listener_name" ∷ codes "talker_name" ∷ []

abbrev pub row_of : List Value → List ℕ
row_of values = join_with_byte 44 (map (λ v. v.0) values) ++ codes "\n"

abbrev pub member_of : List ℕ × Value → Option (List ℕ)
member_of m = option_map (λ text. in_quotes m.0 ++ (codes ":" ++ text)) m.1.1

abbrev pub object_of : List Value → List ℕ
object_of values =
    codes "{" ++ (join_with_byte 44 (filter_map member_of (zip columns values)) ++ codes "}\n")

-- ## Each format

abbrev pub head_of : Format → List ℕ
head_of Csv = join_with_byte 44 columns ++ codes "\n"
head_of Page =
    codes "<table>\n<thead><tr><th scope=\"col\">Listener</th><th scope=\"col\">Talker</th>"
    ++ (codes "<th scope=\"col\">Context</th><th scope=\"col\">From</th><th scope=\"col\">Until</th>"
    ++ codes "<th scope=\"col\">Timeline</th></tr></thead>\n<tbody>\n")
head_of _ = []

-- A line in this format: the sentence, the row of a page, or the values as a row or an object.
abbrev pub line_in : Format → (sentence page_row : List ℕ) → List Value → List ℕ
line_in Text sentence page_row values = sentence
line_in Page sentence page_row values = page_row
line_in Csv sentence page_row values = row_of values
line_in Json sentence page_row values = object_of values

abbrev pub interval_line : Format → (verb kind from until : List ℕ) → List Named → Interval → List ℕ
interval_line format verb kind from until names x = line_in format
    (flow_text verb names x.flow ++ extent_text from until x.first x.end)
    (table_row [] (flow_cells names x.flow) from until x.first x.end)
    (interval_values kind from until names x)

-- The word for a gap.
abbrev pub gap_word : Gap → List ℕ
gap_word gap = option_map_or (λ n. codes "fence " ++ decimal n) gap.fence (codes "gap")

abbrev pub gap_line : Format → (from until : List ℕ) → Gap → List ℕ
gap_line format from until gap = line_in format
    (gap_word gap ++ extent_text from until gap.first (Some gap.end))
    (table_row (codes "class=\"gap\" ")
    (codes "<th scope=\"row\" colspan=\"3\">" ++ (gap_word gap ++ codes "</th>"))
    from until gap.first (Some gap.end))
    (word (gap_word gap) ∷ left_out 5
    ++ (extent_values from until gap.first (Some gap.end) ++ left_out 2))

abbrev pub line_of : Style → (from until : List ℕ) → Entry → List ℕ
line_of style from until (entries.Interval x) =
    interval_line style.format (codes " could hear ") (codes "heard") from until style.names x
line_of style from until (entries.Audible x) =
    interval_line style.format (codes " heard ") (codes "audible") from until style.names x
line_of style from until (entries.Gap gap) = gap_line style.format from until gap

-- The line of an entry, with some text for each of the entry's dates.
abbrev pub IsLine : Style → Entry → List ℕ → Type 0
IsLine style entry line =
    (from : List ℕ) × (until : List ℕ) × (line ≡ line_of style from until entry)

-- ## Answers about a given time

-- An answer without an interval. It is a sentence, or else a row or an object that has only a kind.
abbrev pub answer_line : Format → (sentence kind : List ℕ) → List ℕ
answer_line format sentence kind = line_in format sentence sentence (word kind ∷ left_out 11)

-- The line of an answer, which is the line of the interval if the answer has one.
abbrev pub IsVerdictLine : Style → Verdict → List ℕ → Type 0
IsVerdictLine style (CouldHear x) line = IsLine style (entries.Interval x) line
IsVerdictLine style CouldNotHear line =
    line ≡ answer_line style.format (codes "could not hear\n") (codes "not heard")
IsVerdictLine style Unknown line =
    line ≡ answer_line style.format (codes "not known\n") (codes "not known")

-- ## All lines

-- A line for each entry, in order.
abbrev pub AreLines : Style → List Entry → List ℕ → Type 0
AreLines style xs text =
    (lines : List (List ℕ)) × AllZip (IsLine style) xs lines × (text ≡ concat lines)
