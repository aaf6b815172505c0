-- The text that a gateway finds in its journal, and the lines that it appends before it starts.
use Rattle.std.specs.Prelude.{◌≡◌, ◌==◌, ℕ, ◌^◌, ◌<◌, List, [], ◌∷◌, ◌++◌, codes, decimal, replicate}
use Rattle.std.specs.Prelude.{Option, Some, None, Ok, IfSome, true, reverse, unwrap_or}
use Rattle.std.specs.Prelude.{if◌then◌else◌}
use Rattle.std.specs.List.{list_any}
use Rattle.std.specs.Option.{option_map_or}
use Rattle.mg_lines.specs.Lines.{lines_of}
use Rattle.mg_core.specs.declared.event.Event.{Event}
use Rattle.mg_core.specs.declared.event.Event.TheVariants.{Tick}
use Rattle.mg_core.specs.Counted.{is_mark, journal_lines, ticks_line}
use Rattle.mg_core.specs.Note.{notes_of}
use Rattle.mg_dates.specs.declared.timeline.Timeline.{Timeline}
use Rattle.mg_dates.specs.Times.{missed_since, timeline_of}
use Rattle.mg_ports.specs.declared.call.Call.TheVariants.{Append}
use Rattle.mg_host.specs.declared.host_call.HostCall.{HostCall}
use Rattle.mg_host.specs.declared.host_call.HostCall.TheVariants.{Bind, BindAlso, OnPorts, ReadDate}
use Rattle.mg_host.specs.HostCalls.{Grows}
use Rattle.mg_serve.specs.JournalLaws.{IsScriptOf}

-- The lines for missed ticks: a comment that says how many, and the ticks. If no ticks were missed, there are no lines.
abbrev pub missed_lines : ℕ → List ℕ
missed_lines ticks =
    if ticks == 0 then [] else codes "# missed " ++ (decimal ticks ++ (codes " ticks\n" ++ ticks_line ticks))

-- The comment with which an operator sets the fence, or nothing if the operator doesn't set the fence.
abbrev pub fence_comment : Option ℕ → List ℕ
fence_comment fence = option_map_or (λ n. codes "# fence " ++ (decimal n ++ codes "\n")) fence []

-- The lines that are appended before a gateway starts. The first line, `# counted ticks`, marks the place after which
-- ticks are counted. The lines for missed ticks follow if ticks were missed, and then the comment that sets the fence
-- if an operator sets it.
abbrev pub start_lines : (missed : ℕ) → (fence : Option ℕ) → List ℕ
start_lines missed fence =
    codes "# counted ticks\n" ++ (missed_lines missed ++ fence_comment fence)

-- The calls appended these lines to a journal, in this order, and did nothing else.
abbrev pub Writes : List HostCall → (lines : List ℕ) → Type 0
Writes [] lines = lines ≡ []
Writes (OnPorts (Append part durability (Ok done)) ∷ calls) lines =
    (rest : List ℕ) × (lines ≡ part ++ rest) × Writes calls rest
Writes (call ∷ calls) lines = ⊥

-- The timeline of a script's ticks, according to the dates in its comments.
abbrev pub timeline_after : (text : List ℕ) → Timeline
timeline_after text = timeline_of (reverse (unwrap_or (notes_of (journal_lines true text)) []))

-- The number of ticks that were missed between the end of the text and this date, or 0 if the date isn't known or the
-- text has no date.
abbrev pub missed_after : (text : List ℕ) → (millis : Option ℕ) → ℕ
missed_after text None = 0
missed_after text (Some millis) = missed_since (timeline_after text) (record { millis = millis })

-- The calls did nothing but bind sockets, read the date, and append lines to a journal. Each of them may have failed.
abbrev pub IsQuiet : List HostCall → Type 0
IsQuiet [] = Unit {0}
IsQuiet (Bind address port bound ∷ calls) = IsQuiet calls
IsQuiet (BindAlso address port bound ∷ calls) = IsQuiet calls
IsQuiet (ReadDate millis ∷ calls) = IsQuiet calls
IsQuiet (OnPorts (Append lines durability result) ∷ calls) = IsQuiet calls
IsQuiet (call ∷ calls) = ⊥

abbrev pub RunsNoSession : (old new : Option (List HostCall)) → Type 0
RunsNoSession old new = (calls : List HostCall) × Grows old new calls × IsQuiet calls

-- If the lines that are appended before a gateway starts follow a script, they are read as the missed ticks. After
-- these lines, ticks are counted.
abbrev pub StartsAreRead : Type 0
StartsAreRead =
    (text : List ℕ) (told : List Event) (missed : ℕ) (fence : Option ℕ)
    → missed < 2 ^ 64 → IfSome fence (λ number. number < 2 ^ 64) → IsScriptOf text told
    → let all = text ++ start_lines missed fence in
    IsScriptOf all (told ++ replicate missed Tick) × (list_any is_mark (lines_of true all) ≡ true)
