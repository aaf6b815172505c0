-- The intervals and gaps that a query selects.
use Rattle.std.specs.Prelude.{ℕ, ◌==◌, ◌&&◌, ◌||◌, Bool, true, false, nat_eq, nat_le, nat_lt, List, Option}
use Rattle.std.specs.Prelude.{Some, codes, drop, if◌then◌else◌}
use Rattle.std.specs.List.{list_any, starts_with}
use Rattle.std.specs.Option.{option_map, option_map_or, option_or}
use Rattle.std.specs.Str.{bytes_eq}
use Rattle.mg_words.specs.Address.{address_of, address_text}
use Rattle.mg_words.specs.Numbers.{number_of}
use Rattle.mg_words.specs.Term.{rtp_name}
use Rattle.mg_words.specs.declared.peer.Peer.{Peer}
use Rattle.mg_core.specs.Peer.{peer_of, peer_text}
use Rattle.mg_dates.specs.declared.date.Date.{Date}
use Rattle.mg_heard.specs.OpenFlow.{is_same_peer}
use Rattle.mg_heard.specs.declared.entry.Entry.{Entry}
use Rattle.mg_heard.specs.declared.entry.Entry.TheVariants as entries
use Rattle.mg_heard.specs.declared.interval.Interval.{Interval}
use Rattle.mg_heard.specs.declared.moment.Moment.{Moment}
use Rattle.mg_heard.specs.declared.party_name.PartyName.{PartyName}
use Rattle.mg_heard.specs.declared.party_name.PartyName.TheVariants.{Termination, Address, Remote}
use Rattle.mg_heard.specs.declared.query.Query.{Query}

-- The key that `text` gives: a termination such as `RTP/7`, an address and a port, or an address.
abbrev pub party_name_of : List ℕ → Option PartyName
party_name_of text =
    if starts_with nat_eq text (codes "RTP/") then option_map Termination (number_of (drop 4 text))
    else option_or (option_map Remote (peer_of text)) (option_map Address (address_of text))

-- The text of a key.
abbrev pub party_name_text : PartyName → List ℕ
party_name_text (Termination n) = rtp_name n
party_name_text (Address address) = address_text address
party_name_text (Remote remote) = peer_text remote

-- Whether the key applies to a termination with this number and this Remote.
abbrev pub is_named : PartyName → ℕ → Option Peer → Bool
is_named (Termination n) number at = n == number
is_named (Address address) number at =
    option_map_or (λ peer. bytes_eq peer.address address) at false
is_named (Remote remote) number at = option_map_or (λ peer. is_same_peer peer remote) at false

-- Whether a question with these keys asks about this termination. A question without keys asks about all terminations.
abbrev pub is_asked : Option (List PartyName) → ℕ → Option Peer → Bool
is_asked keys number at = option_map_or (list_any (λ k. is_named k number at)) keys true

-- The next three definitions say whether a moment is before a time, at or before it, or after it. For a moment without
-- a date, the result is `unknown`.
abbrev pub is_before : (unknown : Bool) → Moment → Date → Bool
is_before unknown m time = option_map_or (λ date. nat_lt date.millis time.millis) m.date unknown

abbrev pub is_past : (unknown : Bool) → Moment → Date → Bool
is_past unknown m time = option_map_or (λ date. nat_le date.millis time.millis) m.date unknown

abbrev pub is_future : (unknown : Bool) → Moment → Date → Bool
is_future unknown m time = option_map_or (λ date. nat_lt time.millis date.millis) m.date unknown

-- Whether a period, perhaps without an end, may overlap the query's times. A moment without a date may be before any
-- time and after any time.
abbrev pub may_overlap : Query → (first : Moment) → (end : Option Moment) → Bool
may_overlap q first end =
    option_map_or (λ time. option_map_or (λ m. is_future true m time) end true) q.from true
    && option_map_or (is_before true first) q.until true

abbrev pub selects : Query → Interval → Bool
selects q x =
    is_asked q.listener x.flow.listener x.flow.listener_at
    && (is_asked q.talker x.flow.talker x.flow.talker_at && may_overlap q x.first x.end)

-- Whether the interval contains a time that the script covers. Moments without a date precede the script's first date.
-- An interval without an end contains all times from its beginning on.
abbrev pub covers : Interval → Date → Bool
covers x time =
    is_past true x.first time && option_map_or (λ end. is_future false end time) x.end true

-- Whether the query selects an entry. A gap is selected by its time alone. If the clock was set back, this is the time
-- that the clock showed twice.
abbrev pub selects_entry : Query → Entry → Bool
selects_entry q (entries.Interval x) = selects q x
selects_entry q (entries.Gap gap) =
    may_overlap q gap.first (Some gap.end) || may_overlap q gap.end (Some gap.first)
selects_entry q (entries.Audible x) = selects q x
