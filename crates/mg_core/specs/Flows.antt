-- The changes that an event makes to terminations and to who hears whom, as comment lines in a script's output. The
-- format of the lines is this gateway's own.
use Rattle.std.specs.Prelude.{◌≡◌, ℕ, ◌==◌, Bool, true, false, List, [], ◌++◌, length, filter}
use Rattle.std.specs.Prelude.{find, flat_map, map, Option, Some, None, is_some, codes, decimal}
use Rattle.std.specs.Prelude.{if◌then◌else◌}
use Rattle.std.specs.Str.{bytes_eq}
use Rattle.mg_words.specs.declared.mode.Mode.{Mode}
use Rattle.mg_words.specs.declared.mode.Mode.TheVariants.{Inactive, SendOnly, ReceiveOnly}
use Rattle.mg_words.specs.declared.mode.Mode.TheVariants.{SendReceive, Loopback}
use Rattle.mg_words.specs.Mode.{mode_text}
use Rattle.mg_rooms.specs.declared.record.Record.{Record}
use Rattle.mg_rooms.specs.Consistent.{IsConsistent}
use Rattle.mg_rooms.specs.Limits.{slot_port}
use Rattle.mg_engine.specs.Flow.{flow}
use Rattle.mg_engine.specs.Gateway.{Gateway, numbers_of}
use Rattle.mg_core.specs.World.{World, capped}

-- ## Listeners

-- A termination with its context, its UDP port and its mode, and the numbers of the talkers whose speech flows to it,
-- in ascending order.
pub record Listener : Type 0 where
  pub number : ℕ
  pub context : ℕ
  pub port : ℕ
  pub mode : Mode
  pub talkers : List ℕ

abbrev pub listener_of : Gateway → Record → Listener
listener_of w r = record {
  number = r.number;
  context = r.context;
  port = slot_port w.rooms.limits r.slot;
  mode = r.mode;
  talkers = filter (λ n. flow w n r.number) (numbers_of w);
}

-- All terminations, in order of their numbers.
abbrev pub listeners_of : Gateway → List Listener
listeners_of w = map (listener_of w) w.rooms.terminations

abbrev pub listener_at : List Listener → ℕ → Option Listener
listener_at xs n = find (λ x. x.number == n) xs

abbrev pub is_same_mode : Mode → Mode → Bool
is_same_mode Inactive Inactive = true
is_same_mode SendOnly SendOnly = true
is_same_mode ReceiveOnly ReceiveOnly = true
is_same_mode SendReceive SendReceive = true
is_same_mode Loopback Loopback = true
is_same_mode a b = false

-- ## Lines

-- The start of each line: the number of ticks so far, and the termination that the line is about.
abbrev pub line_head : ℕ → ℕ → List ℕ
line_head ticks n = codes "# " ++ (decimal ticks ++ (codes " ticks: RTP/" ++ decimal n))

abbrev pub change_line : ℕ → Listener → List ℕ → List ℕ
change_line ticks x what = line_head ticks x.number ++ (what ++ codes "\n")

abbrev pub ended_line : ℕ → Listener → List ℕ
ended_line ticks x = change_line ticks x (codes " ended")

abbrev pub made_line : ℕ → Listener → List ℕ
made_line ticks x =
    change_line ticks x
    (codes " made in context " ++ (decimal x.context ++ (codes " at port " ++ decimal x.port)))

abbrev pub moved_line : ℕ → Listener → List ℕ
moved_line ticks x = change_line ticks x (codes " moved to context " ++ decimal x.context)

abbrev pub in_mode : ℕ → Listener → List ℕ
in_mode ticks x = change_line ticks x (codes " mode " ++ mode_text x.mode)

abbrev pub name_in_line : ℕ → List ℕ
name_in_line n = codes " RTP/" ++ decimal n

abbrev pub names_in_line : List ℕ → List ℕ
names_in_line ns = if length ns == 0 then codes " nobody" else flat_map name_in_line ns

abbrev pub hearing : ℕ → Listener → List ℕ
hearing ticks x = change_line ticks x (codes " hears" ++ names_in_line x.talkers)

-- ## Changes

-- The line for an earlier termination that no longer exists, or nothing if it still exists.
abbrev pub lines_of_old : ℕ → List Listener → Listener → List ℕ
lines_of_old ticks after x = if is_some (listener_at after x.number) then [] else ended_line ticks x

-- The lines for a termination that exists. For a new termination, they report its place, its mode and, unless it hears
-- nobody, the talkers whose speech flows to it. For an earlier termination, they report only a change of its context,
-- its mode or these talkers.
abbrev pub lines_of_new : ℕ → Option Listener → Listener → List ℕ
lines_of_new ticks None x =
    made_line ticks x ++ (in_mode ticks x ++
    (if length x.talkers == 0 then [] else hearing ticks x))
lines_of_new ticks (Some old) x =
    (if old.context == x.context then [] else moved_line ticks x) ++
    ((if is_same_mode old.mode x.mode then [] else in_mode ticks x) ++
    (if bytes_eq old.talkers x.talkers then [] else hearing ticks x))

-- The lines for all changes from the earlier to the later state of the terminations.
abbrev pub changes : ℕ → List Listener → List Listener → List ℕ
changes ticks before after =
    flat_map (lines_of_old ticks after) before
    ++ flat_map (λ x. lines_of_new ticks (listener_at before x.number) x) after

-- The lines for the changes from the world `w` to the next world.
abbrev pub changes_by : World → World → List ℕ
changes_by w next =
    changes (capped next.tally.ticks) (listeners_of w.gateway) (listeners_of next.gateway)

-- ## The report contains each change, and nothing else

-- A termination without its port, which never changes while the termination exists.
abbrev pub but_port : Listener → Listener
but_port x = record x { port = 0 }

-- The lines determine the outcome. If two outcomes from the same state have the same lines, they
-- have the same terminations, contexts and modes, and the same speech goes to each termination.
abbrev pub ReportDeterminesOutcome : Type 0
ReportDeterminesOutcome =
    (ticks : ℕ) (u v w : Gateway)
    → IsConsistent u.rooms → IsConsistent v.rooms → IsConsistent w.rooms
    → changes ticks (listeners_of u) (listeners_of v)
    ≡ changes ticks (listeners_of u) (listeners_of w)
    → map but_port (listeners_of v) ≡ map but_port (listeners_of w)

-- If nothing changed, there are no lines.
abbrev pub OnlyChangesAreReported : Type 0
OnlyChangesAreReported =
    (ticks : ℕ) (v w : Gateway) → IsConsistent v.rooms → listeners_of v ≡ listeners_of w
    → changes ticks (listeners_of v) (listeners_of w) ≡ []
