-- A session: commands and their effects.
use Rattle.std.specs.Prelude.{◌≡◌, ◌⊎◌, ℕ, zero, suc, ◌+◌, ◌^◌, ◌<◌, Bool, true, false}
use Rattle.std.specs.Prelude.{List, [], ◌∷◌, ◌++◌, length, map, codes, Result, Ok, Err, unwrap_or}
use Rattle.std.specs.List.{range_with_len}
use Rattle.mg_clock.specs.declared.timing.Timing.{Timing}
use Rattle.mg_words.specs.declared.peer.Peer.{Peer}
use Rattle.mg_rooms.specs.Limits.{slot_port, slot_at}
use Rattle.mg_engine.specs.Config.{limits_of}
use Rattle.mg_core.specs.declared.event.Event.{Event}
use Rattle.mg_core.specs.declared.event.Event.TheVariants as events
use Rattle.mg_core.specs.Counted.{ticks_line}
use Rattle.mg_core.specs.Recording.{IsDatagram, event_line}
use Rattle.mg_core.specs.World.{World}
use Rattle.mg_core.specs.Step.{Sent, Reply, Packet, Step}
use Rattle.mg_ports.specs.declared.call.Call.{Call}
use Rattle.mg_ports.specs.declared.call.Call.TheVariants.{Receive, Send, BeginTick, Append, Renew}
use Rattle.mg_journal.specs.declared.append_fault.AppendFault.{AppendFault}
use Rattle.mg_journal.specs.declared.durability.Durability.{Durability}
use Rattle.mg_checkpoint.specs.Checkpoint.{checkpoint_text}
use Rattle.mg_ports.specs.declared.receipt.Receipt.TheVariants.{Delivered, Nothing, Failed}
use Rattle.mg_serve.specs.declared.command.Command.{Command}
use Rattle.mg_serve.specs.declared.command.Command.TheVariants.{Poll, Tick, Stats, Quit, Unknown}
use Rattle.mg_serve.specs.Renewal.{IsRestorable, renewal_text}
use Rattle.mg_serve.specs.Setup.{Setup, is_admitted}
use Rattle.mg_serve.specs.Trace.{TraceEntry, Called, Happened, Printed, Noted, Stale}

-- The effects of the elements of a list, one after another, each in the world that the previous element left.
abbrev pub Each : {A : Type 0} → (A → World → List TraceEntry → World → Type 0) → List A → World
    → List TraceEntry → World → Type 0
Each R [] w trace next = (trace ≡ []) × (next ≡ w)
Each R (x ∷ xs) w trace next =
    (first : List TraceEntry) × (others : List TraceEntry) × (mid : World)
    × (trace ≡ first ++ others)
    × R x w first mid × Each R xs mid others next

-- ## An event

-- The call that sends a datagram. An answer is sent on socket 0, and a packet on the socket of the slot that has the
-- packet's port. The port of each packet belongs to a slot.
abbrev pub send_of : Setup → Sent → Call
send_of setup (Reply to text) = Send 0 to text
send_of setup (Packet packet) =
    Send (suc (unwrap_or (slot_at (limits_of setup.config) packet.from) 0)) packet.to packet.bytes

abbrev pub sends_of : Setup → List Sent → List TraceEntry
sends_of setup sent = map (λ datagram. Called (send_of setup datagram)) sent

-- An event happens, and its datagrams are sent in order, each with one call.
abbrev pub HandlesEvent : Setup → Event → World → List TraceEntry → World → Type 0
HandlesEvent setup event w trace next =
    (sent : List Sent) × Step w event sent next
    × (trace ≡ Happened event ∷ sends_of setup sent)

-- The event of a datagram that arrived at a socket.
abbrev pub event_at : Setup → ℕ → Peer → List ℕ → Event
event_at setup zero source bytes = events.Control source bytes
event_at setup (suc s) source bytes = events.Media (slot_port (limits_of setup.config) s) source bytes

-- A control datagram is dropped, and the trace has a note that says why.
abbrev pub IsDropped : (reason : List ℕ) → World → List TraceEntry → World → Type 0
IsDropped reason w trace next = (trace ≡ Noted reason ∷ []) × (next ≡ w)

-- Appends of ticks, and of the line of an event. Only the last append may have failed. `Advances` defines the order and
-- the numbers of ticks.
abbrev pub AppendsFor : Event → (failed : Bool) → List TraceEntry → Type 0
AppendsFor event failed [] = failed ≡ false
AppendsFor event failed (Called (Append lines durability (Ok done)) ∷ trace) = AppendsFor event failed trace
AppendsFor event failed (Called (Append lines durability (Err fault)) ∷ trace) =
    (failed ≡ true) × (trace ≡ [])
    × (((ticks : ℕ) × (lines ≡ ticks_line ticks)) ⊎ (lines ≡ event_line event))
AppendsFor event failed (entry ∷ trace) = ⊥

-- A control datagram is an event after some appends. If an append fails, the datagram is dropped instead. Before an RTP
-- datagram is handled, nothing is appended.
abbrev pub HandlesDatagram : Setup → ℕ → Event → World → List TraceEntry → World → Type 0
HandlesDatagram setup zero event w trace next =
    (appends : List TraceEntry) × (others : List TraceEntry) × (trace ≡ appends ++ others)
    × ((AppendsFor event false appends × HandlesEvent setup event w others next)
    ⊎ (AppendsFor event true appends × IsDropped (codes "no journal for a control datagram") w others next))
HandlesDatagram setup (suc s) event w trace next = HandlesEvent setup event w trace next

-- The effect of a datagram. If its sender is admitted, the datagram is an event, unless memory runs out, an append
-- fails, or the datagram is stale. `IsFenced` determines which control datagrams are stale. A datagram is ignored if
-- its sender isn't admitted.
abbrev pub Becomes : (admitted : Bool) → Setup → ℕ → Peer × List ℕ → World → List TraceEntry → World
    → Type 0
Becomes true setup socket datagram w trace next =
    HandlesDatagram setup socket (event_at setup socket datagram.0 datagram.1) w trace next
    ⊎ ((socket ≡ 0) × (IsDropped (codes "no memory for a control datagram") w trace next
    ⊎ ((trace ≡ Stale datagram.0 datagram.1 ∷ []) × (next ≡ w))))
Becomes false setup socket datagram w trace next = (trace ≡ []) × (next ≡ w)

-- A receive returned a datagram, followed by the effect of the datagram.
abbrev pub ReceivesDatagram : Setup → ℕ → Peer × List ℕ → World → List TraceEntry → World → Type 0
ReceivesDatagram setup socket datagram w trace next =
    (others : List TraceEntry) × IsDatagram datagram.0 datagram.1
    × (trace ≡ Called (Receive socket (Delivered datagram.0 datagram.1)) ∷ others)
    × Becomes (is_admitted setup w socket datagram.0) setup socket datagram w others next

-- ## A poll

-- A receive returned no datagram, or failed.
abbrev pub ReceivesNothing : ℕ → List TraceEntry → Type 0
ReceivesNothing socket trace =
    (trace ≡ Called (Receive socket Nothing) ∷ [])
    ⊎ (trace ≡ Called (Receive socket Failed) ∷ [])

-- The end of a socket's turn: after 64 datagrams, or after a receive that returned no datagram or failed.
abbrev pub EndsTurn : ℕ → ℕ → List TraceEntry → Type 0
EndsTurn socket arrived last =
    ((arrived ≡ 64) × (last ≡ [])) ⊎ ((arrived < 64) × ReceivesNothing socket last)

-- A socket's turn: one datagram after another, and then the end of the turn.
pub record SocketTurn (setup : Setup) (socket : ℕ) (w : World) (trace : List TraceEntry) (next : World)
    : Type 0 where
  pub datagrams : List (Peer × List ℕ)
  pub received : List TraceEntry
  pub last : List TraceEntry
  pub parts : trace ≡ received ++ last
  pub arrivals : Each (ReceivesDatagram setup socket) datagrams w received next
  pub ends : EndsTurn socket (length datagrams) last

-- ## Commands

-- At most one renewal, which may fail. Ticks may be appended before it. The text has the checkpoint of this world.
abbrev pub MayRenew : Setup → World → List TraceEntry → Type 0
MayRenew setup w trace =
    (trace ≡ [])
    ⊎ ((appends : List TraceEntry) × (failed : Bool) × AppendsFor events.Tick failed appends
    × (reached : ℕ) × (durability : Durability) × (result : Result (Unit {0}) AppendFault)
    × (trace ≡ appends ++ Called
    (Renew (renewal_text setup.head (checkpoint_text w) reached) durability result) ∷ [])
    × (reached < 2 ^ 32) × IsRestorable w)

-- A tick begins and its event happens. Then ticks may be appended to the journal, and the journal may be renewed with
-- the world after the tick.
abbrev pub Ticks : Setup → Timing → World → List TraceEntry → World → Type 0
Ticks setup timing w trace next =
    (happening : List TraceEntry) × (appends : List TraceEntry) × (renewal : List TraceEntry)
    × (trace ≡ Called (BeginTick timing) ∷ (happening ++ (appends ++ renewal)))
    × HandlesEvent setup events.Tick w happening next
    × (failed : Bool) × AppendsFor events.Tick failed appends × MayRenew setup next renewal

-- The effects of a command. `poll` gives a turn to the control socket, and then to each media socket in ascending
-- order. `tick` is one tick. `stats` prints text that is not specified here.
abbrev pub Performs : Setup → Command → World → List TraceEntry → World → Type 0
Performs setup Poll w trace next =
    Each (SocketTurn setup) (range_with_len 0 (setup.config.slots + 1)) w trace next
Performs setup (Tick timing) w trace next = Ticks setup timing w trace next
Performs setup Stats w trace next = (text : List ℕ) × (trace ≡ Printed text ∷ []) × (next ≡ w)
Performs setup Quit w trace next = (trace ≡ []) × (next ≡ w)
Performs setup Unknown w trace next =
    (trace ≡ Printed (codes "unknown command") ∷ []) × (next ≡ w)

-- Commands one after another, with their effects.
abbrev pub Session : Setup → List Command → World → List TraceEntry → World → Type 0
Session setup commands w trace next = Each (Performs setup) commands w trace next
