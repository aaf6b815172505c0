-- The decisions of a gateway: the packets that it doesn't send, and the receives that it leaves out.
use Rattle.std.specs.Prelude.{◌≡◌, ◌⊎◌, ℕ, ◌+◌, ◌<◌, ◌≤◌, Bool, true, false, List, [], ◌∷◌}
use Rattle.std.specs.Prelude.{Option, IfSome, replicate, slice_index, slice_index_or, slice_set}
use Rattle.mg_clock.specs.declared.timing.Timing.{Timing}
use Rattle.mg_clock.specs.declared.timing.Timing.TheVariants.{OnTime, Late}
use Rattle.mg_words.specs.Limits.{termination_limit}
use Rattle.mg_ports.specs.declared.call.Call.TheVariants.{Receive, Send, BeginTick}
use Rattle.mg_ports.specs.declared.receipt.Receipt.TheVariants.{Nothing}
use Rattle.mg_host.specs.declared.host_call.HostCall.{HostCall}
use Rattle.mg_host.specs.declared.host_call.HostCall.TheVariants.{Reported, Poll, OnPorts}
use Rattle.mg_host.specs.declared.host_call.HostCall.TheVariants.{NotReported, NotSent}
use Rattle.mg_host.specs.declared.unsent.Unsent.TheVariants as causes
use Rattle.mg_host.specs.HostCalls.{Grows}

-- The gateway's knowledge between two calls: whether its tick is on time, at which sockets a datagram may be waiting,
-- and whether the last call polled the host.
pub record Knows : Type 0 where
  pub timing : Timing
  pub ready : List Bool
  pub asked : Bool

abbrev pub knows : Timing → List Bool → Bool → Knows
knows timing ready asked = record { timing = timing; ready = ready; asked = asked }

-- A datagram may be waiting at each socket.
abbrev pub all_ready : List Bool
all_ready = replicate (termination_limit + 1) true

-- The gateway's knowledge after a call. When a datagram arrives, its socket is reported once. So a datagram may be
-- waiting there from then on, until a receive finds no datagram. If a poll fails, a datagram may be waiting at each
-- socket.
abbrev pub after : Knows → HostCall → Knows
after k (Reported socket) = knows k.timing (slice_set k.ready socket true) false
after k (Poll true) = knows k.timing k.ready true
after k (Poll false) = knows k.timing all_ready true
after k (OnPorts (Receive socket Nothing)) = knows k.timing (slice_set k.ready socket false) false
after k (OnPorts (BeginTick timing)) = knows timing k.ready false
after k _ = knows k.timing k.ready false

-- No caller can have this address: it is 0.0.0.0, multicast, reserved or broadcast.
abbrev pub IsUnusable : (address : List ℕ) → Type 0
IsUnusable address = (address ≡ 0 ∷ 0 ∷ 0 ∷ 0 ∷ []) ⊎ (224 ≤ slice_index address 0)

-- Whether the gateway may make this call. A packet from a media socket is sent if and only if its tick is on time and
-- its destination is usable. A receive is left out only if no datagram can be waiting at the socket. Right before each
-- receive from the control socket, the host is asked at which sockets datagrams have arrived.
abbrev pub MayCall : Knows → HostCall → Type 0
MayCall k (Reported socket) = Unit {0}
MayCall k (Poll polled) = Unit {0}
MayCall k (OnPorts (Receive socket receipt)) = socket ≡ 0 → k.asked ≡ true
MayCall k (OnPorts (Send socket to bytes)) =
    0 < socket → (k.timing ≡ OnTime) × (IsUnusable to.address → ⊥)
MayCall k (OnPorts call) = Unit {0}
MayCall k (NotReported socket) =
    (slice_index_or k.ready socket true ≡ false) × (socket ≡ 0 → k.asked ≡ true)
MayCall k (NotSent socket to bytes causes.Late) = (0 < socket) × (k.timing ≡ Late)
MayCall k (NotSent socket to bytes causes.Held) = (0 < socket) × IsUnusable to.address
MayCall k _ = ⊥

-- The gateway may make all these calls, and its knowledge after the last call is `last`.
abbrev pub Decides : Knows → List HostCall → Knows → Type 0
Decides k [] last = last ≡ k
Decides k (call ∷ calls) last = MayCall k call × Decides (after k call) calls last

-- The gateway's knowledge when a session begins.
abbrev pub first_known : Knows
first_known = knows OnTime all_ready false

-- Since the log was `old`, when a session began, the host has done only what the gateway may do, and the gateway's
-- knowledge is `last`.
abbrev pub HasDecided : (old new : Option (List HostCall)) → (last : Knows) → Type 0
HasDecided old new last = ∥ ((done : List HostCall) × Grows old new done
    × IfSome new (λ all. Decides first_known done last)) ∥₁
