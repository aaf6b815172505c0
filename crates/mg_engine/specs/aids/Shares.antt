-- The packets of a tick whose payloads can be shared, grouped by room.
use Rattle.std.specs.Prelude.{◌≡◌, ℕ, ℤ, pos, ◌<◌, ◌&&◌, ◌==◌, Bool, false, List, [], ◌∷◌, ◌++◌}
use Rattle.std.specs.Prelude.{All, length, nat_lt, map, drop, slice_index_or, slice_set}
use Rattle.std.specs.Prelude.{Option, Some, None, if◌then◌else◌}
use Rattle.std.specs.List.{range_with_len}
use Rattle.mg_words.specs.Limits.{member_limit}
use Rattle.mg_topology.specs.Mask.{has_seat}
use Rattle.mg_g711.specs.declared.law.Law.{Law}
use Rattle.mg_g711.specs.declared.law.Law.TheVariants.{Mu}
use Rattle.mg_g711.specs.Law.{byte_of}
use Rattle.mg_rooms.specs.declared.record.Record.{Record}
use Rattle.mg_rooms.specs.Registry as rooms
use Rattle.mg_flow.specs.declared.place.Place.{Place}
use Rattle.mg_sums.specs.Samples.{sum_of, nearest_sample}
use Rattle.mg_engine.specs.declared.datagram.Datagram.{Datagram}
use Rattle.mg_engine.specs.declared.share.Share.{Share}
use Rattle.mg_engine.specs.aids.Datagram.{blank}
use Rattle.mg_engine.specs.aids.Place.{place_of}
use Rattle.mg_engine.specs.aids.Stands.{EngineState}
use Rattle.mg_engine.specs.aids.Sending.{sample_at}

abbrev pub first_share : Share
first_share = record { talkers = 0; law = Mu; packet = 0 }

-- The shares of a room.
abbrev pub shares_in : List (List Share) → ℕ → List Share
shares_in shares room = slice_index_or shares room []

-- The shares with one more share, unless there are as many as a context can have members.
abbrev pub one_more : List Share → Share → List Share
one_more shares share =
    if nat_lt (length shares) member_limit then shares ++ share ∷ [] else shares

abbrev pub with_share : List (List Share) → ℕ → Share → List (List Share)
with_share shares room share = slice_set shares room (one_more (shares_in shares room) share)

-- ## The speech of the members in certain seats of a room

abbrev pub is_seated_in : ℕ → ℕ → Option Place → Bool
is_seated_in room mask None = false
is_seated_in room mask (Some p) = (p.room == room) && has_seat mask p.seat

-- Whether a termination is in one of these seats.
abbrev pub sits_among : rooms.Registry → ℕ → ℕ → Record → Bool
sits_among w room mask t = is_seated_in room mask (place_of w t)

abbrev pub heard_on : EngineState → ℕ → ℕ → ℕ → ℤ
heard_on k room mask i =
    sum_of
    (λ t. if sits_among k.rooms room mask t then sample_at k.sums.frames t.slot i else pos 0)
    k.rooms.terminations

-- The payload for a listener that hears the members in these seats.
abbrev pub payload_on : EngineState → ℕ → ℕ → Law → List ℕ
payload_on k room mask law =
    map (byte_of law) (map (λ i. nearest_sample (heard_on k room mask i)) (range_with_len 0 160))

-- ## Shared payloads

abbrev pub packet_at : List Datagram → ℕ → Datagram
packet_at outbox i = slice_index_or outbox i blank

-- The bytes after the header of a packet.
abbrev pub payload_of : Datagram → List ℕ
payload_of datagram = drop 12 datagram.bytes

-- The outbox has one more packet, which has this payload.
pub record IsPut (old new : List Datagram) (payload : List ℕ) : Type 0 where
  pub last : Datagram
  pub all : new ≡ old ++ last ∷ []
  pub same : payload_of last ≡ payload

-- The packet of the share has the payload for the share's talkers and law.
pub record IsShared (k : EngineState) (outbox : List Datagram) (room : ℕ) (share : Share)
    : Type 0 where
  pub sent : share.packet < length outbox
  pub payload : payload_of (packet_at outbox share.packet)
      ≡ payload_on k room share.talkers share.law

abbrev pub AreShared : EngineState → List Datagram → Type 0
AreShared k outbox = (room : ℕ) → All (IsShared k outbox room) (shares_in k.shares room)
