-- What an engine's terminations need to be put back (not from a standard).
use Rattle.std.specs.Prelude.{◌≡◌, ℕ, ◌%◌, ◌==◌, ◌&&◌, Bool, Some, if◌then◌else◌}
use Rattle.mg_flow.specs.aids.Table as flow
use Rattle.mg_flow.specs.declared.place.Place.{Place}
use Rattle.mg_rooms.specs.declared.record.Record.{Record}
use Rattle.mg_rooms.specs.Registry.{Registry, record_at}
use Rattle.mg_engine.specs.declared.config.Config.{Config}
use Rattle.mg_engine.specs.aids.Stands.{EngineState, ShareContext}

-- Whether some tick has this timestamp. Ticks are 160 samples apart, so modulo 2^32 they reach each number that differs
-- from the first timestamp by a multiple of 32.
abbrev pub is_tick_of : Config → ℕ → Bool
is_tick_of config timestamp = timestamp % 32 == config.timestamp % 32

-- The last word on the talker and the listener is set in this direction, and every other word is unchanged.
abbrev pub SaysWord : EngineState → EngineState → ℕ → ℕ → Bool → Type 0
SaysWord old new talker listener is_heard =
    (m n : ℕ) (t l : Record) (p q : Place) → ShareContext old.rooms m n t l p q
    → flow.hears new.flows p q
    ≡ (if (m == talker) && (n == listener) then is_heard else flow.hears old.flows p q)

-- The talker and the listener are different members of one context, at these places.
abbrev pub ShareSome : Registry → ℕ → ℕ → Place → Place → Type 0
ShareSome w talker listener p q =
    (t : Record) × (l : Record) × ShareContext w talker listener t l p q

-- The talker and the listener are not different members of one context.
abbrev pub ShareNone : Registry → ℕ → ℕ → Type 0
ShareNone w talker listener =
    (t l : Record) → record_at w talker ≡ Some t → record_at w listener ≡ Some l
    → t.context ≡ l.context → talker ≡ listener
