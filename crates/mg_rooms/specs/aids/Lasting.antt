-- Properties that a command leaves unchanged (not from a standard).
use Rattle.std.specs.Prelude.{◌≡◌, ◌≢◌, ℕ, Some}
use Rattle.mg_rooms.specs.declared.record.Record.{Record}
use Rattle.mg_rooms.specs.declared.context.Context.{Context}
use Rattle.mg_rooms.specs.Registry.{Registry, record_at, context_at}

-- A termination keeps its slot and a context its room as long as it exists, and a member keeps its seat as long as it
-- is in the context.
pub record Lasts (w after : Registry) : Type 0 where
  pub slot : (n : ℕ) (r s : Record) → record_at w n ≡ Some r → record_at after n ≡ Some s → s.slot
      ≡ r.slot
  pub seat : (n : ℕ) (r s : Record) → record_at w n ≡ Some r → record_at after n ≡ Some s
      → s.context ≡ r.context → s.seat ≡ r.seat
  pub room : (c : ℕ) (x y : Context) → context_at w c ≡ Some x → context_at after c ≡ Some y
      → y.room ≡ x.room

-- No termination except n changes, and no context except c and d. In other contexts, even the order of members is
-- unchanged.
pub record LeavesOthers (w after : Registry) (n c d : ℕ) : Type 0 where
  pub termination : (m : ℕ) → m ≢ n → record_at after m ≡ record_at w m
  pub context : (e : ℕ) → e ≢ c → e ≢ d → context_at after e ≡ context_at w e
