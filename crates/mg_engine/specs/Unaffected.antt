-- The contexts that an edit or an RTP datagram does not affect (not from a standard).
use Rattle.std.specs.Prelude.{◌≡◌, ℕ, Bool, true, false, List, Some, IsSome, Ok}
use Rattle.mg_rooms.specs.declared.record.Record.{Record}
use Rattle.mg_rooms.specs.declared.target.Target.{Target}
use Rattle.mg_rooms.specs.Consistent.{IsConsistent}
use Rattle.mg_rooms.specs.Outcome.{is_number}
use Rattle.mg_rooms.specs.Registry.{record_at, context_at, members_at}
use Rattle.mg_engine.specs.declared.done.Done.{Done}
use Rattle.mg_engine.specs.declared.edit.Edit.{Edit}
use Rattle.mg_engine.specs.declared.edit.Edit.TheVariants.{Add, Modify, Move, Subtract, Triples}
use Rattle.mg_engine.specs.declared.taken.Taken.{Taken}
use Rattle.mg_engine.specs.Arrival.{Takes, at_port}
use Rattle.mg_engine.specs.Flow.{has, flow, hears}
use Rattle.mg_engine.specs.Gateway.{Gateway, media_of}
use Rattle.mg_engine.specs.Mix.{total}
use Rattle.mg_engine.specs.Outcome.{outcome}

-- Whether n is a member of the context c.
abbrev pub is_member : Gateway → ℕ → ℕ → Bool
is_member w c n = has (members_at w.rooms c) n

-- The context c is unchanged, including the order of its members. So are the members' records,
-- media and total, who hears whom among them regardless of modes, and which speech flows between
-- them.
pub record IsUnaffected (w next : Gateway) (c : ℕ) : Type 0 where
  pub context : context_at next.rooms c ≡ context_at w.rooms c
  pub records : (n : ℕ) → is_member w c n ≡ true → record_at next.rooms n ≡ record_at w.rooms n
  pub media : (n : ℕ) → is_member w c n ≡ true → media_of next n ≡ media_of w n
  pub hears : (a b : ℕ) → is_member w c a ≡ true → is_member w c b ≡ true
      → hears next a b ≡ hears w a b
  pub flows : (a b : ℕ) → is_member w c a ≡ true → is_member w c b ≡ true
      → flow next a b ≡ flow w a b
  pub totals : (i : ℕ) → total next c i ≡ total w c i

-- ## Edits and datagrams elsewhere

-- The command does not concern the context c: c is not the action's context, and the command doesn't name a member of
-- c.
abbrev pub IsElsewhere : Gateway → ℕ → Target → ℕ → Type 0
IsElsewhere w c target n = (is_number target c ≡ false) × (is_member w c n ≡ false)

-- The edit does not concern the context c. An Add doesn't name a termination, and triples name members of the action's
-- context. So for an Add and for triples, only the action's context matters.
abbrev pub IsEditElsewhere : Gateway → ℕ → Edit → Type 0
IsEditElsewhere w c (Add target settings) = is_number target c ≡ false
IsEditElsewhere w c (Modify target n settings) = IsElsewhere w c target n
IsEditElsewhere w c (Move target n settings) = IsElsewhere w c target n
IsEditElsewhere w c (Subtract target n) = IsElsewhere w c target n
IsEditElsewhere w c (Triples target xs) = is_number target c ≡ false

-- No member of the context c has the port.
abbrev pub IsPortElsewhere : Gateway → ℕ → ℕ → Type 0
IsPortElsewhere w c port =
    (r : Record) → at_port w.rooms port ≡ Some r → is_member w c r.number ≡ false

-- ## The theorems

-- An edit does not affect an existing context that it does not concern.
abbrev pub EditsDoNotAffectOthers : Type 0
EditsDoNotAffectOthers =
    (w next : Gateway) (edit : Edit) (done : Done) (c : ℕ) → IsConsistent w.rooms
    → outcome w edit ≡ Ok (next, done) → IsSome (context_at w.rooms c) → IsEditElsewhere w c edit
    → IsUnaffected w next c

-- An RTP datagram does not affect a context in which no member has the datagram's port.
abbrev pub DatagramsDoNotAffectOthers : Type 0
DatagramsDoNotAffectOthers =
    (w next : Gateway) (port : ℕ) (source bytes : List ℕ) (result : Taken) (c : ℕ)
    → Takes w port source bytes next result → IsPortElsewhere w c port → IsUnaffected w next c
