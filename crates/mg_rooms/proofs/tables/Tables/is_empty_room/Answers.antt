use Rattle.mg_rooms.proofs.Common.{◌≡◌, ℕ, ◌&&◌, ◌==◌, arith, length, ◌<◌, CONTEXT_LIMIT, lt-ltb, ap, sym, find, is_none, not, Bool, true, false, Context, Option, Some, None, Registry, refl, registry_of, ◌∙◌}
use Rattle.std.specs.Option.{is_some}
use Rattle.mg_rooms.proofs.CallLemmas.{at_room_is}
use Rattle.mg_rooms.proofs.tables.Tables.is_empty_room.Goals as goal

not_some : (o : Option Context) (r : Bool) → is_some o ≡ not r → r ≡ is_none o
not_some None true e = refl
not_some None false e = absurd (cc e)
not_some (Some x) true e = absurd (cc e)
not_some (Some x) false e = refl

abbrev is_vacant : Registry → ℕ → Bool
is_vacant w room = is_none (find (λ x. x.room == room) w.contexts)

pub returns-then-from-lt-CONTEXT_LIMIT : goal.returns-then-from-lt-CONTEXT_LIMIT
returns-then-from-lt-CONTEXT_LIMIT c =
    let below : c.args.room < CONTEXT_LIMIT = omega (arith, c.if-from-lt-CONTEXT_LIMIT.true, c.from.ensures) in
    let within : c.from-then-from-lt-CONTEXT_LIMIT.result < length c.self.inside.rooms.items =
    omega (arith, below, c.from-then-from-lt-CONTEXT_LIMIT.ensures, c.self.invariant.rooms.len) in
    let found = at_room_is c.self.inside c.from-then-from-lt-CONTEXT_LIMIT.result c.index.result.now c.self.invariant within
    c.index.ensures in
    record {
      value = not_some c.index.result.now c.is_none.result c.is_none.ensures ∙ ap is_none found ∙
          ap (is_vacant (registry_of c.self.inside)) c.from-then-from-lt-CONTEXT_LIMIT.ensures ∙
          ap (λ (w : Registry). is_vacant w c.args.room) c.self.view_is ∙
          sym (ap (λ (b : Bool). b && is_vacant c.args.self.now c.args.room) (lt-ltb c.args.room CONTEXT_LIMIT below));
    }
