-- The invariant of an engine's parts.
use Rattle.std.specs.Prelude.{◌≡◌, map, length}
use Rattle.mg_words.specs.Limits.{termination_limit}
use Rattle.mg_rooms.specs.aids.Sound.{IsSound}
use Rattle.mg_engine.specs.declared.engine.Engine.TheInside.{Inside}
use Rattle.mg_engine.specs.Config.{limits_of}
use Rattle.mg_engine.specs.aids.Members.{HasMembers}
use Rattle.mg_engine.specs.aids.Joined.{AreJoined}
use Rattle.mg_engine.specs.aids.Seating.{AreSeated, place_count}

-- Lookups of terminations and contexts are sound, and all parts have the same configuration. Each slot has its media,
-- and held slots are in order of their terminations' numbers. Each member is at its place. There is a row for each
-- possible termination, and the row of each member that talks is joined to the member's room.
pub record IsWholeEngine (e : Inside) : Type 0 where
  pub sound : IsSound e.rooms
  pub limits : e.rooms.limits ≡ limits_of e.config
  pub media : length e.media.items ≡ e.config.slots
  pub held : e.held.items ≡ map (λ r. r.slot) e.rooms.terminations
  pub members : HasMembers e.rooms e.flows
  pub seats : AreSeated e.rooms e.seating
  pub places : length e.seating ≡ place_count
  pub row_count : length e.sums.rooms ≡ termination_limit
  pub joined : AreJoined e.rooms e.sums.rooms
