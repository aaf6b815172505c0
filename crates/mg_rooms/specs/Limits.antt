-- The limits on a gateway's terminations and contexts (not from a standard).
use Rattle.std.specs.Prelude.{◌≡◌, ℕ, ◌+◌, ◌-◌, ◌*◌, ◌%◌, ◌<◌, ◌≤◌, ◌==◌, Option, find}
use Rattle.std.specs.List.{range_with_len}
use Rattle.mg_words.specs.Limits.{termination_limit, last_context}
use Rattle.mg_rooms.specs.declared.limits.Limits.{Limits}

-- The UDP port of a slot.
abbrev pub slot_port : Limits → ℕ → ℕ
slot_port limits slot = limits.base_port + 2 * slot

-- The slot with this UDP port, or `None` if no slot has it.
abbrev pub slot_at : Limits → ℕ → Option ℕ
slot_at limits port = find (λ slot. slot_port limits slot == port) (range_with_len 0 limits.slots)

-- There is at least one slot, the limit on terminations is not exceeded, and each slot has an even UDP port.
pub record HasPool (limits : Limits) : Type 0 where
  pub some_slot : 0 < limits.slots
  pub few_slots : limits.slots ≤ termination_limit
  pub base : 0 < limits.base_port
  pub even : limits.base_port % 2 ≡ 0
  pub last : slot_port limits (limits.slots - 1) ≤ 65535

-- The first numbers are valid. Context 0 is the null context, and the two numbers after the last context number denote
-- $ and *.
pub record HasFirstNumbers (limits : Limits) : Type 0 where
  pub termination : 0 < limits.first_termination
  pub context : 0 < limits.first_context
  pub few_contexts : limits.first_context ≤ last_context

abbrev pub AreValidLimits : Limits → Type 0
AreValidLimits limits = HasPool limits × HasFirstNumbers limits
