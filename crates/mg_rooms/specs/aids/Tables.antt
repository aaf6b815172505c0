-- The registry that the tables by slot and by room represent: their contents, in order of numbers.
use Rattle.std.specs.Prelude.{◌≡◌, ℕ, ◌<◌, List, length, Option, Some, slice_get}
use Rattle.mg_rooms.specs.declared.tables.Tables.TheInside.{Inside}
use Rattle.mg_rooms.specs.Limits.{AreValidLimits}
use Rattle.mg_words.specs.Limits.{context_limit}
use Rattle.mg_rooms.specs.Registry.{Registry}
use Rattle.mg_rooms.specs.aids.Order.{in_order}

abbrev pub registry_of : Inside → Registry
registry_of a =
    record {
      limits = a.limits;
      terminations = in_order (λ r. r.number) a.slots.items;
      contexts = in_order (λ x. x.number) a.rooms.items;
      next_termination = a.next_termination;
      next_context = a.next_context;
    }

-- A table has each key at most once.
abbrev pub HoldsOnce : {A : Type 0} → (A → ℕ) → List (Option A) → Type 0
HoldsOnce {A} key t =
    (i j : ℕ) (x y : A) → slice_get t i ≡ Some (Some x) → slice_get t j ≡ Some (Some y)
    → key x ≡ key y → i ≡ j

-- Each entry that is not empty names its own index. Its key is below the next key and occurs once.
pub record IsTable {A : Type 0} (key spot : A → ℕ) (next size : ℕ)
    (t : List (Option A)) : Type 0 where
  pub len : length t ≡ size
  pub at_spot : (i : ℕ) (x : A) → slice_get t i ≡ Some (Some x) → spot x ≡ i
  pub below : (i : ℕ) (x : A) → slice_get t i ≡ Some (Some x) → key x < next
  pub once : HoldsOnce key t

pub record HasTables (a : Inside) : Type 0 where
  pub limits : AreValidLimits a.limits
  pub slots : IsTable (λ r. r.number) (λ r. r.slot) a.next_termination a.limits.slots a.slots.items
  pub rooms : IsTable (λ x. x.number) (λ x. x.room) a.next_context context_limit a.rooms.items
