-- Readings of a clock before a tick is due.
use Rattle.std.proofs.Common.{◌≡◌, ℕ, ◌+◌, ◌*◌, ◌<◌, ◌≤◌, List, [], ◌∷◌, ◌++◌, Option, Some, None, refl, subst, ◌∙◌, ap}
use Rattle.std.proofs.lemmas.List.{length-append}
use Rattle.std.proofs.KnownBytes.{Appends-nil, Appends-trans, Appends-kept}
use Rattle.std.specs.Io.KnownBytes.{Appends, Keeps}
use Rattle.mg_clock.specs.Due.{period, ticks_due}
use Rattle.mg_clock.specs.Ticks.{ClockSeen, clock_seen, WaitsForTick, IsReadEarly, IsReadUntilDue, StepBegins, StepsBegin}
use Rattle.mg_clock.specs.declared.step.Step.{Step}
use Rattle.mg_clock.specs.declared.tick_schedule.TickSchedule.{TickSchedule}

pub read_none : (tick : ℕ) (r w : Option (List ℕ)) → IsReadEarly tick 0 (clock_seen r w) (clock_seen r w)
read_none tick r w = record {
  early = [];
  waits = [];
  waited = tt;
  counted = refl;
  readings = Appends-nil r;
  slept = Appends-nil w;
}

waits_more : (tick : ℕ) (ts ds : List ℕ) (t d : ℕ) → WaitsForTick tick ts ds → t < tick * period →
    t + d ≡ tick * period → WaitsForTick tick (ts ++ t ∷ []) (ds ++ d ∷ [])
waits_more tick [] [] t d all early waits = (early, waits, tt)
waits_more tick [] (e ∷ ds) t d all early waits = absurd all
waits_more tick (u ∷ ts) [] t d all early waits = absurd all
waits_more tick (u ∷ ts) (e ∷ ds) t d all early waits =
    (all.0, all.1, waits_more tick ts ds t d all.2 early waits)

keeps_appends : (a b c : Option (List ℕ)) (xs : List ℕ) → Keeps a b → Appends b c xs → Appends a c xs
keeps_appends None b c xs k h = tt
keeps_appends (Some a) None c xs k h = absurd k
keeps_appends (Some a) (Some b) None xs k h = absurd h
keeps_appends (Some a) (Some b) (Some c) xs k h = h ∙ ap (λ l. l ++ xs) k

-- If the tick is not due at one more reading, and the clock waits after that reading, `IsReadEarly` still holds.
pub read_more : (tick count t d : ℕ) (old : ClockSeen) (r w s v z x : Option (List ℕ)) →
    IsReadEarly tick count old (clock_seen r w) →
    Appends r s (t ∷ []) → Keeps w v → t < tick * period → t + d ≡ tick * period →
    Keeps s z → Appends v x (d ∷ []) → IsReadEarly tick (count + 1) old (clock_seen z x)
read_more tick count t d old r w s v z x so_far reads still early waits kept sleeps = record {
  early = so_far.early ++ t ∷ [];
  waits = so_far.waits ++ d ∷ [];
  waited = waits_more tick so_far.early so_far.waits t d so_far.waited early waits;
  counted = length-append so_far.early (t ∷ []) ∙ ap (λ n. n + 1) so_far.counted;
  readings = Appends-kept old.readings s z _ (Appends-trans old.readings r s so_far.early (t ∷ []) so_far.readings reads)
      kept;
  slept = Appends-trans old.waits w x so_far.waits (d ∷ []) so_far.slept (keeps_appends w v x (d ∷ []) still sleeps);
}

-- Reading the clock ends with the first reading at which the tick is due.
pub read_last : (tick count now : ℕ) (old : ClockSeen) (r w s v : Option (List ℕ)) →
    IsReadEarly tick count old (clock_seen r w) →
    Appends r s (now ∷ []) → Keeps w v → tick ≤ ticks_due now → IsReadUntilDue tick now old (clock_seen s v)
read_last tick count now old r w s v so_far reads still due = record {
  count = count;
  before = r;
  early = record {
    early = so_far.early;
    waits = so_far.waits;
    waited = so_far.waited;
    counted = so_far.counted;
    readings = so_far.readings;
    slept = Appends-kept old.waits w v so_far.waits so_far.slept still;
  };
  last = reads;
  due = due;
}

-- A step after a sequence of steps extends the sequence.
pub steps_more : (s u v : TickSchedule) (steps : List Step) (step : Step) (c d e : ClockSeen) →
    StepsBegin s steps c d u → StepBegins u d e step v → StepsBegin s (steps ++ step ∷ []) c e v
steps_more s u v [] step c d e (same, is) begins = (
  e,
  v,
  subst (λ (x : TickSchedule). StepBegins x c e step v) is
      (subst (λ (x : ClockSeen). StepBegins u x e step v) same begins),
  (refl, refl),
)
steps_more s u v (first ∷ steps) step c d e (mid, next, one, others) begins =
    (mid, next, one, steps_more next u v steps step mid d e others begins)
