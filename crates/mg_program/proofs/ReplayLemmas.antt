-- Scripts that are run from the input.
use Rattle.std.proofs.Common.{◌≡◌, ◌≢◌, ◌⊎◌, ◌∙◌, ℕ, List, ◌++◌, Option, Some, None, ap, inl, inr, refl, subst}
use Rattle.std.specs.Prelude.{◌↔◌, Err, Ok, Result}
use Rattle.std.specs.Io.KnownBytes.{Keeps}
use Rattle.mg_core.specs.Run.{ScriptRan}
use Rattle.mg_core.specs.World.{World, start_of}
use Rattle.mg_core.specs.declared.counts.Counts.{Counts}
use Rattle.mg_core.specs.declared.fault.RunFault.{RunFault}
use Rattle.mg_core.specs.declared.fault.RunFault.TheVariants as faults
use Rattle.mg_core.specs.declared.shown.Shown.{Shown}
use Rattle.mg_engine.specs.Config.{IsValidConfig}
use Rattle.mg_engine.specs.declared.config.Config.{Config}
use Rattle.mg_hearing.specs.aids.Beginning.{LeavesBase}
use Rattle.mg_options.specs.declared.status.Status.{Status}
use Rattle.mg_program.specs.Replay.{RanInput, Replays}
use Rattle.mg_program.specs.Status.{status_of}

-- Nothing is claimed of what was read of an input that isn't known.
ran_unknown : (base : World) (shown : Shown) (input rest old new : Option (List ℕ)) (outcome : Result Counts RunFault) →
    ScriptRan base shown input rest old new outcome → ScriptRan base shown None rest old new outcome
ran_unknown base shown input rest old new (Ok counts) (script, read, ran) =
    (script, record { consumed = tt; at_end = read.at_end }, ran)
ran_unknown base shown input rest old new (Err fault) ran = record {
  text = ran.text;
  ended = ran.ended;
  read = record { consumed = tt; at_end = ran.read.at_end };
  lines = ran.lines;
  before_more = ran.before_more;
  now = ran.now;
  held = ran.held;
  ran = ran.ran;
  stops = ran.stops;
}

ran_new : (config : Config) (shown : Shown) (input rest old new : Option (List ℕ)) (outcome : Result Counts RunFault) →
    ScriptRan (start_of config) shown input rest old new outcome → RanInput config shown input rest old new outcome
ran_new config shown input rest old new outcome ran = inl (start_of config, input, inl (refl, refl), ran)

-- The script behind a checkpoint was run.
ran_behind : (config : Config) (base : World) (shown : Shown) (input mid rest old new : Option (List ℕ))
    (outcome : Result Counts RunFault) → LeavesBase config base input mid →
    ScriptRan base shown mid rest old new outcome → RanInput config shown input rest old new outcome
ran_behind config base shown None mid rest old new outcome (is_base, config_is, quiet, read) ran =
    inl (base, None, inr (is_base, config_is, quiet, refl), ran_unknown base shown mid rest old new outcome ran)
ran_behind config base shown (Some text) None rest old new outcome (is_base, config_is, quiet, read) ran = absurd read
ran_behind config base shown (Some text) (Some script) rest old new outcome (is_base, config_is, quiet, read) ran =
    inl (base, Some script, inr (is_base, config_is, quiet, ap (λ (l : List ℕ). Some l) read), ran)

-- Looking at an input changes nothing.
ran_looked : (config : Config) (shown : Shown) (input mid rest old new : Option (List ℕ))
    (outcome : Result Counts RunFault) → Keeps input mid → RanInput config shown mid rest old new outcome →
    RanInput config shown input rest old new outcome
ran_looked config shown (Some text) None rest old new outcome kept ran = absurd kept
ran_looked config shown (Some text) (Some same) rest old new outcome kept ran =
    subst (λ (l : List ℕ). RanInput config shown (Some l) rest old new outcome) kept ran
ran_looked config shown None mid rest old new outcome kept (inl (base, script, inl (is, same), ran)) =
    inl (base, None, inl (is, refl), ran_unknown base shown script rest old new outcome ran)
ran_looked config shown None mid rest old new outcome kept (inl (base, script, inr (is, config_is, quiet, parts), ran)) =
    inl (base, None, inr (is, config_is, quiet, refl), ran_unknown base shown script rest old new outcome ran)
ran_looked config shown None mid rest old new outcome kept (inr (begins, fault, same)) = inr (tt, fault, same)

pub replays_looked : (config : Config) (shown : Shown) (input mid rest old new : Option (List ℕ)) (status : Status) →
    Keeps input mid → Replays config shown mid rest old new status → Replays config shown input rest old new status
replays_looked config shown input mid rest old new status kept r = record {
  outcome = r.outcome;
  is = r.is;
  ran = ran_looked config shown input mid rest old new r.outcome kept r.ran;
  bad = r.bad;
}

pub replays_new : (config : Config) (shown : Shown) (input rest old new : Option (List ℕ))
    (outcome : Result Counts RunFault) (status : Status) → status ≡ status_of outcome →
    ScriptRan (start_of config) shown input rest old new outcome →
    (outcome ≡ Err faults.BadConfig) ↔ (IsValidConfig config → ⊥) → Replays config shown input rest old new status
replays_new config shown input rest old new outcome status is ran bad = record {
  outcome = outcome;
  is = is;
  ran = ran_new config shown input rest old new outcome ran;
  bad = bad;
}

-- ## Behind a checkpoint

never_bad : (config : Config) (outcome : Result Counts RunFault) → IsValidConfig config →
    outcome ≢ Err faults.BadConfig → (outcome ≡ Err faults.BadConfig) ↔ (IsValidConfig config → ⊥)
never_bad config outcome valid good = (λ bad. absurd (good bad), λ invalid. absurd (invalid valid))

pub replays_behind : (config : Config) (base : World) (shown : Shown) (input mid rest old new : Option (List ℕ))
    (outcome counted : Result Counts RunFault) (status : Status) → IsValidConfig config →
    outcome ≢ Err faults.BadConfig → status_of counted ≡ status_of outcome → status ≡ status_of counted →
    LeavesBase config base input mid → ScriptRan base shown mid rest old new outcome →
    Replays config shown input rest old new status
replays_behind config base shown input mid rest old new outcome counted status valid good same is leaves ran = record {
  outcome = outcome;
  is = is ∙ same;
  ran = ran_behind config base shown input mid rest old new outcome leaves ran;
  bad = never_bad config outcome valid good;
}
