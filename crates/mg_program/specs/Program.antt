-- The effect of a run of the program. `EndsWith` in `mg_options` defines how the run ends, given its arguments.
use Rattle.std.specs.Prelude.{◌≡◌, ◌⊎◌, ℕ, true, false, List, IsSome, Option}
use Rattle.mg_clock.specs.Ticks.{ClockSeen}
use Rattle.mg_host.specs.declared.host_call.HostCall.{HostCall}
use Rattle.mg_options.specs.declared.status.Status.{Status}
use Rattle.mg_options.specs.declared.status.Status.TheVariants.{Done, Failed, NoAnswer}
use Rattle.mg_arguments.specs.declared.invocation.Invocation.{Invocation}
use Rattle.mg_arguments.specs.declared.invocation.Invocation.TheVariants.{Replay, Serve, Live, Check}
use Rattle.mg_arguments.specs.declared.invocation.Invocation.TheVariants.{Heard, Watch, Audible}
use Rattle.mg_arguments.specs.declared.invocation.Invocation.TheVariants.{Verify, Seal}
use Rattle.mg_hearing.specs.Audible.{IsAudibleFrom}
use Rattle.mg_hearing.specs.Heard.{IsHeardFrom}
use Rattle.mg_hearing.specs.Watched.{IsAnsweredFrom}
use Rattle.mg_sealing.specs.Seal.{SealsInput}
use Rattle.mg_options.specs.Status.{UnlessFault}
use Rattle.mg_program.specs.Replay.{Replays}
use Rattle.mg_program.specs.Serve.{ByClock, ByLines, Serves}
use Rattle.mg_program.specs.Verify.{IsVerifiedFrom}

-- A gateway was asked whether it answers, or asking it failed. If it doesn't answer, nothing is printed.
abbrev pub Checks : {W : Type 0} → W → W → Status → Type 0
Checks old new status =
    (status ≡ Done) ⊎ (status ≡ Failed) ⊎ ((status ≡ NoAnswer) × (new ≡ old))

-- A run took place, and the status says how it ended. A successful run prints an error in at most two cases. In the
-- first, the question is when a talker was audible, and the script has no RTP datagrams. In the second, a question or a
-- rule is about a termination that the gateway of the script never had; `Says` is true of these errors. A clock-driven
-- run reads no input. `before` and `after` are the calls on the host, if they are known. `clock` has the readings and
-- waits of the clock that was stopped.
abbrev pub Runs : {R W : Type 0} → (R → Option (List ℕ)) → (W → Option (List ℕ))
    → (silent : Type 0) → (Says : List ℕ → Type 0) → (before after : Option (List HostCall))
    → (clock : ClockSeen) → R → R → W → W → Invocation → Status → Type 0
Runs remaining contents silent _ before after clock input rest old new (Replay config shown) status =
    Replays config shown (remaining input) (remaining rest) (contents old) (contents new) status
    × (status ≡ Done → silent) × (after ≡ before)
Runs remaining contents silent _ before after clock input rest old new (Serve config service) status =
    Serves (ByLines (remaining input) (remaining rest)) ((rest ≡ input) × (new ≡ old)) config
    service false (contents old) (contents new) before after status × (status ≡ Done → silent)
Runs remaining contents _ _ before after clock input rest old new (Live config service late) status =
    (rest ≡ input) × Serves (ByClock late clock) (new ≡ old) config service true (contents old)
    (contents new) before after status
Runs remaining contents silent _ before after clock input rest old new (Check gateway source) status =
    (rest ≡ input) × Checks old new status × (status ≡ Done → silent) × (after ≡ before)
Runs remaining contents silent Says before after clock input rest old new (Heard request) status =
    (IsSome request.file → rest ≡ input)
    × UnlessFault (IsHeardFrom request before after (remaining input) (contents old) (contents new)
    Says status) status
Runs remaining contents silent Says before after clock input rest old new (Watch request) status =
    (IsSome request.file → rest ≡ input)
    × UnlessFault (IsAnsweredFrom request before after (remaining input) (contents old)
    (contents new) Says status) status
Runs remaining contents silent Says before after clock input rest old new (Audible request) status =
    (IsSome request.heard.file → rest ≡ input)
    × UnlessFault ((status ≡ Done) × IsAudibleFrom request before after (remaining input)
    (contents old) (contents new) silent) status
Runs remaining contents silent Says before after clock input rest old new (Verify file later) status =
    (IsSome file → rest ≡ input)
    × UnlessFault (IsVerifiedFrom file later before after (remaining input) (contents old) (contents new)
    status × silent) status
Runs remaining contents silent Says before after clock input rest old new Seal status =
    SealsInput (remaining input) (contents old) (contents new) silent status × (after ≡ before)
