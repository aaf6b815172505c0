-- The messages that a session runs behind a fence, and the number that they reach.
use Rattle.std.specs.Prelude.{◌≡◌, ℕ, max, decimal, true, false, List, [], ◌∷◌, ◌++◌, codes, Option, unwrap_or}
use Rattle.std.specs.Option.{option_map}
use Rattle.mg_core.specs.declared.event.Event.TheVariants.{Control}
use Rattle.mg_fence.specs.Fence.{passes, raised_by}
use Rattle.mg_fence.specs.Number.{HasNumber}
use Rattle.mg_ports.specs.declared.call.Call.{Call}
use Rattle.mg_ports.specs.declared.call.Call.TheVariants.{Renew}
use Rattle.mg_serve.specs.declared.fencing.Fencing.{Fencing}
use Rattle.mg_serve.specs.Trace.{TraceEntry, Called, Happened, Stale}

-- The fence and the number after a message with this number, or without a number, was run. The number is raised with or
-- without a fence.
abbrev pub after_message : (number : Option ℕ) → Fencing → Fencing
after_message number old = record {
  fence = option_map (raised_by number) old.fence;
  reached = max old.reached (unwrap_or number 0);
}

-- The line in a renewed journal that says which number the messages have reached.
abbrev pub reached_line : ℕ → List ℕ
reached_line reached = codes "# reached " ++ (decimal reached ++ codes "\n")

-- A renewal's text ends with the number that the messages have reached.
abbrev pub SaysReached : ℕ → Call → Type 0
SaysReached reached (Renew text durability result) =
    (front : List ℕ) × (text ≡ front ++ reached_line reached)
SaysReached reached call = Unit {0}

-- The messages that are run pass the fence, and stale messages don't. The fences and the numbers reached are those
-- before and after the trace.
abbrev pub IsFenced : Fencing → List TraceEntry → Fencing → Type 0
IsFenced old [] new = new ≡ old
IsFenced old (Happened (Control source bytes) ∷ trace) new =
    (n : Option ℕ) × HasNumber bytes n × (passes old.fence bytes n ≡ true)
    × IsFenced (after_message n old) trace new
IsFenced old (Stale source bytes ∷ trace) new =
    (n : Option ℕ) × HasNumber bytes n × (passes old.fence bytes n ≡ false) × IsFenced old trace new
IsFenced old (Called call ∷ trace) new = SaysReached old.reached call × IsFenced old trace new
IsFenced old (entry ∷ trace) new = IsFenced old trace new
