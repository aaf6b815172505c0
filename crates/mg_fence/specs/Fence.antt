-- The messages that a fence lets pass.
use Rattle.std.specs.Prelude.{ℕ, ◌||◌, not, max, nat_le, Bool, true, List, codes, Option, Some, None}
use Rattle.std.specs.Prelude.{unwrap_or}
use Rattle.std.specs.Str.{bytes_eq}
use Rattle.mg_fence.specs.declared.fence.Fence.{Fence}

-- Whether a message passes. Without a fence, each message does. With a fence, a message's number must be at least the
-- number that the fence has reached. A message without a number passes, too. But it passes a strict fence only if it is
-- one that `mg_bridge check` sends: an audit of ROOT, or the acknowledgement of the audit's reply.
abbrev pub passes : Option Fence → List ℕ → (number : Option ℕ) → Bool
passes None bytes number = true
passes (Some fence) bytes (Some number) = nat_le fence.reached number
passes (Some fence) bytes None = not fence.strict
    || (bytes_eq bytes (codes "MEGACO/1 <check>\nTransaction=1{Context=-{AuditValue=ROOT}}")
    || bytes_eq bytes (codes "MEGACO/1 <check>\nTransactionResponseAck{1}"))

-- The fence after a message with this number, or without a number, was run.
abbrev pub raised_by : (number : Option ℕ) → Fence → Fence
raised_by number fence = record fence { reached = max fence.reached (unwrap_or number 0) }
