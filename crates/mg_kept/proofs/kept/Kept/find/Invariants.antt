use Rattle.std.proofs.Common.{◌≡◌, None, take}
use Rattle.std.specs.List.{find}
use Rattle.mg_kept.specs.KeptReplies.{is_reply_to}
use Rattle.mg_kept.proofs.kept.Kept.find.Given as goal

-- None of the replies so far answers the request.
abbrev pub invariant-loop-place : goal.invariant-loop-place
invariant-loop-place l = find (is_reply_to l.sender l.number) (take l.place-index l.place-items) ≡ None
