-- The log of a poll.
use Rattle.std.proofs.Common.{◌≡◌, ℕ, Bool, true, List, [], ◌∷◌, ◌++◌, map, Option, Some, None, refl, ap, subst, sym, ◌∙◌, append_assoc, append-nil}
use Rattle.std.specs.Prelude.{IfSome, slice_set}
use Rattle.std.proofs.lemmas.List.{map-append}
use Rattle.mg_host.specs.declared.host_call.HostCall.{HostCall}
use Rattle.mg_host.specs.declared.host_call.HostCall.TheVariants.{Reported}
use Rattle.mg_host.specs.HostCalls.{Grows, mark_all}
use Rattle.mg_host.specs.aids.HostLog.{LogsNext}

pub grows_none : (a : Option (List HostCall)) → Grows a a []
grows_none None = tt
grows_none (Some a) = sym (append-nil a)

pub grows_next : (a b c : Option (List HostCall)) (calls : List HostCall) (call : HostCall) → Grows a b calls
    → LogsNext b c (Some call) → Grows a c (calls ++ call ∷ [])
grows_next a b None calls call grows next = tt
grows_next a None (Some all) calls call grows next = absurd next
grows_next None (Some mid) (Some all) calls call grows next = absurd grows
grows_next (Some before) (Some mid) (Some all) calls call grows next =
    next ∙ ap (λ (l : List HostCall). l ++ call ∷ []) grows ∙ append_assoc before calls (call ∷ [])

pub reported_more : (a b c : Option (List HostCall)) (sockets : List ℕ) (socket : ℕ) → Grows a b (map Reported sockets)
    → LogsNext b c (Some (Reported socket)) → Grows a c (map Reported (sockets ++ socket ∷ []))
reported_more a b c sockets socket grows next =
    subst (λ (l : List HostCall). Grows a c l) (sym (map-append Reported sockets (socket ∷ [])))
    (grows_next a b c (map Reported sockets) (Reported socket) grows next)

pub marked_more : (sockets : List ℕ) (socket : ℕ) (marks : List Bool)
    → mark_all (sockets ++ socket ∷ []) marks ≡ slice_set (mark_all sockets marks) socket true
marked_more [] socket marks = refl
marked_more (first ∷ sockets) socket marks = marked_more sockets socket (slice_set marks first true)

pub as_logged : (new : Option (List HostCall)) (sockets : List ℕ) (marks marked : List Bool) → marked ≡ mark_all sockets marks
    → IfSome new (λ all. marked ≡ mark_all sockets marks)
as_logged None sockets marks marked is = tt
as_logged (Some all) sockets marks marked is = is
