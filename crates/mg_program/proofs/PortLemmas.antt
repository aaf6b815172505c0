-- The calls of a session on its ports, in the log of its host.
use Rattle.std.proofs.Common.{◌≡◌, ◌⊎◌, inl, inr, ℕ, ◌+◌, true, List, [], ◌∷◌, ◌++◌, drop, map, Option, Some, None, Result, Ok, Err, refl, sym, ap, subst, ◌∙◌, append_assoc, arith}
use Rattle.std.specs.Prelude.{MatchResult, slice_get, unwrap_or}
use Rattle.std.specs.List.{range_with_len}
use Rattle.std.proofs.lemmas.List.FromFn.{map-range_with_len_more}
use Rattle.mg_engine.specs.Config.{limits_of}
use Rattle.mg_engine.specs.Limits.{slot_port}
use Rattle.mg_engine.specs.declared.config.Config.{Config}
use Rattle.mg_options.specs.declared.status.Status.{Status}
use Rattle.mg_options.specs.declared.status.Status.TheVariants.{Failed, NoMemory}
use Rattle.mg_start.specs.Journal.{IsQuiet, RunsNoSession}
use Rattle.mg_start.specs.Start.{Begins, FailsToStart}
use Rattle.mg_start.proofs.LogLemmas.{grows_none, quiet_both, quiet_then, writes_quiet}
use Rattle.mg_program.specs.Serve.{binds_of}
use Rattle.mg_program.specs.aids.Binding.{first_binds, other_binds}
use Rattle.mg_ports.specs.declared.call.Call.{Call}
use Rattle.mg_host.specs.declared.host_call.HostCall.{HostCall}
use Rattle.mg_host.specs.declared.host_call.HostCall.TheVariants.{OpenJournal, OpenText, ReadDate, Bind, BindAlso, OnPorts}
use Rattle.mg_host.specs.declared.host_call.HostCall.TheVariants.{Reported, Poll, NotReported, NotSent}
use Rattle.mg_ports.specs.declared.call.Call.TheVariants.{Receive, Send}
use Rattle.mg_ports.specs.declared.receipt.Receipt.TheVariants.{Nothing}
use Rattle.mg_host.specs.HostCalls.{Grows, on_ports}

pub ports_both : (p q : List HostCall) → on_ports (p ++ q) ≡ on_ports p ++ on_ports q
ports_both [] q = refl
ports_both (OpenJournal path bytes ∷ p) q = ports_both p q
ports_both (OpenText path text ∷ p) q = ports_both p q
ports_both (ReadDate millis ∷ p) q = ports_both p q
ports_both (Bind address port bound ∷ p) q = ports_both p q
ports_both (BindAlso address port bound ∷ p) q = ports_both p q
ports_both (Reported socket ∷ p) q = ports_both p q
ports_both (Poll polled ∷ p) q = ports_both p q
ports_both (OnPorts call ∷ p) q = ap (λ (l : List Call). call ∷ l) (ports_both p q)
ports_both (NotReported socket ∷ p) q = ap (λ (l : List Call). Receive socket Nothing ∷ l) (ports_both p q)
ports_both (NotSent socket to bytes cause ∷ p) q = ap (λ (l : List Call). Send socket to bytes ∷ l) (ports_both p q)

pub grows_both : (a b c : Option (List HostCall)) (p q : List HostCall) → Grows a b p → Grows b c q → Grows a c (p ++ q)
grows_both a b None p q h k = tt
grows_both a None (Some c) p q h k = absurd k
grows_both None (Some b) (Some c) p q h k = absurd h
grows_both (Some a) (Some b) (Some c) p q h k = k ∙ ap (λ (l : List HostCall). l ++ q) h ∙ append_assoc a p q

pub same_grown : (a b c : Option (List HostCall)) (p : List HostCall) → Grows a b p → c ≡ b → Grows a c p
same_grown a b c p h same = subst (λ (x : Option (List HostCall)). Grows a x p) (sym same) h

-- ## Calls that run no session

pub fails_anyhow : (config : Config) (status : Status) → (status ≡ NoMemory) ⊎ (status ≡ Failed) → FailsToStart config status
fails_anyhow config status (inl is) = subst (λ (s : Status). FailsToStart config s) (sym is) tt
fails_anyhow config status (inr is) = subst (λ (s : Status). FailsToStart config s) (sym is) tt

slots_quiet : (address : List ℕ) (port : ℕ → ℕ) (slots : List ℕ) → IsQuiet (map (λ slot. Bind address (port slot) true) slots)
slots_quiet address port [] = tt
slots_quiet address port (slot ∷ slots) = slots_quiet address port slots

pub first_quiet : (config : Config) (address : Option (List ℕ)) (count : ℕ) → IsQuiet (first_binds config address count)
first_quiet config address count =
    slots_quiet (unwrap_or address config.address) (λ slot. slot_port (limits_of config) slot) (range_with_len 0 count)

pub others_quiet : (port : ℕ) (addresses : List (List ℕ)) → IsQuiet (other_binds port addresses)
others_quiet port [] = tt
others_quiet port (address ∷ addresses) = others_quiet port addresses

pub binds_quiet : (config : Config) (addresses : List (List ℕ)) → IsQuiet (binds_of config addresses)
binds_quiet config addresses =
    quiet_both (first_binds config (slice_get addresses 0) config.slots)
    (other_binds config.control_port (drop 1 addresses)) (first_quiet config (slice_get addresses 0) config.slots)
    (others_quiet config.control_port (drop 1 addresses))

pub no_session : (a b : Option (List HostCall)) (p : List HostCall) → Grows a b p → IsQuiet p → RunsNoSession a b
no_session a b p grows quiet = (p, grows, quiet)

pub no_session_then : (a b c : Option (List HostCall)) (p : List HostCall) → Grows a b p → IsQuiet p
    → RunsNoSession b c → RunsNoSession a c
no_session_then a b c p grows quiet rest = quiet_then a b c (p, grows, quiet) rest

-- The calls before a gateway starts run no session.
begun_quiet : (journal text script : Option (List ℕ)) (config : Config) (missed : ℕ) (fence : Option ℕ)
    (a b : Option (List HostCall)) → Begins journal text script config missed fence a b → RunsNoSession a b
begun_quiet None text script config missed fence a b (same, none) =
    ([], subst (λ (x : Option (List HostCall)). Grows a x []) (sym same) (grows_none a), tt)
begun_quiet (Some path) text script config missed fence a b (millis, calls, lines, grows, writes, is, begun) =
    (ReadDate millis ∷ calls, grows, writes_quiet calls lines writes)

-- If a gateway binds its sockets and begins its journal but doesn't start, it runs no session.
pub not_started : (journal text script : Option (List ℕ)) (addresses : List (List ℕ)) (config : Config) (missed : ℕ)
    (fence : Option ℕ) (a b c d : Option (List HostCall)) → Grows a b (binds_of config addresses)
    → Begins journal text script config missed fence b c → d ≡ c → RunsNoSession a d
not_started journal text script addresses config missed fence a b c d bound begins same =
    subst (λ (x : Option (List HostCall)). RunsNoSession a x) (sym same)
    (quiet_then a b c (binds_of config addresses, bound, binds_quiet config addresses)
    (begun_quiet journal text script config missed fence b c begins))

-- If the next media socket is bound, `first_binds` holds with one more socket.
pub binds_more : (config : Config) (address : Option (List ℕ)) (count port : ℕ) (a b c : Option (List HostCall))
    → Grows a b (first_binds config address count) → port ≡ slot_port (limits_of config) count
    → Grows b c (Bind (unwrap_or address config.address) port true ∷ []) → Grows a c (first_binds config address (count + 1))
binds_more config address count port a b c before is bound =
    let socket : ℕ → HostCall = λ slot. Bind (unwrap_or address config.address) (slot_port (limits_of config) slot) true in
    let more : map socket (range_with_len 0 (count + 1)) ≡ map socket (range_with_len 0 count) ++ socket count ∷ [] =
    map-range_with_len_more socket 0 count count (omega arith) in
    subst (λ (l : List HostCall). Grows a c l)
    (ap (λ (l : List HostCall). Bind (unwrap_or address config.control_address) config.control_port true ∷ l) (sym more))
    (grows_both a b c (first_binds config address count) (socket count ∷ []) before
    (subst (λ (p : ℕ). Grows b c (Bind (unwrap_or address config.address) p true ∷ [])) is bound))

-- If the first sockets were bound, and then the further control sockets were bound or not, all were bound or no session
-- runs.
pub all_bound : {E : Type 0} (config : Config) (first : Option (List ℕ)) (addresses : List (List ℕ))
    (a b c : Option (List HostCall)) (result : Result (Unit {0}) E) → first ≡ slice_get addresses 0
    → Grows a b (first_binds config first config.slots)
    → MatchResult result (λ done. Grows b c (other_binds config.control_port (drop 1 addresses))) (λ fault. RunsNoSession b c)
    → MatchResult result (λ done. Grows a c (binds_of config addresses)) (λ fault. RunsNoSession a c)
all_bound config first addresses a b c (Ok done) is before then =
    subst (λ (f : Option (List ℕ)). Grows a c (first_binds config f config.slots
    ++ other_binds config.control_port (drop 1 addresses))) is
    (grows_both a b c (first_binds config first config.slots) (other_binds config.control_port (drop 1 addresses)) before then)
all_bound config first addresses a b c (Err fault) is before then =
    no_session_then a b c (first_binds config first config.slots) before (first_quiet config first config.slots) then
