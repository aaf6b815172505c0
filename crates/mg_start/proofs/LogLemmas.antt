-- The log of the lines that are appended to a journal before a gateway starts.
use Rattle.std.proofs.Common.{◌≡◌, ℕ, ◌+◌, ◌-◌, ◌≤◌, Bool, true, false, List, [], ◌∷◌, ◌++◌, Option, Some, None, Result, Ok, Err, OnErr, is_err, refl, sym, ap, subst, ◌∙◌, append_assoc, append-nil, arith}
use Rattle.mg_ports.specs.declared.call.Call.TheVariants.{Append, BeginTick, Receive, Renew, Send}
use Rattle.mg_journal.specs.declared.append_fault.AppendFault.{AppendFault}
use Rattle.mg_journal.specs.declared.durability.Durability.{Durability}
use Rattle.mg_host.specs.declared.host_call.HostCall.{HostCall}
use Rattle.mg_host.specs.declared.host_call.HostCall.TheVariants.{Bind, BindAlso, NotReported, NotSent, OnPorts, OpenJournal, OpenText, Poll, ReadDate, Reported}
use Rattle.mg_host.specs.HostCalls.{Grows}
use Rattle.mg_start.specs.Journal.{IsQuiet, RunsNoSession, Writes}
use Rattle.mg_start.specs.aids.Starting.{HasWritten, Logs}

pub grows_none : (a : Option (List HostCall)) → Grows a a []
grows_none None = tt
grows_none (Some a) = sym (append-nil a)

pub grows_both : (a b c : Option (List HostCall)) (p q : List HostCall) → Grows a b p → Grows b c q → Grows a c (p ++ q)
grows_both a b None p q h k = tt
grows_both a None (Some c) p q h k = absurd k
grows_both None (Some b) (Some c) p q h k = absurd h
grows_both (Some a) (Some b) (Some c) p q h k = k ∙ ap (λ (l : List HostCall). l ++ q) h ∙ append_assoc a p q

writes_both : (p q : List HostCall) (a b : List ℕ) → Writes p a → Writes q b → Writes (p ++ q) (a ++ b)
writes_both [] q a b h k = subst (λ (l : List ℕ). Writes q (l ++ b)) (sym h) k
writes_both (OnPorts (Append part durability (Ok done)) ∷ p) q a b (rest, is, h) k =
    (rest ++ b, ap (λ (l : List ℕ). l ++ b) is ∙ append_assoc part rest b, writes_both p q rest b h k)
writes_both (OnPorts (Append part durability (Err fault)) ∷ p) q a b h k = absurd h
writes_both (OnPorts (Receive socket receipt) ∷ p) q a b h k = absurd h
writes_both (OnPorts (Send socket to bytes) ∷ p) q a b h k = absurd h
writes_both (OnPorts (BeginTick timing) ∷ p) q a b h k = absurd h
writes_both (OnPorts (Renew text durability result) ∷ p) q a b h k = absurd h
writes_both (OpenJournal path bytes ∷ p) q a b h k = absurd h
writes_both (OpenText path text ∷ p) q a b h k = absurd h
writes_both (ReadDate millis ∷ p) q a b h k = absurd h
writes_both (Bind address port bound ∷ p) q a b h k = absurd h
writes_both (BindAlso address port bound ∷ p) q a b h k = absurd h
writes_both (Reported socket ∷ p) q a b h k = absurd h
writes_both (Poll polled ∷ p) q a b h k = absurd h
writes_both (NotReported socket ∷ p) q a b h k = absurd h
writes_both (NotSent socket to bytes cause ∷ p) q a b h k = absurd h

-- Calls that only append lines are quiet.
pub writes_quiet : (calls : List HostCall) (lines : List ℕ) → Writes calls lines → IsQuiet calls
writes_quiet [] lines h = tt
writes_quiet (OnPorts (Append part durability (Ok done)) ∷ p) lines (rest, is, h) = writes_quiet p rest h
writes_quiet (OnPorts (Append part durability (Err fault)) ∷ p) lines h = absurd h
writes_quiet (OnPorts (Receive socket receipt) ∷ p) lines h = absurd h
writes_quiet (OnPorts (Send socket to bytes) ∷ p) lines h = absurd h
writes_quiet (OnPorts (BeginTick timing) ∷ p) lines h = absurd h
writes_quiet (OnPorts (Renew text durability result) ∷ p) lines h = absurd h
writes_quiet (OpenJournal path bytes ∷ p) lines h = absurd h
writes_quiet (OpenText path text ∷ p) lines h = absurd h
writes_quiet (ReadDate millis ∷ p) lines h = absurd h
writes_quiet (Bind address port bound ∷ p) lines h = absurd h
writes_quiet (BindAlso address port bound ∷ p) lines h = absurd h
writes_quiet (Reported socket ∷ p) lines h = absurd h
writes_quiet (Poll polled ∷ p) lines h = absurd h
writes_quiet (NotReported socket ∷ p) lines h = absurd h
writes_quiet (NotSent socket to bytes cause ∷ p) lines h = absurd h

pub quiet_both : (p q : List HostCall) → IsQuiet p → IsQuiet q → IsQuiet (p ++ q)
quiet_both [] q h k = k
quiet_both (Bind address port bound ∷ p) q h k = quiet_both p q h k
quiet_both (BindAlso address port bound ∷ p) q h k = quiet_both p q h k
quiet_both (ReadDate millis ∷ p) q h k = quiet_both p q h k
quiet_both (OnPorts (Append part durability result) ∷ p) q h k = quiet_both p q h k
quiet_both (OnPorts (Receive socket receipt) ∷ p) q h k = absurd h
quiet_both (OnPorts (Send socket to bytes) ∷ p) q h k = absurd h
quiet_both (OnPorts (BeginTick timing) ∷ p) q h k = absurd h
quiet_both (OnPorts (Renew text durability outcome) ∷ p) q h k = absurd h
quiet_both (OpenJournal path bytes ∷ p) q h k = absurd h
quiet_both (OpenText path text ∷ p) q h k = absurd h
quiet_both (Reported socket ∷ p) q h k = absurd h
quiet_both (Poll polled ∷ p) q h k = absurd h
quiet_both (NotReported socket ∷ p) q h k = absurd h
quiet_both (NotSent socket to bytes cause ∷ p) q h k = absurd h

pub quiet_then : (a b c : Option (List HostCall)) → RunsNoSession a b → RunsNoSession b c → RunsNoSession a c
quiet_then a b c (p, grows, quiet) (q, more, too) = (p ++ q, grows_both a b c p q grows more, quiet_both p q quiet too)

-- If some lines were appended, and `Logs` holds for more lines, it holds for all of them together.
pub logs_both : {A E : Type 0} (a b c : Option (List HostCall)) (lines more : List ℕ) (result : Result A E)
    → HasWritten a b lines → Logs b c more result → Logs a c (lines ++ more) result
logs_both a b c lines more (Ok done) (p, grows, writes) (q, then, also) =
    (p ++ q, grows_both a b c p q grows then, writes_both p q lines more writes also)
logs_both a b c lines more (Err fault) (p, grows, writes) rest =
    quiet_then a b c (p, grows, writes_quiet p lines writes) rest

-- If the log shows one append, `Logs` holds for its lines and its result.
pub logs_one : (a b : Option (List HostCall)) (lines : List ℕ) (durability : Durability) (result : Result (Unit {0}) AppendFault)
    → Grows a b (OnPorts (Append lines durability result) ∷ []) → Logs a b lines result
logs_one a b lines durability (Ok done) grows =
    (OnPorts (Append lines durability (Ok done)) ∷ [], grows, ([], sym (append-nil lines), refl))
logs_one a b lines durability (Err fault) grows = (OnPorts (Append lines durability (Err fault)) ∷ [], grows, tt)

pub written_none : (a : Option (List HostCall)) → HasWritten a a []
written_none a = ([], grows_none a, refl)

-- If an append did not fail, its lines have been written.
pub logs_done : (a b : Option (List HostCall)) (lines : List ℕ) (result : Result (Unit {0}) AppendFault) → is_err result ≡ false
    → Logs a b lines result → HasWritten a b lines
logs_done a b lines (Ok done) ok logs = logs
logs_done a b lines (Err fault) ok logs = absurd cc

pub logs_quiet : {A E : Type 0} (a b : Option (List HostCall)) (lines : List ℕ) (result : Result A E) → Logs a b lines result
    → RunsNoSession a b
logs_quiet a b lines (Ok done) (p, grows, writes) = (p, grows, writes_quiet p lines writes)
logs_quiet a b lines (Err fault) logs = logs

pub written_quiet : (a b : Option (List HostCall)) (lines : List ℕ) → HasWritten a b lines → RunsNoSession a b
written_quiet a b lines (p, grows, writes) = (p, grows, writes_quiet p lines writes)

-- If no session runs after lines were appended, no session runs at all.
pub written_then : (a b c : Option (List HostCall)) (lines : List ℕ) → HasWritten a b lines → RunsNoSession b c
    → RunsNoSession a c
written_then a b c lines written rest = quiet_then a b c (written_quiet a b lines written) rest

-- If the second append fails, no session runs.
pub fails_then : {A E : Type 0} (a b c : Option (List HostCall)) (lines more : List ℕ) (result : Result A E)
    → HasWritten a b lines → Logs b c more result → OnErr result (RunsNoSession a c)
fails_then a b c lines more (Ok done) written logs = tt
fails_then a b c lines more (Err fault) written logs = written_then a b c lines written logs

-- Appending the first lines runs no session, whether or not the journal is new.
pub first_quiet : {A E : Type 0} (a b : Option (List HostCall)) (is_new : Bool) (lines more : List ℕ) (result : Result A E)
    → (is_new ≡ true → Logs a b lines result) → (is_new ≡ false → Logs a b more result) → RunsNoSession a b
first_quiet a b true lines more result new old = logs_quiet a b lines result (new refl)
first_quiet a b false lines more result new old = logs_quiet a b more result (old refl)

-- If the date is read before calls that run no session, still no session runs.
pub dated_quiet : (a b c : Option (List HostCall)) (millis : Option ℕ) → Grows a b (ReadDate millis ∷ [])
    → RunsNoSession b c → RunsNoSession a c
dated_quiet a b c millis grows (p, then, quiet) =
    (ReadDate millis ∷ p, grows_both a b c (ReadDate millis ∷ []) p grows then, quiet)
