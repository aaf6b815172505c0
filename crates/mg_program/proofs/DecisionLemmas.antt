-- The calls on the host that a gateway makes for the calls of a session.
use Rattle.std.proofs.Common.{◌≡◌, ℕ, Bool, true, false, List, [], ◌∷◌, ◌++◌, map, Option, Some, None, Result, refl, sym, ap, subst, ◌∙◌, append_assoc, append-nil}
use Rattle.std.proofs.Math.Logic.{∥∥₁_map}
use Rattle.std.specs.Prelude.{IfSome, is_ok, slice_set}
use Rattle.mg_clock.specs.declared.timing.Timing.{Timing}
use Rattle.mg_ports.specs.declared.call.Call.{Call}
use Rattle.mg_host.specs.declared.host_call.HostCall.{HostCall}
use Rattle.mg_host.specs.declared.host_call.HostCall.TheVariants.{Poll, Reported}
use Rattle.mg_host.specs.HostCalls.{Grows, Polls, mark_all, on_ports, port_calls}
use Rattle.mg_program.specs.Decisions.{Decides, HasDecided, Knows, MayCall, after, all_ready, first_known, knows}
use Rattle.mg_program.specs.aids.Doing.{DoesCalls}
use Rattle.mg_program.proofs.PortLemmas.{ports_both}

decides_both : (k : Knows) (p q : List HostCall) (m n : Knows) → Decides k p m → Decides m q n → Decides k (p ++ q) n
decides_both k [] q m n here then = subst (λ (s : Knows). Decides s q n) here then
decides_both k (call ∷ p) q m n (may, rest) then = (may, decides_both (after k call) p q m n rest then)

-- If the host did the calls `p` and then the calls `q`, it did the calls `p ++ q`.
pub does_both : (a b c : Option (List HostCall)) (p q : List Call) (k m n : Knows) → DoesCalls a b p k m → DoesCalls b c q m n
    → DoesCalls a c (p ++ q) k n
does_both a b None p q k m n h g = tt
does_both a None (Some c) p q k m n h g = absurd g
does_both None (Some b) (Some c) p q k m n h g = absurd h
does_both (Some a) (Some b) (Some c) p q k m n (done, all, are, decides) (more, grown, also, goes) = (
  done ++ more,
  grown ∙ ap (λ (l : List HostCall). l ++ more) all ∙ append_assoc a done more,
  ports_both done more ∙ ap (λ (l : List Call). l ++ on_ports more) are ∙ ap (λ (l : List Call). p ++ l) also,
  decides_both k done more m n decides goes,
)

-- If the host did one call that the gateway may make, `DoesCalls` holds for the session's call that it stands for, if
-- any.
pub does_one : (a b : Option (List HostCall)) (call : HostCall) (k : Knows) → Grows a b (call ∷ []) → MayCall k call
    → DoesCalls a b (on_ports (call ∷ [])) k (after k call)
does_one a None call k grows may = tt
does_one None (Some b) call k grows may = absurd grows
does_one (Some a) (Some b) call k grows may = (call ∷ [], grows, refl, (may, refl))

-- If the host did a session's calls, the session's log has grown by these calls.
pub does_logged : (a b : Option (List HostCall)) (p : List Call) (k n : Knows) → DoesCalls a b p k n
    → Grows (port_calls a) (port_calls b) p
does_logged a None p k n h = tt
does_logged None (Some b) p k n h = absurd h
does_logged (Some a) (Some b) p k n (done, all, are, decides) =
    ap on_ports all ∙ ports_both a done ∙ ap (λ (l : List Call). on_ports a ++ l) are

-- The host did calls that the gateway may make, and the gateway's knowledge after these calls is `k`.
abbrev Did : (a b : Option (List HostCall)) → Knows → Type 0
Did a b k = (done : List HostCall) × Grows a b done × IfSome b (λ all. Decides first_known done k)

did_more : (a b c : Option (List HostCall)) (p : List Call) (k n : Knows) → Did a b k → DoesCalls b c p k n → Did a c n
did_more a b None p k n did does = ([], tt, tt)
did_more a None (Some c) p k n did does = absurd does
did_more None (Some b) (Some c) p k n (done, grows, decides) does = absurd grows
did_more (Some a) (Some b) (Some c) p k n (done, grows, decides) (more, grown, are, goes) = (
  done ++ more,
  grown ∙ ap (λ (l : List HostCall). l ++ more) grows ∙ append_assoc a done more,
  decides_both first_known done more k n decides goes,
)

did_nothing : (a : Option (List HostCall)) → Did a a first_known
did_nothing None = ([], tt, tt)
did_nothing (Some a) = ([], sym (append-nil a), refl)

-- After the host does a session's next calls, `HasDecided` still holds.
pub decided_more : (a b c : Option (List HostCall)) (p : List Call) (k n : Knows) → HasDecided a b k → DoesCalls b c p k n
    → HasDecided a c n
decided_more a b c p k n decided does = ∥∥₁_map decided (λ (did : Did a b k). did_more a b c p k n did does)

pub decided_none : (a b : Option (List HostCall)) → b ≡ a → HasDecided a b first_known
decided_none a b is = subst (λ (x : Option (List HostCall)). HasDecided a x first_known) (sym is) ∣ did_nothing a ∣₁

-- ## Polls

reports_quiet : (sockets : List ℕ) (call : HostCall) → on_ports (call ∷ []) ≡ []
    → on_ports (map Reported sockets ++ call ∷ []) ≡ []
reports_quiet [] call quiet = quiet
reports_quiet (socket ∷ sockets) call quiet = reports_quiet sockets call quiet

reports_known : (timing : Timing) (ready : List Bool) (asked : Bool) (sockets : List ℕ) (call : HostCall) (last : Knows)
    → ((old : Bool) → Decides (knows timing (mark_all sockets ready) old) (call ∷ []) last)
    → Decides (knows timing ready asked) (map Reported sockets ++ call ∷ []) last
reports_known timing ready asked [] call last then = then asked
reports_known timing ready asked (socket ∷ sockets) call last then =
    (tt, reports_known timing (slice_set ready socket true) false sockets call last then)

-- If the host was polled successfully, the sockets that it reported are ready.
pub asked_well : {E : Type 0} (a b : Option (List HostCall)) (timing : Timing) (old new : List Bool)
    (asked : Bool) (result : Result (Unit {0}) E) → Polls a b old new result → is_ok result ≡ true
    → DoesCalls a b [] (knows timing old asked) (knows timing new true)
asked_well a None timing old new asked result (sockets, grows, marked) ok = tt
asked_well None (Some b) timing old new asked result (sockets, grows, marked) ok = absurd grows
asked_well (Some a) (Some b) timing old new asked result (sockets, grows, marked) ok = (
  map Reported sockets ++ Poll true ∷ [],
  subst (λ (polled : Bool). b ≡ a ++ (map Reported sockets ++ Poll polled ∷ [])) ok grows,
  reports_quiet sockets (Poll true) refl,
  reports_known timing old asked sockets (Poll true) (knows timing new true)
      (λ before. (tt, ap (λ (ready : List Bool). knows timing ready true) marked)),
)

-- If polling the host failed, all sockets are ready.
pub asked_badly : {E : Type 0} (a b : Option (List HostCall)) (timing : Timing) (old new : List Bool)
    (asked : Bool) (result : Result (Unit {0}) E) → Polls a b old new result → is_ok result ≡ false
    → DoesCalls a b [] (knows timing old asked) (knows timing all_ready true)
asked_badly a None timing old new asked result (sockets, grows, marked) ok = tt
asked_badly None (Some b) timing old new asked result (sockets, grows, marked) ok = absurd grows
asked_badly (Some a) (Some b) timing old new asked result (sockets, grows, marked) ok = (
  map Reported sockets ++ Poll false ∷ [],
  subst (λ (polled : Bool). b ≡ a ++ (map Reported sockets ++ Poll polled ∷ [])) ok grows,
  reports_quiet sockets (Poll false) refl,
  reports_known timing old asked sockets (Poll false) (knows timing all_ready true) (λ before. (tt, refl)),
)
