-- The steps that preserve agreement outside some terminations.
use Rattle.std.specs.Prelude.{◌≡◌, ℕ, List, Result, Ok, Err}
use Rattle.std.specs.Option.{option_map}
use Rattle.mg_words.specs.declared.error_number.ErrorNumber.{ErrorNumber}
use Rattle.mg_rooms.specs.declared.settings.Settings.{Settings}
use Rattle.mg_rooms.specs.declared.target.Target.{Target}
use Rattle.mg_engine.specs.declared.taken.Taken.{Taken}
use Rattle.mg_engine.specs.declared.topology_triple.TopologyTriple.{TopologyTriple}
use Rattle.mg_engine.specs.Apart.{AgreeOutside, IsPortAmong, but_received}
use Rattle.mg_engine.specs.Arrival.{Takes}
use Rattle.mg_engine.specs.Gateway.{Gateway, stats_of}
use Rattle.mg_engine.specs.Outcome.{add, modify, move_to, subtract, apply_triples}
use Rattle.mg_engine.specs.Tick.{all_played, after_tick}

-- Both gateways refuse an edit with the same error, or both apply it with the same result and still agree.
abbrev pub EndsAlike : {A : Type 0} → List ℕ → Result (Gateway × A) ErrorNumber
    → Result (Gateway × A) ErrorNumber → Type 0
EndsAlike some (Ok p) (Ok q) = AgreeOutside some p.0 q.0 × (p.1 ≡ q.1)
EndsAlike some (Err e) (Err d) = e ≡ d
EndsAlike some _ _ = ⊥

pub record SameEditsKeepAgreement : Type 0 where
  pub add : (some : List ℕ) (a b : Gateway) (target : Target) (settings : Settings)
      → AgreeOutside some a b → EndsAlike some (add a target settings) (add b target settings)
  pub modify : (some : List ℕ) (a b : Gateway) (target : Target) (n : ℕ) (settings : Settings)
      → AgreeOutside some a b
      → EndsAlike some (modify a target n settings) (modify b target n settings)
  pub move_to : (some : List ℕ) (a b : Gateway) (target : Target) (n : ℕ) (settings : Settings)
      → AgreeOutside some a b
      → EndsAlike some (move_to a target n settings) (move_to b target n settings)
  pub subtract : (some : List ℕ) (a b : Gateway) (target : Target) (n : ℕ)
      → AgreeOutside some a b → EndsAlike some (subtract a target n) (subtract b target n)
  pub triples : (some : List ℕ) (a b : Gateway) (target : Target) (xs : List TopologyTriple)
      → AgreeOutside some a b
      → EndsAlike some (apply_triples a target xs) (apply_triples b target xs)

abbrev pub SameArrivalKeepsAgreement : Type 0
SameArrivalKeepsAgreement =
    (some : List ℕ) (a b x y : Gateway) (port : ℕ) (source bytes : List ℕ) (t u : Taken)
    → AgreeOutside some a b → Takes a port source bytes x t → Takes b port source bytes y u
    → AgreeOutside some x y

-- Suppose two gateways agree outside some terminations. If only one of the gateways receives an RTP datagram for one of
-- these terminations, they still agree.
abbrev pub OneArrivalKeepsAgreement : Type 0
OneArrivalKeepsAgreement =
    (some : List ℕ) (a b x : Gateway) (port : ℕ) (source bytes : List ℕ) (t : Taken)
    → AgreeOutside some a b → IsPortAmong some a port → Takes a port source bytes x t
    → AgreeOutside some x b

abbrev pub AgreementIsMutual : Type 0
AgreementIsMutual =
    (some : List ℕ) (a b : Gateway) → AgreeOutside some a b → AgreeOutside some b a

abbrev pub SameTickKeepsAgreement : Type 0
SameTickKeepsAgreement =
    (some : List ℕ) (a b : Gateway) → AgreeOutside some a b
    → AgreeOutside some (all_played a) (all_played b)
    × AgreeOutside some (after_tick a) (after_tick b)

-- If two gateways agree outside some terminations, the counters of every termination are equal in both, except for the
-- counters of received packets.
abbrev pub SameStatsButReceived : Type 0
SameStatsButReceived =
    (some : List ℕ) (a b : Gateway) (n : ℕ) → AgreeOutside some a b
    → option_map but_received (stats_of a n) ≡ option_map but_received (stats_of b n)
