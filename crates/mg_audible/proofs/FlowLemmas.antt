-- The audible flows of a tick, one listener after another.
use Rattle.std.proofs.Common.{◌≡◌, ℕ, ◌+◌, ◌<◌, ◌≤◌, Bool, true, false, cond, List, [], ◌∷◌, ◌++◌, map, get_or, take, length, Result, Ok, Err, sym, ap, ◌∙◌, arith, length-append}
use Rattle.std.specs.Prelude.{filter, OnOk, OnErr}
use Rattle.std.proofs.lemmas.List.{append-nil, map-append, take_more}
use Rattle.std.proofs.lemmas.List.Elements.{filter-append}
use Rattle.mg_words.specs.Limits.{termination_limit}
use Rattle.mg_rooms.specs.Consistent.{IsConsistent}
use Rattle.mg_rooms.specs.declared.record.Record.{Record}
use Rattle.mg_core.specs.World.{World}
use Rattle.mg_heard.specs.declared.moment.Moment.{Moment}
use Rattle.mg_heard.specs.declared.open_flow.OpenFlow.{OpenFlow}
use Rattle.mg_heard.specs.OpenFlows.{open_flow}
use Rattle.mg_heard.specs.aids.Opening.{IsRising, beginning_at, key_of}
use Rattle.mg_heard.proofs.Members.{all_from_pairs, pairs_filter, pairs_from_all, pairs_map}
use Rattle.mg_audible.specs.Audible.{audible_flows, is_sent_other}

-- The flows from the talker to the terminations in `rs` to which the two worlds send different bytes.
abbrev pub flows_among : ℕ → World → World → List Record → List OpenFlow
flows_among talker v w rs = map (λ r. open_flow v.gateway r.number talker) (filter (is_sent_other v w) rs)

-- One more termination adds its flow if the two worlds send it different bytes.
among_more : (talker : ℕ) (v w : World) (rs : List Record) (i : ℕ) (r : Record) (b : Bool) → i < length rs →
    get_or rs i r ≡ r → is_sent_other v w r ≡ b → flows_among talker v w (take (i + 1) rs)
    ≡ flows_among talker v w (take i rs) ++ cond b (open_flow v.gateway r.number talker ∷ []) []
among_more talker v w rs i r b there is e =
    ap (flows_among talker v w) (take_more rs i r there ∙ ap (λ (x : Record). take i rs ++ x ∷ []) is)
    ∙ ap (map (λ r. open_flow v.gateway r.number talker)) (filter-append (is_sent_other v w) (take i rs) (r ∷ []))
    ∙ map-append (λ r. open_flow v.gateway r.number talker)
    (filter (is_sent_other v w) (take i rs)) (filter (is_sent_other v w) (r ∷ []))
    ∙ ap (λ (l : List OpenFlow). flows_among talker v w (take i rs) ++ l) (one b e)
  where
    one : (b : Bool) → is_sent_other v w r ≡ b →
        flows_among talker v w (r ∷ []) ≡ cond b (open_flow v.gateway r.number talker ∷ []) []
    one true e = ap (λ (b : Bool). map (λ r. open_flow v.gateway r.number talker) (cond b (r ∷ []) [])) e
    one false e = ap (λ (b : Bool). map (λ r. open_flow v.gateway r.number talker) (cond b (r ∷ []) [])) e

pub flows_same : (talker : ℕ) (v w : World) (rs : List Record) (i : ℕ) (r : Record) (flows : List OpenFlow) →
    i < length rs → get_or rs i r ≡ r → is_sent_other v w r ≡ false → flows ≡ flows_among talker v w (take i rs) →
    flows ≡ flows_among talker v w (take (i + 1) rs)
flows_same talker v w rs i r flows there is e h =
    h ∙ sym (among_more talker v w rs i r false there is e ∙ append-nil (flows_among talker v w (take i rs)))

-- After one more flow is stored, the stored flows are those of the first `i + 1` terminations. There is room for the
-- flow, because there are at most as many flows as terminations.
pub flows_more : {E : Type 0} (talker : ℕ) (v w : World) (rs : List Record) (i : ℕ) (r : Record)
    (x : OpenFlow) (flows new : List OpenFlow) (pushed : Result (Unit {0}) E) → i < length rs →
    length rs ≤ termination_limit → get_or rs i r ≡ r → is_sent_other v w r ≡ true →
    x ≡ open_flow v.gateway r.number talker → flows ≡ flows_among talker v w (take i rs) →
    length flows ≤ i → OnOk pushed (new ≡ flows ++ x ∷ []) → OnErr pushed (length flows ≡ termination_limit) →
    new ≡ flows_among talker v w (take (i + 1) rs)
flows_more talker v w rs i r x flows new (Ok done) there few is e same h short put full =
    put ∙ ap (λ (y : OpenFlow). flows ++ y ∷ []) same
    ∙ ap (λ (l : List OpenFlow). l ++ open_flow v.gateway r.number talker ∷ []) h
    ∙ sym (among_more talker v w rs i r true there is e)
flows_more talker v w rs i r x flows new (Err fault) there few is e same h short put full =
    absurd (omega (arith, full))

-- The intervals of the audible flows are in order of their pairs.
pub flows_rising : (talker : ℕ) (v w : World) (now : Moment) → IsConsistent v.gateway.rooms →
    IsRising (map (beginning_at now) (audible_flows talker v w))
flows_rising talker v w now h =
    let rs = v.gateway.rooms.terminations in
    let before = λ (r later : Record). r.number < later.number in
    let keys = λ (x y : OpenFlow). key_of x < key_of y in
    all_from_pairs (λ x later. key_of x.flow < key_of later.flow) (map (beginning_at now) (audible_flows talker v w))
    (pairs_map keys (λ x later. key_of x.flow < key_of later.flow) (beginning_at now) (audible_flows talker v w)
    (λ x y less. less)
    (pairs_map before keys (λ r. open_flow v.gateway r.number talker) (filter (is_sent_other v w) rs)
    (λ r later less. omega arith)
    (pairs_filter before (is_sent_other v w) rs (pairs_from_all before rs h.terminations.rising))))

-- After one more flow is stored, there are still at most as many flows as terminations.
pub few_more : {E : Type 0} (rs : List Record) (i : ℕ) (x : OpenFlow) (flows new : List OpenFlow)
    (pushed : Result (Unit {0}) E) → i < length rs → length rs ≤ termination_limit → length flows ≤ i →
    OnOk pushed (new ≡ flows ++ x ∷ []) → OnErr pushed (length flows ≡ termination_limit) → length new ≤ i + 1
few_more rs i x flows new (Ok done) there few short put full =
    omega (arith, ap length put, length-append flows (x ∷ []))
few_more rs i x flows new (Err fault) there few short put full = absurd (omega (arith, full))
