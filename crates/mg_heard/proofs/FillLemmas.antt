-- Storing the intervals for the flows to a termination, one after another.
use Rattle.std.proofs.Common.{◌≡◌, ℕ, None, ◌+◌, ◌*◌, ◌^◌, ◌<◌, ◌≤◌, Bool, true, false, cond, List, [], ◌∷◌, ◌++◌, map, get_or, take, drop, length, append_assoc, length-append, refl, sym, ap, subst, ◌∙◌, arith}
use Rattle.std.specs.Prelude.{filter, flat_map}
use Rattle.std.proofs.lemmas.List.{append-nil, length-map, map-append, map_push, take-append-drop, take_more}
use Rattle.std.proofs.lemmas.List.Concat.{flat_map-append}
use Rattle.std.proofs.lemmas.List.Elements.{filter-append}
use Rattle.mg_words.specs.Limits.{member_limit}
use Rattle.mg_rooms.specs.Consistent.{IsConsistent, IsTermination}
use Rattle.mg_engine.specs.Flow.{flow}
use Rattle.mg_engine.specs.Gateway.{Gateway, numbers_of}
use Rattle.mg_heard.specs.OpenFlows.{flows_to, open_flow, open_flows}
use Rattle.mg_heard.specs.aids.Hearers.{flow_between, flows_heard, is_heard, seats_of}
use Rattle.mg_heard.specs.aids.Opening.{IsRising, beginning_at, key_of}
use Rattle.mg_heard.specs.declared.hearer.Hearer.{Hearer}
use Rattle.mg_heard.specs.declared.moment.Moment.{Moment}
use Rattle.mg_heard.specs.declared.open_flow.OpenFlow.{OpenFlow}
use Rattle.mg_heard.specs.declared.open_interval.OpenInterval.{OpenInterval}
use Rattle.mg_heard.specs.declared.seated.Seated.{Seated}
use Rattle.mg_heard.proofs.FlowLemmas.{heard_by, rising}
use Rattle.mg_heard.proofs.HearerLemmas.{of_each}
use Rattle.mg_heard.proofs.Members.{In, Pairs, all_from_pairs, from_filter, from_map, pairs_filter, pairs_flat_map, pairs_map}

-- ## One talker after another

pub seats_more : (hs : List Hearer) (i : ℕ) (h : Hearer) → i < length hs → get_or hs i h ≡ h →
    seats_of (take (i + 1) hs) ≡ seats_of (take i hs) ++ h.seated ∷ []
seats_more hs i h there is =
    ap seats_of (take_more hs i h there ∙ ap (λ (x : Hearer). take i hs ++ x ∷ []) is)
    ∙ map_push (λ h. h.seated) (take i hs) h

heard_both : (l : Hearer) (xs ys : List Seated) → flows_heard (xs ++ ys) l ≡ flows_heard xs l ++ flows_heard ys l
heard_both l xs ys = ap (map (λ t. flow_between l.seated.party t.party)) (filter-append (is_heard l) xs ys)
    ∙ map-append (λ t. flow_between l.seated.party t.party) (filter (is_heard l) xs) (filter (is_heard l) ys)

heard_one : (l : Hearer) (t : Seated) (b : Bool) → is_heard l t ≡ b →
    flows_heard (t ∷ []) l ≡ cond b (flow_between l.seated.party t.party ∷ []) []
heard_one l t true e = ap (λ (b : Bool). map (λ t. flow_between l.seated.party t.party) (cond b (t ∷ []) [])) e
heard_one l t false e = ap (λ (b : Bool). map (λ t. flow_between l.seated.party t.party) (cond b (t ∷ []) [])) e

heard_more : (l : Hearer) (hs : List Hearer) (i : ℕ) (h : Hearer) (b : Bool) → i < length hs → get_or hs i h ≡ h →
    is_heard l h.seated ≡ b → flows_heard (seats_of (take (i + 1) hs)) l ≡
    flows_heard (seats_of (take i hs)) l ++ cond b (flow_between l.seated.party h.seated.party ∷ []) []
heard_more l hs i h b there is e =
    ap (λ (ts : List Seated). flows_heard ts l) (seats_more hs i h there is)
    ∙ heard_both l (seats_of (take i hs)) (h.seated ∷ [])
    ∙ ap (λ (fs : List OpenFlow). flows_heard (seats_of (take i hs)) l ++ fs) (heard_one l h.seated b e)

heard_few : (l : Hearer) (hs : List Hearer) (k : ℕ) →
    length (flows_heard (seats_of (take k hs)) l) ≤ length (flows_heard (seats_of hs) l)
heard_few l hs k =
    let front = seats_of (take k hs) in
    let back = seats_of (drop k hs) in
    let whole = ap (λ (ts : List Seated). flows_heard ts l) (ap seats_of (sym (take-append-drop k hs)) ∙
    map-append (λ h. h.seated) (take k hs) (drop k hs)) ∙ heard_both l front back in
    omega (arith, ap length whole, length-append (flows_heard front l) (flows_heard back l))

-- `stored` has the intervals of `start`, and then one for each flow from the first `i` terminations to `l`.
pub record HasPushed (l : Hearer) (first : Moment) (start stored : List OpenInterval) (hs : List Hearer) (i : ℕ)
    : Type 0 where
  pub is : stored ≡ start ++ map (beginning_at first) (flows_heard (seats_of (take i hs)) l)

pub pushed_none : (l : Hearer) (first : Moment) (start : List OpenInterval) (hs : List Hearer) →
    HasPushed l first start start hs 0
pushed_none l first start hs = record { is = sym (append-nil start) }

pub pushed_not : (l : Hearer) (first : Moment) (start stored : List OpenInterval) (hs : List Hearer) (i : ℕ)
    (h : Hearer) → i < length hs → get_or hs i h ≡ h → is_heard l h.seated ≡ false →
    HasPushed l first start stored hs i → HasPushed l first start stored hs (i + 1)
pushed_not l first start stored hs i h there is e p = record {
  is = p.is ∙ ap (λ (fs : List OpenFlow). start ++ map (beginning_at first) fs)
      (sym (heard_more l hs i h false there is e ∙ append-nil (flows_heard (seats_of (take i hs)) l)));
}

pub pushed_one : (l : Hearer) (first : Moment) (start stored new : List OpenInterval) (hs : List Hearer) (i : ℕ)
    (h : Hearer) (x : OpenFlow) → i < length hs → get_or hs i h ≡ h → is_heard l h.seated ≡ true →
    x ≡ flow_between l.seated.party h.seated.party → new ≡ stored ++ beginning_at first x ∷ [] →
    HasPushed l first start stored hs i → HasPushed l first start new hs (i + 1)
pushed_one l first start stored new hs i h x there is e same put p =
    let so_far = flows_heard (seats_of (take i hs)) l in
    let one = flow_between l.seated.party h.seated.party in
    record {
      is = put ∙ ap (λ (y : OpenFlow). stored ++ beginning_at first y ∷ []) same
          ∙ ap (λ (l : List OpenInterval). l ++ beginning_at first one ∷ []) p.is
          ∙ append_assoc start (map (beginning_at first) so_far) (beginning_at first one ∷ [])
          ∙ ap (λ (l : List OpenInterval). start ++ l) (sym (map_push (beginning_at first) so_far one))
          ∙ ap (λ (l : List OpenFlow). start ++ map (beginning_at first) l)
          (sym (heard_more l hs i h true there is e));
    }

-- If `start` and the flows to `l` fit within the limit, there is a place for the flow to `l` from the next termination.
pub has_place : (l : Hearer) (first : Moment) (start stored : List OpenInterval) (hs : List Hearer) (i limit : ℕ)
    (h : Hearer) → i < length hs → get_or hs i h ≡ h → is_heard l h.seated ≡ true →
    length start + length (flows_heard (seats_of hs) l) ≤ limit →
    HasPushed l first start stored hs i → length stored < limit
has_place l first start stored hs i limit h there is e room p =
    let so_far = flows_heard (seats_of (take i hs)) l in
    omega (
      arith,
      room,
      ap length p.is,
      length-append start (map (beginning_at first) so_far),
      length-map so_far (beginning_at first),
      heard_few l hs (i + 1),
      ap length (heard_more l hs i h true there is e),
      length-append so_far (flow_between l.seated.party h.seated.party ∷ []),
    )

-- ## One listener after another

pub record HasFilled (ts : List Seated) (first : Moment) (stored : List OpenInterval) (hs : List Hearer) (i : ℕ)
    : Type 0 where
  pub is : stored ≡ map (beginning_at first) (flat_map (flows_heard ts) (take i hs))
  pub few : length stored ≤ i * member_limit

pub filled_none : (ts : List Seated) (first : Moment) (hs : List Hearer) → HasFilled ts first [] hs 0
filled_none ts first hs = record { is = refl; few = omega arith }

pub filled_more : (ts : List Seated) (first : Moment) (stored new : List OpenInterval) (hs : List Hearer) (i : ℕ)
    (h : Hearer) → length (flows_heard ts h) ≤ member_limit → i < length hs → get_or hs i h ≡ h →
    new ≡ stored ++ map (beginning_at first) (flows_heard ts h) → HasFilled ts first stored hs i →
    HasFilled ts first new hs (i + 1)
filled_more ts first stored new hs i h fits there is put p =
    let flows = flows_heard ts h in
    let so_far = flat_map (flows_heard ts) (take i hs) in
    record {
      is = put ∙ ap (λ (l : List OpenInterval). l ++ map (beginning_at first) flows) p.is
          ∙ sym (map-append (beginning_at first) so_far flows)
          ∙ ap (map (beginning_at first)) (
          ap (λ (l : List OpenFlow). so_far ++ l) (sym (append-nil flows))
          ∙ sym (flat_map-append (flows_heard ts) (take i hs) (h ∷ []))
          ∙ ap (flat_map (flows_heard ts)) (sym (take_more hs i h there ∙ ap (λ (x : Hearer). take i hs ++ x ∷ []) is))
          );
      few =
          let few = p.few in
          omega (
            arith,
            ap length put,
            length-append stored (map (beginning_at first) flows),
            length-map flows (beginning_at first),
          );
    }

-- A dummy hearer for a place that doesn't exist.
abbrev pub nobody : Hearer
nobody = record {
  seated = record { party = record { number = 0; context = 0; at = None }; seat = 0 };
  talkers = 0;
}

-- ## Order of the stored intervals

below_32 : (w : Gateway) → IsConsistent w.rooms → (n : ℕ) → In n (numbers_of w) → n < 2 ^ 32
below_32 w h n i =
    let (r, j, e) = from_map (λ r. r.number) n w.rooms.terminations i in
    let each = of_each (IsTermination w.rooms.limits w.rooms.next_termination) r w.rooms.terminations
    h.terminations.each j in
    let last = h.last_termination in
    let below = each.below in
    omega arith

key_less : (w : Gateway) (a b : ℕ) → a < b → (x y : OpenFlow) → x.talker < 2 ^ 32 → x.listener ≡ a → y.listener ≡ b →
    key_of x < key_of y
key_less w a b less x y fits e k = omega arith

talker_fits : (w : Gateway) → IsConsistent w.rooms → (listener : ℕ) (x : OpenFlow) → In x (flows_to w listener) →
    x.talker < 2 ^ 32
talker_fits w h listener x i =
    let (talker, j, e) = from_map (open_flow w listener) x (filter (λ n. flow w n listener) (numbers_of w)) i in
    let fits = below_32 w h talker (from_filter (λ n. flow w n listener) talker (numbers_of w) j).0 in
    let same = ap (λ (y : OpenFlow). y.talker) e in
    omega arith

flows_rising : (w : Gateway) → IsConsistent w.rooms → Pairs (λ x y. key_of x < key_of y) (open_flows w)
flows_rising w h =
    let up = rising w h in
    pairs_flat_map (λ a b. a < b) (λ x y. key_of x < key_of y) (flows_to w) (numbers_of w)
    (λ listener. pairs_map (λ a b. a < b) (λ x y. key_of x < key_of y) (open_flow w listener)
    (filter (λ n. flow w n listener) (numbers_of w)) (λ x y less. omega arith)
    (pairs_filter (λ a b. a < b) (λ n. flow w n listener) (numbers_of w) up))
    (λ a b x y less i j. key_less w a b less x y (talker_fits w h a x i) (heard_by w x a i) (heard_by w y b j))
    up

pub filled_rising : (w : Gateway) (first : Moment) (stored : List OpenInterval) → IsConsistent w.rooms →
    stored ≡ map (beginning_at first) (open_flows w) → IsRising stored
filled_rising w first stored h is = subst IsRising (sym is)
    (all_from_pairs (λ x later. key_of x.flow < key_of later.flow) (map (beginning_at first) (open_flows w))
    (pairs_map (λ x y. key_of x < key_of y) (λ x later. key_of x.flow < key_of later.flow) (beginning_at first) (open_flows w)
    (λ x y less. less) (flows_rising w h)))
