-- The number of missing frames that a tick conceals, counted by slots and by terminations.
use Rattle.mg_engine.proofs.Common.{◌≡◌, ℕ, ◌+◌, ◌<◌, Bool, true, false, cond, List, length, map, get_or, take, Some, refl, sym, ap, ◌∙◌, arith, count_by, is_concealed, PlayList, Record, Gateway, EngineState, StandsFor, media_at, Registry, record_at, SlotMedia, conceals_in, ticked, is_concealing, conceals, concealed_in_tick, from_bool, sum_by_more, IsSound}
use Rattle.mg_engine.proofs.GatewayLemmas.{has_media}
use Rattle.mg_engine.proofs.SumLemmas.{sum_by-agree, sum_by-map}

abbrev pub conceals_slot : List SlotMedia → ℕ → Bool
conceals_slot kept slot = is_concealing (media_at kept slot)

abbrev one : Bool → ℕ
one b = cond b 1 0

byte_is : (b : Bool) → from_bool b ≡ cond b 1 0
byte_is true = refl
byte_is false = refl

-- One more slot increases the count by one if the frame of that slot is concealed, and otherwise by nothing.
pub counted_more : (kept : List SlotMedia) (slots : List ℕ) (i : ℕ) (b : Bool) → i < length slots →
    b ≡ conceals_slot kept (get_or slots i 0) →
    count_by (conceals_slot kept) (take i slots) + from_bool b ≡ count_by (conceals_slot kept) (take (i + 1) slots)
counted_more kept slots i b within is =
    omega (arith, byte_is b, ap one is, sum_by_more (λ slot. cond (conceals_slot kept slot) 1 0) slots i 0 within)

-- The play list of a termination conceals a frame if and only if the play list of its slot does.
same_concealing : (k : EngineState) (w : Gateway) → StandsFor k w → (n : ℕ) (r : Record) →
    record_at k.rooms n ≡ Some r → conceals_slot k.media r.slot ≡ conceals w n
same_concealing k w h n r found =
    let (s, there, is) = has_media k w n r h found in
    ap (λ (list : PlayList). is_concealed ((ticked list).1)) is.play ∙ ap conceals_in (sym there)

pub concealed_is : (k : EngineState) (w : Gateway) (slots : List ℕ) → StandsFor k w → IsSound k.rooms →
    slots ≡ map (λ r. r.slot) k.rooms.terminations → count_by (conceals_slot k.media) slots ≡ concealed_in_tick w
concealed_is k w slots h sound held =
    let rs = k.rooms.terminations in
    ap (count_by (conceals_slot k.media)) held
    ∙ sum_by-map (λ slot. one (conceals_slot k.media slot)) (λ (r : Record). r.slot) rs
    ∙ sum_by-agree (λ r. one (conceals_slot k.media r.slot)) (λ r. one (conceals w r.number)) rs
    (λ i d lt. let r = get_or rs i d in ap one (same_concealing k w h r.number r (sound.by_number i d lt)))
    ∙ sym (sum_by-map (λ n. one (conceals w n)) (λ (r : Record). r.number) rs)
    ∙ ap (λ (x : Registry). count_by (conceals w) (map (λ (r : Record). r.number) x.terminations)) (sym h.rooms)
