-- The open flows of a gateway.
use Rattle.std.proofs.Common.{◌≡◌, ℕ, eqb, ◌<◌, not, ◌&&◌, Bool, true, false, cond, List, [], ◌∷◌, Option, Some, None, refl, sym, ap, subst, ◌∙◌, inl, inr, ◌⊎◌, arith}
use Rattle.std.specs.Prelude.{filter, find}
use Rattle.std.specs.Option.{option_map_or}
use Rattle.std.proofs.lemmas.Bool.{and_parts, eqb-true, false≢true}
use Rattle.mg_words.specs.Mode.{talks, listens}
use Rattle.mg_words.specs.declared.mode.Mode.TheVariants.{Inactive}
use Rattle.mg_rooms.specs.Consistent.{IsConsistent}
use Rattle.mg_rooms.specs.Registry.{record_at}
use Rattle.mg_rooms.specs.declared.record.Record.{Record}
use Rattle.mg_engine.specs.Flow.{flow, may_hear}
use Rattle.mg_engine.specs.Gateway.{Gateway, context_of, mode_of, numbers_of}
use Rattle.mg_heard.specs.declared.open_flow.OpenFlow.{OpenFlow}
use Rattle.mg_heard.specs.OpenFlows.{flows_to, open_flow, open_flows}
use Rattle.mg_heard.proofs.Members.{In, Pairs, from_filter, from_flat_map, from_map, in_filter, in_flat_map, in_map, pairs_filter, pairs_flat_map, pairs_from_all, pairs_map}
use Rattle.mg_heard.proofs.OnceLemmas.{AreApart}

-- ## Open flows are listed

found_at : (p : Record → Bool) (r x : Record) (xs : List Record) (b : Bool) → p x ≡ b →
    cond b (Some x) (find p xs) ≡ Some r → (find p xs ≡ Some r → In r xs × (p r ≡ true)) →
    ((r ≡ x) ⊎ In r xs) × (p r ≡ true)
found_at p r x xs true e is k = let same : x ≡ r = cc is in (inl (sym same), ap p (sym same) ∙ e)
found_at p r x xs false e is k = let found = k is in (inr found.0, found.1)

found : (p : Record → Bool) (r : Record) (xs : List Record) → find p xs ≡ Some r → In r xs × (p r ≡ true)
found p r [] is = absurd (cc is)
found p r (x ∷ xs) is = found_at p r x xs (p x) refl is (λ k. found p r xs k)

named : (w : Gateway) (n : ℕ) (r : Record) → record_at w.rooms n ≡ Some r → In n (numbers_of w)
named w n r is =
    let (h, e) = found (λ r. eqb r.number n) r w.rooms.terminations is in
    subst (λ (k : ℕ). In k (numbers_of w)) (eqb-true r.number n e) (in_map (λ r. r.number) r w.rooms.terminations h)

talker_at : (w : Gateway) (n : ℕ) (o : Option Record) → record_at w.rooms n ≡ o →
    talks (option_map_or (λ r. r.mode) o Inactive) ≡ true → In n (numbers_of w)
talker_at w n None e h = absurd (false≢true h)
talker_at w n (Some r) e h = named w n r e

listener_at : (w : Gateway) (n : ℕ) (o : Option Record) → record_at w.rooms n ≡ o →
    listens (option_map_or (λ r. r.mode) o Inactive) ≡ true → In n (numbers_of w)
listener_at w n None e h = absurd (false≢true h)
listener_at w n (Some r) e h = named w n r e

pub open_in : (w : Gateway) (talker listener : ℕ) → flow w talker listener ≡ true →
    In (open_flow w listener talker) (open_flows w)
open_in w talker listener h =
    let hears = may_hear w.edits talker listener in
    let listening = listens (mode_of w listener) && hears in
    let talking = talks (mode_of w talker) && listening in
    let apart = not (eqb talker listener) && talking in
    let a = and_parts (eqb (context_of w talker) (context_of w listener)) apart h in
    let b = and_parts (not (eqb talker listener)) talking a.1 in
    let c = and_parts (talks (mode_of w talker)) listening b.1 in
    let d = and_parts (listens (mode_of w listener)) hears c.1 in
    in_flat_map (flows_to w) listener (open_flow w listener talker) (numbers_of w)
    (listener_at w listener (record_at w.rooms listener) refl d.0)
    (in_map (open_flow w listener) talker (filter (λ n. flow w n listener) (numbers_of w))
    (in_filter (λ n. flow w n listener) talker (numbers_of w)
    (talker_at w talker (record_at w.rooms talker) refl c.0) h))

-- ## Listed flows are open

pub record IsOpenIn (w : Gateway) (x : OpenFlow) : Type 0 where
  pub flows : flow w x.talker x.listener ≡ true
  pub is : x ≡ open_flow w x.listener x.talker

pub from_open : (w : Gateway) (x : OpenFlow) → In x (open_flows w) → IsOpenIn w x
from_open w x h =
    let (listener, i, k) = from_flat_map (flows_to w) x (numbers_of w) h in
    let (talker, j, e) = from_map (open_flow w listener) x (filter (λ n. flow w n listener) (numbers_of w)) k in
    let r = from_filter (λ n. flow w n listener) talker (numbers_of w) j in
    subst (λ (y : OpenFlow). IsOpenIn w y) (sym e) (record { flows = r.1; is = refl })

-- ## No pair is listed twice

pub heard_by : (w : Gateway) (x : OpenFlow) (listener : ℕ) → In x (flows_to w listener) → x.listener ≡ listener
heard_by w x listener h =
    let (talker, j, e) = from_map (open_flow w listener) x (filter (λ n. flow w n listener) (numbers_of w)) h in
    ap (λ (y : OpenFlow). y.listener) e

pub rising : (w : Gateway) → IsConsistent w.rooms → Pairs (λ a b. a < b) (numbers_of w)
rising w h = pairs_map (λ r later. r.number < later.number) (λ a b. a < b) (λ r. r.number) w.rooms.terminations
    (λ x y less. less)
    (pairs_from_all (λ r later. r.number < later.number) w.rooms.terminations h.terminations.rising)

pub flows_apart : (w : Gateway) → IsConsistent w.rooms → Pairs AreApart (open_flows w)
flows_apart w h =
    let up = rising w h in
    pairs_flat_map (λ a b. a < b) AreApart (flows_to w) (numbers_of w)
    (λ listener. pairs_map (λ a b. a < b) AreApart (open_flow w listener)
    (filter (λ n. flow w n listener) (numbers_of w)) (λ x y less same. let e = same.0 in absurd (omega arith))
    (pairs_filter (λ a b. a < b) (λ n. flow w n listener) (numbers_of w) up))
    (λ x y a b less i j same.
    let s = same.1 in
    let e = heard_by w a x i in
    let k = heard_by w b y j in
    absurd (omega arith))
    up
