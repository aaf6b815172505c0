-- An engine and the gateways that it represents agree on who hears whom.
use Rattle.mg_engine.proofs.Common.{◌≡◌, ℕ, ◌&&◌, not, eqb, Bool, true, false, List, Some, refl, sym, ap, subst, ◌∙◌, is_some, eqb-true, eq-eqb, ne_eqb, Record, record_at, Place, Gateway, IsOnPlace, EngineState, StandsFor, ShareContext, HasMembers, IsSound, flows_between, Registry, flows_now, context_in, mode_or_inactive, mode_of, context_of, arith, nat_tests}
use Rattle.mg_flow.specs.aids.Table as flow
use Rattle.mg_engine.specs.Flow.{share_context, is_silenced}
use Rattle.mg_engine.specs.Flow as worlds
use Rattle.mg_engine.specs.aids.Masks.{RepresentsFlows}
use Rattle.mg_engine.proofs.IsolationLemmas.{none_hears_itself}
use Rattle.mg_engine.proofs.MemberLemmas.{seats_differ, unequal}
use Rattle.mg_engine.proofs.PlaceLemmas.{on_place, one_place, in_one_room, in_one_context, hears_apart, no_hearing}

pub mode_found : (k : EngineState) (w : Gateway) (n : ℕ) (r : Record) → StandsFor k w → record_at k.rooms n ≡ Some r →
    mode_of w n ≡ r.mode
mode_found k w n r h found = ap (λ (x : Registry). mode_or_inactive (record_at x n)) h.rooms ∙
    ap mode_or_inactive found

pub context_found : (k : EngineState) (w : Gateway) (n : ℕ) (r : Record) → StandsFor k w →
    record_at k.rooms n ≡ Some r → context_of w n ≡ r.context
context_found k w n r h found = ap (λ (x : Registry). context_in (record_at x n)) h.rooms ∙ ap context_in found

-- ## Properties of every table of flows

pub nobody_hears_itself : (table : List flow.RoomFlows) (p : Place) → flow.hears table p p ≡ false
nobody_hears_itself table p = grind (arith, nat_tests)

pub silenced_apart : (table : List flow.RoomFlows) (p q : Place) → eqb p.room q.room ≡ false →
    flow.is_silenced table p q ≡ false
silenced_apart table p q e = grind (arith, nat_tests)

pub not_itself : (table : List flow.RoomFlows) (p : Place) → flow.is_silenced table p p ≡ false
not_itself table p = grind (arith, nat_tests)

-- ## Flow between the places of two members

module _ (k : EngineState) (w : Gateway) (sound : IsSound k.rooms) (all : HasMembers k.rooms k.flows)
    (h : StandsFor k w) where
  pub flow_there : (talker listener : ℕ) (t l : Record) (p q : Place) → ShareContext k.rooms talker listener t l p q →
      flow.flows k.flows p q ≡ worlds.flow w talker listener
  flow_there talker listener t l p q s =
      rw (
        (all.each talker t p s.first).talks,
        (all.each listener l q s.second).listens,
        h.hears talker listener t l p q s,
        context_found k w talker t h s.first.found,
        context_found k w listener l h s.second.found,
        mode_found k w talker t h s.first.found,
        mode_found k w listener l h s.second.found,
        eq-eqb t.context l.context s.same,
        ne_eqb talker listener s.apart,
      ) refl

  there_is : (n : ℕ) (r : Record) → record_at k.rooms n ≡ Some r → is_some (record_at w.rooms n) ≡ true
  there_is n r found = ap (λ (x : Registry). is_some (record_at x n)) h.rooms ∙ ap is_some found

  shared : (talker listener : ℕ) (t l : Record) → record_at k.rooms talker ≡ Some t →
      record_at k.rooms listener ≡ Some l → share_context w talker listener ≡
      (eqb t.context l.context && not (eqb talker listener))
  shared talker listener t l first second = rw (
    there_is talker t first,
    there_is listener l second,
    context_found k w talker t h first,
    context_found k w listener l h second,
  ) refl

  silenced_there : (talker listener : ℕ) (t l : Record) (p q : Place) → ShareContext k.rooms talker listener t l p q →
      flow.is_silenced k.flows p q ≡ is_silenced w talker listener
  silenced_there talker listener t l p q s =
      let from = all.each talker t p s.first in
      rw (
        h.hears talker listener t l p q s,
        from.talks,
        from.held,
        (all.each listener l q s.second).held,
        eq-eqb p.room q.room (in_one_room k.rooms t l p q s.first.place s.second.place s.same),
        seats_differ k.rooms talker listener t l p q sound s,
        shared talker listener t l s.first.found s.second.found,
        eq-eqb t.context l.context s.same,
        ne_eqb talker listener s.apart,
        mode_found k w talker t h s.first.found,
      ) refl

  -- A test of two places agrees with a test of the members there if it does so in three cases. These are a single
  -- member, two members of a context, and members of different contexts, which are in different rooms.
  module _ (places : Place → Place → Bool) (members : ℕ → ℕ → Bool)
      (itself : (n : ℕ) (r : Record) (p : Place) → record_at k.rooms n ≡ Some r → places p p ≡ members n n)
      (together : (m n : ℕ) (t l : Record) (p q : Place) → ShareContext k.rooms m n t l p q → places p q ≡ members m n)
      (apart : (m n : ℕ) (t l : Record) (p q : Place) → record_at k.rooms m ≡ Some t → record_at k.rooms n ≡ Some l →
      eqb t.context l.context ≡ false → eqb p.room q.room ≡ false → places p q ≡ members m n) where
    by_case : (m n : ℕ) (t l : Record) (p q : Place) → IsOnPlace k.rooms m t p → IsOnPlace k.rooms n l q →
        (same shared : Bool) → eqb m n ≡ same → eqb t.context l.context ≡ shared → places p q ≡ members m n
    by_case m n t l p q first second true shared e f =
        let is = eqb-true m n e in
        rw (one_place k.rooms m n t l p q first second is, is) (itself n l q second.found)
    by_case m n t l p q first second false true e f = together m n t l p q (record {
      first = first;
      second = second;
      same = eqb-true t.context l.context f;
      apart = unequal m n e;
    })
    by_case m n t l p q first second false false e f = apart m n t l p q first.found second.found f
        (ne_eqb p.room q.room (λ same. unequal t.context l.context f
        (in_one_context k.rooms t l p q sound first.place second.place same)))

    by_places : (m n : ℕ) (t l : Record) (p q : Place) → IsOnPlace k.rooms m t p → IsOnPlace k.rooms n l q →
        places p q ≡ members m n
    by_places m n t l p q first second = by_case m n t l p q first second (eqb m n) (eqb t.context l.context) refl refl

  pub flow_places : (talker listener : ℕ) (t l : Record) (p q : Place) → IsOnPlace k.rooms talker t p →
      IsOnPlace k.rooms listener l q → flow.flows k.flows p q ≡ worlds.flow w talker listener
  flow_places = by_places (flow.flows k.flows) (worlds.flow w)
      (λ n r p found. no_hearing k.flows p p (nobody_hears_itself k.flows p) ∙ sym (none_hears_itself w n))
      flow_there (λ m n t l p q first second f e. no_hearing k.flows p q (hears_apart k.flows p q e) ∙
      sym (rw (context_found k w m t h first, context_found k w n l h second, f) refl))

  pub flow_is : (talker listener : ℕ) (t l : Record) → record_at k.rooms talker ≡ Some t →
      record_at k.rooms listener ≡ Some l → worlds.flow w talker listener ≡ flows_now k t l
  flow_is talker listener t l first second =
      let (p, from) = on_place k.rooms talker t sound first in
      let (q, to) = on_place k.rooms listener l sound second in
      sym (flow_places talker listener t l p q from to) ∙
      λ i. flows_between k.flows (sym from.place i) (sym to.place i)

  -- These lemmas show that the table and the gateway agree on who hears whom, and on who is silenced for whom.
  pub hears_places : (talker listener : ℕ) (t l : Record) (p q : Place) → IsOnPlace k.rooms talker t p →
      IsOnPlace k.rooms listener l q → flow.hears k.flows p q ≡ worlds.hears w talker listener
  hears_places = by_places (flow.hears k.flows) (worlds.hears w) (λ n r p found. nobody_hears_itself k.flows p ∙
      sym (rw (shared n n r r found found, eq-eqb r.context r.context refl, eq-eqb n n refl) refl))
      (λ m n t l p q s. h.hears m n t l p q s ∙ sym (rw (
        shared m n t l s.first.found s.second.found,
        eq-eqb t.context l.context s.same,
        ne_eqb m n s.apart,
      ) refl))
      (λ m n t l p q first second f e. hears_apart k.flows p q e ∙ sym (rw (shared m n t l first second, f) refl))

  pub silenced_places : (talker listener : ℕ) (t l : Record) (p q : Place) → IsOnPlace k.rooms talker t p →
      IsOnPlace k.rooms listener l q → flow.is_silenced k.flows p q ≡ is_silenced w talker listener
  silenced_places = by_places (flow.is_silenced k.flows) (is_silenced w) (λ n r p found. not_itself k.flows p ∙
      sym (rw (shared n n r r found found, eq-eqb r.context r.context refl, eq-eqb n n refl) refl))
      silenced_there
      (λ m n t l p q first second f e. silenced_apart k.flows p q e ∙ sym (rw (shared m n t l first second, f) refl))

  -- ## The table as a whole

  pub tells : RepresentsFlows w k.flows
  tells = record {
    held = λ n r p on. (all.each n r p (subst (λ (x : Registry). IsOnPlace x n r p) h.rooms on)).held;
    nobody = λ p held. let (n, r, on) = all.nobody p held in
        (n, r, subst (λ (x : Registry). IsOnPlace x n r p) (sym h.rooms) on);
    flows = λ talker listener t l p q s. flow_there talker listener t l p q
        (subst (λ (x : Registry). ShareContext x talker listener t l p q) h.rooms s);
    silenced = λ talker listener t l p q s. silenced_there talker listener t l p q
        (subst (λ (x : Registry). ShareContext x talker listener t l p q) h.rooms s);
  }
