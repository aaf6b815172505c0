-- The cost of mixes in an engine equals the cost in each gateway that it represents.
use Rattle.mg_engine.proofs.Common.{◌≡◌, ℕ, ◌+◌, Bool, cond, map, get_or, Some, sym, ap, ◌∙◌, count_by, sum_by, is_some, Record, record_at, Gateway, is_loopback, place_of, EngineState, StandsFor, sent_to, sending_work, HasMembers, silenced_now, sending_work_now, Registry, is_silenced_between, silenced_for, IsSound}
use Rattle.mg_engine.specs.Flow.{is_silenced}
use Rattle.mg_engine.proofs.FlowLemmas.{silenced_places}
use Rattle.mg_engine.proofs.PlaceLemmas.{on_place}
use Rattle.mg_engine.proofs.SumLemmas.{sum_by-agree, sum_by-map}

module _ (k : EngineState) (w : Gateway) (sound : IsSound k.rooms) (members : HasMembers k.rooms k.flows)
    (h : StandsFor k w) where
  silenced_is : (t l : Record) → record_at k.rooms t.number ≡ Some t → record_at k.rooms l.number ≡ Some l →
      is_silenced w t.number l.number ≡ is_silenced_between k.flows (place_of k.rooms t) (place_of k.rooms l)
  silenced_is t l first second =
      let (p, from) = on_place k.rooms t.number t sound first in
      let (q, to) = on_place k.rooms l.number l sound second in
      sym (silenced_places k w sound members h t.number l.number t l p q from to) ∙
      λ i. is_silenced_between k.flows (sym from.place i) (sym to.place i)

  count_is : (l : Record) → record_at k.rooms l.number ≡ Some l → silenced_for w l.number ≡ silenced_now k l
  count_is l found =
      let rs = k.rooms.terminations in
      ap (λ (x : Registry). count_by (λ n. is_silenced w n l.number) (map (λ r. r.number) x.terminations)) h.rooms
      ∙ sum_by-map (λ n. cond (is_silenced w n l.number) 1 0) (λ (r : Record). r.number) rs
      ∙ sum_by-agree (λ (r : Record). cond (is_silenced w r.number l.number) 1 0)
      (λ (r : Record). cond (is_silenced_between k.flows (place_of k.rooms r) (place_of k.rooms l)) 1 0) rs
      (λ i d lt. ap {B = ℕ} (λ (b : Bool). cond b 1 0) (silenced_is (get_or rs i d) l (sound.by_number i d lt) found))

  work_is : (r : Record) → record_at k.rooms r.number ≡ Some r → sending_work w r ≡ sending_work_now k r
  work_is r found = ap (λ (n : ℕ). cond (is_some (sent_to r)) (1 + cond (is_loopback r.mode) 0 n) 0) (count_is r found)

  pub all_work_is : sum_by (sending_work w) w.rooms.terminations ≡ sum_by (sending_work_now k) k.rooms.terminations
  all_work_is = ap (λ (x : Registry). sum_by (sending_work w) x.terminations) h.rooms
      ∙ sum_by-agree (sending_work w) (sending_work_now k) k.rooms.terminations
      (λ i d lt. work_is (get_or k.rooms.terminations i d) (sound.by_number i d lt))
