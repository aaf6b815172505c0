-- In each tick, an engine sends the same packets as the gateways that it represents.
use Rattle.mg_engine.proofs.Common.{◌≡◌, ℕ, ◌+◌, ◌-◌, ◌*◌, ◌%◌, ◌^◌, ◌≤◌, ◌++◌, not, Bool, cond, List, [], ◌∷◌, ℤ, pos, map, get_or, Option, Some, None, refl, sym, ap, ◌∙◌, arith, filter_map, range_with_len, option_map, byte_of, header_bytes, plain, Chosen, Record, slot_port, record_at, nearest_sample, Config, Datagram, Gateway, TerminationMedia, media_of, frame_in, played_sample, is_loopback, type_of, sent_to, HasMembers, sample_at, heard_now, mixed_now, packet_now, EngineState, StandsFor, IsMediaOf, media_at, map_agree, cons_option, Registry, part_of_mix, heard, mix, mixed, SlotMedia, sum_of-map, flows_now, part_now, mix_now, packets_now, packet_to, header, header_of, packet, packet_of, packets, HaveTicked, All, All-head, All-tail, IsSound, sum_of-agree, sum_of}
use Rattle.mg_engine.proofs.FlowLemmas.{flow_is, mode_found}
use Rattle.mg_engine.proofs.GatewayLemmas.{has_media, found_key}

-- ## Mixes

pub sample_is : (k : EngineState) (w : Gateway) (r : Record) (i : ℕ) → StandsFor k w →
    record_at k.rooms r.number ≡ Some r → played_sample w r.number i ≡ sample_at k.sums.frames r.slot i
sample_is k w r i h found =
    let (s, there, is) = has_media k w r.number r h found in
    ap (λ (o : Option TerminationMedia). get_or (frame_in o) i (pos 0)) there ∙
    ap (λ (xs : List ℤ). get_or xs i (pos 0)) (sym is.frame)

module _ (k : EngineState) (w : Gateway) (sound : IsSound k.rooms) (members : HasMembers k.rooms k.flows)
    (h : StandsFor k w) where
  part_is : (l t : Record) (i : ℕ) → record_at k.rooms l.number ≡ Some l → record_at k.rooms t.number ≡ Some t →
      part_of_mix w l.number i t.number ≡ part_now k l i t
  part_is l t i hearing speaking = ap (λ (b : Bool). cond b (played_sample w t.number i) (pos 0))
      (flow_is k w sound members h t.number l.number t l speaking hearing)
      ∙ ap (λ (z : ℤ). cond (flows_now k t l) z (pos 0)) (sample_is k w t i h speaking)

  heard_is : (l : Record) (i : ℕ) → record_at k.rooms l.number ≡ Some l → heard w l.number i ≡ heard_now k l i
  heard_is l i found =
      ap (λ (x : Registry). sum_of (part_of_mix w l.number i) (map (λ r. r.number) x.terminations)) h.rooms
      ∙ sum_of-map (part_of_mix w l.number i) (λ r. r.number) k.rooms.terminations
      ∙ sum_of-agree (λ (r : Record). part_of_mix w l.number i r.number) (part_now k l i) k.rooms.terminations
      (λ j d lt. part_is l (get_or k.rooms.terminations j d) i found (sound.by_number j d lt))

  mix_is : (l : Record) (i : ℕ) → record_at k.rooms l.number ≡ Some l → mix w l.number i ≡ mix_now k l i
  mix_is l i found = λ j. cond (is_loopback (mode_found k w l.number l h found j)) (sample_is k w l i h found j)
      (nearest_sample (heard_is l i found j))

  mixed_is : (l : Record) → record_at k.rooms l.number ≡ Some l → mixed w l.number ≡ mixed_now k l
  mixed_is l found = map_agree (mix w l.number) (mix_now k l) (range_with_len 0 160) (λ i. mix_is l i found)

  -- ## Packets

  header_is : (to : Chosen) (n : ℕ) (m : SlotMedia) (row : List ℤ) (s : TerminationMedia) → IsMediaOf k.config m row s →
      1 ≤ s.ticks → s.number ≡ n → header_of w to s ≡ header m (type_of to.law) ((k.config.ssrc + n) % 2 ^ 32)
  header_is to n m row s is old same =
      let time : (k.config.timestamp + 160 * (s.ticks - 1)) % 2 ^ 32 ≡ m.timestamp = omega (arith, is.timestamp, old) in
      ap (λ (x : Config). header_of (record w { config = x }) to s) h.config ∙ λ i. record {
        marker = not (sym is.is_sending i);
        payload_type = type_of to.law;
        sequence = sym is.sequence i;
        timestamp = time i;
        ssrc = (k.config.ssrc + same i) % 2 ^ 32;
      }

  packet_same : (r : Record) (to : Chosen) (s : TerminationMedia) → record_at k.rooms r.number ≡ Some r →
      media_of w r.number ≡ Some s → 1 ≤ s.ticks → packet w r to s ≡ packet_now k r to
  packet_same r to s found there old =
      let head = header_is to r.number (media_at k.media r.slot) (get_or k.sums.frames r.slot []) s
      (h.media r.number r s found there) old (found_key (λ x. x.number) r.number w.media s there) in
      λ i. record {
        from = slot_port (h.rooms i).limits r.slot;
        to = record { address = to.address; port = to.port };
        bytes = header_bytes plain (head i) ++ map (byte_of to.law) (mixed_is r found i);
      }

  packet_to_is : HaveTicked w → (r : Record) (to : Option Chosen) → record_at k.rooms r.number ≡ Some r →
      packet_to w r to ≡ option_map (packet_now k r) to
  packet_to_is old r None found = refl
  packet_to_is old r (Some to) found =
      let (s, there, is) = has_media k w r.number r h found in
      ap (λ (o : Option TerminationMedia). option_map (packet w r to) o) there ∙
      ap (λ (d : Datagram). let o : Option Datagram = Some d in o) (packet_same r to s found there (old r.number s there))

  all_packets : HaveTicked w → (rs : List Record) → All (λ r. record_at k.rooms r.number ≡ Some r) rs →
      filter_map (packet_of w) rs ≡ filter_map (λ r. option_map (packet_now k r) (sent_to r)) rs
  all_packets old [] all = refl
  all_packets old (r ∷ rs) all = λ i. cons_option
      (packet_to_is old r (sent_to r) (All-head (λ x. record_at k.rooms x.number ≡ Some x) r rs all) i)
      (all_packets old rs (All-tail (λ x. record_at k.rooms x.number ≡ Some x) r rs all) i)

  pub packets_are : HaveTicked w → packets w ≡ packets_now k
  packets_are old = ap (λ (x : Registry). filter_map (packet_of w) x.terminations) h.rooms ∙
      all_packets old k.rooms.terminations sound.by_number
