-- Speech that does not flow to a listener does not change the packets to that listener.
use Rattle.mg_engine.proofs.Common.{◌≡◌, ℕ, ℤ, pos, ◌+◌, ◌-◌, ◌*◌, ◌%◌, ◌^◌, ◌<◌, eqb, not, ◌&&◌, Bool, true, false, List, [], ◌∷◌, ◌++◌, length, map, get_or, Option, Some, None, refl, sym, ap, ◌∙◌, arith, if◌then◌else◌, range_with_len, option_map, same_Some, byte_of, header_bytes, plain, Chosen, Record, slot_port, map_agree, sum_of-same, Datagram, Gateway, TerminationMedia, ContextEdit, Enter, Leave, Apply, media_of, frame_in, may_hear, played_sample, sent_to, type_of, slice_index_or, list_all, Registry, part_of_mix, heard, mix, mixed, get_or-append-add, get_or-map-range_with_len, packet_to, frame_of, mode_of, numbers_of, packet, header_of, NoneHearsItself, leaves_isolated, IsolatedAreNotHeard, replayed, with_frame, hears_itself, progress_of, PacketsDependOnHeard, OwnSpeechChangesNoPacket, UnheardChangesNoPacket, PayloadsAreMixes, Isolate, map-map, or_comm, and_right, ne_eqb, true≢false, nat_tests, sum_of}
use Rattle.mg_engine.proofs.GatewayLemmas.{found_in_map, found_key}
use Rattle.mg_engine.specs.Flow.{flow, is_forward, mentions}

pub none_hears_itself : NoneHearsItself
none_hears_itself w n = grind (arith, nat_tests)

-- ## Isolated terminations do not hear each other

not_heard : (since : List ContextEdit) (first second : List ℕ) (before : List ContextEdit) (a b : ℕ) →
    mentions first second a b ≡ true → list_all (leaves_isolated a b) since ≡ true
    → may_hear (since ++ Apply first second Isolate ∷ before) a b ≡ false
not_heard [] first second before a b on left = ap (λ (x : Bool). if x then false else may_hear before a b) on
not_heard (Enter n ∷ since) first second before a b on left =
    grind (arith, nat_tests, not_heard since first second before a b on)
not_heard (Leave n ∷ since) first second before a b on left = not_heard since first second before a b on left
not_heard (Apply f s association ∷ since) first second before a b on left =
    grind (arith, nat_tests, not_heard since first second before a b on)

leaves_both : (a b : ℕ) (e : ContextEdit) → leaves_isolated b a e ≡ leaves_isolated a b e
leaves_both a b (Enter n) = ap not (or_comm (eqb b n) (eqb a n))
leaves_both a b (Leave n) = refl
leaves_both a b (Apply first second association) =
    ap not (or_comm (is_forward first second b a) (is_forward first second a b))

all_leave : (a b : ℕ) (es : List ContextEdit) → list_all (leaves_isolated b a) es ≡ list_all (leaves_isolated a b) es
all_leave a b [] = refl
all_leave a b (e ∷ es) = grind (arith, nat_tests, leaves_both a b e, all_leave a b es)

no_flow : (w : Gateway) (a b : ℕ) → may_hear w.edits a b ≡ false → flow w a b ≡ false
no_flow w a b h = grind (arith, nat_tests)

pub isolated_are_not_heard : IsolatedAreNotHeard
isolated_are_not_heard w a b h = (
  no_flow w a b (ap (λ (es : List ContextEdit). may_hear es a b) h.edits ∙
      not_heard h.since h.first h.second h.before a b h.isolated h.left),
  no_flow w b a (ap (λ (es : List ContextEdit). may_hear es b a) h.edits
      ∙ not_heard h.since h.first h.second h.before b a
      (or_comm (is_forward h.first h.second b a) (is_forward h.first h.second a b) ∙ h.isolated)
      (all_leave a b h.since ∙ h.left)),
)

-- ## Packets of gateways that differ only in frames

module _ (a b : Gateway) (same_rooms : a.rooms ≡ b.rooms) (same_edits : a.edits ≡ b.edits) where
  flow_same : (talker listener : ℕ) → flow a talker listener ≡ flow b talker listener
  flow_same talker listener = λ i. flow (record a { rooms = same_rooms i; edits = same_edits i }) talker listener

  sample_same : (n k : ℕ) → frame_of a n ≡ frame_of b n → played_sample a n k ≡ played_sample b n k
  sample_same n k same = ap (λ (f : List ℤ). slice_index_or f k (pos 0)) same

  part_same : (listener k talker : ℕ) → (flow a talker listener ≡ true → frame_of a talker ≡ frame_of b talker) →
      part_of_mix a listener k talker ≡ part_of_mix b listener k talker
  part_same listener k talker same = grind (arith, nat_tests, flow_same talker listener, sample_same talker k)

  heard_same : (listener k : ℕ) → ((talker : ℕ) → flow a talker listener ≡ true →
      frame_of a talker ≡ frame_of b talker) → heard a listener k ≡ heard b listener k
  heard_same listener k same = sum_of-same (part_of_mix a listener k) (part_of_mix b listener k) (numbers_of a)
      (λ talker. part_same listener k talker (same talker))
      ∙ ap (λ (z : Registry). sum_of (part_of_mix b listener k) (map (λ r. r.number) z.terminations)) same_rooms

  mix_same : (n k : ℕ) → ((talker : ℕ) → flow a talker n ≡ true → frame_of a talker ≡ frame_of b talker) →
      (hears_itself a n ≡ true → frame_of a n ≡ frame_of b n) → mix a n k ≡ mix b n k
  mix_same n k same own = grind (
    arith,
    nat_tests,
    heard_same n k same,
    sample_same n k,
    ap (λ (z : Registry). mode_of (record a { rooms = z }) n) same_rooms,
  )

  header_same : (to : Chosen) (s t : TerminationMedia) → a.config ≡ b.config → progress_of s ≡ progress_of t →
      header_of a to s ≡ header_of b to t
  header_same to s t same e = λ i. record {
    marker = not (e i).1.1.1;
    payload_type = type_of to.law;
    sequence = ((same i).sequence + (e i).1.1.0) % 2 ^ 16;
    timestamp = ((same i).timestamp + 160 * ((e i).1.0 - 1)) % 2 ^ 32;
    ssrc = ((same i).ssrc + (e i).0) % 2 ^ 32;
  }

  packet_same : (r : Record) (to : Chosen) (s t : TerminationMedia) → header_of a to s ≡ header_of b to t →
      mixed a r.number ≡ mixed b r.number → packet a r to s ≡ packet b r to t
  packet_same r to s t header samples = λ i. record {
    from = slot_port (same_rooms i).limits r.slot;
    to = record { address = to.address; port = to.port };
    bytes = header_bytes plain (header i) ++ map (byte_of to.law) (samples i);
  }

  sent_same : (r : Record) (to : Chosen) (o k : Option TerminationMedia) → a.config ≡ b.config →
      option_map progress_of o ≡ option_map progress_of k → mixed a r.number ≡ mixed b r.number →
      option_map (packet a r to) o ≡ option_map (packet b r to) k
  sent_same r to None None same e samples = refl
  sent_same r to (Some s) (Some t) same e samples = ap (λ (d : Datagram). let o : Option Datagram = Some d in o)
      (packet_same r to s t (header_same to s t same (same_Some (progress_of s) (progress_of t) e)) samples)
  sent_same r to o k same e samples = absurd (cc e)

  packet_to_same : (r : Record) (to : Option Chosen) → a.config ≡ b.config →
      option_map progress_of (media_of a r.number) ≡ option_map progress_of (media_of b r.number) →
      mixed a r.number ≡ mixed b r.number → packet_to a r to ≡ packet_to b r to
  packet_to_same r None same e samples = refl
  packet_to_same r (Some to) same e samples = sent_same r to (media_of a r.number) (media_of b r.number) same e samples

pub packets_depend_on_heard : PacketsDependOnHeard
packets_depend_on_heard a b r config same_rooms edits progress same own =
    packet_to_same a b same_rooms edits r (sent_to r) config progress
    (map_agree (mix a r.number) (mix b r.number) (range_with_len 0 160)
    (λ k. mix_same a b same_rooms edits r.number k same own))

-- ## Unheard speech changes no packet

module _ (t : ℕ) (frame : List ℤ) where
  number_stays : (s : TerminationMedia) → (replayed t frame s).number ≡ s.number
  number_stays s = grind (arith, nat_tests)

  media_stays : (w : Gateway) (n : ℕ) → media_of (with_frame w t frame) n ≡ option_map (replayed t frame) (media_of w n)
  media_stays w n = found_in_map (λ s. s.number) (replayed t frame) n w.media number_stays

  -- The frames of other terminations are unchanged.
  frame_stays : (w : Gateway) (n : ℕ) → eqb n t ≡ false → frame_of (with_frame w t frame) n ≡ frame_of w n
  frame_stays w n apart = ap frame_in (media_stays w n) ∙ kept (media_of w n) refl where
    kept : (o : Option TerminationMedia) → media_of w n ≡ o → frame_in (option_map (replayed t frame) o) ≡ frame_in o
    kept None e = refl
    kept (Some s) e = ap (λ (b : Bool). (if b then record s { frame = frame } else s).frame)
        (ap (λ (k : ℕ). eqb k t) (found_key (λ x. x.number) n w.media s e) ∙ apart)

  -- If the speech of t does not flow to a listener, but the speech of k does, then k is not t.
  not_it : (w : Gateway) (listener k : ℕ) → flow w t listener ≡ false → flow w k listener ≡ true → eqb k t ≡ false
  not_it w listener k none some =
      ne_eqb k t (λ same. true≢false (sym some ∙ ap (λ (x : ℕ). flow w x listener) same ∙ none))

  progress_stays : (w : Gateway) (n : ℕ) → option_map progress_of (media_of (with_frame w t frame) n) ≡
      option_map progress_of (media_of w n)
  progress_stays w n = ap (option_map progress_of) (media_stays w n) ∙ each (media_of w n) where
    one : (s : TerminationMedia) (b : Bool) → progress_of (if b then record s { frame = frame } else s) ≡ progress_of s
    one s true = refl
    one s false = refl

    each : (o : Option TerminationMedia) → option_map progress_of (option_map (replayed t frame) o) ≡
        option_map progress_of o
    each None = refl
    each (Some s) = ap (λ (p : ℕ × (ℕ × (ℕ × Bool))). let o : Option (ℕ × (ℕ × (ℕ × Bool))) = Some p in o)
        (one s (eqb s.number t))

other_than : (x : Bool) → (x && true) ≡ false → x ≡ false
other_than true h = h
other_than false h = refl

pub unheard_changes_no_packet : UnheardChangesNoPacket
unheard_changes_no_packet w t frame r none other =
    packets_depend_on_heard (with_frame w t frame) w r refl refl refl (progress_stays t frame w r.number)
    (λ k flows. frame_stays t frame w k (not_it t frame w r.number k none flows))
    (λ own. frame_stays t frame w r.number (other_than (eqb r.number t)
    (ap (λ (x : Bool). eqb r.number t && x) (sym own) ∙ other)))

pub own_speech_changes_no_packet : OwnSpeechChangesNoPacket
own_speech_changes_no_packet w frame r h =
    unheard_changes_no_packet w r.number frame r (none_hears_itself w r.number)
    (and_right (eqb r.number r.number) (hears_itself w r.number) h)

-- ## Payloads

payload_at : (head : List ℕ) (f : ℤ → ℕ) (g : ℕ → ℤ) (i : ℕ) → length head ≡ 12 → i < 160 →
    get_or (head ++ map f (map g (range_with_len 0 160))) (12 + i) 0 ≡ f (g i)
payload_at head f g i long lt = ap (λ (n : ℕ). get_or (head ++ map f (map g (range_with_len 0 160))) (n + i) 0)
    (sym long) ∙ get_or-append-add head (map f (map g (range_with_len 0 160))) i 0
    ∙ ap (λ (xs : List ℕ). get_or xs i 0) (map-map f g (range_with_len 0 160)) ∙
    get_or-map-range_with_len (λ k. f (g k)) 0 160 i i 0 lt (omega arith)

pub payloads_are_mixes : PayloadsAreMixes
payloads_are_mixes w r to s i lt = payload_at (header_bytes plain (header_of w to s)) (byte_of to.law)
    (mix w r.number) i refl lt
