-- An engine after its next numbers are raised, and after a termination is put back.
use Rattle.mg_engine.proofs.Common.{◌≡◌, ◌≢◌, ℕ, zero, suc, ◌<◌, ◌≤◌, ◌+◌, ◌-◌, ◌*◌, ◌%◌, ◌^◌, ◌&&◌, ◌++◌, eqb, eq-eqb, eqb-true, Bool, true, false, cond, List, [], ◌∷◌, ℤ, map, length, get_or, set, take, Option, Some, None, refl, sym, ap, subst, ◌∙◌, arith, inl, inr, cases_Bool, option_map, count_by, nat_lt, length-map, get_or-set_same, get_or-set_other, get_or-map, one, IsTrue, Context, Record, Registry, record_at, context_at, Place, RoomFlows, Gateway, TerminationMedia, Config, SlotMedia, idle, EngineState, StandsFor, IsMediaOf, media_at, frame_of_row, SumsState, IsOnPlace, ShareContext, HasMembers, AreSeated, AreJoined, IsSound, IsConsistent, IsWholeEngine, Inside, sound_if, silence, find, slice_get, slice_get-get_or, nat_tests}
use Rattle.mg_rooms.specs.aids.Restoring.{restored, skipped, put_back, rejoined_in}
use Rattle.mg_rooms.proofs.RestoreLemmas.{MayRestore, restored_terminations}
use Rattle.mg_rooms.proofs.PutLemmas.{place-at, count-place}
use Rattle.mg_rooms.proofs.OrderLemmas.{length-place}
use Rattle.mg_rooms.proofs.CountLemmas.{all_counted, count-weaker}
use Rattle.mg_words.specs.declared.limits.TheConstants.{TERMINATION_LIMIT}
use Rattle.mg_flow.specs.Place.{are_together, is_same_place}
use Rattle.mg_flow.specs.aids.Table.{KeepsPlaces, hears, holds}
use Rattle.mg_flow.specs.aids.Words.{are_at}
use Rattle.mg_playout.specs.Playout.{first_list, with_depth}
use Rattle.mg_playout.specs.Places.{empty_places}
use Rattle.mg_engine.specs.aids.Media.{timestamp_before}
use Rattle.mg_engine.specs.aids.Quiet.{HasNoSpeech, IsQuiet, media_restored, sent_in, sent_of}
use Rattle.mg_engine.specs.aids.Restoring.{SaysWord, is_tick_of}
use Rattle.mg_engine.specs.declared.sent_media.SentMedia.{SentMedia}
use Rattle.mg_engine.proofs.EditLemmas.{slot_fits}
use Rattle.mg_engine.proofs.GatewayLemmas.{found_key, found_place, has_media}
use Rattle.mg_engine.proofs.MemberLemmas.{same_is, seats_differ, unequal}
use Rattle.mg_engine.proofs.KeyLemmas.{one_place}
use Rattle.mg_engine.proofs.PlaceLemmas.{apart_places, in_one_room, one_record}
use Rattle.mg_engine.proofs.PlaceLemmas as places
use Rattle.mg_engine.proofs.SendingLemmas.{nobody}
use Rattle.mg_words.specs.declared.stats.Stats.{Stats}
use Rattle.std.proofs.Common.{◌/◌}
use Rattle.std.specs.List.{insert}

-- ## Play lists

-- A list of empty places that is resized still has only empty places.
pub resized_empty : (n d : ℕ) → take d (empty_places n) ++ empty_places (d - n) ≡ empty_places d
resized_empty zero zero = refl
resized_empty zero (suc d) = let all : suc d - 0 ≡ suc d = omega arith in ap empty_places all
resized_empty (suc n) zero = let none : 0 - suc n ≡ 0 = omega arith in ap empty_places none
resized_empty (suc n) (suc d) =
    let more : suc d - suc n ≡ d - n = omega arith in
    ap (λ places. None ∷ places) (ap (λ (k : ℕ). take d (empty_places n) ++ empty_places k) more ∙ resized_empty n d)

pub restored_list : (d : ℕ) → with_depth first_list d ≡ record first_list { places = empty_places d }
restored_list d = ap (λ places. record first_list { places = places }) (resized_empty 4 d)

-- ## Registries with the same terminations and contexts

module _ (w v : Registry) (terminations : v.terminations ≡ w.terminations) (contexts : v.contexts ≡ w.contexts) where
  same_record : (n : ℕ) → record_at v n ≡ record_at w n
  same_record n = ap (find (λ r. eqb r.number n)) terminations

  same_context : (c : ℕ) → context_at v c ≡ context_at w c
  same_context c = ap (find (λ x. eqb x.number c)) contexts

  pub on_old : (n : ℕ) (r : Record) (p : Place) → IsOnPlace v n r p → IsOnPlace w n r p
  on_old n r p on = record {
    found = sym (same_record n) ∙ on.found;
    place = ap (option_map (λ x. record { room = x.room; seat = r.seat })) (sym (same_context r.context)) ∙ on.place;
  }

  pub on_new : (n : ℕ) (r : Record) (p : Place) → IsOnPlace w n r p → IsOnPlace v n r p
  on_new n r p on = record {
    found = same_record n ∙ on.found;
    place = ap (option_map (λ x. record { room = x.room; seat = r.seat })) (same_context r.context) ∙ on.place;
  }

  pub same_members : (table : List RoomFlows) → HasMembers w table → HasMembers v table
  same_members table h = record {
    each = λ n r p on. h.each n r p (on_old n r p on);
    nobody = λ p held. let (n, r, on) = h.nobody p held in (n, r, on_new n r p on);
  }

  pub same_seats : (seating : List ℕ) → AreSeated w seating → AreSeated v seating
  same_seats seating h n r p on = h n r p (on_old n r p on)

  pub same_joined : (joined : List (Option ℕ)) → AreJoined w joined → AreJoined v joined
  same_joined joined h = record {
    each = λ n r p on. h.each n r p (on_old n r p on);
    nobody = λ row room is. let (n, r, p, on, slot) = h.nobody row room is in (n, r, p, on_new n r p on, slot);
  }

skipped_terminations : (w v : Registry) (t c : ℕ) (done : Bool) → v ≡ cond done (skipped w t c) w →
    v.terminations ≡ w.terminations
skipped_terminations w v t c true is = ap (λ x. x.terminations) is
skipped_terminations w v t c false is = ap (λ x. x.terminations) is

skipped_contexts : (w v : Registry) (t c : ℕ) (done : Bool) → v ≡ cond done (skipped w t c) w → v.contexts ≡ w.contexts
skipped_contexts w v t c true is = ap (λ x. x.contexts) is
skipped_contexts w v t c false is = ap (λ x. x.contexts) is

skipped_limits : (w v : Registry) (t c : ℕ) (done : Bool) → v ≡ cond done (skipped w t c) w → v.limits ≡ w.limits
skipped_limits w v t c true is = ap (λ x. x.limits) is
skipped_limits w v t c false is = ap (λ x. x.limits) is

pub skipped_whole : (e : Inside) (v : Registry) (t c : ℕ) (done : Bool) → IsWholeEngine e →
    v ≡ cond done (skipped e.rooms t c) e.rooms → IsConsistent v → IsWholeEngine (record e { rooms = v })
skipped_whole e v t c done h is consistent =
    let rs = skipped_terminations e.rooms v t c done is in
    let xs = skipped_contexts e.rooms v t c done is in
    record {
      sound = sound_if v consistent;
      limits = skipped_limits e.rooms v t c done is ∙ h.limits;
      media = h.media;
      held = h.held ∙ ap (map (λ r. r.slot)) (sym rs);
      members = same_members e.rooms v rs xs e.flows h.members;
      seats = same_seats e.rooms v rs xs e.seating h.seats;
      places = h.places;
      row_count = h.row_count;
      joined = same_joined e.rooms v rs xs e.sums.rooms h.joined;
    }

pub skipped_quiet : (k : EngineState) (v : Registry) (t c : ℕ) (done : Bool) →
    v ≡ cond done (skipped k.rooms t c) k.rooms → IsQuiet k → IsQuiet (record k { rooms = v })
skipped_quiet k v t c done is quiet n r found =
    quiet n r (ap (find (λ r. eqb r.number n)) (sym (skipped_terminations k.rooms v t c done is)) ∙ found)

pub skipped_same : (w v : Registry) (t c : ℕ) → v ≡ cond false (skipped w t c) w → v ≡ w
skipped_same w v t c is = is

-- ## What was sent

sent_is : (config : Config) (m : SlotMedia) (row : List ℤ) (s : TerminationMedia) → IsMediaOf config m row s →
    sent_of config s ≡ sent_in m
sent_is config m row s is = λ i. record {
  timestamp = sym is.timestamp i;
  sequence = sym is.sequence i;
  is_sending = sym is.is_sending i;
  sent = ap (λ (x : Stats). x.ps) (sym is.stats) i;
  octets = ap (λ (x : Stats). x.os) (sym is.stats) i;
}

-- The media at an index are those of the termination at the same index.
media_place : (k : EngineState) (w : Gateway) (i : ℕ) → IsSound k.rooms → StandsFor k w →
    i < length k.rooms.terminations → (s : TerminationMedia) × (slice_get w.media i ≡ Some s) ×
    IsMediaOf k.config (media_at k.media (get_or k.rooms.terminations i nobody).slot)
    (frame_of_row k.sums (get_or k.rooms.terminations i nobody).slot) s
media_place k w i sound h lt =
    let rs = k.rooms.terminations in
    let r = get_or rs i nobody in
    let (s, there, is) = has_media k w r.number r h (sound.by_number i nobody lt) in
    let (j, in_media, at) = found_place (λ (s : TerminationMedia). eqb s.number r.number) w.media s s there in
    let long : length w.media ≡ length rs = sym (length-map w.media (λ s. s.number)) ∙ ap length h.numbers ∙
    length-map rs (λ r. r.number) in
    let within : j < length rs = omega (arith, in_media, long) in
    let key : (get_or rs j nobody).number ≡ r.number =
    sym (get_or-map (λ (r : Record). r.number) rs j nobody 0 within) ∙ ap (λ ns. get_or ns j 0) (sym h.numbers) ∙
    get_or-map (λ (s : TerminationMedia). s.number) w.media j s 0 in_media ∙ ap (λ (s : TerminationMedia). s.number) at ∙
    found_key (λ s. s.number) r.number w.media s there in
    let same : j ≡ i = one_place (λ (r : Record). r.number) rs j i nobody sound.consistent.terminations.one_number within
    lt key in (
      s,
      ap (slice_get w.media) (sym same) ∙ slice_get-get_or w.media j s in_media ∙ ap Some at,
      is,
    )

pub held_fits : (e : Inside) (i slot : ℕ) → IsWholeEngine e → i < length e.rooms.terminations →
    slot ≡ get_or (map (λ r. r.slot) e.rooms.terminations) i 0 → slot < length e.media.items
held_fits e i slot h lt held =
    let r = get_or e.rooms.terminations i nobody in
    let is = held ∙ get_or-map (λ (r : Record). r.slot) e.rooms.terminations i nobody 0 lt in
    omega (arith, is, slot_fits e e.rooms r.number r h h.sound refl (h.sound.by_number i nobody lt))

pub sent_at : (k : EngineState) (w : Gateway) (i slot : ℕ) (m : SlotMedia) → IsSound k.rooms → StandsFor k w →
    i < length k.rooms.terminations → slot ≡ get_or (map (λ r. r.slot) k.rooms.terminations) i 0 →
    m ≡ media_at k.media slot → option_map (sent_of w.config) (slice_get w.media i) ≡ Some (sent_in m)
sent_at k w i slot m sound h lt held at =
    let r = get_or k.rooms.terminations i nobody in
    let (s, there, is) = media_place k w i sound h lt in
    let mine : m ≡ media_at k.media r.slot = at ∙ ap (media_at k.media)
    (held ∙ get_or-map (λ (r : Record). r.slot) k.rooms.terminations i nobody 0 lt) in
    ap (option_map (sent_of w.config)) there ∙ ap Some (ap (λ c. sent_of c s) h.config ∙
    sent_is k.config (media_at k.media r.slot) (frame_of_row k.sums r.slot) s is ∙ ap sent_in (sym mine))

-- ## A termination that is put back

-- Ticks are 160 samples apart. They reach each timestamp that differs from the first by a multiple of 32, since 5 has an
-- inverse modulo 2^27.
tick_at : (first timestamp : ℕ) → timestamp < 2 ^ 32 → timestamp % 32 ≡ first % 32 → (t : ℕ)
    × (timestamp ≡ (timestamp_before first + 160 * t) % 2 ^ 32)
tick_at first timestamp lt same =
    let before = timestamp_before first in
    let q = (timestamp + 2 ^ 32 - before) / 32 in
    let below : before < 2 ^ 32 = omega arith in
    let whole : timestamp + 2 ^ 32 ≡ before + 32 * q = omega (arith, lt, same, below) in
    let sum : before + 160 * (80530637 * q) ≡ timestamp + 2 ^ 32 * (1 + 3 * q) = omega (arith, whole) in
    let rest : timestamp ≡ (timestamp + 2 ^ 32 * (1 + 3 * q)) % 2 ^ 32 = omega (arith, lt) in
    (80530637 * q, rest ∙ ap (λ (n : ℕ). n % 2 ^ 32) (sym sum))

packet_at : (first sequence : ℕ) → sequence < 2 ^ 16 → (p : ℕ) × (sequence ≡ (first + p) % 2 ^ 16)
packet_at first sequence lt = (sequence + (2 ^ 16 - first % 2 ^ 16), omega (arith, lt))

-- The media of a slot that is restored are those of a termination that has received nothing, if some tick has their
-- timestamp.
quiet_new : (config : Config) (depth : ℕ) (sent : SentMedia) → sent.timestamp < 2 ^ 32 → sent.sequence < 2 ^ 16 →
    is_tick_of config sent.timestamp ≡ true → (s : TerminationMedia) × HasNoSpeech depth s
    × IsMediaOf config (media_restored depth sent) silence s
quiet_new config depth sent few some tick =
    let (t, timestamp) = tick_at config.timestamp sent.timestamp few
    (eqb-true (sent.timestamp % 32) (config.timestamp % 32) tick) in
    let (p, sequence) = packet_at config.sequence sent.sequence some in (
      record {
        number = 0;
        play = record first_list { places = empty_places depth };
        frame = silence;
        stats = record { ps = sent.sent; pr = 0; os = sent.octets; or_ = 0 };
        ticks = t;
        packets = p;
        sent_last = sent.is_sending;
      },
      record { play = refl; frame = refl; stats = refl },
      record {
        play = refl;
        frame = refl;
        stats = refl;
        timestamp = timestamp;
        sequence = sequence;
        is_sending = refl;
      },
    )

-- A quiet engine is still quiet after a termination that has received nothing is put back.
module _ (k : EngineState) (new : Registry) (flows : List RoomFlows) (kept : SumsState) (d : Record) (sent : SentMedia)
    (sound : IsSound new) (found : record_at new d.number ≡ Some d)
    (others : (m : ℕ) → m ≢ d.number → record_at new m ≡ record_at k.rooms m) (lt : d.slot < length k.media)
    (in_rows : d.slot < length k.sums.frames) (silent : kept.frames ≡ set k.sums.frames d.slot silence)
    (few : sent.timestamp < 2 ^ 32) (some : sent.sequence < 2 ^ 16) (tick : is_tick_of k.config sent.timestamp ≡ true)
    (quiet : IsQuiet k) where
  abbrev after : EngineState
  after = record k {
    rooms = new;
    media = set k.media d.slot (media_restored d.depth sent);
    flows = flows;
    sums = kept;
  }

  -- A termination has received nothing, according to a state.
  abbrev Received : List SlotMedia → List (List ℤ) → Record → Type 0
  Received media frames r = (s : TerminationMedia) × HasNoSpeech r.depth s
      × IsMediaOf k.config (media_at media r.slot) (get_or frames r.slot []) s

  own_quiet : Received after.media kept.frames d
  own_quiet =
      let (s, none, is) = quiet_new k.config d.depth sent few some tick in
      let media = get_or-set_same k.media d.slot (media_restored d.depth sent) idle lt in
      let row = ap (λ (fs : List (List ℤ)). get_or fs d.slot []) silent ∙
      get_or-set_same k.sums.frames d.slot silence [] in_rows in
      (s, none, rw (media, row) is)

  other_quiet : (n : ℕ) (r : Record) → record_at new n ≡ Some r → n ≢ d.number → Received after.media kept.frames r
  other_quiet n r there apart =
      let (s, none, is) = quiet n r (sym (others n apart) ∙ there) in
      let slots : r.slot ≢ d.slot = λ same. apart (sound.one_slot n d.number r d there found same) in
      let media = get_or-set_other k.media d.slot r.slot (media_restored d.depth sent) idle slots in
      let row = ap (λ (fs : List (List ℤ)). get_or fs r.slot []) silent ∙
      get_or-set_other k.sums.frames d.slot r.slot silence [] slots in
      (s, none, rw (media, row) is)

  pub put_quiet : IsQuiet after
  put_quiet n r there = elim (cases_Bool (eqb n d.number)) [
    | inl e ↦
        let is = one_record new d.number n d r found there (sym (eqb-true n d.number e)) in
        subst (Received after.media kept.frames) is own_quiet
    | inr e ↦ other_quiet n r there (unequal n d.number e)
  ]

rejoined_limits : (w : Registry) (c room n : ℕ) (o : Option Context) → (rejoined_in w c room n o).limits ≡ w.limits
rejoined_limits w c room n None = refl
rejoined_limits w c room n (Some x) = refl

pub restored_limits : (w : Registry) (r : Record) (room : ℕ) → (restored w r room).limits ≡ w.limits
restored_limits w r room = rejoined_limits (put_back w r) r.context room r.number (context_at w r.context)

-- The held slots after a termination is put back.
pub held_put : (old new : Registry) (d : Record) (room rank : ℕ) (held now : List ℕ) → IsConsistent old →
    MayRestore old d room → new ≡ restored old d room → held ≡ map (λ r. r.slot) old.terminations →
    rank ≡ count_by (λ r. nat_lt r.number d.number) new.terminations → now ≡ insert held rank d.slot →
    now ≡ map (λ r. r.slot) new.terminations
held_put old new d room rank held now h may is before at inserted =
    let rs = ap (λ x. x.terminations) is ∙ restored_terminations old d room in
    let test : Record → Bool = λ r. nat_lt r.number d.number in
    let own : one (test d) ≡ 0 = grind (arith, nat_tests) in
    let same : rank ≡ count_by test old.terminations =
    omega (arith, at ∙ ap (count_by test) rs, count-place (λ r. r.number) test d old.terminations, own) in
    inserted ∙ ap (λ (slots : List ℕ). insert slots rank d.slot) before ∙
    ap (λ (i : ℕ). insert (map (λ r. r.slot) old.terminations) i d.slot) same ∙
    sym (place-at (λ r. r.number) (λ r. r.slot) d old.terminations h.terminations.rising) ∙
    ap (map (λ r. r.slot)) (sym rs)

-- The list of held slots has room for one more slot, whose index is at most the list's length.
pub insert_fits : (e : Inside) (new : Registry) (d : Record) (room rank : ℕ) → IsWholeEngine e →
    new ≡ restored e.rooms d room → IsSound new →
    rank ≡ count_by (λ r. nat_lt r.number d.number) new.terminations →
    (rank ≤ length e.held.items) × (length e.held.items < TERMINATION_LIMIT)
insert_fits e new d room rank h is sound at =
    let rs = ap (λ x. x.terminations) is ∙ restored_terminations e.rooms d room in
    let test : Record → Bool = λ r. nat_lt r.number d.number in
    let own : one (test d) ≡ 0 = grind (arith, nat_tests) in
    let same = at ∙ ap (count_by test) rs in
    let parts = count-place (λ r. r.number) test d e.rooms.terminations in
    let all = all_counted (λ (_ : Record). true) e.rooms.terminations (λ x. refl) in
    let fewer = count-weaker test (λ _. true) e.rooms.terminations (λ x _. refl) in
    let some = ap length h.held ∙ length-map e.rooms.terminations (λ r. r.slot) in
    let more = ap length rs ∙ length-place (λ r. r.number) d e.rooms.terminations in (
      omega (arith, same, parts, own, all, fewer, some),
      omega (arith, sound.few, more, some, sound.consistent.limits.0.few_slots),
    )

-- ## A last word

pub together_at : (w : Registry) (table : List RoomFlows) (m n : ℕ) (t l : Record) (p q : Place) → IsSound w →
    HasMembers w table → ShareContext w m n t l p q → IsTrue (are_together (holds table) p q)
together_at w table m n t l p q sound all s = rw (
  (all.each m t p s.first).held,
  (all.each n l q s.second).held,
  eq-eqb p.room q.room (in_one_room w t l p q s.first.place s.second.place s.same),
  seats_differ w m n t l p q sound s,
) refl

pub kept_members : (w : Registry) (old new : List RoomFlows) → KeepsPlaces old new → HasMembers w old → HasMembers w new
kept_members w old new kept h = record {
  each = λ n r p on. let says = h.each n r p on in record {
    held = kept.held p ∙ says.held;
    talks = kept.talkers p ∙ says.talks;
    listens = kept.listeners p ∙ says.listens;
  };
  nobody = λ p held. h.nobody p (sym (kept.held p) ∙ held);
}

-- Two places of members are the same if and only if the members are.
same_at : (w : Registry) (m n : ℕ) (a b : Record) (p q : Place) → IsSound w → IsOnPlace w m a p → IsOnPlace w n b q →
    is_same_place p q ≡ eqb m n
same_at w m n a b p q sound first second = elim (cases_Bool (eqb m n)) [
  | inl e ↦ rw (e, places.one_place w m n a b p q first second (eqb-true m n e)) (same_is q)
  | inr e ↦ rw e (apart_places w m n a b p q sound first second (unequal m n e))
]

pub word_said : (k : EngineState) (new : List RoomFlows) (talker listener : ℕ) (a b : Record) (from to : Place)
    (is_heard : Bool) → IsSound k.rooms → HasMembers k.rooms k.flows → ShareContext k.rooms talker listener a b from to →
    ((p q : Place) → IsTrue (are_together (holds k.flows) p q) → hears new p q ≡
    cond (are_at from to p q) is_heard (hears k.flows p q)) → SaysWord k (record k { flows = new }) talker listener is_heard
word_said k new talker listener a b from to is_heard sound all on set m n t l p q s =
    set p q (together_at k.rooms k.flows m n t l p q sound all s) ∙
    ap (λ (c : Bool). cond c is_heard (hears k.flows p q))
    (ap (λ (c : Bool). c && is_same_place q to) (same_at k.rooms m talker t a p from sound s.first on.first) ∙
    ap (λ (c : Bool). eqb m talker && c) (same_at k.rooms n listener l b q to sound s.second on.second))
