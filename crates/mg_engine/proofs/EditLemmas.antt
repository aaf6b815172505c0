-- After an edit, an engine represents the gateway after that edit, and its invariant still holds. This file also
-- exports names for the proofs of edits.
use Rattle.mg_engine.proofs.Common.{◌≡◌, ◌≢◌, ℕ, ◌<◌, ◌≤◌, eqb, not, Bool, true, false, ℤ, List, [], ◌∷◌, ◌++◌, length, map, get_or, set, Option, Some, None, refl, sym, ap, subst, ◌∙◌, arith, count_by, option_map, view, eqb-true, eq-eqb, ne_eqb, same_Some, length-map, map-append, get_or-set_same, get_or-set_other, PlayList, Limits, Record, Settings, change, IsSound, record_at, Config, silence, Gateway, TerminationMedia, ContextEdit, Enter, new_media, media_of, idle, tuned, media_with, added, subtracted, EngineState, StandsFor, IsMediaOf, media_at, find, filter, set-set, length_push, Registry, RoomFlows, play_after, media_without, SlotMedia, SumsState, find-change_other, find-push_other, initial_media, Inside, IsWholeEngine, slot_tuned}
use Rattle.std.proofs.lemmas.Option.{slice_get-get_or}
use Rattle.mg_words.specs.declared.limits.TheConstants.{TERMINATION_LIMIT}
pub use Rattle.mg_engine.proofs.MemberLemmas.{Hears, Others, another, carry, free_place, has_entered, has_left, has_mode, hears_all, hears_carry, hears_entered, hears_left, hears_mode, hears_some, members_all, no_record, same_others, stayed_at, unequal, unknown}
pub use Rattle.mg_engine.proofs.PlaceLemmas.{member_within, on_its_place, one_record}
pub use Rattle.mg_engine.proofs.JoinedLemmas.{joined_changed, joined_left}
pub use Rattle.mg_engine.proofs.SeatingLemmas.{carry_seats, seated_all, seated_mode, seated_put}
pub use Rattle.mg_engine.proofs.WorkLemmas.{rises_less, rises_twice}
use Rattle.mg_engine.specs.aids.Found.{HasStats}
use Rattle.mg_engine.proofs.KeyLemmas.{none_before_last, found_push, found_changed, found_replaced, none_left, mapped_kept, keys_left, spots_left}
pub use Rattle.mg_engine.proofs.OutcomeLemmas.{Adds, Changes, Removes, add_adds, modify_changes, move_changes, subtract_removes}
use Rattle.mg_engine.proofs.GatewayLemmas.{found_too, found_key, has_media}

-- ## The media of the termination that an edit changes

begun_is : (config : Config) (n : ℕ) → IsMediaOf config (initial_media config) silence (new_media n)
begun_is config n =
    record { play = refl; frame = refl; stats = refl; timestamp = omega arith; sequence = omega arith; is_sending = refl }

tuned_is : (config : Config) (settings : Settings) (m : SlotMedia) (row : List ℤ) (s : TerminationMedia) →
    IsMediaOf config m row s → IsMediaOf config (slot_tuned settings.depth m) row (tuned settings s)
tuned_is config settings m row s h = assumption (ap (λ (p : PlayList). play_after settings.depth p) h.play)

-- The media of one termination change and are stored in its slot; all other media are unchanged.
module _ (config : Config) (w : Registry) (ms : List SlotMedia) (fs : List (List ℤ)) (ss : List TerminationMedia) (n : ℕ)
    (d : Record) (m : SlotMedia) (t : TerminationMedia) (sound : IsSound w) (found : record_at w n ≡ Some d)
    (lt : d.slot < length ms) (mine : find (λ s. eqb s.number n) ss ≡ Some t)
    (is : IsMediaOf config m (get_or fs d.slot []) t)
    (others : (x : ℕ) (q : Record) (s : TerminationMedia) → eqb n x ≡ false → x ≢ n → q.slot ≢ d.slot →
    record_at w x ≡ Some q → find (λ s. eqb s.number x) ss ≡ Some s →
    IsMediaOf config (media_at ms q.slot) (get_or fs q.slot []) s) where
  set_by : (x : ℕ) (q : Record) (s : TerminationMedia) → record_at w x ≡ Some q →
      find (λ s. eqb s.number x) ss ≡ Some s → (b : Bool) → eqb n x ≡ b →
      IsMediaOf config (media_at (set ms d.slot m) q.slot) (get_or fs q.slot []) s
  set_by x q s at there true e =
      let same = eqb-true n x e in
      let stream : t ≡ s = same_Some t s (sym mine ∙ ap (λ (i : ℕ). find (λ s. eqb s.number i) ss) same ∙ there) in
      rw (one_record w x n q d at found (sym same), get_or-set_same ms d.slot m idle lt, sym stream) is
  set_by x q s at there false e =
      let apart : x ≢ n = λ (same : x ≡ n). unequal n x e (sym same) in
      let slots : q.slot ≢ d.slot = λ (same : q.slot ≡ d.slot). apart (sound.one_slot x n q d at found same) in
      rw (get_or-set_other ms d.slot q.slot m idle slots) (others x q s e apart slots at there)

  pub media_set : (x : ℕ) (q : Record) (s : TerminationMedia) → record_at w x ≡ Some q →
      find (λ s. eqb s.number x) ss ≡ Some s →
      IsMediaOf config (media_at (set ms d.slot m) q.slot) (get_or fs q.slot []) s
  media_set x q s at there = set_by x q s at there (eqb n x) refl

-- ## An Add

pub slot_fits : (e : Inside) (new : Registry) (n : ℕ) (d : Record) → IsWholeEngine e → IsSound new →
    new.limits ≡ e.rooms.limits → record_at new n ≡ Some d → d.slot < length e.media.items
slot_fits e new n d h sound same found =
    omega (arith, ap (λ (l : Limits). l.slots) (same ∙ h.limits), h.media, (sound.termination n d found).1.slot)

-- The counters of a termination are stored in its slot.
pub has_stats : (e : Inside) (w : Gateway) (n : ℕ) (r : Record) → IsWholeEngine e → StandsFor (view e) w →
    record_at e.rooms n ≡ Some r → HasStats (view e) w r
has_stats e w n r whole h there =
    let (s, found, same) = has_media (view e) w n r h there in
    let lt = slot_fits e e.rooms n r whole whole.sound refl there in
    rw ((whole.sound.termination n r there).0, found, slice_get-get_or e.media.items r.slot idle lt)
    (ap Some (sym same.stats))

pub room_left : (e : Inside) (new : Registry) (d : Record) → IsWholeEngine e → Adds e.rooms new d → IsSound new →
    length e.held.items < TERMINATION_LIMIT
room_left e new d h a sound =
    let more = ap length a.terminations ∙ length_push e.rooms.terminations d in
    let some = ap length h.held ∙ length-map e.rooms.terminations (λ r. r.slot) in
    omega (arith, sound.few, more, some, sound.consistent.limits.0.few_slots)

pub held_added : (old new : Registry) (d : Record) (held now : List ℕ) → Adds old new d →
    held ≡ map (λ r. r.slot) old.terminations → now ≡ held ++ d.slot ∷ [] → now ≡ map (λ r. r.slot) new.terminations
held_added old new d held now a before pushed = pushed ∙ ap (λ (slots : List ℕ). slots ++ d.slot ∷ []) before ∙
    sym (map-append (λ r. r.slot) old.terminations (d ∷ [])) ∙ ap (map (λ r. r.slot)) (sym a.terminations)

-- The media of a slot after they are reset and the depth is set.
pub begun_tuned : (kept first after : List SlotMedia) (slot : ℕ) (m : SlotMedia) (depth : Option ℕ) →
    slot < length kept → first ≡ set kept slot m → after ≡ set first slot (slot_tuned depth (media_at first slot)) →
    after ≡ set kept slot (slot_tuned depth m)
begun_tuned kept first after slot m depth lt one two =
    rw (two, one, get_or-set_same kept slot m idle lt) (set-set kept slot m (slot_tuned depth m))

-- Before an Add, no termination has the number of the new termination.
pub unknown_before : (old new : Registry) (d : Record) → Adds old new d → IsSound new →
    record_at old d.number ≡ None
unknown_before old new d a sound =
    none_before_last (λ r. eqb r.number d.number) old.terminations d (eq-eqb d.number d.number refl)
    (subst (λ (rs : List Record). count_by (λ r. eqb r.number d.number) rs ≤ 1) a.terminations
    (sound.consistent.terminations.one_number d.number))

pub none_too : (k : EngineState) (w : Gateway) (n : ℕ) →
    map (λ s. s.number) w.media ≡ map (λ r. r.number) k.rooms.terminations → record_at k.rooms n ≡ None →
    (o : Option TerminationMedia) → media_of w n ≡ o → o ≡ None
none_too k w n same none None e = refl
none_too k w n same none (Some s) e =
    let (r, found) = found_too (λ s. s.number) (λ r. r.number) n w.media k.rooms.terminations same s e in
    absurd (another k.rooms n n r found none refl)

abbrev pub with_rooms : EngineState → Registry → List SlotMedia → List RoomFlows → SumsState → EngineState
with_rooms k new after flows kept = record k { rooms = new; media = after; flows = flows; sums = kept }

pub added_stands : (k : EngineState) (new : Registry) (flows : List RoomFlows) (kept : SumsState) (w : Gateway)
    (settings : Settings) (d : Record) → Adds k.rooms new d → IsSound new → Others k.rooms new d.number →
    record_at new d.number ≡ Some d → d.slot < length k.media → d.slot < length k.sums.frames →
    kept.frames ≡ set k.sums.frames d.slot silence → Hears new flows (Enter d.number ∷ w.edits) → StandsFor k w →
    StandsFor (with_rooms k new (set k.media d.slot (slot_tuned settings.depth (initial_media k.config))) flows kept)
    (added w settings new d)
added_stands k new flows kept w settings d a sound others made lt in_rows silent hears h =
    let s = tuned settings (new_media d.number) in
    let m = slot_tuned settings.depth (initial_media k.config) in
    let none = none_too k w d.number h.numbers (unknown_before k.rooms new d a sound) (media_of w d.number) refl in
    let row = ap (λ (fs : List (List ℤ)). get_or fs d.slot []) silent ∙
    get_or-set_same k.sums.frames d.slot silence [] in_rows in
    record {
      config = h.config;
      rooms = refl;
      numbers = map-append (λ s. s.number) w.media (s ∷ []) ∙ ap (λ (ns : List ℕ). ns ++ d.number ∷ []) h.numbers
          ∙ sym (map-append (λ r. r.number) k.rooms.terminations (d ∷ []))
          ∙ ap (map (λ r. r.number)) (sym a.terminations);
      media = media_set k.config new k.media kept.frames (w.media ++ s ∷ []) d.number d m s sound made lt
          (found_push (λ s. s.number) d.number w.media s (eq-eqb d.number d.number refl) none)
          (subst (λ (x : List ℤ). IsMediaOf k.config m x s) (sym row)
          (tuned_is k.config settings (initial_media k.config) silence (new_media d.number) (begun_is k.config d.number)))
          (λ x q t e apart slots found there. subst (λ (r : List ℤ). IsMediaOf k.config (media_at k.media q.slot) r t)
          (sym (ap (λ (fs : List (List ℤ)). get_or fs q.slot []) silent ∙
          get_or-set_other k.sums.frames d.slot q.slot silence [] slots))
          (h.media x q t (sym (others x apart) ∙ found)
          (sym (find-push_other (λ s. eqb s.number x) w.media s e) ∙ there)));
      hears = hears;
    }

-- ## A Modify and a Move

-- A changed termination has the number that the command names.
pub changed_at : (k : EngineState) (new : Registry) (n : ℕ) (d : Record) → Changes k.rooms new n d → d.number ≡ n
changed_at k new n d a = a.same ∙ found_key (λ x. x.number) n k.rooms.terminations a.was a.there

left_with : (k : EngineState) (new : Registry) (n : ℕ) (d : Record) (a : Changes k.rooms new n d) →
    new.terminations ≡ change (λ x. x.number) n (λ _. Some d) k.rooms.terminations
left_with k new n d a = a.terminations ∙
    ap (λ (m : ℕ). change (λ x. x.number) m (λ _. Some d) k.rooms.terminations) (changed_at k new n d a)

-- The changed termination has its new record.
pub changed_is : (k : EngineState) (new : Registry) (n : ℕ) (d : Record) (a : Changes k.rooms new n d) →
    record_at new n ≡ Some d
changed_is k new n d a = ap (find (λ x. eqb x.number n)) (left_with k new n d a) ∙
    found_replaced (λ x. x.number) d n k.rooms.terminations a.was (changed_at k new n d a) a.there

kept_by : {B : Type 0} (f : Record → B) (k : EngineState) (new : Registry) (n : ℕ) (d : Record)
    (a : Changes k.rooms new n d) → f d ≡ f a.was → map f new.terminations ≡ map f k.rooms.terminations
kept_by f k new n d a same = ap (map f) (left_with k new n d a) ∙
    mapped_kept (λ x. x.number) f n (λ _. Some d) k.rooms.terminations a.was (ap (λ (b : _). b ∷ []) same) a.there

pub held_changed : (k : EngineState) (new : Registry) (n : ℕ) (d : Record) (held : List ℕ) →
    Changes k.rooms new n d → held ≡ map (λ r. r.slot) k.rooms.terminations → held ≡ map (λ r. r.slot) new.terminations
held_changed k new n d held a before = before ∙ sym (kept_by (λ r. r.slot) k new n d a a.slot)

-- The gateway after a command that changes a termination.
abbrev pub with_tuned : Gateway → Registry → Settings → ℕ → List ContextEdit → Gateway
with_tuned w new settings n es = record w { rooms = new; media = media_with settings n w.media; edits = es }

pub changed_stands : (k : EngineState) (new : Registry) (flows : List RoomFlows) (kept : SumsState) (w : Gateway)
    (settings : Settings) (n : ℕ) (d : Record) (es : List ContextEdit) (a : Changes k.rooms new n d) → IsSound new →
    Others k.rooms new n → d.slot < length k.media → kept.frames ≡ k.sums.frames → Hears new flows es →
    StandsFor k w → StandsFor (with_rooms k new
    (set k.media d.slot (slot_tuned settings.depth (media_at k.media d.slot))) flows kept)
    (with_tuned w new settings d.number es)
changed_stands k new flows kept w settings n d es a sound others lt rows hears h =
    let (t, was, stream) = has_media k w n a.was h a.there in
    let old = media_at k.media d.slot in
    let is = subst (λ (fs : List (List ℤ)). IsMediaOf k.config old (get_or fs d.slot []) t) (sym rows)
    (subst (λ (slot : ℕ). IsMediaOf k.config (media_at k.media slot) (get_or k.sums.frames slot []) t) (sym a.slot)
    stream) in
    subst (λ (i : ℕ). StandsFor (with_rooms k new (set k.media d.slot (slot_tuned settings.depth old)) flows kept)
    (with_tuned w new settings i es)) (sym (changed_at k new n d a)) (record {
      config = h.config;
      rooms = refl;
      numbers = mapped_kept (λ s. s.number) (λ s. s.number) n (λ s. Some (tuned settings s)) w.media t refl was ∙
          h.numbers ∙ sym (kept_by (λ r. r.number) k new n d a a.same);
      media = media_set k.config new k.media kept.frames (media_with settings n w.media) n d
          (slot_tuned settings.depth old) (tuned settings t) sound (changed_is k new n d a) lt
          (found_changed (λ s. s.number) (tuned settings) n w.media (λ x. refl) ∙ ap (option_map (tuned settings)) was)
          (tuned_is k.config settings old (get_or kept.frames d.slot []) t is)
          (λ x q s e apart slots found there. subst (λ (fs : List (List ℤ)). IsMediaOf k.config (media_at k.media q.slot)
          (get_or fs q.slot []) s) (sym rows) (h.media x q s (sym (others x apart) ∙ found)
          (sym (find-change_other (λ s. s.number) n x (λ s. Some (tuned settings s)) w.media (λ y same. refl) e) ∙
          there)));
      hears = hears;
    })

-- ## A Subtract

pub removed_at : (k : EngineState) (new : Registry) (n : ℕ) (d : Record) → Removes k.rooms new n d → d.number ≡ n
removed_at k new n d a = found_key (λ x. x.number) n k.rooms.terminations d a.there

left_terminations : (k : EngineState) (new : Registry) (n : ℕ) (d : Record) (a : Removes k.rooms new n d) →
    new.terminations ≡ change (λ x. x.number) n (λ _. None) k.rooms.terminations
left_terminations k new n d a = a.terminations ∙
    ap (λ (m : ℕ). change (λ x. x.number) m (λ _. None) k.rooms.terminations) (removed_at k new n d a)

pub held_removed : (k : EngineState) (new : Registry) (n : ℕ) (d : Record) (held now : List ℕ) →
    Removes k.rooms new n d → IsSound k.rooms → held ≡ map (λ r. r.slot) k.rooms.terminations →
    now ≡ filter (λ s. not (eqb s d.slot)) held → now ≡ map (λ r. r.slot) new.terminations
held_removed k new n d held now a sound before left = left ∙ ap (filter (λ s. not (eqb s d.slot))) before ∙
    spots_left (λ x. x.number) (λ r. r.slot) d.slot n k.rooms.terminations d
    (sound.consistent.terminations.one_slot d.slot) a.there refl ∙
    ap (map (λ r. r.slot)) (sym (left_terminations k new n d a))

-- After a Subtract, the termination does not exist.
pub gone : (k : EngineState) (new : Registry) (n : ℕ) (d : Record) → Removes k.rooms new n d → IsSound k.rooms →
    record_at new n ≡ None
gone k new n d a sound = ap (find (λ x. eqb x.number n)) (left_terminations k new n d a) ∙
    none_left (λ x. x.number) n k.rooms.terminations (sound.consistent.terminations.one_number n)

pub removed_stands : (k : EngineState) (new : Registry) (flows : List RoomFlows) (kept : SumsState)
    (w : Gateway) (n : ℕ) (d : Record) (a : Removes k.rooms new n d) → IsSound k.rooms → Others k.rooms new n →
    Hears new flows w.edits → kept.frames ≡ k.sums.frames → StandsFor k w
    → StandsFor (with_rooms k new k.media flows kept) (subtracted w new d)
removed_stands k new flows kept w n d a sound others hears rows h = record {
  config = h.config;
  rooms = refl;
  numbers = ap (λ (m : ℕ). map (λ s. s.number) (media_without m w.media)) (removed_at k new n d a)
      ∙ keys_left (λ s. s.number) n w.media ∙ ap (change (λ m. m) n (λ _. None)) h.numbers
      ∙ sym (keys_left (λ r. r.number) n k.rooms.terminations)
      ∙ ap (map (λ r. r.number)) (sym (left_terminations k new n d a));
  media = λ m q s found there.
      let apart = another new m n q found (gone k new n d a sound) in
      let e = ne_eqb n m (λ same. apart (sym same)) in
      let stream = sym (find-change_other (λ s. s.number) n m (λ _. None) w.media (λ x same. tt) e) ∙
      ap (λ (i : ℕ). find (λ s. eqb s.number m) (media_without i w.media)) (sym (removed_at k new n d a)) ∙ there in
      subst (λ (fs : List (List ℤ)). IsMediaOf k.config (media_at k.media q.slot) (get_or fs q.slot []) s) (sym rows)
      (h.media m q s (sym (others m apart) ∙ found) stream);
  hears = hears;
}
