-- After each step of a tick, an engine represents the gateway after that step.
use Rattle.mg_engine.proofs.Common.{◌≡◌, ℕ, ◌≤◌, Bool, true, false, List, ℤ, [], map, get_or, Option, Some, None, refl, sym, ap, subst, ◌∙◌, arith, option_map, same_Some, PlayList, Record, record_at, Config, Share, Gateway, TerminationMedia, media_of, played, all_played, sent, sends_at, IsPlayed, with_mixes, IsEnded, EngineState, StandsFor, IsMediaOf, media_at, Registry, transmitted, SlotMedia, SumsState, slot_sends, has_destination, map-map, sound_of, frame_or_silence, frame_played, slot_ended, slot_played, all_ended, HaveTicked, IsSound, map_agree, may_hear, ContextEdit}
use Rattle.mg_playout.specs.Playout as play_lists
use Rattle.mg_engine.proofs.GatewayLemmas.{found_in_map, found_key}

abbrev pub with_media : EngineState → List SlotMedia → EngineState
with_media k kept = record k { media = kept }

abbrev pub with_frames : EngineState → List SlotMedia → SumsState → EngineState
with_frames k kept frames = record k { media = kept; sums = frames }

-- ## Playing frames

pub played_is : (config : Config) (m : SlotMedia) (row : List ℤ) (s : TerminationMedia) → IsMediaOf config m row s →
    IsMediaOf config (slot_played m) (frame_played m) (played s)
played_is config m row s h = record {
  play = ap (λ (p : PlayList). (play_lists.ticked p).0) h.play;
  frame = ap (λ (p : PlayList). frame_or_silence (sound_of ((play_lists.ticked p).1))) h.play;
  stats = h.stats;
  timestamp = omega (arith, h.timestamp);
  sequence = h.sequence;
  is_sending = h.is_sending;
}

pub from_mapped : (f : TerminationMedia → TerminationMedia) (P : TerminationMedia → Type 0) (o : Option TerminationMedia)
    (s : TerminationMedia) → option_map f o ≡ Some s → ((t : TerminationMedia) → o ≡ Some t → P (f t)) → P s
from_mapped f P (Some t) s e h = subst P (same_Some (f t) s e) (h t refl)
from_mapped f P None s e h = absurd (cc e)

-- If a function changes the media of each termination and the slots change accordingly, the engine represents the
-- changed gateway.
pub stands_mapped : (k : EngineState) (w v : Gateway) (new : List SlotMedia) (kept : SumsState)
    (f : TerminationMedia → TerminationMedia) →
    (v.config ≡ w.config) × (v.rooms ≡ w.rooms) × (v.edits ≡ w.edits) →
    map (λ s. s.number) v.media ≡ map (λ s. s.number) w.media →
    ((n : ℕ) → media_of v n ≡ option_map f (media_of w n)) →
    ((n : ℕ) (r : Record) (t : TerminationMedia) → record_at k.rooms n ≡ Some r → t.number ≡ n →
    IsMediaOf k.config (media_at k.media r.slot) (get_or k.sums.frames r.slot []) t →
    IsMediaOf k.config (media_at new r.slot) (get_or kept.frames r.slot []) (f t)) →
    StandsFor k w → StandsFor (with_frames k new kept) v
stands_mapped k w v new kept f same numbers mapped step h = record {
  config = same.0 ∙ h.config;
  rooms = same.1 ∙ h.rooms;
  numbers = numbers ∙ h.numbers;
  media = λ n r s found there.
      from_mapped f (λ t. IsMediaOf k.config (media_at new r.slot) (get_or kept.frames r.slot []) t) (media_of w n) s
      (sym (mapped n) ∙ there)
      (λ t was. step n r t found (found_key (λ x. x.number) n w.media t was) (h.media n r t found was));
  hears = λ talker listener t l p q share. h.hears talker listener t l p q share ∙
      ap (λ (es : List ContextEdit). may_hear es talker listener) (sym same.2);
}

-- The play list of each termination has advanced.
abbrev pub ArePlayed : EngineState → List SlotMedia → List (List ℤ) → Type 0
ArePlayed k new frames = (n : ℕ) (r : Record) → record_at k.rooms n ≡ Some r → IsPlayed k.media new frames r.slot

pub played_stands : (k : EngineState) (w : Gateway) (new : List SlotMedia) (kept : SumsState) →
    ArePlayed k new kept.frames → StandsFor k w → StandsFor (with_frames k new kept) (all_played w)
played_stands k w new kept all h = stands_mapped k w (all_played w) new kept played (refl, refl, refl)
    (map-map (λ s. s.number) played w.media) (λ n. found_in_map (λ s. s.number) played n w.media (λ t. refl))
    (λ n r t found same is. let p = all n r found in rw (p.ticked, p.frame)
    (played_is k.config (media_at k.media r.slot) (get_or k.sums.frames r.slot []) t is)) h

-- ## Sending packets

pub ended_is : (config : Config) (b : Bool) (m : SlotMedia) (row : List ℤ) (s : TerminationMedia) →
    IsMediaOf config m row s → IsMediaOf config (slot_ended b m) row (sent b s)
ended_is config true m row s h = record {
  play = h.play;
  frame = h.frame;
  stats = ap transmitted h.stats;
  timestamp = h.timestamp;
  sequence = omega (arith, h.sequence);
  is_sending = refl;
}
ended_is config false m row s h = assumption

pub sent_number : (b : Bool) (s : TerminationMedia) → (sent b s).number ≡ s.number
sent_number true s = refl
sent_number false s = refl

abbrev sent_at : Registry → TerminationMedia → TerminationMedia
sent_at w s = sent (sends_at w s.number) s

-- A termination sends according to its slot if and only if it sends according to its number.
pub same_sender : (k : EngineState) (w : Gateway) (n m : ℕ) (r : Record) → IsSound k.rooms → StandsFor k w →
    record_at k.rooms n ≡ Some r → m ≡ n → slot_sends k.rooms r.slot ≡ sends_at w.rooms m
same_sender k w n m r sound h found same = ap has_destination (sound.holder n r found ∙ sym found) ∙
    ap (λ (x : Registry). sends_at x n) (sym h.rooms) ∙ ap (sends_at w.rooms) (sym same)

-- The tick of each termination has ended.
abbrev pub AreEnded : Registry → List SlotMedia → List SlotMedia → Type 0
AreEnded w old new = (n : ℕ) (r : Record) → record_at w n ≡ Some r → IsEnded w old new r.slot

pub ended_stands : (k : EngineState) (w : Gateway) (new : List SlotMedia) → IsSound k.rooms →
    AreEnded k.rooms k.media new → StandsFor k w → StandsFor (with_media k new) (all_ended w)
ended_stands k w new sound ended h = stands_mapped k w (all_ended w) new k.sums (sent_at w.rooms) (refl, refl, refl)
    (map-map (λ s. s.number) (sent_at w.rooms) w.media ∙ map_agree (λ s. (sent_at w.rooms s).number) (λ s. s.number)
    w.media (λ s. sent_number (sends_at w.rooms s.number) s))
    (λ n. found_in_map (λ s. s.number) (sent_at w.rooms) n w.media (λ t. sent_number (sends_at w.rooms t.number) t))
    (λ n r t found same is. rw (ended n r found, same_sender k w n t.number r sound h found same)
    (ended_is k.config (sends_at w.rooms t.number) (media_at k.media r.slot) (get_or k.sums.frames r.slot []) t is)) h

-- Mixing and sharing payloads do not change the gateway that the engine represents.
pub mixed_stands : (k : EngineState) (w : Gateway) (work : ℕ) (shares : List (List Share)) → StandsFor k w →
    StandsFor (with_mixes k work shares) w
mixed_stands k w work shares h = assumption

-- After frames are played, each termination has had at least one tick.
pub played_old : (w : Gateway) → HaveTicked (all_played w)
played_old w n s there = from_mapped played (λ t. 1 ≤ t.ticks) (media_of w n) s
    (sym (found_in_map (λ x. x.number) played n w.media (λ t. refl)) ∙ there) (λ t was. omega arith)
