-- After an RTP datagram, an engine represents the gateway after that datagram.
use Rattle.mg_engine.proofs.Common.{◌≡◌, ℕ, ◌<◌, List, ℤ, [], ◌∷◌, length, get_or, set, Some, Ok, Err, refl, sym, ap, subst, ◌∙◌, option_map, Header, PlayList, Record, IsSound, change, record_at, Config, Taken, Gateway, TerminationMedia, media_of, Arrived, frame_placed, taken_at, frame_placed_at, EngineState, StandsFor, IsMediaOf, media_at, find-change_other, received, SlotMedia, PlacedAt, placed, slot_placed}
use Rattle.mg_engine.specs.declared.taken.Taken.TheVariants.{Placed}
use Rattle.mg_engine.proofs.EditLemmas.{media_set}
use Rattle.mg_engine.proofs.KeyLemmas.{found_changed, mapped_kept}
use Rattle.mg_engine.proofs.TickLemmas.{with_media}
use Rattle.mg_engine.proofs.GatewayLemmas.{has_media}

placed_is : (config : Config) (header : Header) (frame : List ℤ) (m : SlotMedia) (row : List ℤ)
    (s : TerminationMedia) → IsMediaOf config m row s →
    IsMediaOf config ((slot_placed m header frame).0) row (frame_placed header frame s)
placed_is config header frame m row s h = assumption
    (ap (λ (p : PlayList). (placed p header.ssrc header.sequence frame).0) h.play, ap received h.stats)

abbrev with_changed : Gateway → ℕ → (TerminationMedia → TerminationMedia) → Gateway
with_changed w n f = record w { media = change (λ s. s.number) n (λ s. Some (f s)) w.media }

module _ (k : EngineState) (w : Gateway) (r : Record) (f : TerminationMedia → TerminationMedia) (m : SlotMedia)
    (s : TerminationMedia) (keeps : (x : TerminationMedia) → (f x).number ≡ x.number) (sound : IsSound k.rooms)
    (found : record_at k.rooms r.number ≡ Some r) (lt : r.slot < length k.media) (h : StandsFor k w)
    (there : media_of w r.number ≡ Some s) (is : IsMediaOf k.config m (get_or k.sums.frames r.slot []) (f s)) where
  placed_stands : StandsFor (with_media k (set k.media r.slot m)) (with_changed w r.number f)
  placed_stands = record {
    config = h.config;
    rooms = h.rooms;
    numbers = mapped_kept (λ x. x.number) (λ x. x.number) r.number (λ x. Some (f x)) w.media s
        (ap (λ (n : ℕ). n ∷ []) (keeps s)) there ∙ h.numbers;
    media = media_set k.config k.rooms k.media k.sums.frames (with_changed w r.number f).media r.number r m (f s) sound
        found lt (found_changed (λ x. x.number) f r.number w.media keeps ∙ ap (option_map f) there) is
        (λ n q t e apart slots at now. h.media n q t at (sym (find-change_other (λ x. x.number) r.number n
        (λ x. Some (f x)) w.media (λ x same. keeps x) e) ∙ now));
    hears = h.hears;
  }

abbrev Took : EngineState → Gateway → ℕ → Arrived → List SlotMedia → Taken → Type 0
Took k w n arrived after result = (now : Gateway) × (taken_at w n arrived ≡ (now, result)) ×
    StandsFor (with_media k after) now

pub took_stands : (k : EngineState) (w : Gateway) (r : Record) (after : List SlotMedia) (arrived : Arrived)
    (result : Taken) → IsSound k.rooms → record_at k.rooms r.number ≡ Some r → r.slot < length k.media →
    PlacedAt k.media after r.slot arrived result → StandsFor k w → Took k w r.number arrived after result
took_stands k w r after (Err cause) result sound found lt p h = (
  w,
  ap (λ (t : Taken). let q : Gateway × Taken = (w, t) in q) (sym p.1),
  subst (λ (ms : List SlotMedia). StandsFor (with_media k ms) w) (sym p.0) h,
)
took_stands k w r after (Ok a) result sound found lt p h =
    let (s, there, is) = has_media k w r.number r h found in
    let now = with_changed w r.number (frame_placed a.0 a.1) in
    let m = (slot_placed (media_at k.media r.slot) a.0 a.1).0 in
    let answer = ap (λ (x : PlayList). Placed ((placed x a.0.ssrc a.0.sequence a.1).1)) (sym is.play) ∙
    sym p.1 in
    let stands = placed_stands k w r (frame_placed a.0 a.1) m s (λ x. refl) sound found lt h there
    (placed_is k.config a.0 a.1 (media_at k.media r.slot) (get_or k.sums.frames r.slot []) s is) in (
      now,
      ap (frame_placed_at w r.number a) there ∙
          ap (λ (t : Taken). let q : Gateway × Taken = (now, t) in q) answer,
      subst (λ (ms : List SlotMedia). StandsFor (with_media k ms) now) (sym p.0) stands,
    )

-- If only the media of an engine changed, the new state is the old state with the new media.
pub media_alone : (old new : EngineState) → new.config ≡ old.config → new.rooms ≡ old.rooms → new.flows ≡ old.flows →
    new.sums ≡ old.sums → new.shares ≡ old.shares → with_media old new.media ≡ new
media_alone old new config same flows frames shares = λ i. record {
  config = sym config i;
  rooms = sym same i;
  media = new.media;
  flows = sym flows i;
  sums = sym frames i;
  shares = sym shares i;
}
