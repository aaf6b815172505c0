-- RTP datagrams and ticks change neither the terminations nor who hears whom.
use Rattle.std.proofs.Common.{◌≡◌, ◌==◌, ◌∙◌, ℕ, ℤ, ◌<◌, Bool, true, false, cond, List, [], ◌∷◌, Option, Some, None, Ok, Err, All, flat_map, get_or, map, length, refl, sym, ap, subst, arith}
use Rattle.std.specs.List.{find}
use Rattle.std.specs.Option.{option_map}
use Rattle.std.proofs.lemmas.Bool.{eq-eqb}
use Rattle.std.proofs.lemmas.List.{get_or-map, length-map}
use Rattle.std.proofs.lemmas.List.Elements.{All-head, All-tail}
use Rattle.std.proofs.lemmas.Slice.Eq.{bytes_eq-Decides}
use Rattle.mg_words.specs.declared.mode.Mode.{Mode}
use Rattle.mg_words.specs.declared.mode.Mode.TheVariants.{Inactive, SendOnly, ReceiveOnly, SendReceive, Loopback}
use Rattle.mg_rooms.specs.declared.record.Record.{Record}
use Rattle.mg_rooms.specs.Registry.{Registry}
use Rattle.mg_rooms.specs.aids.Sound.{IsSound}
use Rattle.mg_rtp.specs.declared.header.Header.{Header}
use Rattle.mg_rtp.specs.Reading.{Reading}
use Rattle.mg_engine.specs.declared.taken.Taken.{Taken}
use Rattle.mg_words.specs.declared.peer.Peer.{Peer}
use Rattle.mg_engine.specs.Arrival.{Arrived, arrived, at_port, taken_at}
use Rattle.mg_engine.specs.aids.Placing.{frame_placed_at}
use Rattle.mg_engine.specs.aids.Found.{taken_by}
use Rattle.mg_engine.specs.Gateway.{ContextEdit, Gateway, TerminationMedia, media_of}
use Rattle.mg_engine.proofs.SendingLemmas.{nobody}
use Rattle.mg_core.specs.declared.event.Event.{Event}
use Rattle.mg_core.specs.declared.event.Event.TheVariants.{Media, Tick}
use Rattle.mg_rooms.proofs.SoundLemmas.{sound_if}
use Rattle.mg_core.specs.Flows.{Listener, OnlyChangesAreReported, changes, changes_by, is_same_mode, listener_at, listener_of, listeners_of, lines_of_new, lines_of_old}
use Rattle.mg_core.specs.Step.{Sent, Step}
use Rattle.mg_core.specs.World.{World, capped}

-- ## Equal lists of listeners have no changes

same_mode : (m : Mode) → is_same_mode m m ≡ true
same_mode Inactive = refl
same_mode SendOnly = refl
same_mode ReceiveOnly = refl
same_mode SendReceive = refl
same_mode Loopback = refl

none_told : (ticks : ℕ) (x : Listener) → lines_of_new ticks (Some x) x ≡ []
none_told ticks x = rw (
  eq-eqb x.context x.context refl,
  same_mode x.mode,
  (bytes_eq-Decides x.talkers x.talkers).1 refl,
) refl

none_new : (ticks : ℕ) (x : Listener) (o : Option Listener) → o ≡ Some x → lines_of_new ticks o x ≡ []
none_new ticks x o is = ap (λ (p : Option Listener). lines_of_new ticks p x) is ∙ none_told ticks x

none_ended : (ticks : ℕ) (xs : List Listener) (x : Listener) → listener_at xs x.number ≡ Some x →
    lines_of_old ticks xs x ≡ []
none_ended ticks xs x is = rw is refl

nothing_in : {A : Type 0} (f : A → List ℕ) (xs : List A) → All (λ x. f x ≡ []) xs → flat_map f xs ≡ []
nothing_in f [] h = refl
nothing_in f (x ∷ xs) h = rw (
  All-head (λ y. f y ≡ []) x xs h,
  nothing_in f xs (All-tail (λ y. f y ≡ []) x xs h),
) refl

abbrev pub AreFound : List Listener → Type 0
AreFound xs = All (λ x. listener_at xs x.number ≡ Some x) xs

none_changed : (ticks : ℕ) (xs : List Listener) → AreFound xs → changes ticks xs xs ≡ []
none_changed ticks xs h = rw (
  nothing_in (lines_of_old ticks xs) xs (λ k d lt. none_ended ticks xs (get_or xs k d) (h k d lt)),
  nothing_in (λ x. lines_of_new ticks (listener_at xs x.number) x) xs
      (λ k d lt. none_new ticks (get_or xs k d) (listener_at xs (get_or xs k d).number) (h k d lt)),
) refl

-- ## Each termination is found by its number

found_step : (b : Bool) (w : Gateway) (r : Record) (o : Option Record) (p : Option Listener) →
    p ≡ option_map (listener_of w) o →
    cond b (Some (listener_of w r)) p ≡ option_map (listener_of w) (cond b (Some r) o)
found_step true w r o p h = refl
found_step false w r o p h = h

found : (w : Gateway) (rs : List Record) (n : ℕ) →
    listener_at (map (listener_of w) rs) n ≡ option_map (listener_of w) (find (λ r. r.number == n) rs)
found w [] n = refl
found w (r ∷ rs) n = found_step (r.number == n) w r (find (λ x. x.number == n) rs)
    (listener_at (map (listener_of w) rs) n) (found w rs n)

pub all_found : (w : Gateway) → IsSound w.rooms → AreFound (listeners_of w)
all_found w sound k d lt =
    let rs = w.rooms.terminations in
    let within : k < length rs = omega (arith, lt, length-map rs (listener_of w)) in
    subst (λ (x : Listener). listener_at (listeners_of w) x.number ≡ Some x)
    (sym (get_or-map (listener_of w) rs k nobody d within))
    (found w rs (get_or rs k nobody).number ∙ ap (option_map (listener_of w)) (sound.by_number k nobody within))

pub only_changes_are_reported : OnlyChangesAreReported
only_changes_are_reported ticks v w consistent same =
    ap (changes ticks (listeners_of v)) (sym same) ∙
    none_changed ticks (listeners_of v) (all_found v (sound_if v.rooms consistent))

-- ## Gateways with the same terminations and edits

record IsSame (v w : Gateway) : Type 0 where
  rooms : v.rooms ≡ w.rooms
  edits : v.edits ≡ w.edits

same_listeners : (v w : Gateway) → IsSame v w → listeners_of v ≡ listeners_of w
same_listeners v w h =
    let by : Registry → List ContextEdit → List Listener = λ rooms edits. listeners_of (record {
      config = w.config;
      rooms = rooms;
      media = w.media;
      edits = edits;
    }) in
    ap (λ (x : Registry). by x v.edits) h.rooms ∙ ap (λ (es : List ContextEdit). by w.rooms es) h.edits

placed_keeps : (w : Gateway) (n : ℕ) (p : Header × List ℤ) (o : Option TerminationMedia) →
    IsSame (frame_placed_at w n p o).0 w
placed_keeps w n p None = record { rooms = refl; edits = refl }
placed_keeps w n p (Some s) = record { rooms = refl; edits = refl }

taken_keeps : (w : Gateway) (n : ℕ) (a : Arrived) → IsSame (taken_at w n a).0 w
taken_keeps w n (Ok p) = placed_keeps w n p (media_of w n)
taken_keeps w n (Err cause) = record { rooms = refl; edits = refl }

by_keeps : (w : Gateway) (o : Option Record) (source : List ℕ) (reading : Reading) →
    IsSame (taken_by w o source reading).0 w
by_keeps w None source reading = record { rooms = refl; edits = refl }
by_keeps w (Some r) source reading = taken_keeps w r.number (arrived r source reading)

-- The terminations are unchanged, and no change is reported.
pub record IsQuiet (w next : World) : Type 0 where
  pub same : listeners_of next.gateway ≡ listeners_of w.gateway
  pub none : changes_by w next ≡ []

quiet : (w next : World) → IsSound w.gateway.rooms → IsSame next.gateway w.gateway → IsQuiet w next
quiet w next sound h =
    let ticks = capped next.tally.ticks in
    let same = same_listeners next.gateway w.gateway h in
    record {
      same = same;
      none = ap (changes ticks (listeners_of w.gateway)) same ∙
          none_changed ticks (listeners_of w.gateway) (all_found w.gateway sound);
    }

-- ## RTP datagrams and ticks

abbrev pub KeepsQuiet : Event → Type 0
KeepsQuiet event = (w next : World) (sent : List Sent) → IsSound w.gateway.rooms → Step w event sent next →
    IsQuiet w next

pub media_keeps_quiet : (port : ℕ) (source : Peer) (bytes : List ℕ) → KeepsQuiet (Media port source bytes)
media_keeps_quiet port source bytes w next sent sound (taken, (g, (reading, is_reading, represents), is), reported) =
    quiet w next sound (subst (λ (x : Gateway). IsSame x w.gateway)
    (ap (λ (p : Gateway × Taken). p.0) represents ∙ sym (ap (λ (x : World). x.gateway) is))
    (by_keeps w.gateway (at_port w.gateway.rooms port) source.address reading))

pub tick_keeps_quiet : KeepsQuiet Tick
tick_keeps_quiet w next sent sound (reported, is) = quiet w next sound
    (subst (λ (x : World). IsSame x.gateway w.gateway) (sym is) (record { rooms = refl; edits = refl }))
