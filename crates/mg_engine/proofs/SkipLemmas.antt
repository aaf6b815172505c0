-- Many ticks in one step have the same effect as single ticks, if all play lists are idle and all frames silent.
use Rattle.mg_engine.proofs.Common.{◌≡◌, ℕ, zero, suc, ◌+◌, ◌*◌, ◌%◌, ◌^◌, ◌<◌, Bool, true, false, cond, List, ℤ, [], ◌∷◌, map, get_or, Option, Some, None, refl, sym, ap, subst, ◌∙◌, arith, count_by, option_map, sum_by-cons, is_concealed, PlayList, Record, record_at, silence, Config, Gateway, TerminationMedia, media_of, HasPassed, IsIdleEngine, EngineState, StandsFor, IsMediaOf, media_at, played, sent, sends_at, after_ticks, concealed_in_ticks, IsTrue, Registry, counted_up, SlotMedia, slot_sends, option_map_or, map-map, sound_of, ticked, ticked_in, is_idle, frame_or_silence, numbers_of, frame_played, slot_ended, slot_played, slot_ticked, slot_passed, after_tick, conceals, concealed_in_tick, nat_tests, IsSound, eqb, find, map_agree}
use Rattle.std.specs.Fn.{iterate}
use Rattle.mg_playout.specs.declared.phase.Phase.{Phase}
use Rattle.mg_playout.specs.declared.phase.Phase.TheVariants.{Idle}
use Rattle.mg_playout.specs.declared.played.Played.{Played}
use Rattle.mg_playout.specs.declared.played.Played.TheVariants.{Silence}
use Rattle.mg_engine.proofs.GatewayLemmas.{found_in_map, found_too}
use Rattle.mg_engine.proofs.TickLemmas.{ended_is, from_mapped, played_is, same_sender, sent_number, stands_mapped, with_media}

-- ## Repeated steps

module _ {A : Type 0} (h : A → A) where
  last_step : (n : ℕ) (x : A) → iterate h (suc n) x ≡ h (iterate h n x)
  last_step zero x = refl
  last_step (suc n) x = last_step n (h x)

  pub iterate_last : (n : ℕ) (x : A) → iterate h (n + 1) x ≡ h (iterate h n x)
  iterate_last n x = let one : n + 1 ≡ suc n = omega arith in ap (λ (k : ℕ). iterate h k x) one ∙ last_step n x

  pub iterate_both : (n m : ℕ) (x : A) → iterate h (n + m) x ≡ iterate h m (iterate h n x)
  iterate_both zero m x = let none : 0 + m ≡ m = omega arith in ap (λ (k : ℕ). iterate h k x) none
  iterate_both (suc n) m x =
      let one : suc n + m ≡ suc (n + m) = omega arith in ap (λ (k : ℕ). iterate h k x) one ∙ iterate_both n m (h x)

-- ## An idle play list

in_idle : (phase : Phase) (list : PlayList) → IsTrue (is_idle phase) → ticked_in phase list ≡ (list, Silence)
in_idle Idle list idle = refl
in_idle phase list idle = absurd (cc idle)

pub idle_ticks : (list : PlayList) → IsTrue (is_idle list.phase) → ticked list ≡ (list, Silence)
idle_ticks list idle = in_idle list.phase list idle

-- ## The media of a slot

abbrev IsIdleMedia : SlotMedia → Type 0
IsIdleMedia m = IsTrue (is_idle m.play.phase)

-- The media one tick later, if the play list is idle.
abbrev later : SlotMedia → SlotMedia
later m = record m { timestamp = (m.timestamp + 160) % 2 ^ 32 }

idle_played : (m : SlotMedia) → IsIdleMedia m → slot_played m ≡ later m
idle_played m idle = ap (λ (p : PlayList × Played). record m { play = p.0; timestamp = (m.timestamp + 160) % 2 ^ 32 })
    (idle_ticks m.play idle)

idle_frame : (m : SlotMedia) → IsIdleMedia m → frame_played m ≡ silence
idle_frame m idle = ap (λ (p : PlayList × Played). frame_or_silence (sound_of p.1)) (idle_ticks m.play idle)

idle_ended : (b : Bool) (m : SlotMedia) → (slot_ended b m).play ≡ m.play
idle_ended true m = refl
idle_ended false m = refl

idle_kept : (b : Bool) (m : SlotMedia) → IsIdleMedia m → IsIdleMedia (slot_ticked b m)
idle_kept b m idle = grind (arith, nat_tests, idle_played m idle, idle_ended b (slot_played m))

one_passed : (b : Bool) (m : SlotMedia) → slot_ended b (later m) ≡ slot_passed b 1 m
one_passed true m = refl
one_passed false m = refl

idle_passed : (b : Bool) (n : ℕ) (m : SlotMedia) → (slot_passed b n m).play ≡ m.play
idle_passed true n m = refl
idle_passed false n m = refl

more_time : (n t : ℕ) → ((t + 160 * 1) % 2 ^ 32 + 160 * suc n) % 2 ^ 32 ≡ (t + 160 * suc (suc n)) % 2 ^ 32
more_time n t = omega arith

more_passed : (b : Bool) (n : ℕ) (m : SlotMedia) →
    slot_passed b (suc n) (slot_passed b 1 m) ≡ slot_passed b (suc (suc n)) m
more_passed true n m =
    let ps : counted_up (suc n) (counted_up 1 m.stats.ps) ≡ counted_up (suc (suc n)) m.stats.ps = omega arith in
    let os : counted_up (160 * suc n) (counted_up (160 * 1) m.stats.os) ≡ counted_up (160 * suc (suc n)) m.stats.os =
    omega arith in
    let timestamp = more_time n m.timestamp in
    let sequence : ((m.sequence + 1) % 2 ^ 16 + suc n) % 2 ^ 16 ≡ (m.sequence + suc (suc n)) % 2 ^ 16 = omega arith in
    λ i. record {
      play = m.play;
      stats = record { pr = m.stats.pr; or_ = m.stats.or_; ps = ps i; os = os i };
      timestamp = timestamp i;
      sequence = sequence i;
      is_sending = true;
    }
more_passed false n m = λ i. record m { timestamp = more_time n m.timestamp i; is_sending = false }

ticked_once : (b : Bool) (m : SlotMedia) → IsIdleMedia m → slot_ticked b m ≡ slot_passed b 1 m
ticked_once b m idle = ap (slot_ended b) (idle_played m idle) ∙ one_passed b m

-- For a slot with an idle play list, n + 1 ticks in one step have the same effect as n + 1 single ticks.
pub passed_is : (b : Bool) (n : ℕ) (m : SlotMedia) → IsTrue (is_idle m.play.phase) →
    iterate (slot_ticked b) (suc n) m ≡ slot_passed b (suc n) m
passed_is b zero m idle = ticked_once b m idle
passed_is b (suc n) m idle = ap (iterate (slot_ticked b) (suc n)) (ticked_once b m idle)
    ∙ passed_is b n (slot_passed b 1 m)
    (subst (λ (p : PlayList). IsTrue (is_idle p.phase)) (sym (idle_passed b 1 m)) idle) ∙ more_passed b n m

pub passed_by : (b : Bool) (n : ℕ) (m : SlotMedia) → 0 < n → IsTrue (is_idle m.play.phase) →
    slot_passed b n m ≡ iterate (slot_ticked b) n m
passed_by b zero m some idle = absurd (omega (arith, some))
passed_by b (suc n) m some idle = sym (passed_is b n m idle)

-- ## The gateway after ticks

-- The media of a termination after a tick.
abbrev ticked_media : Registry → TerminationMedia → TerminationMedia
ticked_media w s = sent (sends_at w s.number) (played s)

abbrev Keeps : Gateway → Gateway → Type 0
Keeps w v = (v.config ≡ w.config) × (v.rooms ≡ w.rooms) × (v.edits ≡ w.edits)

kept : (n : ℕ) (w : Gateway) → Keeps w (after_ticks n w)
kept zero w = (refl, refl, refl)
kept (suc n) w = kept n (after_tick w)

one_tick_numbers : (w : Gateway) → map (λ s. s.number) (after_tick w).media ≡ map (λ s. s.number) w.media
one_tick_numbers w = ap (map (λ s. s.number)) (map-map (λ s. sent (sends_at w.rooms s.number) s) played w.media)
    ∙ map-map (λ (s : TerminationMedia). s.number) (ticked_media w.rooms) w.media
    ∙ map_agree (λ s. (ticked_media w.rooms s).number) (λ s. s.number) w.media
    (λ s. sent_number (sends_at w.rooms s.number) (played s))

numbers_stay : (n : ℕ) (w : Gateway) → map (λ s. s.number) (after_ticks n w).media ≡ map (λ s. s.number) w.media
numbers_stay zero w = refl
numbers_stay (suc n) w = numbers_stay n (after_tick w) ∙ one_tick_numbers w

twice : (f g : TerminationMedia → TerminationMedia) (o : Option TerminationMedia) →
    option_map f (option_map g o) ≡ option_map (λ s. f (g s)) o
twice f g None = refl
twice f g (Some s) = refl

tick_found : (w : Gateway) (k : ℕ) → media_of (after_tick w) k ≡ option_map (ticked_media w.rooms) (media_of w k)
tick_found w k =
    ap (find (λ s. eqb s.number k)) (map-map (λ s. sent (sends_at w.rooms s.number) s) played w.media) ∙
    found_in_map (λ s. s.number) (ticked_media w.rooms) k w.media
    (λ s. sent_number (sends_at w.rooms s.number) (played s))

ticks_found : (n : ℕ) (w : Gateway) (k : ℕ) →
    media_of (after_ticks n w) k ≡ option_map (iterate (ticked_media w.rooms) n) (media_of w k)
ticks_found zero w k = same (media_of w k)
  where
    same : (o : Option TerminationMedia) → o ≡ option_map (iterate (ticked_media w.rooms) 0) o
    same None = refl
    same (Some s) = refl
ticks_found (suc n) w k = ticks_found n (after_tick w) k ∙
    ap (option_map (iterate (ticked_media w.rooms) n)) (tick_found w k) ∙
    twice (iterate (ticked_media w.rooms) n) (ticked_media w.rooms) (media_of w k)

-- ## The stored media after several ticks in one step

module _ (config : Config) (w : Registry) (b : Bool) (row : List ℤ) (silent : row ≡ silence) where
  one_stands : (m : SlotMedia) (s : TerminationMedia) → IsIdleMedia m → sends_at w s.number ≡ b →
      IsMediaOf config m row s → IsMediaOf config (slot_ticked b m) row (ticked_media w s)
  one_stands m s idle sends h =
      let frame = idle_frame m idle ∙ sym silent in
      subst (λ (x : Bool). IsMediaOf config (slot_ticked b m) row (sent x (played s))) (sym sends)
      (ended_is config b (slot_played m) row (played s)
      (subst (λ (x : List ℤ). IsMediaOf config (slot_played m) x (played s)) frame (played_is config m row s h)))

  many_stand : (n : ℕ) (m : SlotMedia) (s : TerminationMedia) → IsIdleMedia m → sends_at w s.number ≡ b →
      IsMediaOf config m row s → IsMediaOf config (iterate (slot_ticked b) n m) row (iterate (ticked_media w) n s)
  many_stand zero m s idle sends h = h
  many_stand (suc n) m s idle sends h = many_stand n (slot_ticked b m) (ticked_media w s) (idle_kept b m idle)
      (ap (sends_at w) (sent_number (sends_at w s.number) (played s)) ∙ sends) (one_stands m s idle sends h)

-- This many ticks were counted for the slot of each termination.
abbrev pub HavePassed : Registry → ℕ → List SlotMedia → List SlotMedia → Type 0
HavePassed w count old new = (n : ℕ) (r : Record) → record_at w n ≡ Some r → HasPassed w count old new r.slot

pub passed_stands : (k : EngineState) (w : Gateway) (count : ℕ) (new : List SlotMedia) → IsSound k.rooms →
    0 < count → IsIdleEngine k → HavePassed k.rooms count k.media new → StandsFor k w →
    StandsFor (with_media k new) (after_ticks count w)
passed_stands k w count new sound some idle passed h = stands_mapped k w (after_ticks count w) new k.sums
    (iterate (ticked_media w.rooms) count) (kept count w) (numbers_stay count w) (ticks_found count w)
    (λ n r t found same is.
    let m = media_at k.media r.slot in
    let b = slot_sends k.rooms r.slot in
    let i = idle n r found in
    rw (passed n r found ∙ passed_by b count m some i.idle)
    (many_stand k.config w.rooms b (get_or k.sums.frames r.slot []) i.silent count m t i.idle
    (sym (same_sender k w n t.number r sound h found same)) is)) h

-- ## Idle play lists conceal no frames

-- The play list of each termination is idle.
abbrev IsIdleGateway : Gateway → Type 0
IsIdleGateway w = (n : ℕ) (s : TerminationMedia) → media_of w n ≡ Some s → IsTrue (is_idle s.play.phase)

idle_termination : (b : Bool) (s : TerminationMedia) → IsTrue (is_idle s.play.phase) →
    IsTrue (is_idle (sent b (played s)).play.phase)
idle_termination b s idle = grind (arith, nat_tests, idle_ticks s.play idle)

idle_after : (w : Gateway) → IsIdleGateway w → IsIdleGateway (after_tick w)
idle_after w idle n s there =
    from_mapped (ticked_media w.rooms) (λ t. IsTrue (is_idle t.play.phase)) (media_of w n) s
    (sym (tick_found w n) ∙ there) (λ t was. idle_termination (sends_at w.rooms t.number) t (idle n t was))

idle_conceals : (o : Option TerminationMedia) →
    ((s : TerminationMedia) → o ≡ Some s → IsTrue (is_idle s.play.phase)) →
    option_map_or (λ s. is_concealed ((ticked s.play).1)) o false ≡ false
idle_conceals None idle = refl
idle_conceals (Some s) idle = ap (λ (p : PlayList × Played). is_concealed p.1) (idle_ticks s.play (idle s refl))

abbrev one : Bool → ℕ
one b = cond b 1 0

none_counted : (p : ℕ → Bool) (ns : List ℕ) → ((n : ℕ) → p n ≡ false) → count_by p ns ≡ 0
none_counted p [] none = refl
none_counted p (n ∷ ns) none = omega (arith, sum_by-cons (λ x. one (p x)) n ns, ap one (none n), none_counted p ns none)

none_concealed : (n : ℕ) (w : Gateway) → IsIdleGateway w → concealed_in_ticks n w ≡ 0
none_concealed zero w idle = refl
none_concealed (suc n) w idle =
    let here = none_counted (conceals w) (numbers_of w) (λ k. idle_conceals (media_of w k) (λ s there. idle k s there)) in
    omega (arith, here, none_concealed n (after_tick w) (idle_after w idle))

pub idle_gateway : (k : EngineState) (w : Gateway) → IsIdleEngine k → StandsFor k w → IsIdleGateway w
idle_gateway k w idle h n s there =
    let (r, found) = found_too (λ s. s.number) (λ r. r.number) n w.media k.rooms.terminations h.numbers s there in
    subst (λ (p : PlayList). IsTrue (is_idle p.phase)) (h.media n r s found there).play (idle n r found).idle

pub passed_conceals : (k : EngineState) (w : Gateway) (count : ℕ) → IsIdleEngine k → StandsFor k w →
    concealed_in_ticks count w ≡ 0
passed_conceals k w count idle h = none_concealed count w (idle_gateway k w idle h)

-- ## One more tick

last_concealed : (n : ℕ) (w : Gateway) →
    concealed_in_ticks (suc n) w ≡ concealed_in_ticks n w + concealed_in_tick (after_ticks n w)
last_concealed zero w = omega arith
last_concealed (suc n) w = omega (arith, last_concealed n (after_tick w))

pub concealed_last : (n : ℕ) (w : Gateway) →
    concealed_in_ticks (n + 1) w ≡ concealed_in_ticks n w + concealed_in_tick (after_ticks n w)
concealed_last n w =
    let one : n + 1 ≡ suc n = omega arith in ap (λ (k : ℕ). concealed_in_ticks k w) one ∙ last_concealed n w

pub concealed_both : (n m : ℕ) (w : Gateway) →
    concealed_in_ticks (n + m) w ≡ concealed_in_ticks n w + concealed_in_ticks m (after_ticks n w)
concealed_both zero m w =
    let none : 0 + m ≡ m = omega arith in omega (arith, ap (λ (k : ℕ). concealed_in_ticks k w) none)
concealed_both (suc n) m w =
    let one : suc n + m ≡ suc (n + m) = omega arith in
    ap (λ (k : ℕ). concealed_in_ticks k w) one ∙ omega (arith, concealed_both n m (after_tick w))
