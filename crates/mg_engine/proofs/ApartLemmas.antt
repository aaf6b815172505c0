-- Two gateways that agree outside some terminations still agree after an edit, a datagram or a tick.
use Rattle.mg_engine.proofs.Common.{◌≡◌, ℕ, ℤ, eqb, Bool, true, false, cond, ◌&&◌, List, [], ◌∷◌, ◌++◌, map, find, Option, Some, None, Result, Ok, Err, refl, sym, ap, subst, ◌∙◌, eqb-true, option_to_list, option_map, ◌>>=◌, ErrorNumber, Header, Reading, Record, Settings, Target, change, members_at, TopologyTriple, Arrived, arrived, at_port, frame_placed, taken_at, frame_placed_at, taken_by, has, Gateway, TerminationMedia, ContextEdit, Enter, Leave, media_of, new_media, frame_in, added, modified, moved, subtracted, existing_context, done_with, tuned, all_played, played, sends_at, sent, check_triples, true≢false, Registry, map-append, all_ended, AgreeOutside, IsPortAmong, SamePackets, but_received, unless_among, without_arrivals, EndsAlike, SameEditsKeepAgreement, AgreementIsMutual, SameStatsButReceived, SameTickKeepsAgreement, hears_itself, progress_of, false_from_ne_true, arith, nat_tests}
use Rattle.mg_rooms.specs.Outcome as commands
use Rattle.mg_engine.specs.Outcome.{apply_triples}
use Rattle.mg_engine.proofs.GatewayLemmas.{found_in_map}
use Rattle.mg_engine.proofs.IsolationLemmas.{packets_depend_on_heard}
use Rattle.mg_engine.proofs.TickLemmas.{sent_number}
use Rattle.mg_engine.proofs.OrderLemmas.{found_passes}

-- ## Media without arrivals

module _ (some : List ℕ) where
  abbrev mask : TerminationMedia → TerminationMedia
  mask = unless_among some

  -- Masking the media keeps everything that does not depend on arrivals.
  stays : {A : Type 0} (g : TerminationMedia → A) → ((s : TerminationMedia) → g (without_arrivals s) ≡ g s) →
      (s : TerminationMedia) → g (mask s) ≡ g s
  stays g same s = grind (arith, nat_tests, same s)

  number_stays : (s : TerminationMedia) → (mask s).number ≡ s.number
  number_stays = stays (λ s. s.number) (λ s. refl)

  -- A step of media that depends only on what the mask keeps.
  abbrev IsBlind : (TerminationMedia → TerminationMedia) → Type 0
  IsBlind f = (s : TerminationMedia) → mask (f (mask s)) ≡ mask (f s)

  blind : (f : TerminationMedia → TerminationMedia) → ((s : TerminationMedia) → (f s).number ≡ s.number) →
      ((s : TerminationMedia) → without_arrivals (f (without_arrivals s)) ≡ without_arrivals (f s)) → IsBlind f
  blind f number same s = grind (arith, nat_tests, number s, number (without_arrivals s), same s)

  tuned_blind : (settings : Settings) → IsBlind (tuned settings)
  tuned_blind settings = blind (tuned settings) (λ s. refl) (λ s. refl)

  played_blind : IsBlind played
  played_blind = blind played (λ s. refl) (λ s. refl)

  sent_same : (b : Bool) (s : TerminationMedia) →
      without_arrivals (sent b (without_arrivals s)) ≡ without_arrivals (sent b s)
  sent_same true s = refl
  sent_same false s = refl

  ended_blind : (z : Registry) → IsBlind (λ s. sent (sends_at z s.number) s)
  ended_blind z = blind (λ s. sent (sends_at z s.number) s) (λ s. sent_number (sends_at z s.number) s)
      (λ s. sent_same (sends_at z s.number) s)

  placed_blind : (p : Header × List ℤ) → IsBlind (frame_placed p.0 p.1)
  placed_blind p = blind (frame_placed p.0 p.1) (λ s. refl) (λ s. refl)

  -- A frame for a termination in the list changes only what the mask removes.
  one_placed : (p : Header × List ℤ) (s : TerminationMedia) → has some s.number ≡ true →
      mask (frame_placed p.0 p.1 s) ≡ mask s
  one_placed p s is_one = rw is_one refl

  -- ## Lists of media without arrivals

  abbrev AreLike : List TerminationMedia → List TerminationMedia → Type 0
  AreLike xs ys = map mask xs ≡ map mask ys

  mapped : (f : TerminationMedia → TerminationMedia) → IsBlind f → (xs ys : List TerminationMedia) → AreLike xs ys →
      AreLike (map f xs) (map f ys)
  mapped f h xs ys e = each xs ∙ ap (map (λ s. mask (f s))) e ∙ sym (each ys)
    where
      each : (xs : List TerminationMedia) → map mask (map f xs) ≡ map (λ s. mask (f s)) (map mask xs)
      each [] = refl
      each (s ∷ xs) = λ i. sym (h s) i ∷ each xs i

  abbrev changed : ℕ → (TerminationMedia → Option TerminationMedia) → List TerminationMedia → List TerminationMedia
  changed n f xs = change (λ s. s.number) n f xs

  abbrev masked : (TerminationMedia → Option TerminationMedia) → TerminationMedia → Option TerminationMedia
  masked f s = option_map mask (f s)

  changes : (n : ℕ) (f : TerminationMedia → Option TerminationMedia) →
      ((s : TerminationMedia) → masked f (mask s) ≡ masked f s) → (xs ys : List TerminationMedia) → AreLike xs ys →
      AreLike (changed n f xs) (changed n f ys)
  changes n f h xs ys e = each xs ∙ ap (changed n (masked f)) e ∙ sym (each ys)
    where
      in_front : (o : Option TerminationMedia) (xs : List TerminationMedia) →
          map mask (option_to_list o ++ xs) ≡ option_to_list (option_map mask o) ++ map mask xs
      in_front None xs = refl
      in_front (Some s) xs = refl

      each : (xs : List TerminationMedia) → map mask (changed n f xs) ≡ changed n (masked f) (map mask xs)
      each [] = refl
      each (s ∷ xs) = grind (arith, nat_tests, each xs, h s, number_stays s, in_front (f s) xs)

  abbrev AreBothLike : Option TerminationMedia → Option TerminationMedia → Type 0
  AreBothLike o k = option_map mask o ≡ option_map mask k

  pub found : (n : ℕ) (xs ys : List TerminationMedia) → AreLike xs ys →
      AreBothLike (find (λ s. eqb s.number n) xs) (find (λ s. eqb s.number n) ys)
  found n xs ys e = sym (found_in_map (λ s. s.number) mask n xs number_stays) ∙
      ap (find (λ s. eqb s.number n)) e ∙ found_in_map (λ s. s.number) mask n ys number_stays

  -- Everything that does not depend on arrivals is equal in the media of both gateways.
  seen : {A : Type 0} (g : TerminationMedia → A) → ((s : TerminationMedia) → g (without_arrivals s) ≡ g s) →
      (o k : Option TerminationMedia) → AreBothLike o k → option_map g o ≡ option_map g k
  seen {A} g same o k e = sym (each o) ∙ ap (option_map g) e ∙ each k
    where
      each : (o : Option TerminationMedia) → option_map g (option_map mask o) ≡ option_map g o
      each None = refl
      each (Some s) = ap Some (stays g same s)

  -- ## Edits

  ends : (f g : Registry → Record → Gateway) (o : Result (Registry × Record) ErrorNumber) →
      ((z : Registry) (r : Record) → AgreeOutside some (f z r) (g z r)) →
      EndsAlike some (done_with f o) (done_with g o)
  ends f g (Ok p) h = (h p.0 p.1, refl)
  ends f g (Err e) h = refl

  -- A command has the same outcome in both gateways if their terminations and contexts are equal.
  ends_on : (f g : Registry → Record → Gateway)
      (command : Registry → Result (Registry × Record) ErrorNumber) (x y : Registry) → x ≡ y →
      ((z : Registry) (r : Record) → AgreeOutside some (f z r) (g z r)) →
      EndsAlike some (done_with f (command x)) (done_with g (command y))
  ends_on f g command x y same h = rw (← same) (ends f g (command x) h)

  tuned_media : (settings : Settings) (n : ℕ) (a b : Gateway) → AgreeOutside some a b →
      AreLike (changed n (λ s. Some (tuned settings s)) a.media) (changed n (λ s. Some (tuned settings s)) b.media)
  tuned_media settings n a b h = changes n (λ s. Some (tuned settings s)) (λ s. ap Some (tuned_blind settings s)) a.media
      b.media h.media

  bound : {A : Type 0} (o : Result A ErrorNumber) (f g : A → Result (Gateway × ℕ) ErrorNumber) →
      ((x : A) → EndsAlike some (f x) (g x)) → EndsAlike some (o >>= f) (o >>= g)
  bound (Ok x) f g h = h x
  bound (Err e) f g h = refl

  ends_triples : (target : Target) (xs : List TopologyTriple) (a b : Gateway) → AgreeOutside some a b →
      EndsAlike some (apply_triples a target xs) (apply_triples b target xs)
  unfolding apply_triples
  ends_triples target xs a b h = rw (sym h.rooms, sym h.edits) (bound (existing_context a.rooms target) _ _
      (λ c. bound (check_triples (members_at a.rooms c) xs) _ _ (λ _. (assumption h, refl))))

  -- ## Arrivals

  abbrev place : ℕ → Header × List ℤ → Gateway → Option TerminationMedia → Gateway
  place n p w o = (frame_placed_at w n p o).0

  places : (n : ℕ) (p : Header × List ℤ) (a b : Gateway) (o k : Option TerminationMedia) → AreBothLike o k →
      AgreeOutside some a b → AgreeOutside some (place n p a o) (place n p b k)
  places n p a b None None one h = h
  places n p a b (Some s) (Some t) one h =
      assumption (changes n (λ m. Some (frame_placed p.0 p.1 m)) (λ s. ap Some (placed_blind p s)) a.media b.media
      h.media)
  places n p a b o k one h = absurd (cc one)

  arrives : (n : ℕ) (x : Arrived) (a b : Gateway) → AgreeOutside some a b →
      AgreeOutside some (taken_at a n x).0 (taken_at b n x).0
  arrives n (Ok p) a b h = places n p a b (media_of a n) (media_of b n) (found n a.media b.media h.media) h
  arrives n (Err cause) a b h = h

  arrives_by : (o : Option Record) (source : List ℕ) (reading : Reading) (a b : Gateway) → AgreeOutside some a b →
      AgreeOutside some (taken_by a o source reading).0 (taken_by b o source reading).0
  arrives_by None source reading a b h = h
  arrives_by (Some r) source reading a b h = arrives r.number (arrived r source reading) a b h

  one_changes : (n : ℕ) (p : Header × List ℤ) (xs : List TerminationMedia) → has some n ≡ true →
      AreLike (changed n (λ m. Some (frame_placed p.0 p.1 m)) xs) xs
  one_changes n p [] is_one = refl
  one_changes n p (s ∷ xs) is_one =
      grind (arith, nat_tests, one_placed p s, one_changes n p xs is_one, eqb-true s.number n)

  -- If a frame is placed for a termination in the list, in only one gateway, the two gateways still agree.
  one_places : (n : ℕ) (p : Header × List ℤ) (a b : Gateway) (o : Option TerminationMedia) → has some n ≡ true →
      AgreeOutside some a b → AgreeOutside some (place n p a o) b
  one_places n p a b None is_one h = h
  one_places n p a b (Some s) is_one h = assumption (one_changes n p a.media is_one ∙ h.media)

  one_arrives : (n : ℕ) (x : Arrived) (a b : Gateway) → has some n ≡ true → AgreeOutside some a b →
      AgreeOutside some (taken_at a n x).0 b
  one_arrives n (Ok p) a b is_one h = one_places n p a b (media_of a n) is_one h
  one_arrives n (Err cause) a b is_one h = h

  -- ## Ticks

  all_play : (a b : Gateway) → AgreeOutside some a b → AgreeOutside some (all_played a) (all_played b)
  all_play a b h = assumption (mapped played played_blind a.media b.media h.media)

  all_end : (a b : Gateway) → AgreeOutside some a b → AgreeOutside some (all_ended a) (all_ended b)
  all_end a b h = assumption
      (subst (λ (z : Registry). AreLike (map (λ s. sent (sends_at a.rooms s.number) s) a.media)
      (map (λ s. sent (sends_at z s.number) s) b.media)) h.rooms
      (mapped (λ s. sent (sends_at a.rooms s.number) s) (ended_blind a.rooms) a.media b.media h.media))

-- ## The theorems

pub edits_keep : SameEditsKeepAgreement
edits_keep = record {
  add = λ some a b target settings h.
      ends_on some (added a settings) (added b settings) (λ z. commands.add z target settings) a.rooms b.rooms h.rooms
      (λ z r. assumption (
        ap (λ (es : List ContextEdit). Enter r.number ∷ es) h.edits,
        map-append (unless_among some) a.media (tuned settings (new_media r.number) ∷ [])
            ∙ ap (λ ms. ms ++ unless_among some (tuned settings (new_media r.number)) ∷ []) h.media
            ∙ sym (map-append (unless_among some) b.media (tuned settings (new_media r.number) ∷ [])),
      ));
  modify = λ some a b target n settings h.
      ends_on some (modified a settings) (modified b settings) (λ z. commands.modify z target n settings) a.rooms
      b.rooms h.rooms (λ z r. assumption (tuned_media some settings r.number a b h));
  move_to = λ some a b target n settings h.
      ends_on some (moved a settings) (moved b settings) (λ z. commands.move_to z target n settings) a.rooms b.rooms
      h.rooms (λ z r. assumption (
        ap (λ (es : List ContextEdit). Enter r.number ∷ Leave r.number ∷ es) h.edits,
        tuned_media some settings r.number a b h,
      ));
  subtract = λ some a b target n h.
      ends_on some (subtracted a) (subtracted b) (λ z. commands.subtract z target n) a.rooms b.rooms h.rooms
      (λ z r. assumption (
        ap (λ (es : List ContextEdit). Leave r.number ∷ es) h.edits,
        changes some r.number (λ _. None) (λ s. refl) a.media b.media h.media,
      ));
  triples = λ some a b target xs h. ends_triples some target xs a b h;
}

pub is_mutual : AgreementIsMutual
is_mutual some a b h = record { config = sym h.config; rooms = sym h.rooms; edits = sym h.edits; media = sym h.media }

pub ticks_keep : SameTickKeepsAgreement
ticks_keep some a b h =
    let after = all_play some a b h in (after, all_end some (all_played a) (all_played b) after)

-- After the same datagram with the same reading, the two gateways still agree.
pub taken_alike : (some : List ℕ) (a b : Gateway) (port : ℕ) (source : List ℕ) (reading : Reading) →
    AgreeOutside some a b → AgreeOutside some (taken_by a (at_port a.rooms port) source reading).0
    (taken_by b (at_port b.rooms port) source reading).0
taken_alike some a b port source reading h =
    subst (λ (z : Registry). AgreeOutside some (taken_by a (at_port a.rooms port) source reading).0
    (taken_by b (at_port z port) source reading).0) h.rooms
    (arrives_by some (at_port a.rooms port) source reading a b h)

pub taken_by_one : (some : List ℕ) (a b : Gateway) (port : ℕ) (source : List ℕ) (reading : Reading) →
    IsPortAmong some a port → AgreeOutside some a b →
    AgreeOutside some (taken_by a (at_port a.rooms port) source reading).0 b
taken_by_one some a b port source reading (r, at, is_one) h =
    rw at (one_arrives some r.number (arrived r source reading) a b is_one h)

-- ## Packets

module _ (some : List ℕ) where
  -- A termination outside the list has the same media in both gateways.
  media_same : (a b : Gateway) (n : ℕ) → AgreeOutside some a b → has some n ≡ false → media_of a n ≡ media_of b n
  media_same a b n h out = sym (kept a.media (media_of a n) refl) ∙ found some n a.media b.media h.media ∙
      kept b.media (media_of b n) refl
    where
      kept : (xs : List TerminationMedia) (o : Option TerminationMedia) → find (λ m. eqb m.number n) xs ≡ o →
          option_map (unless_among some) o ≡ o
      kept xs None e = refl
      kept xs (Some s) e = ap Some (ap (λ (b : Bool). cond b (without_arrivals s) s)
          (ap (has some) (eqb-true s.number n (found_passes (λ m. eqb m.number n) xs s e)) ∙ out))

pub same_packets : SamePackets
same_packets some a b r h none =
    let after = all_play some a b h in
    let first = all_played a in
    let second = all_played b in
    packets_depend_on_heard first second r after.config after.rooms after.edits
    (seen some progress_of (λ s. refl) (media_of first r.number) (media_of second r.number)
    (found some r.number first.media second.media after.media))
    (λ talker flows. ap frame_in (media_same some first second talker after
    (false_from_ne_true (has some talker)
    (λ among. true≢false (sym flows ∙ none.others talker among)))))
    (λ own. ap frame_in (media_same some first second r.number after
    (false_from_ne_true (has some r.number)
    (λ among. true≢false (sym (ap (λ (x : Bool). x && hears_itself a r.number) among ∙ own) ∙ none.own)))))

pub same_stats : SameStatsButReceived
same_stats some a b n h = composed (media_of a n) ∙ seen some (λ s. but_received s.stats) (λ s. refl) (media_of a n)
    (media_of b n) (found some n a.media b.media h.media) ∙ sym (composed (media_of b n))
  where
    composed : (o : Option TerminationMedia) →
        option_map but_received (option_map (λ s. s.stats) o) ≡ option_map (λ s. but_received s.stats) o
    composed None = refl
    composed (Some s) = refl
