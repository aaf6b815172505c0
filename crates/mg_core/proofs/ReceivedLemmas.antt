-- Worlds that differ only in what was received.
use Rattle.std.proofs.Common.{arith, ◌≡◌, ◌<◌, ◌≤◌, ℕ, ℤ, ◌+◌, eqb, ◌||◌, eq-eqb, Bool, true, false, cond, List, [], ◌∷◌, ◌++◌, map, Option, Some, None, Ok, Err, refl, sym, ap, subst, ◌∙◌}
use Rattle.std.specs.Prelude.{option_to_list}
use Rattle.std.proofs.lemmas.Bool.{true≢false, ltb-true}
use Rattle.std.specs.Prelude.{nat_lt, not, length}
use Rattle.mg_words.specs.Limits.{message_limit}
use Rattle.mg_text.specs.MessageReading.{Read, TooMany, OtherVersion, NoMessage}
use Rattle.mg_rtp.specs.declared.header.Header.{Header}
use Rattle.mg_rtp.specs.Reading.{Reading}
use Rattle.mg_rooms.specs.declared.record.Record.{Record}
use Rattle.mg_rooms.specs.Changes.{change}
use Rattle.mg_words.specs.declared.peer.Peer.{Peer}
use Rattle.mg_engine.specs.declared.taken.Taken.{Taken}
use Rattle.mg_engine.specs.Apart.{unless_among, without_arrivals}
use Rattle.mg_engine.specs.Arrival.{Arrived, arrived, at_port, frame_placed, taken_at}
use Rattle.mg_engine.specs.aids.Found.{taken_by}
use Rattle.mg_engine.specs.aids.Placing.{frame_placed_at}
use Rattle.mg_engine.specs.Flow.{has}
use Rattle.mg_engine.specs.Gateway.{Gateway, TerminationMedia, media_of}
use Rattle.mg_core.specs.declared.event.Event.{Event}
use Rattle.mg_core.specs.declared.event.Event.TheVariants.{Control, Media, Tick}
use Rattle.mg_core.specs.Apart.{AgreeOutside}
use Rattle.mg_core.specs.ExceptReceived.{AgreeExceptReceived, RtpChangesSpeechOnly, RtpChangesSpeechOnlyInHistories, lasting}
use Rattle.mg_core.specs.Step.{Sent, Step, Run}
use Rattle.mg_core.specs.World.{Tally, World, with_control, with_taken}
use Rattle.mg_core.proofs.ApartLemmas.{SameEventKeepsAgreement}
use Rattle.mg_core.proofs.CountingLemmas.{answer_tally}
use Rattle.mg_core.specs.Base.{BasesStayBases}
use Rattle.mg_rooms.specs.Consistent.{IsConsistent}
use Rattle.mg_rooms.specs.Registry.{Registry}

abbrev pub ConsistentSteps : Type 0
ConsistentSteps = (w : World) (event : Event) (sent : List Sent) (next : World) → IsConsistent w.gateway.rooms →
    Step w event sent next → IsConsistent next.gateway.rooms

-- ## Media without received packets

abbrev erased : List TerminationMedia → List TerminationMedia
erased xs = map without_arrivals xs

erased_at : (s : TerminationMedia) (b : Bool) → without_arrivals (cond b (without_arrivals s) s) ≡ without_arrivals s
erased_at s true = refl
erased_at s false = refl

erased_twice : (some : List ℕ) (xs : List TerminationMedia) → erased (map (unless_among some) xs) ≡ erased xs
erased_twice some [] = refl
erased_twice some (s ∷ xs) = λ i. erased_at s (has some s.number) i ∷ erased_twice some xs i

-- If media agree outside some terminations, they also agree if the received packets of all terminations are ignored.
same_erased : (some : List ℕ) (xs ys : List TerminationMedia) →
    map (unless_among some) xs ≡ map (unless_among some) ys → erased xs ≡ erased ys
same_erased some xs ys h = sym (erased_twice some xs) ∙ ap erased h ∙ erased_twice some ys

-- ## Agreement outside all terminations

abbrev numbers : List TerminationMedia → List ℕ
numbers xs = map (λ s. s.number) xs

abbrev AreAmong : List ℕ → List ℕ → Type 0
AreAmong some [] = Unit {0}
AreAmong some (n ∷ ns) = (has some n ≡ true) × AreAmong some ns

or_true : (b x : Bool) → x ≡ true → (b || x) ≡ true
or_true true x e = refl
or_true false x e = e

among_more : (m : ℕ) (some ns : List ℕ) → AreAmong some ns → AreAmong (m ∷ some) ns
among_more m some [] h = tt
among_more m some (n ∷ ns) h = (or_true (eqb m n) (has some n) h.0, among_more m some ns h.1)

among_themselves : (ns : List ℕ) → AreAmong ns ns
among_themselves [] = tt
among_themselves (n ∷ ns) =
    (ap (λ (b : Bool). b || has ns n) (eq-eqb n n refl), among_more n ns ns (among_themselves ns))

covered_at : (s : TerminationMedia) (b : Bool) → b ≡ true → cond b (without_arrivals s) s ≡ without_arrivals s
covered_at s true e = refl
covered_at s false e = absurd (true≢false (sym e))

covered : (some : List ℕ) (xs : List TerminationMedia) → AreAmong some (numbers xs) →
    map (unless_among some) xs ≡ erased xs
covered some [] h = refl
covered some (s ∷ xs) h = λ i. covered_at s (has some s.number) h.0 i ∷ covered some xs h.1 i

same_numbers : (xs : List TerminationMedia) → numbers (erased xs) ≡ numbers xs
same_numbers [] = refl
same_numbers (s ∷ xs) = ap (λ (ns : List ℕ). s.number ∷ ns) (same_numbers xs)

-- If media agree except for received packets, they agree outside the set of all their terminations.
same_outside : (xs ys : List TerminationMedia) → erased xs ≡ erased ys →
    map (unless_among (numbers xs)) xs ≡ map (unless_among (numbers xs)) ys
same_outside xs ys h =
    let all = among_themselves (numbers xs) in
    let same = sym (same_numbers xs) ∙ ap numbers h ∙ same_numbers ys in
    covered (numbers xs) xs all ∙ h ∙
    sym (covered (numbers xs) ys (subst (λ (ns : List ℕ). AreAmong (numbers xs) ns) same all))

outside_all : (a b : World) → AgreeExceptReceived a b → AgreeOutside (numbers a.gateway.media) a b
outside_all a b h = record {
  gateway = record {
    config = h.config;
    rooms = h.rooms;
    edits = h.edits;
    media = same_outside a.gateway.media b.gateway.media h.media;
  };
  replies = h.replies;
}

except_received : (some : List ℕ) (a b : World) → AgreeOutside some a b → a.tally.ticks ≡ b.tally.ticks →
    AgreeExceptReceived a b
except_received some a b h ticks = record {
  config = h.gateway.config;
  rooms = h.gateway.rooms;
  edits = h.gateway.edits;
  media = same_erased some a.gateway.media b.gateway.media h.gateway.media;
  replies = h.replies;
  ticks = ticks;
}

-- ## An RTP datagram

record SameButReceived (g k : Gateway) : Type 0 where
  config : g.config ≡ k.config
  rooms : g.rooms ≡ k.rooms
  edits : g.edits ≡ k.edits
  media : erased g.media ≡ erased k.media

itself : (g : Gateway) → SameButReceived g g
itself g = record { config = refl; rooms = refl; edits = refl; media = refl }

placed_erased : (n : ℕ) (p : Header × List ℤ) (xs : List TerminationMedia) →
    erased (change (λ s. s.number) n (λ s. Some (frame_placed p.0 p.1 s)) xs) ≡ erased xs
placed_erased n p [] = refl
placed_erased n p (s ∷ xs) = step (eqb s.number n) (placed_erased n p xs)
  where
    step : (b : Bool) → erased (change (λ s. s.number) n (λ s. Some (frame_placed p.0 p.1 s)) xs) ≡ erased xs →
        erased (cond b (option_to_list (Some (frame_placed p.0 p.1 s)) ++ xs)
        (s ∷ change (λ s. s.number) n (λ s. Some (frame_placed p.0 p.1 s)) xs)) ≡ erased (s ∷ xs)
    step true e = refl
    step false e = ap (λ (ys : List TerminationMedia). without_arrivals s ∷ ys) e

placing : (n : ℕ) (p : Header × List ℤ) (g : Gateway) (o : Option TerminationMedia) →
    SameButReceived (frame_placed_at g n p o).0 g
placing n p g None = itself g
placing n p g (Some s) =
    record { config = refl; rooms = refl; edits = refl; media = placed_erased n p g.media }

arrival : (n : ℕ) (x : Arrived) (g : Gateway) → SameButReceived (taken_at g n x).0 g
arrival n (Ok p) g = placing n p g (media_of g n)
arrival n (Err cause) g = itself g

arrival_by : (o : Option Record) (source : List ℕ) (reading : Reading) (g : Gateway) →
    SameButReceived (taken_by g o source reading).0 g
arrival_by None source reading g = itself g
arrival_by (Some r) source reading g = arrival r.number (arrived r source reading) g

pub media_agrees : (a b x : World) (port : ℕ) (source : Peer) (bytes : List ℕ) (s : List Sent) → AgreeExceptReceived a b →
    Step a (Media port source bytes) s x → AgreeExceptReceived x b
media_agrees a b x port source bytes s h (taken, (g, (reading, reads, represents), is), sent) =
    let same = subst (λ (k : Gateway). SameButReceived k a.gateway) (ap (λ (p : Gateway × Taken). p.0) represents)
    (arrival_by (at_port a.gateway.rooms port) source.address reading a.gateway) in
    let after : World = record a { gateway = g; tally = with_taken taken a.tally } in
    let agree : AgreeExceptReceived after b = record {
      config = same.config ∙ h.config;
      rooms = same.rooms ∙ h.rooms;
      edits = same.edits ∙ h.edits;
      media = same.media ∙ h.media;
      replies = h.replies;
      ticks = h.ticks;
    } in
    subst (λ (w : World). AgreeExceptReceived w b) (sym is) agree

-- ## Control datagrams and ticks

too_long : (n : ℕ) → message_limit < n → n ≤ message_limit → ⊥
too_long n long short = omega (arith, long, short)

-- An oversized datagram is only counted.
only_counted : (a x : World) (source : Peer) (bytes : List ℕ) (s : List Sent) → message_limit < length bytes →
    Step a (Control source bytes) s x → x ≡ with_control a
only_counted a x source bytes s long (answer, (Read m, reads, is), sent) = absurd (too_long (length bytes) long reads.tree.short)
only_counted a x source bytes s long (answer, (TooMany, reads, is), sent) =
    ap (λ (p : Option (List ℕ) × World). p.1) (sym is)
only_counted a x source bytes s long (answer, (OtherVersion n, reads, is), sent) = absurd (too_long (length bytes) long reads.short)
only_counted a x source bytes s long (answer, (NoMessage, reads, is), sent) = absurd (too_long (length bytes) long reads.short)

pub oversized_agrees : (a b x : World) (source : Peer) (bytes : List ℕ) (s : List Sent) → message_limit < length bytes →
    AgreeExceptReceived a b → Step a (Control source bytes) s x → AgreeExceptReceived x b
oversized_agrees a b x source bytes s long h step =
    let counted : AgreeExceptReceived (with_control a) b = record {
      config = h.config;
      rooms = h.rooms;
      edits = h.edits;
      media = h.media;
      replies = h.replies;
      ticks = h.ticks;
    } in
    subst (λ (w : World). AgreeExceptReceived w b) (sym (only_counted a x source bytes s long step)) counted

pub control_tally : (a x : World) (source : Peer) (bytes : List ℕ) (s : List Sent) → Step a (Control source bytes) s x →
    x.tally ≡ (with_control a).tally
control_tally a x source bytes s (answer, (reading, reads, represents), sent) =
    ap (λ (p : Option (List ℕ) × World). p.1.tally) (sym represents) ∙ answer_tally bytes reading (with_control a)

module _ (event : SameEventKeepsAgreement) where
  pub control_agrees : (a b x y : World) (source : Peer) (bytes : List ℕ) (s t : List Sent) → AgreeExceptReceived a b →
      Step a (Control source bytes) s x → Step b (Control source bytes) t y → AgreeExceptReceived x y
  control_agrees a b x y source bytes s t h step too =
      let some = numbers a.gateway.media in
      let first = control_tally a x source bytes s step in
      let second = control_tally b y source bytes t too in
      except_received some x y (event some a b x y (Control source bytes) s t (outside_all a b h) step too)
      (ap (λ (t : Tally). t.ticks) first ∙ h.ticks ∙ sym (ap (λ (t : Tally). t.ticks) second))

  pub tick_agrees : (a b x y : World) (s t : List Sent) → AgreeExceptReceived a b → Step a Tick s x → Step b Tick t y →
      AgreeExceptReceived x y
  tick_agrees a b x y s t h step too =
      let some = numbers a.gateway.media in
      except_received some x y (event some a b x y Tick s t (outside_all a b h) step too)
      (ap (λ (w : World). w.tally.ticks) step.1 ∙ ap (λ n. n + 1) h.ticks ∙
      sym (ap (λ (w : World). w.tally.ticks) too.1))

  -- ## Lists of events

  abbrev AgreeAfter : (a b x y : World) (events : List Event) → Type 0
  AgreeAfter a b x y events = (s t : List Sent) → AgreeExceptReceived a b → Run a events s x →
      Run b (lasting events) t y → AgreeExceptReceived x y

  -- A control datagram, which only the first world receives if it is oversized.
  over_control : (a b x y : World) (source : Peer) (bytes : List ℕ) (events : List Event) →
      ((v w : World) → AgreeAfter v w x y events) → (is_big : Bool) → nat_lt message_limit (length bytes) ≡ is_big →
      (s t : List Sent) → AgreeExceptReceived a b → Run a (Control source bytes ∷ events) s x →
      Run b (cond (not is_big) (Control source bytes ∷ lasting events) (lasting events)) t y → AgreeExceptReceived x y
  over_control a b x y source bytes events more true big s t h (first, others, next, step, run, is) runs =
      more next b others t (oversized_agrees a b next source bytes first (ltb-true message_limit (length bytes) big) h step)
      run runs
  over_control a b x y source bytes events more false big s t h (first, others, next, step, run, is)
      (second, rest, also, too, runs, its) =
      more next also others rest (control_agrees a b next also source bytes first second h step too) run runs

  pub rtp_changes_speech_only : RtpChangesSpeechOnly
  rtp_changes_speech_only a b x y [] s t h (sent, is) (also, its) =
      subst (λ (w : World). AgreeExceptReceived w y) (sym is)
      (subst (λ (w : World). AgreeExceptReceived a w) (sym its) h)
  rtp_changes_speech_only a b x y (Control source bytes ∷ events) s t h run runs =
      over_control a b x y source bytes events (λ v w. rtp_changes_speech_only v w x y events)
      (nat_lt message_limit (length bytes)) refl s t h run runs
  rtp_changes_speech_only a b x y (Media port source bytes ∷ events) s t h (first, others, next, step, run, is) runs =
      rtp_changes_speech_only next b x y events others t (media_agrees a b next port source bytes first h step) run runs
  rtp_changes_speech_only a b x y (Tick ∷ events) s t h (first, others, next, step, run, is)
      (second, rest, also, too, runs, its) =
      rtp_changes_speech_only next also x y events others rest (tick_agrees a b next also first second h step too) run
      runs

pub agrees_itself : (w : World) → AgreeExceptReceived w w
agrees_itself w = record {
  config = refl;
  rooms = refl;
  edits = refl;
  media = refl;
  replies = refl;
  ticks = refl;
}

-- From worlds to histories. The play lists also have the same depths, because each depth equals the depth in its
-- termination's record.
pub in_histories : RtpChangesSpeechOnly → BasesStayBases → RtpChangesSpeechOnlyInHistories
in_histories worlds stay a b events s t v w one other first second same (run, stands) (runs, too) =
    let agree = worlds a b v w events s t same run runs in
    let one = (stay a v events s first run).0 in
    let other = (stay b w (lasting events) t second runs).0 in (
      agree,
      one.depths ∙ ap (λ (z : Registry). map (λ r. r.depth) z.terminations) agree.rooms ∙ sym other.depths,
    )
