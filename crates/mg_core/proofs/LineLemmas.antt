-- The output for one line of a script.
use Rattle.std.proofs.Common.{◌≡◌, ℕ, suc, ◌+◌, ◌≤◌, ◌-◌, ◌^◌, length, arith, List, [], ◌∷◌, ◌++◌, map, Option, Some, None, Result, Ok, Err, refl, sym, ap, subst, ◌∙◌, append_assoc}
use Rattle.std.proofs.lemmas.List.{append-nil}
use Rattle.std.specs.Prelude.{OnOk}
use Rattle.std.specs.Io.KnownBytes.{Appends}
use Rattle.mg_engine.specs.declared.datagram.Datagram.{Datagram}
use Rattle.mg_words.specs.declared.peer.Peer.{Peer}
use Rattle.mg_words.specs.Leads.{Leads}
use Rattle.mg_core.specs.declared.event.Event.{Event}
use Rattle.mg_core.specs.declared.event.Event.TheVariants.{Control, Tick}
use Rattle.mg_core.specs.declared.fault.EventFault.{EventFault}
use Rattle.mg_core.specs.declared.fault.EventFault.TheVariants as events
use Rattle.mg_core.specs.declared.fault.LineFault.{LineFault}
use Rattle.mg_lines.specs.declared.write_failed.WriteFailed.{WriteFailed}
use Rattle.mg_core.specs.declared.shown.Shown.{Shown}
use Rattle.mg_core.specs.declared.shown.Shown.TheVariants as shows
use Rattle.mg_core.specs.declared.state.CoreState.{CoreState}
use Rattle.mg_core.specs.Flows.{Listener, changes_by, listeners_of}
use Rattle.mg_core.specs.Run.{IsShownText, answer_line, lines_for}
use Rattle.mg_core.specs.Script.{event_of, events_of, then_all}
use Rattle.mg_core.specs.Step.{Sent, Reply, Packet, Step, answer_to}
use Rattle.mg_lines.specs.Streams.{Writes, WritesFront}
use Rattle.mg_core.specs.aids.Steps.{AreKeptListeners, ChangesWritten, EventRan, Follows, LeadsOn, LineRan, after_sent}
use Rattle.mg_core.specs.aids.Steps.{event_text, line_fault_of}
use Rattle.mg_rooms.specs.aids.Sound.{IsSound}
use Rattle.mg_core.proofs.QuietLemmas.{KeepsQuiet}
use Rattle.mg_lines.proofs.WriterLemmas.{appends_then, appends_keeps, longer}
use Rattle.mg_core.specs.World.{World, capped, packets_of, world_after_tick}
use Rattle.mg_core.specs.aids.Stands.{StandsFor}

pub same_appends : (a : Option (List ℕ)) → Appends a a []
same_appends None = tt
same_appends (Some a) = sym (append-nil a)

-- ## Counts of sent datagrams

pub sent_both : (n : ℕ) (a b : List Sent) → after_sent n (a ++ b) ≡ after_sent (after_sent n a) b
unfolding after_sent
sent_both n [] b = refl
sent_both n (s ∷ a) b = sent_both (capped (n + 1)) a b

-- A 64-bit counter increases by the number of datagrams sent, up to its maximum.
pub sent_at_once : (n : ℕ) (sent : List Sent) → n ≤ 2 ^ 64 - 1 → after_sent n sent ≡ capped (n + length sent)
unfolding after_sent
sent_at_once n [] within = omega (arith, within)
sent_at_once n (s ∷ sent) within = sent_at_once (capped (n + 1)) sent (omega arith) ∙ at_once n (length sent)
  where
    at_once : (k j : ℕ) → capped (capped (k + 1) + j) ≡ capped (k + suc j)
    at_once k j = omega arith

-- ## The output for an event

abbrev pub event_result : Result (Unit {0}) WriteFailed → Result (Unit {0}) EventFault
event_result (Ok done) = Ok tt
event_result (Err failed) = Err events.Write

-- The lines for the datagrams sent at an event were written, completely or in part.
pub written_ran : (event : Event) (sent : List Sent) (text : List ℕ) (w next : World) (n m : ℕ)
    (a b : Option (List ℕ)) (r : Result (Unit {0}) WriteFailed) → Step w event sent next → text ≡ lines_for sent →
    Writes text a b r → OnOk r (m ≡ after_sent n sent) → EventRan shows.Sent event w next n m a b (event_result r)
written_ran event sent text w next n m a b (Ok done) step is put more =
    record { sent = sent; step = step; written = subst (Appends a b) is put; counted = more }
written_ran event sent text w next n m a b (Err failed) step is put more =
    record { sent = sent; step = step; written = subst (λ (t : List ℕ). WritesFront t a b) is put }

-- An event that sends nothing leaves the output unchanged.
pub silent_ran : (event : Event) (w next : World) (n m : ℕ) (a : Option (List ℕ)) → Step w event [] next → m ≡ n →
    EventRan shows.Sent event w next n m a a (Ok tt)
unfolding after_sent
silent_ran event w next n m a step same = record { sent = []; step = step; written = same_appends a; counted = same }

pub silent_steps : (event : Event) (old new : CoreState) (n m : ℕ) (a : Option (List ℕ)) → m ≡ n →
    Leads StandsFor old new (λ w next. Step w event [] next) →
    Leads StandsFor old new (λ w next. EventRan shows.Sent event w next n m a a (Ok tt))
silent_steps event old new n m a same h w stands =
    let (next, step, left) = h w stands in
    (next, silent_ran event w next n m a step same, left)

-- After a control datagram is answered, the line for its answer is written, completely or in part.
pub answer_steps : (source : Peer) (bytes text line : List ℕ) (old new : CoreState) (n m : ℕ) (a b : Option (List ℕ))
    (r : Result (Unit {0}) WriteFailed) → Leads StandsFor old new
    (λ w next. Step w (Control source bytes) (answer_to source (Some text)) next) → line ≡ answer_line source text →
    Writes line a b r → OnOk r (m ≡ capped (n + 1)) →
    Leads StandsFor old new (λ w next. EventRan shows.Sent (Control source bytes) w next n m a b (event_result r))
unfolding after_sent
answer_steps source bytes text line old new n m a b r h is put more w stands =
    let (next, step, left) = h w stands in (
      next,
      written_ran (Control source bytes) (Reply source text ∷ []) line w next n m a b r step
          (is ∙ sym (append-nil (answer_line source text))) put more,
      left,
    )

-- After a tick, a line for each of its packets is written, or only a part of these lines.
pub tick_steps : (old new : CoreState) (outbox : List Datagram) (text : List ℕ) (n m : ℕ) (a b : Option (List ℕ))
    (r : Result (Unit {0}) WriteFailed) → ((w : World) → StandsFor old w → outbox ≡ packets_of w) →
    ((w : World) → StandsFor old w → StandsFor new (world_after_tick w)) → text ≡ lines_for (map Packet outbox) →
    Writes text a b r → OnOk r (m ≡ after_sent n (map Packet outbox)) →
    Leads StandsFor old new (λ w next. EventRan shows.Sent Tick w next n m a b (event_result r))
tick_steps old new outbox text n m a b r sent after is put more w stands = (
  world_after_tick w,
  written_ran Tick (map Packet outbox) text w (world_after_tick w) n m a b r
      (ap (map Packet) (sent w stands), refl) is put more,
  after w stands,
)

-- ## Both forms of output

same_text : (shown : Shown) (w next : World) (sent : List Sent) → changes_by w next ≡ [] →
    lines_for sent ≡ event_text shown w sent next
same_text shows.Sent w next sent none = refl
same_text shows.SentAndFlows w next sent none =
    sym (ap (λ (l : List ℕ). lines_for sent ++ l) none ∙ append-nil (lines_for sent))

-- If an event changes nothing, showing changes adds nothing to its output.
quiet_ran : (shown : Shown) (event : Event) (w next : World) (n m : ℕ) (a b : Option (List ℕ))
    (r : Result (Unit {0}) EventFault) → KeepsQuiet event → IsSound w.gateway.rooms →
    EventRan shows.Sent event w next n m a b r → EventRan shown event w next n m a b r
quiet_ran shown event w next n m a b (Ok done) quiet sound h = record {
  sent = h.sent;
  step = h.step;
  written = subst (Appends a b) (same_text shown w next h.sent (quiet w next h.sent sound h.step).none) h.written;
  counted = h.counted;
}
quiet_ran shown event w next n m a b (Err events.Write) quiet sound h = record {
  sent = h.sent;
  step = h.step;
  written = subst (λ (t : List ℕ). WritesFront t a b)
      (same_text shown w next h.sent (quiet w next h.sent sound h.step).none) h.written;
}
quiet_ran shown event w next n m a b (Err events.NoMemory) quiet sound h = h

still_kept : (shown : Shown) (kept : Option (List Listener)) (w next : World) →
    listeners_of next.gateway ≡ listeners_of w.gateway → AreKeptListeners shown kept w →
    AreKeptListeners shown kept next
still_kept shows.Sent kept w next same h = h
still_kept shows.SentAndFlows kept w next same h =
    h ∙ ap (λ (xs : List Listener). some_of xs) (sym same)
  where
    some_of : List Listener → Option (List Listener)
    some_of xs = Some xs

quiet_after : (shown : Shown) (event : Event) (new : CoreState) (kept : Option (List Listener)) (w next : World)
    (n m : ℕ) (a b : Option (List ℕ)) (r : Result (Unit {0}) EventFault) → KeepsQuiet event → IsSound w.gateway.rooms →
    EventRan shows.Sent event w next n m a b r → AreKeptListeners shown kept w → StandsFor new next →
    OnOk r (Follows shown new kept next)
quiet_after shown event new kept w next n m a b (Ok done) quiet sound h same stands = record {
  stands = stands;
  same = still_kept shown kept w next (quiet w next h.sent sound h.step).same same;
}
quiet_after shown event new kept w next n m a b (Err e) quiet sound h same stands = tt

pub quiet_steps : (event : Event) (old new : CoreState) (kept after : Option (List Listener)) (n m : ℕ)
    (a b : Option (List ℕ)) (r : Result (Unit {0}) EventFault) → KeepsQuiet event → IsSound old.engine.rooms →
    after ≡ kept → Leads StandsFor old new (λ w next. EventRan shows.Sent event w next n m a b r) → (shown : Shown) →
    LeadsOn (Follows shown old kept) (Follows shown new after) r (λ w next. EventRan shown event w next n m a b r)
quiet_steps event old new kept after n m a b r quiet sound same h shown w f =
    let (next, ran, stands) = h w f.stands in
    let here : IsSound w.gateway.rooms = subst IsSound (sym f.stands.gateway.rooms) sound in (
      next,
      quiet_ran shown event w next n m a b r quiet here ran,
      quiet_after shown event new after w next n m a b r quiet here ran
          (subst (λ (o : Option (List Listener)). AreKeptListeners shown o w) (sym same) f.same) stands,
    )

-- If the lines for an event's datagrams were not all written, or memory ran out, the same result holds when changes are
-- shown.
pub cut_ran : (shown : Shown) (event : Event) (w next : World) (n m : ℕ) (a b : Option (List ℕ)) (e : EventFault) →
    EventRan shows.Sent event w next n m a b (Err e) → EventRan shown event w next n m a b (Err e)
cut_ran shows.Sent event w next n m a b e h = h
cut_ran shows.SentAndFlows event w next n m a b events.Write h = record {
  sent = h.sent;
  step = h.step;
  written = record {
    front = h.written.front;
    rest = h.written.rest ++ changes_by w next;
    cut = longer h.written.rest (changes_by w next) h.written.cut;
    parts = ap (λ (l : List ℕ). l ++ changes_by w next) h.written.parts ∙
        append_assoc h.written.front h.written.rest (changes_by w next);
    written = h.written.written;
  };
}
cut_ran shows.SentAndFlows event w next n m a b events.NoMemory h = h

-- After the lines for an event's datagrams, the lines for its changes were written, completely or in part.
pub changed_ran : (shown : Shown) (event : Event) (w next : World) (n m : ℕ) (a b l : Option (List ℕ))
    (r : Result (Unit {0}) EventFault) → EventRan shows.Sent event w next n m a b (Ok tt) →
    ChangesWritten shown w next b l r → EventRan shown event w next n m a l r
changed_ran shows.Sent event w next n m a b l r h put = rw put.0 (record {
  sent = h.sent;
  step = h.step;
  written = appends_keeps a b l (lines_for h.sent) h.written put.1;
  counted = h.counted;
})
changed_ran shows.SentAndFlows event w next n m a b l (Ok done) h put = record {
  sent = h.sent;
  step = h.step;
  written = appends_then a b l (lines_for h.sent) (changes_by w next) h.written put;
  counted = h.counted;
}
changed_ran shows.SentAndFlows event w next n m a b l (Err events.Write) h put = record {
  sent = h.sent;
  step = h.step;
  written = record {
    front = lines_for h.sent ++ put.front;
    rest = put.rest;
    cut = put.cut;
    parts = ap (λ (t : List ℕ). lines_for h.sent ++ t) put.parts ∙
        sym (append_assoc (lines_for h.sent) put.front put.rest);
    written = appends_then a b l (lines_for h.sent) put.front h.written put.written;
  };
}
changed_ran shows.SentAndFlows event w next n m a b l (Err events.NoMemory) h put = absurd put

follows_after : (shown : Shown) (new : CoreState) (kept : Option (List Listener)) (next : World)
    (r : Result (Unit {0}) EventFault) → StandsFor new next → AreKeptListeners shown kept next →
    OnOk r (Follows shown new kept next)
follows_after shown new kept next (Ok done) stands same = record { stands = stands; same = same }
follows_after shown new kept next (Err e) stands same = tt

-- Each followed world takes the step of an event. If changes are shown, the event's changes are written, completely or
-- in part.
pub changed_steps : (event : Event) (old mid new : CoreState) (kept before after : Option (List Listener))
    (n k m : ℕ) (a b l : Option (List ℕ)) (r : Result (Unit {0}) EventFault) → before ≡ kept → new ≡ mid → m ≡ k →
    Leads StandsFor old mid (λ w next. EventRan shows.Sent event w next n k a b (Ok tt)) →
    ((shown : Shown) (w next : World) → AreKeptListeners shown before w → StandsFor mid next →
    ChangesWritten shown w next b l r × AreKeptListeners shown after next) → (shown : Shown) →
    LeadsOn (Follows shown old kept) (Follows shown new after) r (λ w next. EventRan shown event w next n m a l r)
changed_steps event old mid new kept before after n k m a b l r was is counts h put shown w f =
    let (next, ran, stands) = h w f.stands in
    let reported = put shown w next (subst (λ (o : Option (List Listener)). AreKeptListeners shown o w) (sym was) f.same)
    stands in (
      next,
      subst (λ (j : ℕ). EventRan shown event w next n j a l r) (sym counts)
          (changed_ran shown event w next n k a b l r ran reported.0),
      follows_after shown new after next r (subst (λ (x : CoreState). StandsFor x next) (sym is) stands) reported.1,
    )

-- If an event's datagrams were not all written, or memory ran out, each followed world has the same result, whether or
-- not changes are shown.
pub cut_steps : (event : Event) (old new : CoreState) (kept after : Option (List Listener)) (n m : ℕ)
    (a b : Option (List ℕ)) (e : EventFault) →
    Leads StandsFor old new (λ w next. EventRan shows.Sent event w next n m a b (Err e)) → (shown : Shown) →
    LeadsOn (Follows shown old kept) (Follows shown new after) (Err e)
    (λ w next. EventRan shown event w next n m a b (Err e))
cut_steps event old new kept after n m a b e h shown w f =
    let (next, ran, stands) = h w f.stands in
    (next, cut_ran shown event w next n m a b e ran, tt)

-- The text for a list of one event is the text of that event.
one_text : (shown : Shown) (event : Event) (w next : World) (sent : List Sent) → Step w event sent next →
    IsShownText shown w (event ∷ []) sent (event_text shown w sent next) next
one_text shows.Sent event w next sent step = refl
one_text shows.SentAndFlows event w next sent step = (
  sent,
  [],
  next,
  step,
  (refl, refl),
  ap (λ (l : List ℕ). lines_for sent ++ l) (sym (append-nil (changes_by w next))),
)

pub no_text : (shown : Shown) (w : World) → IsShownText shown w [] [] [] w
no_text shows.Sent w = refl
no_text shows.SentAndFlows w = (refl, refl)

-- ## The output for a line

abbrev pub line_result : Result (Unit {0}) EventFault → Result (Unit {0}) LineFault
line_result (Ok done) = Ok tt
line_result (Err fault) = Err (line_fault_of fault)

abbrev pub an_event_or_none : Option Event → Option (Option Event)
an_event_or_none e = Some e

pub one_line : (line : List ℕ) (e : Option Event) → event_of line ≡ Some e → events_of (line ∷ []) ≡ Some (then_all e [])
unfolding events_of
one_line line e is = rw is refl

-- A comment or an empty line has no event, so the world and the output stay unchanged.
pub comment_ran : (shown : Shown) (number : ℕ) (line : List ℕ) (w : World) (n : ℕ) (a : Option (List ℕ)) →
    event_of line ≡ Some None → LineRan shown number line w w n n a a (Ok tt)
unfolding after_sent
comment_ran shown number line w n a is = record {
  ran = record {
    events = [];
    sent = [];
    text = [];
    are = one_line line None is;
    run = (refl, refl);
    is_text = no_text shown w;
    written = same_appends a;
  };
  counted = refl;
}

-- A line with an event runs that event.
event_line : (shown : Shown) (number : ℕ) (line : List ℕ) (event : Event) (w next : World) (n m : ℕ)
    (a b : Option (List ℕ))
    (r : Result (Unit {0}) EventFault) → event_of line ≡ Some (Some event) → EventRan shown event w next n m a b r →
    LineRan shown number line w next n m a b (line_result r)
event_line shown number line event w next n m a b (Ok done) is h = record {
  ran = record {
    events = event ∷ [];
    sent = h.sent;
    text = event_text shown w h.sent next;
    are = one_line line (Some event) is;
    run = (h.sent, [], next, h.step, (refl, refl), sym (append-nil h.sent));
    is_text = one_text shown event w next h.sent h.step;
    written = h.written;
  };
  counted = h.counted;
}
event_line shown number line event w next n m a b (Err events.Write) is h = record {
  events = event ∷ [];
  sent = h.sent;
  text = event_text shown w h.sent next;
  front = h.written.front;
  rest = h.written.rest;
  cut = h.written.cut;
  are = one_line line (Some event) is;
  run = (h.sent, [], next, h.step, (refl, refl), sym (append-nil h.sent));
  is_text = one_text shown event w next h.sent h.step;
  parts = h.written.parts;
  written = h.written.written;
}
event_line shown number line event w next n m a b (Err events.NoMemory) is h = h

-- If a step can leave each world unchanged, the worlds that satisfy `Kept` still satisfy it afterwards.
pub same_steps : {E : Type 0} (Kept : World → Type 0) (r : Result (Unit {0}) E) (R : World → World → Type 0) →
    ((w : World) → R w w) → LeadsOn Kept Kept r R
same_steps Kept (Ok done) R f w stands = (w, f w, stands)
same_steps Kept (Err e) R f w stands = (w, f w, tt)

on_line : (r : Result (Unit {0}) EventFault) (A : Type 0) → OnOk r A → OnOk (line_result r) A
on_line (Ok done) A h = h
on_line (Err e) A h = tt

pub line_steps : (shown : Shown) (number : ℕ) (line : List ℕ) (event : Event) (Old New : World → Type 0) (n m : ℕ)
    (a b : Option (List ℕ)) (r : Result (Unit {0}) EventFault) → event_of line ≡ Some (Some event) →
    LeadsOn Old New r (λ w next. EventRan shown event w next n m a b r) →
    LeadsOn Old New (line_result r) (λ w next. LineRan shown number line w next n m a b (line_result r))
line_steps shown number line event Old New n m a b r is h w stands =
    let (next, represents, left) = h w stands in
    (next, event_line shown number line event w next n m a b r is represents, on_line r (New next) left)
