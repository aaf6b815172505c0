-- Two worlds that differ only in what some terminations received.
use Rattle.std.proofs.Common.{◌≡◌, ℕ, ◌-◌, eqb, leb, not, ◌&&◌, Bool, true, false, cond, List, [], ◌∷◌, ◌++◌, length, map, drop, Option, Some, None, refl, sym, ap, subst, ◌∙◌, append_assoc}
use Rattle.std.specs.Prelude.{filter, find, filter_map, option_map, is_some}
use Rattle.std.specs.List.{AllByRecursion, cons_option}
use Rattle.std.specs.Str.{str_eq_ignore_ascii_case}
use Rattle.std.proofs.lemmas.Bool.{eqb-true}
use Rattle.std.proofs.lemmas.List.{drop-map, map-append, length-map}
use Rattle.mg_kept.specs.KeptReplies.{KeptReply, kept_text, newest, with_reply, without_range}
use Rattle.mg_commands.specs.aids.Agreement.{RequestsKeepAgreement}
use Rattle.mg_commands.specs.Transaction.{replied}
use Rattle.mg_rooms.specs.declared.record.Record.{Record}
use Rattle.mg_rooms.specs.Limits.{slot_port}
use Rattle.mg_rooms.specs.Registry as rooms
use Rattle.mg_sdp.specs.declared.chosen.Chosen.{Chosen}
use Rattle.mg_engine.specs.declared.datagram.Datagram.{Datagram}
use Rattle.mg_words.specs.declared.peer.Peer.{Peer}
use Rattle.mg_engine.specs.Apart as engine
use Rattle.mg_engine.specs.aids.Agreement as agreement
use Rattle.mg_engine.specs.Apart.{HearsNone, IsPortAmong}
use Rattle.mg_engine.specs.Gateway.{Gateway, TerminationMedia, media_of}
use Rattle.mg_engine.specs.Arrival.{at_port}
use Rattle.mg_engine.specs.Tick.{after_tick, all_played, packet, packet_of, sent_in_tick, sent_to}
use Rattle.mg_engine.specs.aids.Found.{packet_to}
use Rattle.mg_scan.specs.Span.{text_of}
use Rattle.mg_text.specs.declared.body.MessageItem.{MessageItem}
use Rattle.mg_text.specs.declared.body.MessageItem.TheVariants as items
use Rattle.mg_text.specs.declared.body.Range.{Range}
use Rattle.mg_text.specs.declared.request.Request.{Request}
use Rattle.mg_text.specs.Message.{items_of}
use Rattle.mg_text.specs.MessageReading.{MessageReading, IsMessageReading, Read, TooMany, OtherVersion, NoMessage}
use Rattle.mg_core.specs.declared.event.Event.{Event}
use Rattle.mg_core.specs.declared.event.Event.TheVariants.{Control, Media, Tick}
use Rattle.mg_core.specs.Answer.{answer_head, answered, has_requests, if_asked, item_replied, mark_after, replied_to, run_and_kept, sent_text, without_ranges}
use Rattle.mg_core.specs.aids.Answers.{unless_kept}
use Rattle.mg_core.specs.Apart.{AgreeOutside, Both, DifferAtPortsOf, FirstOnly, Happening, HearsNoneAt, SecondOnly}
use Rattle.mg_core.specs.Apart.{UnheardChangesNothing, UnheardInHistories, UnheardInScripts, key_of, to_first, to_second}
use Rattle.mg_core.specs.Step.{Sent, Packet, Run, Step}
use Rattle.mg_core.specs.World.{World, packets_of, with_control}

-- ## Keys of kept replies

abbrev Key : Type 0
Key = List ℕ × ℕ

abbrev keys : List KeptReply → List Key
keys replies = map key_of replies

abbrev is_key : List ℕ → ℕ → Key → Bool
is_key sender number key = eqb key.1 number && str_eq_ignore_ascii_case key.0 sender

abbrev in_range : List ℕ → ℕ → ℕ → Key → Bool
in_range sender first last key = leb first key.1 && leb key.1 last && str_eq_ignore_ascii_case key.0 sender

keys_filtered : (p : Key → Bool) (replies : List KeptReply) →
    keys (filter (λ r. p (key_of r)) replies) ≡ filter p (keys replies)
keys_filtered p [] = refl
keys_filtered p (r ∷ rs) = step (p (key_of r)) (keys_filtered p rs)
  where
    step : (b : Bool) → keys (filter (λ x. p (key_of x)) rs) ≡ filter p (keys rs) →
        keys (cond b (r ∷ filter (λ x. p (key_of x)) rs) (filter (λ x. p (key_of x)) rs)) ≡
        cond b (key_of r ∷ filter p (keys rs)) (filter p (keys rs))
    step true e = ap (λ (l : List Key). key_of r ∷ l) e
    step false e = e

-- Whether a key in the list passes the test. By `kept_by_key`, the keys alone determine whether a reply is kept.
find_key : (p : Key → Bool) → List Key → Bool
find_key p [] = false
find_key p (k ∷ ks) = cond (p k) true (find_key p ks)

kept_by_key : (p : Key → Bool) (replies : List KeptReply) →
    is_some (option_map (λ r. r.text) (find (λ r. p (key_of r)) replies)) ≡ find_key p (keys replies)
unfolding find_key
kept_by_key p [] = refl
kept_by_key p (r ∷ rs) = step (p (key_of r)) (kept_by_key p rs)
  where
    step : (b : Bool) → is_some (option_map (λ x. x.text) (find (λ x. p (key_of x)) rs)) ≡ find_key p (keys rs) →
        is_some (option_map (λ x. x.text) (cond b (Some r) (find (λ x. p (key_of x)) rs))) ≡
        cond b true (find_key p (keys rs))
    step true e = refl
    step false e = e

keys_dropped : (n : ℕ) (replies : List KeptReply) → keys (drop n replies) ≡ drop n (keys replies)
keys_dropped n replies = sym (drop-map key_of n replies)

abbrev newest_keys : ℕ → List Key → List Key
newest_keys count ks = drop (length ks - count) ks

keys_newest : (count : ℕ) (replies : List KeptReply) → keys (newest count replies) ≡ newest_keys count (keys replies)
keys_newest count replies = keys_dropped (length replies - count) replies ∙
    ap (λ (n : ℕ). drop (n - count) (keys replies)) (sym (length-map replies key_of))

module _ (some : List ℕ) where
  -- The two lists of replies have the same keys.
  abbrev SameKeys : List KeptReply → List KeptReply → Type 0
  SameKeys x y = keys x ≡ keys y

  with_reply_keys : (one other : KeptReply) (x y : List KeptReply) → key_of one ≡ key_of other → SameKeys x y →
      SameKeys (with_reply one x) (with_reply other y)
  with_reply_keys one other x y same h =
      keys_newest 32 (x ++ one ∷ []) ∙ ap (newest_keys 32)
      (map-append key_of x (one ∷ []) ∙ (λ i. h i ++ same i ∷ []) ∙ sym (map-append key_of y (other ∷ []))) ∙
      sym (keys_newest 32 (y ++ other ∷ []))

  range_keys : (sender : List ℕ) (first last : ℕ) (x y : List KeptReply) → SameKeys x y →
      SameKeys (without_range sender first last x) (without_range sender first last y)
  range_keys sender first last x y h =
      keys_filtered (λ k. not (in_range sender first last k)) x ∙
      ap (filter (λ k. not (in_range sender first last k))) h ∙
      sym (keys_filtered (λ k. not (in_range sender first last k)) y)

  ranges_keys : (sender : List ℕ) (ranges : List Range) (x y : List KeptReply) → SameKeys x y →
      SameKeys (without_ranges sender ranges x) (without_ranges sender ranges y)
  ranges_keys sender [] x y h = h
  ranges_keys sender (r ∷ rs) x y h = ranges_keys sender rs (without_range sender r.first r.last x)
      (without_range sender r.first r.last y) (range_keys sender r.first r.last x y h)

  kept_alike : (sender : List ℕ) (number : ℕ) (x y : List KeptReply) → SameKeys x y →
      is_some (kept_text x sender number) ≡ is_some (kept_text y sender number)
  kept_alike sender number x y h = kept_by_key (is_key sender number) x ∙ ap (find_key (is_key sender number)) h ∙
      sym (kept_by_key (is_key sender number) y)

-- ## Control datagrams

module _ (requests : RequestsKeepAgreement) (some : List ℕ) where
  abbrev Agree : World → World → Type 0
  Agree a b = AgreeOutside some a b

  run_agrees : (source sender : List ℕ) (request : Request) (a b : World) → Agree a b
      → Agree (run_and_kept sender request.number a (replied source request a.gateway)).1
      (run_and_kept sender request.number b (replied source request b.gateway)).1
  run_agrees source sender request a b h =
      let s = replied source request a.gateway in
      let t = replied source request b.gateway in
      let one : KeptReply = record {
        sender = sender;
        number = request.number;
        text = sent_text request.number s.items;
      } in
      let other : KeptReply = record {
        sender = sender;
        number = request.number;
        text = sent_text request.number t.items;
      } in
      record {
        gateway = (requests some source request a.gateway b.gateway h.gateway).0;
        replies = with_reply_keys some one other a.replies b.replies refl h.replies;
      }

  unless_agrees : (o k : Option (List ℕ)) (source sender : List ℕ) (request : Request) (a b : World) →
      is_some o ≡ is_some k → Agree a b → Agree (unless_kept o source sender request a).1
      (unless_kept k source sender request b).1
  unless_agrees (Some text) (Some other) source sender request a b e h = h
  unless_agrees None None source sender request a b e h = run_agrees source sender request a b h
  unless_agrees (Some text) None source sender request a b e h = absurd (cc e)
  unless_agrees None (Some text) source sender request a b e h = absurd (cc e)

  item_agrees : (source sender mark : List ℕ) (x : MessageItem) (a b : World) → Agree a b →
      Agree (item_replied source sender mark x a).1 (item_replied source sender mark x b).1
  item_agrees source sender mark (items.Request request) a b h =
      unless_agrees (kept_text a.replies sender request.number) (kept_text b.replies sender request.number) source
      sender request a b (kept_alike some sender request.number a.replies b.replies h.replies) h
  item_agrees source sender mark (items.Acknowledgement ranges) a b h =
      record { gateway = h.gateway; replies = ranges_keys some sender ranges a.replies b.replies h.replies }

  items_agree : (source sender mark : List ℕ) (xs : List MessageItem) (a b : World) → Agree a b →
      Agree (replied_to source sender mark xs a).1 (replied_to source sender mark xs b).1
  unfolding replied_to
  items_agree source sender mark [] a b h = h
  items_agree source sender mark (x ∷ xs) a b h =
      items_agree source sender (mark_after mark x) xs (item_replied source sender mark x a).1
      (item_replied source sender mark x b).1 (item_agrees source sender mark x a b h)

  asked_agrees : (asked : Bool) (head other : List ℕ) (p q : List ℕ × World) → Agree p.1 q.1 →
      Agree (if_asked asked head p).1 (if_asked asked other q).1
  asked_agrees true head other p q h = h
  asked_agrees false head other p q h = h

  answer_agrees : (source : List ℕ) (reading : MessageReading) (a b : World) → Agree a b →
      Agree (answered source reading a).1 (answered source reading b).1
  answer_agrees source (Read m) a b h =
      asked_agrees (has_requests (items_of m.body)) (answer_head a) (answer_head b)
      (replied_to source (text_of source m.sender) [] (items_of m.body) a)
      (replied_to source (text_of source m.sender) [] (items_of m.body) b)
      (items_agree source (text_of source m.sender) [] (items_of m.body) a b h)
  answer_agrees source TooMany a b h = h
  answer_agrees source (OtherVersion n) a b h = h
  answer_agrees source NoMessage a b h = h

-- ## Events

abbrev OneReading : Type 0
OneReading = (bytes : List ℕ) (a b : MessageReading) → IsMessageReading bytes a → IsMessageReading bytes b → a ≡ b

-- If two worlds agree outside some terminations, they still agree after the same event.
abbrev pub SameEventKeepsAgreement : Type 0
SameEventKeepsAgreement = (some : List ℕ) (a b x y : World) (event : Event) (s t : List Sent) →
    AgreeOutside some a b → Step a event s x → Step b event t y → AgreeOutside some x y

-- If two worlds agree outside some terminations, they still agree after one of them receives an RTP datagram for one of
-- those terminations.
abbrev OneArrivalKeepsAgreement : Type 0
OneArrivalKeepsAgreement = (some : List ℕ) (a b x : World) (port : ℕ) (source : Peer) (bytes : List ℕ) (s : List Sent) →
    AgreeOutside some a b → IsPortAmong some a.gateway port → Step a (Media port source bytes) s x →
    AgreeOutside some x b

module _ (requests : RequestsKeepAgreement) (reads : OneReading) (media : agreement.SameArrivalKeepsAgreement)
    (one_arrival : agreement.OneArrivalKeepsAgreement) (turned : agreement.AgreementIsMutual)
    (ticks : agreement.SameTickKeepsAgreement) where
  pub same_event : SameEventKeepsAgreement
  same_event some a b x y (Control source bytes) s t h (answer, (r, is, represents), sent) (other, (q, too, comes), also) =
      let both = answer_agrees requests some bytes r (with_control a) (with_control b)
      (record { gateway = h.gateway; replies = h.replies }) in
      let first_is : (answered bytes r (with_control a)).1 ≡ x = ap (λ (p : Option (List ℕ) × World). p.1) represents in
      let second_is : (answered bytes r (with_control b)).1 ≡ y =
      ap (λ (z : MessageReading). (answered bytes z (with_control b)).1) (reads bytes r q is too) ∙
      ap (λ (p : Option (List ℕ) × World). p.1) comes in
      subst (λ (w : World). AgreeOutside some w y) first_is
      (subst (λ (w : World). AgreeOutside some (answered bytes r (with_control a)).1 w) second_is both)
  same_event some a b x y (Media port source bytes) s t h (taken, (g, takes, is), sent) (other, (k, too, its), also) =
      record {
        gateway = subst (λ (w : World). engine.AgreeOutside some w.gateway y.gateway) (sym is)
            (subst (λ (w : World). engine.AgreeOutside some g w.gateway) (sym its)
            (media some a.gateway b.gateway g k port source.address bytes taken other h.gateway takes too));
        replies = ap (λ (w : World). keys w.replies) is ∙ h.replies ∙ ap (λ (w : World). keys w.replies) (sym its);
      }
  same_event some a b x y Tick s t h (sent, is) (also, its) = record {
    gateway = subst (λ (w : World). engine.AgreeOutside some w.gateway y.gateway) (sym is)
        (subst (λ (w : World). engine.AgreeOutside some (after_tick a.gateway) w.gateway) (sym its)
        (ticks some a.gateway b.gateway h.gateway).1);
    replies = ap (λ (w : World). keys w.replies) is ∙ h.replies ∙ ap (λ (w : World). keys w.replies) (sym its);
  }

  pub one_event : OneArrivalKeepsAgreement
  one_event some a b x port source bytes s h among (taken, (g, takes, is), sent) = record {
    gateway = subst (λ (w : World). engine.AgreeOutside some w.gateway b.gateway) (sym is)
        (one_arrival some a.gateway b.gateway g port source.address bytes taken h.gateway among takes);
    replies = ap (λ (w : World). keys w.replies) is ∙ h.replies;
  }

  pub turn : (some : List ℕ) (a b : World) → AgreeOutside some a b → AgreeOutside some b a
  turn some a b h = record { gateway = turned some a.gateway b.gateway h.gateway; replies = sym h.replies }

-- ## Packets of a tick

module _ (same : engine.SamePackets) (some : List ℕ) (port : ℕ) where
  abbrev from : List Datagram → List Datagram
  from ds = filter (λ d. eqb d.from port) ds

  one_more : (x : Bool) (d : Datagram) (rest others : List Datagram) → rest ≡ others →
      cond x (d ∷ rest) rest ≡ cond x (d ∷ others) others
  one_more true d rest others e = ap (λ (l : List Datagram). d ∷ l) e
  one_more false d rest others e = e

  cons_same : (o : Option Datagram) (rest others : List Datagram) → from rest ≡ from others →
      from (cons_option o rest) ≡ from (cons_option o others)
  cons_same None rest others e = e
  cons_same (Some d) rest others e = one_more (eqb d.from port) d (from rest) (from others) e

  -- A termination with another port does not change the list of packets from this port.
  unseen_at : (w : Gateway) (r : Record) (to : Chosen) (o : Option TerminationMedia) (rest : List Datagram) →
      eqb (slot_port w.rooms.limits r.slot) port ≡ false →
      from (cons_option (option_map (packet w r to) o) rest) ≡ from rest
  unseen_at w r to None rest e = refl
  unseen_at w r to (Some s) rest e = ap (λ (x : Bool). cond x (packet w r to s ∷ from rest) (from rest)) e

  unseen : (w : Gateway) (r : Record) (to : Option Chosen) (rest : List Datagram) →
      eqb (slot_port w.rooms.limits r.slot) port ≡ false → from (cons_option (packet_to w r to) rest) ≡ from rest
  unseen w r None rest e = refl
  unseen w r (Some to) rest e = unseen_at w r to (media_of w r.number) rest e

  each : (a b : Gateway) (r : Record) (rest others : List Datagram) (x : Bool) →
      eqb (slot_port a.rooms.limits r.slot) port ≡ x → a.rooms ≡ b.rooms →
      (x ≡ true → packet_of a r ≡ packet_of b r) → from rest ≡ from others →
      from (cons_option (packet_of a r) rest) ≡ from (cons_option (packet_of b r) others)
  each a b r rest others true at same_rooms packets h =
      ap (λ (o : Option Datagram). from (cons_option o rest)) (packets refl) ∙ cons_same (packet_of b r) rest others h
  each a b r rest others false at same_rooms packets h =
      unseen a r (sent_to r) rest at ∙ h ∙ sym
      (unseen b r (sent_to r) others (ap (λ (z : rooms.Registry). eqb (slot_port z.limits r.slot) port)
      (sym same_rooms) ∙ at))

  all_same : (a b : Gateway) (rs : List Record) → engine.AgreeOutside some a b →
      AllByRecursion (λ r. slot_port a.rooms.limits r.slot ≡ port → HearsNone some a r.number) rs
      → from (filter_map (packet_of (all_played a)) rs) ≡ from (filter_map (packet_of (all_played b)) rs)
  all_same a b [] h none = refl
  all_same a b (r ∷ rs) h none =
      each (all_played a) (all_played b) r (filter_map (packet_of (all_played a)) rs)
      (filter_map (packet_of (all_played b)) rs) (eqb (slot_port a.rooms.limits r.slot) port) refl h.rooms
      (λ at. same some a b r h (none.0 (eqb-true (slot_port a.rooms.limits r.slot) port at))) (all_same a b rs h none.1)

  pub tick_same : (a b : Gateway) → engine.AgreeOutside some a b → HearsNoneAt some a port →
      from (sent_in_tick a) ≡ from (sent_in_tick b)
  tick_same a b h none =
      all_same a b a.rooms.terminations h none ∙
      ap (λ (z : rooms.Registry). from (filter_map (packet_of (all_played b)) z.terminations)) h.rooms

-- ## Lists of events

among_both : (some : List ℕ) (a b : World) (port : ℕ) → AgreeOutside some a b → IsPortAmong some a.gateway port →
    IsPortAmong some b.gateway port
among_both some a b port h (r, at, is_one) =
    (r, ap (λ (z : rooms.Registry). at_port z port) (sym h.gateway.rooms) ∙ at, is_one)

module _ (event : SameEventKeepsAgreement) (one : OneArrivalKeepsAgreement)
    (turned : (some : List ℕ) (a b : World) → AgreeOutside some a b →
    AgreeOutside some b a) (same : engine.SamePackets)
  where
    -- Suppose two worlds agree outside some terminations, and then their events differ only in RTP datagrams at the
    -- ports of these terminations. Then the worlds still agree outside these terminations.
    agree_after : (some : List ℕ) (a b x y : World) (xs : List Happening) (s t : List Sent) → AgreeOutside some a b →
        DifferAtPortsOf some a xs → Run a (to_first xs) s x → Run b (to_second xs) t y → AgreeOutside some x y
    agree_after some a b x y [] s t h only (sent, is) (also, its) =
        subst (λ (w : World). AgreeOutside some w y) (sym is) (subst (λ (w : World). AgreeOutside some a w) (sym its) h)
    agree_after some a b x y (Both e ∷ xs) s t h only (first, others, next, step, run, is)
        (second, rest, also, too, runs, its) =
        agree_after some next also x y xs others rest (event some a b next also e first second h step too)
        (only first next step) run runs
    agree_after some a b x y (FirstOnly p source bytes ∷ xs) s t h (among, only) (first, others, next, step, run, is)
        runs =
        agree_after some next b x y xs others t (one some a b next p source bytes first h among step)
        (only first next step) run runs
    agree_after some a b x y (SecondOnly p source bytes ∷ xs) s t h (among, only) run
        (second, rest, also, too, runs, its) =
        agree_after some a also x y xs s rest (turned some also a (one some b a also p source bytes second
        (turned some a b h) (among_both some a b p h among) too)) only run runs

    pub unheard : UnheardChangesNothing
    unheard some port a b x y xs s t h only run runs =
        let agree = agree_after some a b x y xs s t h only run runs in
        (agree, tick_same same some port x.gateway y.gateway agree.gateway)

-- ## Scripts

-- The datagrams sent around a tick are those sent before it, the packets of the tick, and those sent after it.
around_tick : (w last : World) (events rest : List Event) (sent : List Sent) → Run w (events ++ (Tick ∷ rest)) sent last
    → (v : World) × (before after : List Sent) × Run w events before v
    × (sent ≡ before ++ (map Packet (packets_of v) ++ after))
around_tick w last [] rest sent (first, others, next, (packets, is), run, parts) =
    (w, [], others, (refl, refl), parts ∙ ap (λ (l : List Sent). l ++ others) packets)
around_tick w last (event ∷ events) rest sent (first, others, next, step, run, parts) =
    let (v, before, after, runs, are) = around_tick next last events rest others run in (
      v,
      first ++ before,
      after,
      (first, before, next, step, runs, refl),
      parts ∙ ap (λ (l : List Sent). first ++ l) are ∙
          sym (append_assoc first before (map Packet (packets_of v) ++ after)),
    )

itself : (some : List ℕ) (w : World) → AgreeOutside some w w
itself some w = record { gateway = record { config = refl; rooms = refl; edits = refl; media = refl }; replies = refl }

pub unheard_in_histories : UnheardChangesNothing → UnheardInHistories
unheard_in_histories lists some port base xs s t v w one other only (run, stands) (runs, too) =
    (lists some port base base v w xs s t (itself some base) only run runs).1

pub unheard_in_scripts : UnheardChangesNothing → UnheardInScripts
unheard_in_scripts lists some port base xs rest others first second one other counts more old new was now a b only is
    its =
    let (v, before, after, run, are) = around_tick base a.last (to_first xs) rest a.ran.sent
    (subst (λ (events : List Event). Run base events a.ran.sent a.last) is a.ran.run) in
    let (w, earlier, later, runs, too) = around_tick base b.last (to_second xs) others b.ran.sent
    (subst (λ (events : List Event). Run base events b.ran.sent b.last) its b.ran.run) in (
      v,
      w,
      (before, after, run, are),
      (earlier, later, runs, too),
      (lists some port base base v w xs before earlier (itself some base) only run
          runs).1,
    )
