-- The depth of each play list equals the depth in the record of its termination.
use Rattle.std.proofs.Common.{◌≡◌, ℕ, ℤ, ◌+◌, ◌-◌, ◌≤◌, eqb, min, ◌||◌, Bool, true, false, cond, List, [], ◌∷◌, ◌++◌, length, map, take, drop, find, Option, Some, None, Result, Ok, Err, refl, sym, ap, subst, ◌∙◌, length-append, length-drop, length-take, length-set, arith}
use Rattle.std.specs.Prelude.{int_le, int_lt, is_some, nat_abs, nat_le, neg_ℤ, not, ok_or, pos, unwrap_or}
use Rattle.std.specs.List.{AllByRecursion}
use Rattle.std.proofs.lemmas.Bool.{eqb-true}
use Rattle.std.proofs.lemmas.List.{length-replicate}
use Rattle.mg_words.specs.ResultSteps.{◌>>=◌}
use Rattle.mg_words.specs.declared.error_number.ErrorNumber.TheVariants as refusals
use Rattle.mg_playout.specs.Places.{FramePlaces, empty_places, fallen, frame_at, has_no_frame, resized, started_with}
use Rattle.mg_playout.specs.Playout.{PlayList, depth_of, distance_in, filled, first_list, is_idle, is_new_source, placed, shifted, started, ticked_in}
use Rattle.mg_playout.specs.Played.{given}
use Rattle.mg_playout.specs.declared.placed.Placed.{Placed}
use Rattle.mg_playout.specs.declared.placed.Placed.TheVariants as answer
use Rattle.mg_playout.specs.declared.played.Played.{Played}
use Rattle.mg_playout.specs.declared.played.Played.TheVariants.{Silence}
use Rattle.mg_playout.specs.declared.phase.Phase.{Phase}
use Rattle.mg_playout.specs.declared.phase.Phase.TheVariants.{Idle, Wait, Run as Running}
use Rattle.mg_rtp.specs.declared.header.Header.{Header}
use Rattle.mg_rtp.specs.Reading.{Reading}
use Rattle.mg_rooms.specs.declared.limits.Limits.{Limits}
use Rattle.mg_rooms.specs.declared.record.Record.{Record}
use Rattle.mg_rooms.specs.declared.settings.Settings.{Settings}
use Rattle.mg_rooms.specs.declared.target.Target.{Target}
use Rattle.mg_rooms.specs.Changes.{change, entered, inserted, left, removed, replaced}
use Rattle.mg_rooms.specs.Consistent.{IsConsistent, IsTermination}
use Rattle.mg_rooms.specs.Limits.{slot_port}
use Rattle.mg_rooms.specs.Outcome.{add, is_number, may_enter, may_have_members, member, modify, move_to, named, new_place, new_slot, subtract}
use Rattle.mg_rooms.specs.Results.{passes}
use Rattle.mg_rooms.specs.Record.{at_place, fresh, with_settings}
use Rattle.mg_rooms.specs.Registry.{Registry, members_at, record_at}
use Rattle.mg_rooms.specs.Settings.{depth_after, media_after}
use Rattle.mg_rooms.proofs.LastLemmas.{entered_terminations}
use Rattle.mg_engine.specs.Arrival.{Arrived, Takes, arrived, at_port, frame_placed, taken_at}
use Rattle.mg_engine.specs.Gateway.{Gateway, TerminationMedia, media_of, new_media}
use Rattle.mg_engine.specs.Outcome as edits
use Rattle.mg_engine.specs.Outcome.{media_with, media_without, tuned}
use Rattle.mg_engine.specs.Triples.{check_triples, with_triples}
use Rattle.mg_engine.specs.declared.taken.Taken.{Taken}
use Rattle.mg_engine.specs.declared.topology_triple.TopologyTriple.{TopologyTriple}
use Rattle.mg_engine.proofs.OrderLemmas.{done_is, found_passes}
use Rattle.mg_sdp.specs.Choice.{local_choice, remote_choice}
use Rattle.mg_text.specs.declared.request.Request.{Request}
use Rattle.mg_commands.specs.Transaction.{replied}
use Rattle.mg_commands.proofs.KeepLemmas.{request_keeps}
use Rattle.mg_core.specs.declared.event.Event.{Event}
use Rattle.mg_core.specs.declared.event.Event.TheVariants.{Control, Media, Tick}
use Rattle.mg_core.specs.Step.{Sent, Step}
use Rattle.mg_core.specs.World.{World, with_control}
use Rattle.mg_core.proofs.ConsistentLemmas.{answer_keeps}
use Rattle.mg_engine.specs.Steps.{play_after}
use Rattle.mg_engine.specs.Tick.{after_tick, played, sends_at, sent}
use Rattle.mg_engine.specs.aids.Found.{taken_by}
use Rattle.mg_engine.specs.aids.Placing.{frame_placed_at}

-- ## The depths of play lists

abbrev no_frame : Option (List ℤ)
no_frame = None

resized_depth : (places : FramePlaces) (depth : ℕ) → length (resized places depth) ≡ depth
resized_depth places depth =
    omega (
      arith,
      length-append (take depth places) (empty_places (depth - length places)),
      length-take depth places,
      length-replicate (depth - length places) no_frame,
    )

fallen_depth : (places : FramePlaces) (count : ℕ) → length (fallen places count) ≡ length places
fallen_depth places count =
    omega (
      arith,
      length-append (drop count places) (empty_places (min count (length places))),
      length-drop count places,
      length-replicate (min count (length places)) no_frame,
    )

started_depth : (frame : List ℤ) (depth : ℕ) → 1 ≤ depth → length (started_with frame depth) ≡ depth
started_depth frame depth h = omega (arith, length-replicate (depth - 1) no_frame)

tuned_depth : (asked : Option ℕ) (play : PlayList) → depth_of (play_after asked play) ≡ depth_after asked (depth_of play)
tuned_depth None play = refl
tuned_depth (Some depth) play = resized_depth play.places (depth_after (Some depth) depth)

either_depth : {A : Type 0} (d : ℕ) (b : Bool) (p q : PlayList × A) → depth_of p.0 ≡ d → depth_of q.0 ≡ d →
    depth_of (cond b p q).0 ≡ d
either_depth d true p q h k = h
either_depth d false p q h k = k

ticked_depth : (phase : Phase) (list : PlayList) → depth_of (ticked_in phase list).0 ≡ depth_of list
ticked_depth Idle list = refl
ticked_depth (Wait ticks) list = refl
ticked_depth Running list =
    let empty : PlayList × Played = (record list { phase = Idle; last = None }, Silence) in
    let next : PlayList × Played = (
      record (shifted list 1) { last = frame_at list.places 0 },
      given (frame_at list.places 0) list.last,
    ) in
    either_depth {A = Played} (depth_of list) (has_no_frame list.places) empty next refl (fallen_depth list.places 1)

abbrev Put : Type 0
Put = PlayList × Placed

placed_depth : (list : PlayList) (ssrc sequence : ℕ) (frame : List ℤ) → 1 ≤ depth_of list →
    depth_of (placed list ssrc sequence frame).0 ≡ depth_of list
placed_depth list ssrc sequence frame h =
    let depth : ℕ = depth_of list in
    let distance : ℤ = distance_in list sequence in
    let place : ℕ = nat_abs distance in
    let count : ℕ = place - depth + 1 in
    let start : Put = (started list ssrc sequence frame, answer.Started) in
    let late : Put = (list, answer.Late) in
    let push : Put = (filled (shifted list count) (depth - 1) frame, answer.Pushed) in
    let again : Put = (list, answer.Again) in
    let put : Put = (filled list place frame, answer.Placed) in
    let is_there = is_some (frame_at list.places place) in
    let at_place : Put = cond is_there again put in
    let is_past = nat_le depth place in
    let ahead : Put = cond is_past push at_place in
    let known : Put = cond (is_idle list.phase) start ahead in
    let is_late = int_lt distance (pos 0) in
    let near : Put = cond is_late late known in
    let is_far = int_lt distance (neg_ℤ (pos 100)) || int_le (pos 3000) distance in
    let old : Put = cond is_far start near in
    let started_is = started_depth frame depth h in
    let pushed_is = length-set (fallen list.places count) (depth - 1) (Some frame) ∙ fallen_depth list.places count in
    let put_is = length-set list.places place (Some frame) in
    either_depth {A = Placed} depth (is_new_source list ssrc) start old started_is
    (either_depth {A = Placed} depth is_far start near started_is
    (either_depth {A = Placed} depth is_late late known refl
    (either_depth {A = Placed} depth (is_idle list.phase) start ahead started_is
    (either_depth {A = Placed} depth is_past push at_place pushed_is
    (either_depth {A = Placed} depth is_there again put refl put_is)))))

-- ## Media and records, in pairs

abbrev pub Paired : List TerminationMedia → List Record → Type 0
Paired [] [] = Unit {0}
Paired (s ∷ ss) (r ∷ rs) = (s.number ≡ r.number) × (depth_of s.play ≡ r.depth) × Paired ss rs
Paired [] (r ∷ rs) = ⊥
Paired (s ∷ ss) [] = ⊥

pub paired : (ss : List TerminationMedia) (rs : List Record) → map (λ s. s.number) ss ≡ map (λ r. r.number) rs →
    map (λ s. depth_of s.play) ss ≡ map (λ r. r.depth) rs → Paired ss rs
paired [] [] h k = tt
paired [] (r ∷ rs) h k = absurd (cc h)
paired (s ∷ ss) [] h k = absurd (cc h)
paired (s ∷ ss) (r ∷ rs) h k = (cc h, cc k, paired ss rs (cc h) (cc k))

pub same_numbers : (ss : List TerminationMedia) (rs : List Record) → Paired ss rs →
    map (λ s. s.number) ss ≡ map (λ r. r.number) rs
same_numbers [] [] h = refl
same_numbers [] (r ∷ rs) h = absurd h
same_numbers (s ∷ ss) [] h = absurd h
same_numbers (s ∷ ss) (r ∷ rs) h = λ i. h.0 i ∷ same_numbers ss rs h.2 i

pub same_depths : (ss : List TerminationMedia) (rs : List Record) → Paired ss rs →
    map (λ s. depth_of s.play) ss ≡ map (λ r. r.depth) rs
same_depths [] [] h = refl
same_depths [] (r ∷ rs) h = absurd h
same_depths (s ∷ ss) [] h = absurd h
same_depths (s ∷ ss) (r ∷ rs) h = λ i. h.1 i ∷ same_depths ss rs h.2 i

pushed : (ss : List TerminationMedia) (rs : List Record) (s : TerminationMedia) (r : Record) → Paired ss rs →
    s.number ≡ r.number → depth_of s.play ≡ r.depth → Paired (ss ++ s ∷ []) (rs ++ r ∷ [])
pushed [] [] s r h number depth = (number, depth, tt)
pushed [] (x ∷ rs) s r h number depth = absurd h
pushed (m ∷ ss) [] s r h number depth = absurd h
pushed (m ∷ ss) (x ∷ rs) s r h number depth = (h.0, h.1, pushed ss rs s r h.2 number depth)

paired_either : (b : Bool) (p q : List TerminationMedia) (l k : List Record) → Paired p l → Paired q k →
    Paired (cond b p q) (cond b l k)
paired_either true p q l k first second = first
paired_either false p q l k first second = second

abbrev without_record : ℕ → List Record → List Record
without_record n rs = change (λ x. x.number) n (λ _. None) rs

abbrev with_record : ℕ → Record → List Record → List Record
with_record n r rs = change (λ x. x.number) n (λ _. Some r) rs

removed_pair : (n : ℕ) (ss : List TerminationMedia) (rs : List Record) → Paired ss rs →
    Paired (media_without n ss) (without_record n rs)
removed_pair n [] [] h = tt
removed_pair n [] (r ∷ rs) h = absurd h
removed_pair n (s ∷ ss) [] h = absurd h
removed_pair n (s ∷ ss) (r ∷ rs) h =
    subst (λ (k : ℕ). Paired (cond (eqb s.number n) ss (s ∷ media_without n ss))
    (cond (eqb k n) rs (r ∷ without_record n rs))) h.0
    (paired_either (eqb s.number n) ss (s ∷ media_without n ss) rs (r ∷ without_record n rs) h.2
    (h.0, h.1, removed_pair n ss rs h.2))

changed_pair : (n : ℕ) (settings : Settings) (r old : Record) (ss : List TerminationMedia) (rs : List Record) →
    find (λ x. eqb x.number n) rs ≡ Some old → r.number ≡ old.number →
    r.depth ≡ depth_after settings.depth old.depth → Paired ss rs →
    Paired (media_with settings n ss) (with_record n r rs)
changed_pair n settings r old [] [] found number depth h = tt
changed_pair n settings r old [] (x ∷ rs) found number depth h = absurd h
changed_pair n settings r old (s ∷ ss) [] found number depth h = absurd h
changed_pair n settings r old (s ∷ ss) (x ∷ rs) found number depth h =
    subst (λ (k : ℕ). Paired (cond (eqb k n) (tuned settings s ∷ ss) (s ∷ media_with settings n ss))
    (cond (eqb x.number n) (r ∷ rs) (x ∷ with_record n r rs))) (sym h.0)
    (step (eqb x.number n) found (λ rest. changed_pair n settings r old ss rs rest number depth h.2))
  where
    step : (b : Bool) → cond b (Some x) (find (λ y. eqb y.number n) rs) ≡ Some old →
        (find (λ y. eqb y.number n) rs ≡ Some old → Paired (media_with settings n ss) (with_record n r rs)) →
        Paired (cond b (tuned settings s ∷ ss) (s ∷ media_with settings n ss))
        (cond b (r ∷ rs) (x ∷ with_record n r rs))
    step true is rest =
        let same : x ≡ old = cc is in (
          h.0 ∙ ap (λ (y : Record). y.number) same ∙ sym number,
          tuned_depth settings.depth s.play ∙ ap (depth_after settings.depth) h.1 ∙
              ap (λ (y : Record). depth_after settings.depth y.depth) same ∙ sym depth,
          h.2,
        )
    step false is rest = (h.0, h.1, rest is)

played_pair : (ss : List TerminationMedia) (rs : List Record) → Paired ss rs → Paired (map played ss) rs
played_pair [] [] h = tt
played_pair [] (r ∷ rs) h = absurd h
played_pair (s ∷ ss) [] h = absurd h
played_pair (s ∷ ss) (r ∷ rs) h = (h.0, ticked_depth s.play.phase s.play ∙ h.1, played_pair ss rs h.2)

sent_number : (b : Bool) (s : TerminationMedia) → (sent b s).number ≡ s.number
sent_number true s = refl
sent_number false s = refl

sent_play : (b : Bool) (s : TerminationMedia) → (sent b s).play ≡ s.play
sent_play true s = refl
sent_play false s = refl

sent_pair : (z : Registry) (ss : List TerminationMedia) (rs : List Record) → Paired ss rs →
    Paired (map (λ s. sent (sends_at z s.number) s) ss) rs
sent_pair z [] [] h = tt
sent_pair z [] (r ∷ rs) h = absurd h
sent_pair z (s ∷ ss) [] h = absurd h
sent_pair z (s ∷ ss) (r ∷ rs) h = (
  sent_number (sends_at z s.number) s ∙ h.0,
  ap depth_of (sent_play (sends_at z s.number) s) ∙ h.1,
  sent_pair z ss rs h.2,
)

-- Each record has a depth of at least 1.
abbrev AreDeep : List Record → Type 0
AreDeep rs = AllByRecursion (λ r. 1 ≤ r.depth) rs

abbrev with_frame : ℕ → Header × List ℤ → List TerminationMedia → List TerminationMedia
with_frame n p ss = change (λ s. s.number) n (λ s. Some (frame_placed p.0 p.1 s)) ss

placed_one : (p : Header × List ℤ) (s : TerminationMedia) (r : Record) (ss others : List TerminationMedia)
    (rs : List Record) (b : Bool) → 1 ≤ r.depth → Paired (s ∷ ss) (r ∷ rs) → Paired others rs →
    Paired (cond b (frame_placed p.0 p.1 s ∷ ss) (s ∷ others)) (r ∷ rs)
placed_one p s r ss others rs true deep h rest = (
  h.0,
  placed_depth s.play p.0.ssrc p.0.sequence p.1 (subst (λ (k : ℕ). 1 ≤ k) (sym h.1) deep) ∙ h.1,
  h.2,
)
placed_one p s r ss others rs false deep h rest = (h.0, h.1, rest)

placed_pair : (n : ℕ) (p : Header × List ℤ) (ss : List TerminationMedia) (rs : List Record) → AreDeep rs → Paired ss rs →
    Paired (with_frame n p ss) rs
placed_pair n p [] [] deep h = tt
placed_pair n p [] (r ∷ rs) deep h = absurd h
placed_pair n p (s ∷ ss) [] deep h = absurd h
placed_pair n p (s ∷ ss) (r ∷ rs) deep h =
    placed_one p s r ss (with_frame n p ss) rs (eqb s.number n) deep.0 h (placed_pair n p ss rs deep.1 h.2)

-- ## Records after a command

pub bind_is : {A B E : Type 0} (r : Result A E) (f : A → Result B E) (y : B) → (r >>= f) ≡ Ok y →
    (x : A) × (r ≡ Ok x) × (f x ≡ Ok y)
bind_is (Ok x) f y e = (x, refl, e)
bind_is (Err z) f y e = absurd (cc e)

ok_or_is : {A E : Type 0} (o : Option A) (fault : E) (x : A) → ok_or o fault ≡ Ok x → o ≡ Some x
ok_or_is (Some y) fault x e = cc e
ok_or_is None fault x e = absurd (cc e)

-- The record has this number. Its depth is the requested one or, if none was requested, the earlier one.
abbrev Tuned : Option ℕ → ℕ → ℕ → Record → Type 0
Tuned asked number depth r = (r.number ≡ number) × (r.depth ≡ depth_after asked depth)

settings_are : (limits : Limits) (settings : Settings) (old r : Record) → with_settings limits settings old ≡ Ok r →
    Tuned settings.depth old.number old.depth r
settings_are limits settings old r h =
    let (local, _, after_local) =
    bind_is (media_after (local_choice limits.address (slot_port limits old.slot)) settings.local old.local) _ r h in
    let (remote, _, after_remote) = bind_is (media_after remote_choice settings.remote old.remote) _ r after_local in
    let is : record old {
      mode = unwrap_or settings.mode old.mode;
      depth = depth_after settings.depth old.depth;
      local = local;
      remote = remote;
    } ≡ r = cc after_remote in
    (sym (ap (λ (x : Record). x.number) is), sym (ap (λ (x : Record). x.depth) is))

abbrev some_record : Record → Option Record
some_record y = Some y

member_is : (w : Registry) (target : Target) (n : ℕ) (r : Record) → member w target n ≡ Ok r →
    record_at w n ≡ Some r
member_is w target n r e =
    let (x, at, named_one) = bind_is (named w n) _ r e in
    let (u, _, may) = bind_is (may_have_members w target) _ r named_one in
    let (v, _, is_member) = bind_is (passes (is_number target x.context) refusals.NotInContext) _ r may in
    let same : x ≡ r = cc is_member in
    ok_or_is (record_at w n) refusals.UnknownTermination x at ∙ ap some_record same

add_is : (w after : Registry) (target : Target) (settings : Settings) (d : Record) →
    add w target settings ≡ Ok (after, d) →
    (after.terminations ≡ w.terminations ++ d ∷ []) × (d.depth ≡ depth_after settings.depth 4)
unfolding add
add_is w after target settings d e =
    let (u, _, may) = bind_is (may_enter w target) _ (after, d) e in
    let (slot, _, slotted) = bind_is (new_slot w) _ (after, d) may in
    let (place, _, in_place) = bind_is (new_place w target) _ (after, d) slotted in
    let (r, made, done) = bind_is (with_settings w.limits settings (fresh w.next_termination slot place)) _ (after, d)
    in_place in
    let both : (entered (inserted w r) place r.number, r) ≡ (after, d) = cc done in
    let is : r ≡ d = ap (λ (p : Registry × Record). p.1) both in (
      sym (ap (λ (p : Registry × Record). p.0.terminations) both)
          ∙ entered_terminations (inserted w r) place r.number place.made
          ∙ ap (λ (x : Record). w.terminations ++ x ∷ []) is,
      sym (ap (λ (x : Record). x.depth) is)
          ∙ (settings_are w.limits settings (fresh w.next_termination slot place) r made).1,
    )

-- A command changed a termination and kept its number.
record IsChanged (w after : Registry) (n : ℕ) (settings : Settings) (d : Record) : Type 0 where
  old : Record
  found : record_at w n ≡ Some old
  number : d.number ≡ old.number
  depth : d.depth ≡ depth_after settings.depth old.depth
  terminations : after.terminations ≡ with_record d.number d w.terminations

modify_is : (w after : Registry) (target : Target) (n : ℕ) (settings : Settings) (d : Record) →
    modify w target n settings ≡ Ok (after, d) → IsChanged w after n settings d
unfolding modify
modify_is w after target n settings d e =
    let (old, is_member, checked) = bind_is (member w target n) _ (after, d) e in
    let (r, made, done) = bind_is (with_settings w.limits settings old) _ (after, d) checked in
    let both : (replaced w r, r) ≡ (after, d) = cc done in
    let is : r ≡ d = ap (λ (p : Registry × Record). p.1) both in
    let set = settings_are w.limits settings old r made in
    record {
      old = old;
      found = member_is w target n old is_member;
      number = sym (ap (λ (x : Record). x.number) is) ∙ set.0;
      depth = sym (ap (λ (x : Record). x.depth) is) ∙ set.1;
      terminations = sym (ap (λ (p : Registry × Record). p.0.terminations) both)
          ∙ ap (λ (x : Record). with_record x.number x w.terminations) is;
    }

move_is : (w after : Registry) (target : Target) (n : ℕ) (settings : Settings) (d : Record) →
    move_to w target n settings ≡ Ok (after, d) → IsChanged w after n settings d
unfolding move_to
move_is w after target n settings d e =
    let (old, at, named_one) = bind_is (named w n) _ (after, d) e in
    let (u, _, elsewhere) = bind_is (passes (not (is_number target old.context)) refusals.AlreadyInContext) _ (after, d)
    named_one in
    let (v, _, may) = bind_is (may_enter w target) _ (after, d) elsewhere in
    let (place, _, in_place) = bind_is (new_place w target) _ (after, d) may in
    let (r, made, done) = bind_is (with_settings w.limits settings (at_place old place)) _ (after, d) in_place in
    let both : (left (entered (replaced w r) place r.number) old.context r.number, r) ≡ (after, d) = cc done in
    let is : r ≡ d = ap (λ (p : Registry × Record). p.1) both in
    let set = settings_are w.limits settings (at_place old place) r made in
    record {
      old = old;
      found = ok_or_is (record_at w n) refusals.UnknownTermination old at;
      number = sym (ap (λ (x : Record). x.number) is) ∙ set.0;
      depth = sym (ap (λ (x : Record). x.depth) is) ∙ set.1;
      terminations = sym (ap (λ (p : Registry × Record). p.0.terminations) both)
          ∙ entered_terminations (replaced w r) place r.number place.made
          ∙ ap (λ (x : Record). with_record x.number x w.terminations) is;
    }

subtract_is : (w after : Registry) (target : Target) (n : ℕ) (d : Record) → subtract w target n ≡ Ok (after, d) →
    after.terminations ≡ without_record d.number w.terminations
unfolding subtract
subtract_is w after target n d e =
    let (r, _, done) = bind_is (member w target n) _ (after, d) e in
    let both : (left (removed w r.number) r.context r.number, r) ≡ (after, d) = cc done in
    sym (ap (λ (p : Registry × Record). p.0.terminations) both)
    ∙ ap (λ (p : Registry × Record). without_record p.1.number w.terminations) both

-- ## Commands on a gateway

abbrev pub IsPaired : Gateway → Type 0
IsPaired g = Paired g.media g.rooms.terminations

add_keeps : (w next : Gateway) (target : Target) (settings : Settings) (r : Record) → IsPaired w →
    edits.add w target settings ≡ Ok (next, r) → IsPaired next
add_keeps w next target settings r h e =
    let (z, is, represents) = done_is (edits.added w settings) (add w.rooms target settings) next r e in
    let (terminations, depth) = add_is w.rooms z target settings r is in
    let new = tuned settings (new_media r.number) in
    subst IsPaired (sym represents) (subst (Paired (w.media ++ new ∷ [])) (sym terminations)
    (pushed w.media w.rooms.terminations new r h refl
    (tuned_depth settings.depth first_list ∙ ap (depth_after settings.depth) (length-replicate 4 no_frame) ∙ sym depth)))

changed_media : (w : Gateway) (z : Registry) (n : ℕ) (settings : Settings) (r : Record) → IsPaired w →
    IsChanged w.rooms z n settings r → Paired (media_with settings r.number w.media) z.terminations
changed_media w z n settings r h is =
    let rs = w.rooms.terminations in
    let old_number = eqb-true is.old.number n (found_passes (λ (x : Record). eqb x.number n) rs is.old is.found) in
    let found = ap (λ (k : ℕ). find (λ (x : Record). eqb x.number k) rs) (is.number ∙ old_number) ∙ is.found in
    subst (Paired (media_with settings r.number w.media)) (sym is.terminations)
    (changed_pair r.number settings r is.old w.media rs found is.number is.depth h)

modify_keeps : (w next : Gateway) (target : Target) (n : ℕ) (settings : Settings) (r : Record) → IsPaired w →
    edits.modify w target n settings ≡ Ok (next, r) → IsPaired next
modify_keeps w next target n settings r h e =
    let (z, is, represents) = done_is (edits.modified w settings) (modify w.rooms target n settings) next r e in
    subst IsPaired (sym represents) (changed_media w z n settings r h (modify_is w.rooms z target n settings r is))

move_keeps : (w next : Gateway) (target : Target) (n : ℕ) (settings : Settings) (r : Record) → IsPaired w →
    edits.move_to w target n settings ≡ Ok (next, r) → IsPaired next
move_keeps w next target n settings r h e =
    let (z, is, represents) = done_is (edits.moved w settings) (move_to w.rooms target n settings) next r e in
    subst IsPaired (sym represents) (changed_media w z n settings r h (move_is w.rooms z target n settings r is))

subtract_keeps : (w next : Gateway) (target : Target) (n : ℕ) (r : Record) → IsPaired w →
    edits.subtract w target n ≡ Ok (next, r) → IsPaired next
subtract_keeps w next target n r h e =
    let (z, is, represents) = done_is (edits.subtracted w) (subtract w.rooms target n) next r e in
    subst IsPaired (sym represents) (subst (Paired (media_without r.number w.media))
    (sym (subtract_is w.rooms z target n r is)) (removed_pair r.number w.media w.rooms.terminations h))

triples_keep : (w next : Gateway) (target : Target) (xs : List TopologyTriple) (c : ℕ) → IsPaired w →
    edits.apply_triples w target xs ≡ Ok (next, c) → IsPaired next
unfolding edits.apply_triples
triples_keep w next target xs c h e =
    let (there, _, checked) = bind_is (edits.existing_context w.rooms target) _ (next, c) e in
    let (u, _, done) = bind_is (check_triples (members_at w.rooms there) xs) _ (next, c) checked in
    let both : (record w { edits = with_triples (members_at w.rooms there) xs w.edits }, there) ≡ (next, c) = cc done in
    subst IsPaired (ap (λ (p : Gateway × ℕ). p.0) both) h

are_deep : (limits : Limits) (next : ℕ) (rs : List Record) → AllByRecursion (IsTermination limits next) rs → AreDeep rs
are_deep limits next [] h = tt
are_deep limits next (r ∷ rs) h =
    let least = h.0.deep_enough in
    (omega arith, are_deep limits next rs h.1)

placing : (n : ℕ) (p : Header × List ℤ) (g : Gateway) (o : Option TerminationMedia) → AreDeep g.rooms.terminations →
    IsPaired g → IsPaired (frame_placed_at g n p o).0
placing n p g None deep h = h
placing n p g (Some s) deep h = placed_pair n p g.media g.rooms.terminations deep h

arrival : (n : ℕ) (x : Arrived) (g : Gateway) → AreDeep g.rooms.terminations → IsPaired g →
    IsPaired (taken_at g n x).0
arrival n (Ok p) g deep h = placing n p g (media_of g n) deep h
arrival n (Err cause) g deep h = h

arrival_by : (o : Option Record) (source : List ℕ) (reading : Reading) (g : Gateway) → AreDeep g.rooms.terminations →
    IsPaired g → IsPaired (taken_by g o source reading).0
arrival_by None source reading g deep h = h
arrival_by (Some r) source reading g deep h = arrival r.number (arrived r source reading) g deep h

arrivals_keep : (w next : Gateway) (port : ℕ) (source bytes : List ℕ) (result : Taken) → IsConsistent w.rooms →
    IsPaired w → Takes w port source bytes next result → IsPaired next
arrivals_keep w next port source bytes result consistent h (reading, is, represents) =
    subst IsPaired (ap (λ (p : Gateway × Taken). p.0) represents)
    (arrival_by (at_port w.rooms port) source reading w
    (are_deep w.rooms.limits w.rooms.next_termination w.rooms.terminations consistent.terminations.each) h)

tick_keeps : (w : Gateway) → IsPaired w → IsPaired (after_tick w)
tick_keeps w h = sent_pair w.rooms (map played w.media) w.rooms.terminations
    (played_pair w.media w.rooms.terminations h)

-- ## Events of a gateway

abbrev RequestsKeepPairs : Type 0
RequestsKeepPairs = (source : List ℕ) (request : Request) (w : Gateway) → IsPaired w →
    IsPaired (replied source request w).gateway

requests_keep : RequestsKeepPairs
requests_keep = request_keeps IsPaired add_keeps modify_keeps move_keeps subtract_keeps triples_keep

module _ (consistent : (w : World) (event : Event) (sent : List Sent) (next : World) → IsConsistent w.gateway.rooms →
    Step w event sent next → IsConsistent next.gateway.rooms) where
  pub step_keeps : (w : World) (event : Event) (sent : List Sent) (next : World) → IsConsistent w.gateway.rooms →
      IsPaired w.gateway → Step w event sent next → IsPaired next.gateway
  step_keeps w (Control source bytes) sent next sound h (answer, (reading, is, represents), reported) =
      subst (λ (v : World). IsPaired v.gateway) (ap (λ (p : Option (List ℕ) × World). p.1) represents)
      (answer_keeps IsPaired requests_keep bytes reading (with_control w) h)
  step_keeps w (Media port source bytes) sent next sound h (taken, (g, takes, is), reported) =
      subst (λ (v : World). IsPaired v.gateway) (sym is)
      (arrivals_keep w.gateway g port source.address bytes taken sound h takes)
  step_keeps w Tick sent next sound h (reported, is) =
      subst (λ (v : World). IsPaired v.gateway) (sym is) (tick_keeps w.gateway h)
