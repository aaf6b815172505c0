-- Which terminations a gateway has had after some events, and who is missing.
use Rattle.std.proofs.Common.{◌≡◌, ◌∙◌, ◌⊎◌, ◌↔◌, ◌&&◌, ◌||◌, ◌+◌, ℕ, suc, zero, not, Bool, true, false, List, [], ◌∷◌, ◌++◌, Option, Some, arith, drop, get_or, length, map, set, take, replicate, slice_get, ◌<◌, Result, Ok, Err, OnOk, refl, sym, ap, subst, inl, inr, is_some}
use Rattle.std.proofs.lemmas.Bool.{and_parts, false≢true}
use Rattle.std.proofs.lemmas.List.{append-nil, append_assoc, at_drop_more, drop-set-lt, drop_more, map_push, take_more, take_more_set}
use Rattle.std.proofs.lemmas.Option.{get_or_from_slice_get}
use Rattle.std.specs.List.{AllZip, list_any}
use Rattle.std.specs.Option.{option_map}
use Rattle.mg_rooms.specs.Registry.{Registry}
use Rattle.mg_rooms.specs.declared.record.Record.{Record}
use Rattle.mg_core.specs.Counting.{is_control}
use Rattle.mg_core.specs.declared.state.CoreState.{CoreState}
use Rattle.mg_core.specs.Follow.{HasRun, IsFollowed, ticks_of}
use Rattle.mg_core.specs.Note.{Note, Comment, Happened, events_in}
use Rattle.mg_core.specs.Step.{Run, Sent, Step}
use Rattle.mg_core.specs.World.{World}
use Rattle.mg_core.specs.declared.event.Event.{Event}
use Rattle.mg_core.specs.declared.event.Event.TheVariants.{Tick}
use Rattle.mg_heard.specs.declared.missing.Missing.{Missing}
use Rattle.mg_heard.specs.declared.party.Party.{Party}
use Rattle.mg_heard.specs.declared.party_name.PartyName.{PartyName}
use Rattle.mg_heard.specs.declared.roll.Roll.{Roll}
use Rattle.mg_heard.specs.declared.rule.Rule.{Rule}
use Rattle.mg_heard.specs.Came.{HasCome, IsMissing, has_asked}
use Rattle.mg_heard.specs.Query.{is_asked}
use Rattle.mg_heard.specs.aids.Calling.{AreCalled, AreFor, AreMissing, IsCalled, IsNew, called}
use Rattle.mg_heard.specs.aids.Changes.{OnlyControlChangesTerminations}
use Rattle.mg_heard.specs.aids.Parties.{party_of}
use Rattle.mg_heard.proofs.KeepingLemmas.{events_in_both, events_with_ticks}

abbrev pub OneRun : Type 0
OneRun = (w : World) (events : List Event) (a b : List Sent) (x y : World) →
    Run w events a x → Run w events b y → (a ≡ b) × (x ≡ y)

-- ## Terminations

abbrev pub named_in : Option (List PartyName) → List Record → Bool
named_in keys rs = list_any (λ r. is_asked keys r.number
    (option_map (λ c. record { address = c.address; port = c.port }) r.remote)) rs

-- A question asks about a record from index `i` on if it asks about the record at `i` or about a later one.
pub named_step : (keys : Option (List PartyName)) (rs : List Record) (i : ℕ) (r : Record) (p : Party) (b : Bool) →
    i < length rs → slice_get rs i ≡ Some r → p ≡ party_of r → b ≡ is_asked keys p.number p.at →
    named_in keys (drop i rs) ≡ (b || named_in keys (drop (i + 1) rs))
named_step keys rs i r p b there got is asked =
    let rest = named_in keys (drop (i + 1) rs) in
    at_drop_more (λ (l : List Record). named_in keys l) rs i r there
    ∙ ap (λ (x : Record). is_asked keys (party_of x).number (party_of x).at || rest) (get_or_from_slice_get rs i r r got)
    ∙ ap (λ (q : Party). is_asked keys q.number q.at || rest) (sym is)
    ∙ ap (λ (c : Bool). c || rest) (sym asked)

-- ## Events

nil_left : (a b : List Event) → [] ≡ a ++ b → a ≡ []
nil_left [] b h = refl
nil_left (x ∷ a) b h = absurd cc

-- A beginning of the list `events` with one more event `e` is either a beginning of `events`, or the whole list.
cut_last : (past future events : List Event) (e : Event) → events ++ e ∷ [] ≡ past ++ future →
    ((rest : List Event) × (events ≡ past ++ rest)) ⊎ (past ≡ events ++ e ∷ [])
cut_last [] future events e is = inl (events, refl)
cut_last (x ∷ past) future [] e is =
    let same : e ≡ x = cc is in
    let none : [] ≡ past ++ future = cc is in
    inr (ap (λ (l : List Event). x ∷ l) (nil_left past future none) ∙ ap (λ (y : Event). y ∷ []) (sym same))
cut_last (x ∷ past) future (y ∷ events) e is =
    let same : y ≡ x = cc is in
    let tail : events ++ e ∷ [] ≡ past ++ future = cc is in
    elim (cut_last past future events e tail) [
      | inl k ↦ inl (k.0, ap (λ (l : List Event). y ∷ l) k.1 ∙ ap (λ (z : Event). z ∷ (past ++ k.0)) same)
      | inr k ↦ inr (ap (λ (l : List Event). x ∷ l) k ∙ ap (λ (z : Event). z ∷ (events ++ e ∷ [])) (sym same))
    ]

run_last : (a w : World) (events : List Event) (e : Event) (sent : List Sent) → Run a (events ++ e ∷ []) sent w →
    (before : List Sent) × (mid : World) × (last : List Sent) × Run a events before mid × Step mid e last w
run_last a w [] e sent (first, others, next, step, run, is) =
    ([], a, first, (refl, refl), subst (λ (v : World). Step a e first v) (sym run.1) step)
run_last a w (x ∷ events) e sent (first, others, next, step, run, is) =
    let (before, mid, last, k, s) = run_last next w events e others run in
    (first ++ before, mid, last, (first, before, next, step, k, refl), s)

-- ## Whether the gateway has had a termination

come_now : (base : World) (events : List Event) (sent : List Sent) (w : World) (keys : Option (List PartyName)) →
    Run base events sent w → has_asked keys w.gateway ≡ true → HasCome base events keys
come_now base events sent w keys run has = (events, [], sent, w, sym (append-nil events), run, has)

come_more : (base : World) (events more : List Event) (keys : Option (List PartyName)) →
    HasCome base events keys → HasCome base (events ++ more) keys
come_more base events more keys (past, future, sent, w, is, run, has) =
    (past, future ++ more, sent, w, ap (λ (l : List Event). l ++ more) is ∙ append_assoc past future more, run, has)

first_at : (base : World) (keys : Option (List PartyName)) (past future : List Event) (sent : List Sent)
    (w : World) → [] ≡ past ++ future → Run base past sent w → has_asked keys w.gateway ≡ true →
    has_asked keys base.gateway ≡ true
first_at base keys [] future sent w is run has =
    sym (ap (λ (v : World). has_asked keys v.gateway) run.1) ∙ has
first_at base keys (e ∷ past) future sent w is run has = absurd cc

-- If, before any event, the gateway has had a termination that the keys name, it began with such a termination.
come_first : (base : World) (keys : Option (List PartyName)) → HasCome base [] keys →
    has_asked keys base.gateway ≡ true
come_first base keys (past, future, sent, w, is, run, has) = first_at base keys past future sent w is run has

rooms_same : (keys : Option (List PartyName)) (v w : World) → v.gateway.rooms ≡ w.gateway.rooms →
    has_asked keys v.gateway ≡ has_asked keys w.gateway
rooms_same keys v w is = ap (λ (x : Registry). named_in keys x.terminations) is

come_quiet : OnlyControlChangesTerminations → (base : World) (events : List Event) (e : Event)
    (keys : Option (List PartyName)) → is_control e ≡ false → HasCome base (events ++ e ∷ []) keys →
    HasCome base events keys
come_quiet only base events e keys quiet (past, future, sent, w, is, run, has) =
    elim (cut_last past future events e is) [
      | inl k ↦ (past, k.0, sent, w, k.1, run, has)
      | inr k ↦
          let (before, mid, last, r, step) = run_last base w events e sent
          (subst (λ (l : List Event). Run base l sent w) k run) in
          come_now base events before mid keys r (sym (rooms_same keys w mid (only mid w e last quiet step)) ∙ has)
    ]

come_ticks : OnlyControlChangesTerminations → (base : World) (events : List Event) (n : ℕ)
    (keys : Option (List PartyName)) → HasCome base (events ++ replicate n Tick) keys → HasCome base events keys
come_ticks only base events zero keys h = subst (λ (l : List Event). HasCome base l keys) (append-nil events) h
come_ticks only base events (suc n) keys h = come_quiet only base events Tick keys refl
    (come_ticks only base (events ++ Tick ∷ []) n keys
    (subst (λ (l : List Event). HasCome base l keys) (sym (append_assoc events (Tick ∷ []) (replicate n Tick))) h))

come_control : OneRun → (base : World) (events : List Event) (e : Event) (s : List Sent) (w : World)
    (keys : Option (List PartyName)) → Run base (events ++ e ∷ []) s w →
    HasCome base (events ++ e ∷ []) keys → HasCome base events keys ⊎ (has_asked keys w.gateway ≡ true)
come_control one base events e s w keys ran (past, future, sent, v, is, run, has) =
    elim (cut_last past future events e is) [
      | inl k ↦ inl (past, k.0, sent, v, k.1, run, has)
      | inr k ↦
          let same = (one base (events ++ e ∷ []) sent s v w
          (subst (λ (l : List Event). Run base l sent v) k run) ran).1 in
          inr (sym (ap (λ (u : World). has_asked keys u.gateway) same) ∙ has)
    ]

-- ## Who is missing

waits_same : (base : World) (old new : List Event) (keys : Option (List PartyName)) (m : Bool) →
    (HasCome base old keys → HasCome base new keys) → (HasCome base new keys → HasCome base old keys) →
    IsMissing base old keys m → IsMissing base new keys m
waits_same base old new keys m on back h =
    (λ t. ((h.0 t).0, λ come. (h.0 t).1 (back come)), λ k. h.1 (k.0, λ come. k.1 (on come)))

both : (m b : Bool) → m ≡ true → ¬ b ≡ true → (m && not b) ≡ true
both true true h none = absurd (none refl)
both true false h none = refl
both false b h none = absurd (false≢true h)

waits_called : OneRun → (base : World) (events : List Event) (e : Event) (s : List Sent) (w : World)
    (keys : Option (List PartyName)) (m : Bool) → Run base (events ++ e ∷ []) s w →
    IsMissing base events keys m → IsMissing base (events ++ e ∷ []) keys (m && not (has_asked keys w.gateway))
waits_called one base events e s w keys m run h =
    let has = has_asked keys w.gateway in (
      λ t.
          let (still, away) = and_parts m (not has) t in (
            (h.0 still).0,
            λ come. elim (come_control one base events e s w keys run come) [
              | inl before ↦ (h.0 still).1 before
              | inr now ↦ absurd (false≢true (sym (ap not now) ∙ away))
            ],
          ),
      λ k. both m has (h.1 (k.0, λ come. k.1 (come_more base events (e ∷ []) keys come)))
          (λ now. k.1 (come_now base (events ++ e ∷ []) s w keys run now)),
    )

waits_first : (base : World) (keys : Option (List PartyName)) (m : Bool) → m ≡ is_some keys →
    IsMissing base [] keys (m && not (has_asked keys base.gateway))
waits_first base keys m is =
    let has = has_asked keys base.gateway in (
      λ t.
          let (still, away) = and_parts m (not has) t in
          (sym is ∙ still, λ come. absurd (false≢true (sym (ap not (come_first base keys come)) ∙ away))),
      λ k. both m has (is ∙ k.0) (λ now. k.1 (come_now base [] [] base keys (refl, refl) now)),
    )

-- ## Rolls

called_one : OneRun → (base : World) (events : List Event) (e : Event) (s : List Sent) (w : World) (start r : Roll) →
    Run base (events ++ e ∷ []) s w → IsCalled base events start r →
    IsCalled base (events ++ e ∷ []) start (called w.gateway r)
called_one one base events e s w start r run h = record {
  talker_is = h.talker_is;
  listener_is = h.listener_is;
  missing = (
    subst
        (λ (keys : Option (List PartyName)). IsMissing base (events ++ e ∷ []) start.talker
        (r.missing.talker && not (has_asked keys w.gateway))) (sym h.talker_is)
        (waits_called one base events e s w start.talker r.missing.talker run h.missing.0),
    subst
        (λ (keys : Option (List PartyName)). IsMissing base (events ++ e ∷ []) start.listener
        (r.missing.listener && not (has_asked keys w.gateway))) (sym h.listener_is)
        (waits_called one base events e s w start.listener r.missing.listener run h.missing.1),
  );
}

same_one : (base : World) (old new : List Event) (start r : Roll) →
    ((keys : Option (List PartyName)) → HasCome base old keys → HasCome base new keys) →
    ((keys : Option (List PartyName)) → HasCome base new keys → HasCome base old keys) →
    IsCalled base old start r → IsCalled base new start r
same_one base old new start r on back h = record {
  talker_is = h.talker_is;
  listener_is = h.listener_is;
  missing = (
    waits_same base old new start.talker r.missing.talker (on start.talker) (back start.talker)
        h.missing.0,
    waits_same base old new start.listener r.missing.listener (on start.listener) (back start.listener)
        h.missing.1,
  );
}

called_each : OneRun → (base : World) (events : List Event) (e : Event) (s : List Sent) (w : World)
    (start rolls : List Roll) → Run base (events ++ e ∷ []) s w → AreCalled base events start rolls →
    AreCalled base (events ++ e ∷ []) start (map (called w.gateway) rolls)
called_each one base events e s w [] [] run h = tt
called_each one base events e s w [] (r ∷ rolls) run h = absurd h
called_each one base events e s w (start ∷ others) [] run h = absurd h
called_each one base events e s w (start ∷ others) (r ∷ rolls) run h =
    (called_one one base events e s w start r run h.0, called_each one base events e s w others rolls run h.1)

same_each : (base : World) (old new : List Event) (start rolls : List Roll) →
    ((keys : Option (List PartyName)) → HasCome base old keys → HasCome base new keys) →
    ((keys : Option (List PartyName)) → HasCome base new keys → HasCome base old keys) →
    AreCalled base old start rolls → AreCalled base new start rolls
same_each base old new [] [] on back h = tt
same_each base old new [] (r ∷ rolls) on back h = absurd h
same_each base old new (start ∷ others) [] on back h = absurd h
same_each base old new (start ∷ others) (r ∷ rolls) on back h =
    (same_one base old new start r on back h.0, same_each base old new others rolls on back h.1)

-- ## Rolls, one after another

same_items : (old rolls : List Roll) (i : ℕ) (d : Roll) → i < length old → i < length rolls →
    drop i rolls ≡ drop i old → get_or rolls i d ∷ drop (i + 1) rolls ≡ get_or old i d ∷ drop (i + 1) old
same_items old rolls i d there within rest = sym (drop_more rolls i d within) ∙ rest ∙ drop_more old i d there

pub step_begun : (f : Roll → Roll) (old rolls : List Roll) (i : ℕ) (x d : Roll) → i < length old → i < length rolls →
    take i rolls ≡ map f (take i old) → drop i rolls ≡ drop i old → x ≡ f (get_or rolls i d) →
    take (i + 1) (set rolls i x) ≡ map f (take (i + 1) old)
step_begun f old rolls i x d there within begun rest is =
    let items = same_items old rolls i d there within rest in
    let same : get_or rolls i d ≡ get_or old i d = cc items in
    take_more_set rolls i x within
    ∙ ap (λ (l : List Roll). l ++ x ∷ []) begun
    ∙ ap (λ (y : Roll). map f (take i old) ++ y ∷ []) (is ∙ ap f same)
    ∙ sym (map_push f (take i old) (get_or old i d))
    ∙ ap (λ (l : List Roll). map f l) (sym (take_more old i d there))

pub step_rest : (old rolls : List Roll) (i : ℕ) (x d : Roll) → i < length old → i < length rolls →
    drop i rolls ≡ drop i old → drop (i + 1) (set rolls i x) ≡ drop (i + 1) old
step_rest old rolls i x d there within rest =
    let items = same_items old rolls i d there within rest in
    let same : drop (i + 1) rolls ≡ drop (i + 1) old = cc items in
    drop-set-lt (i + 1) rolls i x (omega arith) ∙ same

-- ## Rolls after one more note

pub called_comment : (base : World) (notes : List Note) (line : List ℕ) (start rolls : List Roll) →
    AreCalled base (events_in notes) start rolls →
    AreCalled base (events_in (notes ++ Comment line ∷ [])) start rolls
called_comment base notes line start rolls h =
    subst (λ (l : List Event). AreCalled base l start rolls)
    (sym (events_in_both notes (Comment line ∷ []) ∙ append-nil (events_in notes))) h

pub called_quiet : OnlyControlChangesTerminations → (base : World) (notes : List Note) (e : Event)
    (start rolls : List Roll) → is_control e ≡ false → AreCalled base (events_in notes) start rolls →
    AreCalled base (events_in (notes ++ Happened e ∷ [])) start rolls
called_quiet only base notes e start rolls quiet h =
    subst (λ (l : List Event). AreCalled base l start rolls) (sym (events_in_both notes (Happened e ∷ [])))
    (same_each base (events_in notes) (events_in notes ++ e ∷ []) start rolls
    (λ keys come. come_more base (events_in notes) (e ∷ []) keys come)
    (λ keys come. come_quiet only base (events_in notes) e keys quiet come) h)

pub called_ticks : OnlyControlChangesTerminations → (base : World) (notes : List Note) (n : ℕ)
    (start rolls : List Roll) → AreCalled base (events_in notes) start rolls →
    AreCalled base (events_in (notes ++ ticks_of n)) start rolls
called_ticks only base notes n start rolls h =
    subst (λ (l : List Event). AreCalled base l start rolls) (sym (events_with_ticks notes n))
    (same_each base (events_in notes) (events_in notes ++ replicate n Tick) start rolls
    (λ keys come. come_more base (events_in notes) (replicate n Tick) keys come)
    (λ keys come. come_ticks only base (events_in notes) n keys come) h)

pub called_control : OneRun → (base : World) (notes : List Note) (e : Event) (s : List Sent) (w : World)
    (start rolls new : List Roll) → new ≡ map (called w.gateway) rolls →
    Run base (events_in (notes ++ Happened e ∷ [])) s w → AreCalled base (events_in notes) start rolls →
    AreCalled base (events_in (notes ++ Happened e ∷ [])) start new
called_control one base notes e s w start rolls new is run h =
    let both = events_in_both notes (Happened e ∷ []) in
    subst (λ (l : List Event). AreCalled base l start new) (sym both)
    (subst (λ (l : List Roll). AreCalled base (events_in notes ++ e ∷ []) start l) (sym is)
    (called_each one base (events_in notes) e s w start rolls
    (subst (λ (l : List Event). Run base l s w) both run) h))

-- ## Rolls at the beginning and at the end of a script

first_one : (base : World) (talker listener : Option (List PartyName)) (r : Roll) → IsNew talker listener r →
    IsCalled base [] (called base.gateway r) (called base.gateway r)
first_one base talker listener r h = record {
  talker_is = refl;
  listener_is = refl;
  missing = (
    waits_first base r.talker r.missing.talker (h.talker_waits ∙ ap is_some (sym h.talker_is)),
    waits_first base r.listener r.missing.listener (h.listener_waits ∙ ap is_some (sym h.listener_is)),
  );
}

-- A new roll, updated for the terminations with which the gateway began, records who is missing before any event.
pub first_single : (base : World) (talker listener : Option (List PartyName)) (r : Roll) (rolls : List Roll) →
    rolls ≡ called base.gateway r ∷ [] → IsNew talker listener r → AreCalled base [] rolls rolls
first_single base talker listener r rolls is h =
    subst (λ (l : List Roll). AreCalled base [] l l) (sym is) (first_one base talker listener r h, tt)

first_all : (base : World) (rules : List Rule) (rolls : List Roll) → AreFor rules rolls →
    AreCalled base [] (map (called base.gateway) rolls) (map (called base.gateway) rolls)
first_all base [] [] h = tt
first_all base [] (r ∷ rolls) h = absurd h
first_all base (rule ∷ rules) [] h = absurd h
first_all base (rule ∷ rules) (r ∷ rolls) h =
    (first_one base rule.talker rule.listener r h.0, first_all base rules rolls h.1)

-- New rolls for rules, updated for the terminations with which the gateway began, record who is missing before any
-- event.
pub first_for : (base : World) (rules : List Rule) (new rolls : List Roll) → rolls ≡ map (called base.gateway) new →
    AreFor rules new → AreCalled base [] rolls rolls
first_for base rules new rolls is h =
    subst (λ (l : List Roll). AreCalled base [] l l) (sym is) (first_all base rules new h)

only_one : (base : World) (events : List Event) (r : Roll) (last : List Roll) (missing : Missing) →
    ((x : Roll) → last ≡ x ∷ [] → missing ≡ x.missing) → AreCalled base events (r ∷ []) last →
    AreMissing base events r.talker r.listener missing
only_one base events r [] missing found h = absurd h
only_one base events r (x ∷ []) missing found h =
    subst (λ (m : Missing). AreMissing base events r.talker r.listener m) (sym (found x refl)) h.0.missing
only_one base events r (x ∷ y ∷ more) missing found h = absurd h.1

pub for_more : (rules : List Rule) (rolls : List Roll) (rule : Rule) (r : Roll) → AreFor rules rolls →
    IsNew rule.talker rule.listener r → AreFor (rules ++ rule ∷ []) (rolls ++ r ∷ [])
for_more [] [] rule r h new = (new, tt)
for_more [] (x ∷ rolls) rule r h new = absurd h
for_more (one ∷ rules) [] rule r h new = absurd h
for_more (one ∷ rules) (x ∷ rolls) rule r h new = (h.0, for_more rules rolls rule r h.1 new)

-- If there is only one roll, it records who is missing.
pub single : (base : World) (events : List Event) (talker listener : Option (List PartyName)) (r : Roll)
    (rolls last : List Roll) (missing : Missing) → rolls ≡ called base.gateway r ∷ [] → IsNew talker listener r →
    ((x : Roll) → last ≡ x ∷ [] → missing ≡ x.missing) → AreCalled base events rolls last →
    AreMissing base events talker listener missing
single base events talker listener r rolls last missing is new found h =
    subst (λ (keys : Option (List PartyName)). AreMissing base events talker keys missing) new.listener_is
    (subst (λ (keys : Option (List PartyName)). AreMissing base events keys r.listener missing) new.talker_is
    (only_one base events (called base.gateway r) last missing found
    (subst (λ (l : List Roll). AreCalled base events l last) is h)))

pub for_rules : (base : World) (events : List Event) (rules : List Rule) (rolls last : List Roll) →
    AreFor rules rolls → AreCalled base events (map (called base.gateway) rolls) last →
    AllZip (λ rule m. AreMissing base events rule.talker rule.listener m) rules (map (λ r. r.missing) last)
for_rules base events [] [] [] h k = tt
for_rules base events [] [] (x ∷ last) h k = absurd k
for_rules base events [] (r ∷ rolls) last h k = absurd h
for_rules base events (rule ∷ rules) [] last h k = absurd h
for_rules base events (rule ∷ rules) (r ∷ rolls) [] h k = absurd k
for_rules base events (rule ∷ rules) (r ∷ rolls) (x ∷ last) h k = (
  subst (λ (keys : Option (List PartyName)). AreMissing base events rule.talker keys x.missing) h.0.listener_is
      (subst (λ (keys : Option (List PartyName)). AreMissing base events keys r.listener x.missing) h.0.talker_is
      k.0.missing),
  for_rules base events rules rolls last h.1 k.1,
)

pub with_called : {A E : Type 0} (result : Result A E) (P Q : Type 0) → OnOk result P → Q → OnOk result (P × Q)
with_called (Ok done) P Q h k = (h, k)
with_called (Err error) P Q h k = tt

-- If a run and `Follows` imply `More` of the notes, a script that was followed with `Follows` was also followed with
-- `More`.
pub followed_more : (base : World) (input rest : Option (List ℕ)) (state : CoreState)
    (Follows More : List Note → Type 0) → ((notes : List Note) → HasRun base notes state → Follows notes → More notes) →
    IsFollowed base input rest state Follows → IsFollowed base input rest state More
followed_more base input rest state Follows More more h = record {
  script = h.script;
  read = h.read;
  notes = h.notes;
  are = h.are;
  run = h.run;
  follows = more h.notes h.run h.follows;
}
