-- Gateways of which the same is said agree in their checkpoints.
use Rattle.std.proofs.Common.{◌≡◌, ℕ, ◌==◌, ◌&&◌, ◌||◌, not, eqb, eqb-true, Bool, true, false, cond, List, [], ◌∷◌, map, filter, zip, find, Option, Some, None, refl, sym, ap, subst, ◌∙◌, arith}
use Rattle.std.specs.Prelude.{is_some}
use Rattle.std.specs.List.{list_any}
use Rattle.std.specs.Option.{option_map_or}
use Rattle.std.proofs.lemmas.Bool.{false≢true}
use Rattle.std.proofs.lemmas.Bool.Decides.{nat_tests}
use Rattle.mg_playout.specs.Playout.{depth_of}
use Rattle.mg_rooms.specs.declared.context.Context.{Context}
use Rattle.mg_rooms.specs.declared.limits.Limits.{Limits}
use Rattle.mg_rooms.specs.declared.record.Record.{Record}
use Rattle.mg_rooms.specs.Consistent.{IsConsistent}
use Rattle.mg_rooms.specs.Registry.{Registry, record_at, members_at}
use Rattle.mg_rooms.specs.aids.Sound.{IsSound}
use Rattle.mg_rooms.proofs.SoundLemmas.{sound_if}
use Rattle.mg_engine.specs.Config.{limits_of}
use Rattle.mg_engine.specs.Flow.{hears, may_hear, share_context}
use Rattle.mg_engine.specs.Gateway.{Gateway, TerminationMedia}
use Rattle.mg_engine.specs.aids.Quiet.{AgreeInCheckpoint, HaveDepths, sent_of}
use Rattle.mg_core.specs.World.{World}
use Rattle.mg_core.specs.Base.{IsBase}
use Rattle.mg_checkpoint.specs.Said.{Said, SaidTermination, muted_for, said_of, said_termination}

same_Some : {A : Type 0} (x y : A) → Some x ≡ Some y → x ≡ y
same_Some x y e = cc

-- ## What is said of terminations

-- Two lists of media belong to the same terminations, and the same is said of them.
record SaySame (b w : Gateway) (rs : List Record) (ss ts : List TerminationMedia) : Type 0 where
  first : map (λ s. s.number) ss ≡ map (λ r. r.number) rs
  second : map (λ s. s.number) ts ≡ map (λ r. r.number) rs
  said : map (said_termination b) (zip rs ss) ≡ map (said_termination w) (zip rs ts)

say_same_rest : (b w : Gateway) (r : Record) (rs : List Record) (s t : TerminationMedia) (ss ts : List TerminationMedia)
    → SaySame b w (r ∷ rs) (s ∷ ss) (t ∷ ts) → SaySame b w rs ss ts
say_same_rest b w r rs s t ss ts same =
    let first = same.first in
    let second = same.second in
    let said = same.said in
    record {
      first = cc;
      second = cc;
      said = cc;
    }

sent_step : (b w : Gateway) (s t : TerminationMedia) (so to : Option TerminationMedia) (p : Bool)
    → sent_of b.config s ≡ sent_of w.config t
    → ((x y : TerminationMedia) → so ≡ Some x → to ≡ Some y → sent_of b.config x ≡ sent_of w.config y)
    → (x y : TerminationMedia) → cond p (Some s) so ≡ Some x → cond p (Some t) to ≡ Some y
    → sent_of b.config x ≡ sent_of w.config y
sent_step b w s t so to true here rest x y e f =
    subst (λ v. sent_of b.config v ≡ sent_of w.config y) (same_Some s x e)
    (subst (λ v. sent_of b.config s ≡ sent_of w.config v) (same_Some t y f) here)
sent_step b w s t so to false here rest x y e f = rest x y e f

same_sent : (b w : Gateway) (rs : List Record) (ss ts : List TerminationMedia) → SaySame b w rs ss ts
    → (n : ℕ) (x y : TerminationMedia) → find (λ s. s.number == n) ss ≡ Some x → find (λ s. s.number == n) ts ≡ Some y
    → sent_of b.config x ≡ sent_of w.config y
same_sent b w [] [] ts same n x y e f = absurd (cc)
same_sent b w [] (s ∷ ss) ts same n x y e f = let first = same.first in absurd (cc)
same_sent b w (r ∷ rs) [] ts same n x y e f = absurd (cc)
same_sent b w (r ∷ rs) (s ∷ ss) [] same n x y e f = absurd (cc)
same_sent b w (r ∷ rs) (s ∷ ss) (t ∷ ts) same n x y e f =
    let first = same.first in
    let second = same.second in
    let said = same.said in
    let number : t.number ≡ s.number = cc in
    let heads : said_termination b (r, s) ≡ said_termination w (r, t) = cc in
    let here : sent_of b.config s ≡ sent_of w.config t = ap (λ (v : SaidTermination). v.sent) heads in
    let found : cond (eqb s.number n) (Some t) (find (λ m. m.number == n) ts) ≡ Some y
    = subst (λ k. cond (eqb k n) (Some t) (find (λ m. m.number == n) ts) ≡ Some y) number f in
    sent_step b w s t (find (λ m. m.number == n) ss) (find (λ m. m.number == n) ts) (eqb s.number n) here
    (same_sent b w rs ss ts (say_same_rest b w r rs s t ss ts same) n) x y e found

muted_step : (b w : Gateway) (r : Record) (ro : Option Record) (p : Bool) → muted_for b r ≡ muted_for w r
    → ((x : Record) → ro ≡ Some x → muted_for b x ≡ muted_for w x)
    → (x : Record) → cond p (Some r) ro ≡ Some x → muted_for b x ≡ muted_for w x
muted_step b w r ro true here rest x e = subst (λ v. muted_for b v ≡ muted_for w v) (same_Some r x e) here
muted_step b w r ro false here rest x e = rest x e

same_muted : (b w : Gateway) (rs : List Record) (ss ts : List TerminationMedia) → SaySame b w rs ss ts
    → (n : ℕ) (x : Record) → find (λ r. r.number == n) rs ≡ Some x → muted_for b x ≡ muted_for w x
same_muted b w [] ss ts same n x e = absurd (cc)
same_muted b w (r ∷ rs) [] ts same n x e = let first = same.first in absurd (cc)
same_muted b w (r ∷ rs) (s ∷ ss) [] same n x e = let second = same.second in absurd (cc)
same_muted b w (r ∷ rs) (s ∷ ss) (t ∷ ts) same n x e =
    let said = same.said in
    let heads : said_termination b (r, s) ≡ said_termination w (r, t) = cc in
    muted_step b w r (find (λ v. v.number == n) rs) (eqb r.number n) (ap (λ (v : SaidTermination). v.muted) heads)
    (same_muted b w rs ss ts (say_same_rest b w r rs s t ss ts same) n) x e

-- ## Who hears whom

any_step : (p : ℕ → Bool) (n x : ℕ) (xs : List ℕ) (here is : Bool) → p x ≡ here → eqb x n ≡ is
    → list_any (λ m. m == n) (filter p xs) ≡ (list_any (λ m. m == n) xs && p n)
    → list_any (λ m. m == n) (cond here (x ∷ filter p xs) (filter p xs)) ≡ ((is || list_any (λ m. m == n) xs) && p n)
any_step p n x xs true true here is rest =
    let passes : p n ≡ true = subst (λ v. p v ≡ true) (eqb-true x n is) here in
    rw (is, passes) refl
any_step p n x xs true false here is rest = rw is rest
any_step p n x xs false true here is rest =
    let fails : p n ≡ false = subst (λ v. p v ≡ false) (eqb-true x n is) here in
    rest ∙ grind (arith, nat_tests, fails)
any_step p n x xs false false here is rest = rest

-- A number is among the elements of a list that pass a test if and only if it is in the list and passes the test.
any_filter : (p : ℕ → Bool) (n : ℕ) (xs : List ℕ)
    → list_any (λ m. m == n) (filter p xs) ≡ (list_any (λ m. m == n) xs && p n)
any_filter p n [] = refl
any_filter p n (x ∷ xs) = any_step p n x xs (p x) (eqb x n) refl refl (any_filter p n xs)

-- If a list has the same result when it is filtered by either of two tests, the tests agree on each number in the list.
same_tests : (p q : ℕ → Bool) (n : ℕ) (xs : List ℕ) → filter p xs ≡ filter q xs → list_any (λ m. m == n) xs ≡ true
    → p n ≡ q n
same_tests p q n xs same there =
    let one : list_any (λ m. m == n) (filter p xs) ≡ (list_any (λ m. m == n) xs && p n) = any_filter p n xs in
    let two : list_any (λ m. m == n) (filter q xs) ≡ (list_any (λ m. m == n) xs && q n) = any_filter q n xs in
    let first : list_any (λ m. m == n) (filter p xs) ≡ p n = rw there at one in
    let second : list_any (λ m. m == n) (filter q xs) ≡ q n = rw there at two in
    sym first ∙ ap (list_any (λ m. m == n)) same ∙ second

-- The listener's record, and the fact that the talker is another member of the listener's context.
record AreTogether (w : Gateway) (talker listener : ℕ) : Type 0 where
  record_of : Record
  found : record_at w.rooms listener ≡ Some record_of
  number : record_of.number ≡ listener
  member : list_any (λ m. m == talker) (members_at w.rooms record_of.context) ≡ true
  apart : eqb talker listener ≡ false

heard_if : (share same b w : Bool) → share ≡ true → same ≡ false
    → (not same && not (share && b)) ≡ (not same && not (share && w)) → b ≡ w
heard_if true false true true s d e = refl
heard_if true false true false s d e = sym e
heard_if true false false true s d e = sym e
heard_if true false false false s d e = refl
heard_if true true b w s d e = absurd (false≢true (sym d))
heard_if false same b w s d e = absurd (false≢true s)

-- What the four parts of `share_context` say.
both_hold : (a b : Bool) → (a && b) ≡ true → (a ≡ true) × (b ≡ true)
both_hold true b h = (refl, h)
both_hold false b h = absurd (false≢true h)

not_true : (a : Bool) → not a ≡ true → a ≡ false
not_true true h = absurd (false≢true h)
not_true false h = refl

abbrev shares : ℕ → ℕ → Option Record → Option Record → Bool
shares a b first second =
    is_some first && (is_some second
    && ((option_map_or (λ r. r.context) first 0 == option_map_or (λ r. r.context) second 0) && not (a == b)))

together_by : (w : Gateway) (a b : ℕ) (first second : Option Record) → IsSound w.rooms
    → record_at w.rooms a ≡ first → record_at w.rooms b ≡ second → shares a b first second ≡ true → AreTogether w a b
together_by w a b None second sound e f h = absurd (false≢true h)
together_by w a b (Some t) None sound e f h = absurd (false≢true h)
together_by w a b (Some t) (Some l) sound e f h =
    let (same, apart) = both_hold (eqb t.context l.context) (not (eqb a b)) h in
    record {
      record_of = l;
      found = f;
      number = (sound.termination b l f).0;
      member = (sound.members l.context a).1 (t, e, eqb-true t.context l.context same);
      apart = not_true (eqb a b) apart;
    }

together : (w : Gateway) (a b : ℕ) → IsConsistent w.rooms → share_context w a b ≡ true → AreTogether w a b
together w a b consistent h =
    together_by w a b (record_at w.rooms a) (record_at w.rooms b) (sound_if w.rooms consistent) refl refl h

-- ## Lists of terminations and media

found_step : {X : Type 0} (f : TerminationMedia → X) (g : Record → X) (s : TerminationMedia) (r : Record)
    (so : Option TerminationMedia) (ro : Option Record) (p : Bool) → f s ≡ g r
    → ((x : TerminationMedia) (y : Record) → so ≡ Some x → ro ≡ Some y → f x ≡ g y)
    → (x : TerminationMedia) (y : Record) → cond p (Some s) so ≡ Some x → cond p (Some r) ro ≡ Some y → f x ≡ g y
found_step f g s r so ro true here rest x y e h =
    ap f (sym (same_Some s x e)) ∙ here ∙ ap g (same_Some r y h)
found_step f g s r so ro false here rest x y e h = rest x y e h

-- Suppose `f` of the media equals `g` of the records, in order. Then this also holds for the media and the record that
-- have the same number.
found_together : {X : Type 0} (f : TerminationMedia → X) (g : Record → X) (ss : List TerminationMedia)
    (rs : List Record)
    → map (λ s. s.number) ss ≡ map (λ r. r.number) rs → map f ss ≡ map g rs
    → (n : ℕ) (s : TerminationMedia) (r : Record) → find (λ s. s.number == n) ss ≡ Some s
    → find (λ r. r.number == n) rs ≡ Some r
    → f s ≡ g r
found_together f g [] rs numbers same n s r e h = absurd (cc)
found_together f g (x ∷ ss) [] numbers same n s r e h = absurd (cc)
found_together f g (x ∷ ss) (y ∷ rs) numbers same n s r e h =
    let number : y.number ≡ x.number = cc in
    let numbers_left : map (λ s. s.number) ss ≡ map (λ r. r.number) rs = cc in
    let here : f x ≡ g y = cc in
    let left : map f ss ≡ map g rs = cc in
    let found : cond (eqb x.number n) (Some y) (find (λ v. v.number == n) rs) ≡ Some r
    = subst (λ k. cond (eqb k n) (Some y) (find (λ v. v.number == n) rs) ≡ Some r) number h in
    found_step f g x y (find (λ v. v.number == n) ss) (find (λ v. v.number == n) rs) (eqb x.number n) here
    (found_together f g ss rs numbers_left left n) s r e found

pub have_depths : (w : World) → IsBase w → HaveDepths w.gateway
have_depths w base n r s at of =
    found_together (λ m. depth_of m.play) (λ v. v.depth) w.gateway.media w.gateway.rooms.terminations base.numbers
    base.depths
    n s r of at

-- What is said of the terminations includes all their records, in order.
records_said : (b : Gateway) (rs : List Record) (ss : List TerminationMedia)
    → map (λ s. s.number) ss ≡ map (λ r. r.number) rs
    → map (λ (t : SaidTermination). t.termination) (map (said_termination b) (zip rs ss)) ≡ rs
records_said b [] ss numbers = refl
records_said b (r ∷ rs) [] numbers = absurd (cc)
records_said b (r ∷ rs) (s ∷ ss) numbers =
    let rest : map (λ s. s.number) ss ≡ map (λ r. r.number) rs = cc in
    ap (λ vs. r ∷ vs) (records_said b rs ss rest)

-- ## Agreement

abbrev registry_with : Limits → List Record → List Context → ℕ → ℕ → Registry
registry_with limits terminations contexts next_termination next_context = record {
  limits = limits;
  terminations = terminations;
  contexts = contexts;
  next_termination = next_termination;
  next_context = next_context;
}

same_registry : (a b : Registry) → a.limits ≡ b.limits → a.terminations ≡ b.terminations → a.contexts ≡ b.contexts
    → a.next_termination ≡ b.next_termination → a.next_context ≡ b.next_context → a ≡ b
same_registry a b c d e f g =
    let same : registry_with a.limits a.terminations a.contexts a.next_termination a.next_context
    ≡ registry_with b.limits b.terminations b.contexts b.next_termination b.next_context = cc in
    same

same_rooms : (b w : World) → IsBase b → IsBase w → b.gateway.config ≡ w.gateway.config → said_of b ≡ said_of w
    → b.gateway.rooms ≡ w.gateway.rooms
same_rooms b w bs ws config said =
    same_registry b.gateway.rooms w.gateway.rooms
    (bs.limits ∙ ap limits_of config ∙ sym ws.limits)
    (sym (records_said b.gateway b.gateway.rooms.terminations b.gateway.media bs.numbers)
    ∙ ap (λ (s : Said). map (λ (t : SaidTermination). t.termination) s.terminations) said
    ∙ records_said w.gateway w.gateway.rooms.terminations w.gateway.media ws.numbers)
    (ap (λ (s : Said). s.contexts) said)
    (ap (λ (s : Said). s.next_termination) said)
    (ap (λ (s : Said). s.next_context) said)

say_same : (b w : World) → IsBase b → IsBase w → b.gateway.rooms ≡ w.gateway.rooms → said_of b ≡ said_of w
    → SaySame b.gateway w.gateway w.gateway.rooms.terminations b.gateway.media w.gateway.media
say_same b w bs ws rooms said = record {
  first = bs.numbers ∙ ap (λ (k : Registry). map (λ r. r.number) k.terminations) rooms;
  second = ws.numbers;
  said = sym (ap (λ (k : Registry). map (said_termination b.gateway) (zip k.terminations b.gateway.media)) rooms)
      ∙ ap (λ (s : Said). s.terminations) said;
}

same_words : (b w : Gateway) (talker listener : ℕ) → IsConsistent w.rooms → b.rooms ≡ w.rooms
    → ((n : ℕ) (r : Record) → record_at w.rooms n ≡ Some r → muted_for b r ≡ muted_for w r)
    → share_context w talker listener ≡ true → may_hear b.edits talker listener ≡ may_hear w.edits talker listener
same_words b w talker listener consistent rooms muted shared =
    let t = together w talker listener consistent shared in
    let r = t.record_of in
    let one : ℕ → Bool = λ n. not (n == r.number) && not (hears b n r.number) in
    let other : ℕ → Bool = λ n. not (n == r.number) && not (hears w n r.number) in
    let members = ap (λ k. members_at k r.context) rooms in
    let left : filter one (members_at w.rooms r.context) ≡ filter other (members_at w.rooms r.context)
    = subst (λ xs. filter one xs ≡ filter other (members_at w.rooms r.context)) members (muted listener r t.found) in
    let tests = same_tests one other talker (members_at w.rooms r.context) left t.member in
    let shared_by_b = ap (λ k. share_context (record w { rooms = k }) talker r.number) rooms in
    let shared_here : share_context w talker r.number ≡ true
    = subst (λ k. share_context w talker k ≡ true) (sym t.number) shared in
    let differs : eqb talker r.number ≡ false = subst (λ k. eqb talker k ≡ false) (sym t.number) t.apart in
    let given : (not (eqb talker r.number) && not (share_context w talker r.number && may_hear b.edits talker r.number))
    ≡ (not (eqb talker r.number) && not (share_context w talker r.number && may_hear w.edits talker r.number))
    = subst (λ v. (not (eqb talker r.number) && not (v && may_hear b.edits talker r.number))
    ≡ (not (eqb talker r.number) && not (share_context w talker r.number && may_hear w.edits talker r.number)))
    shared_by_b tests in
    let same = heard_if (share_context w talker r.number) (eqb talker r.number) (may_hear b.edits talker r.number)
    (may_hear w.edits talker r.number) shared_here differs given in
    subst (λ k. may_hear b.edits talker k ≡ may_hear w.edits talker k) t.number same

pub agree : (b w : World) → IsBase b → IsBase w → b.gateway.config ≡ w.gateway.config → said_of b ≡ said_of w
    → AgreeInCheckpoint b.gateway w.gateway
agree b w bs ws config said =
    let rooms = same_rooms b w bs ws config said in
    let same = say_same b w bs ws rooms said in
    record {
      config = config;
      rooms = rooms;
      numbers = same.first ∙ sym same.second;
      sent = λ n s t. same_sent b.gateway w.gateway w.gateway.rooms.terminations b.gateway.media w.gateway.media same n
          s t;
      hears = λ talker listener shared. same_words b.gateway w.gateway talker listener ws.rooms rooms
          (λ n r at. same_muted b.gateway w.gateway w.gateway.rooms.terminations b.gateway.media w.gateway.media same n
          r at) shared;
    }
