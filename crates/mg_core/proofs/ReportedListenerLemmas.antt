-- The earlier listeners and a report determine the outcome.
use Rattle.std.proofs.Common.{◌≡◌, ◌==◌, ◌∙◌, ℕ, ◌<◌, Bool, true, false, cond, List, [], ◌∷◌, ◌++◌, Option, Some, None, All, flat_map, get_or, length, refl, sym, ap, arith}
use Rattle.std.specs.Prelude.{IsSome, is_some}
use Rattle.std.specs.Option.{option_and_then, option_map, option_or, unwrap_or}
use Rattle.std.specs.Str.{bytes_eq}
use Rattle.std.proofs.lemmas.Bool.{eq-eqb, eqb-true}
use Rattle.std.proofs.lemmas.List.{get_or-map, length-map}
use Rattle.std.proofs.lemmas.List.Elements.{All-append, All-cons, All-filter, All-from_recursion, All-head, All-map, All-nil, All-tail}
use Rattle.std.proofs.lemmas.Slice.Eq.{bytes_eq-Decides}
use Rattle.mg_words.specs.declared.mode.Mode.{Mode}
use Rattle.mg_words.specs.declared.mode.Mode.TheVariants.{Inactive}
use Rattle.mg_rooms.specs.declared.context.Context.{Context}
use Rattle.mg_rooms.specs.declared.record.Record.{Record}
use Rattle.mg_rooms.specs.Consistent.{IsConsistent, IsTermination}
use Rattle.mg_rooms.specs.Registry.{context_at}
use Rattle.mg_rooms.specs.aids.Sound.{IsSound}
use Rattle.mg_rooms.proofs.SoundLemmas.{sound_if}
use Rattle.mg_engine.specs.Flow.{flow}
use Rattle.mg_engine.specs.Gateway.{Gateway, numbers_of}
use Rattle.mg_engine.proofs.SendingLemmas.{nobody}
use Rattle.mg_core.specs.Flows.{Listener, ReportDeterminesOutcome, but_port, is_same_mode, listener_at, listener_of, listeners_of}
use Rattle.mg_core.proofs.QuietLemmas.{all_found}
use Rattle.mg_core.proofs.ReportLineLemmas.{AreShort, Ended, Entry, Hears, InMode, IsShort, IsShortEntry, MadeIn, MovedTo, Said, lines_same}
use Rattle.mg_core.proofs.ReportLemmas.{AreSame, Rises, about, changes_text, entries, entry, first, first_append, first_is, first_of_news, first_of_old, first_unless, found_number, neither, new_entries, news, none_in, old_entries, one_list, same_mode_is, unless_same}

-- ## The earlier listeners and the entries determine the outcome

abbrev is_end : Said → Option (Unit {0})
is_end Ended = Some tt
is_end s = None

abbrev its_context : Said → Option ℕ
its_context (MadeIn context port) = Some context
its_context (MovedTo context) = Some context
its_context s = None

abbrev its_mode : Said → Option Mode
its_mode (InMode mode) = Some mode
its_mode s = None

abbrev its_talkers : Said → Option (List ℕ)
its_talkers (Hears talkers) = Some talkers
its_talkers s = None

abbrev rebuilt : ℕ → Option Listener → Option (Unit {0}) → Option ℕ → Option Mode → Option (List ℕ) → Option Listener
rebuilt n None ended None mode talkers = None
rebuilt n None ended (Some context) mode talkers = Some (record {
  number = n;
  context = context;
  port = 0;
  mode = unwrap_or mode Inactive;
  talkers = unwrap_or talkers [];
})
rebuilt n (Some old) (Some ended) context mode talkers = None
rebuilt n (Some old) None context mode talkers = Some (record {
  number = n;
  context = unwrap_or context old.context;
  port = 0;
  mode = unwrap_or mode old.mode;
  talkers = unwrap_or talkers old.talkers;
})

abbrev rebuild : ℕ → Option Listener → List Entry → Option Listener
rebuild n o es = rebuilt n o (first (about n is_end) es) (first (about n its_context) es) (first (about n its_mode) es)
    (first (about n its_talkers) es)

-- The first fact of a kind in the entries of one termination.
abbrev own : {A : Type 0} → (Said → Option A) → Option Listener → Listener → Option A
own g None y = option_or (g (MadeIn y.context y.port))
    (option_or (g (InMode y.mode)) (cond (length y.talkers == 0) None (g (Hears y.talkers))))
own g (Some old) y = option_or (cond (old.context == y.context) None (g (MovedTo y.context)))
    (option_or (cond (is_same_mode old.mode y.mode) None (g (InMode y.mode)))
    (cond (bytes_eq old.talkers y.talkers) None (g (Hears y.talkers))))

first_own : {A : Type 0} (n : ℕ) (g : Said → Option A) (o : Option Listener) (y : Listener) → y.number == n ≡ true →
    first (about n g) (new_entries o y) ≡ own g o y
first_own n g None y is =
    let one : (s : Said) → about n g (entry y s) ≡ g s = λ s. rw is refl in
    let last = first_unless (about n g) (length y.talkers == 0) (entry y (Hears y.talkers)) ∙
    ap (cond (length y.talkers == 0) None) (one (Hears y.talkers)) in
    λ i. option_or (one (MadeIn y.context y.port) i) (option_or (one (InMode y.mode) i) (last i))
first_own n g (Some old) y is =
    let one : (s : Said) → about n g (entry y s) ≡ g s = λ s. rw is refl in
    let each : (b : Bool) (s : Said) → first (about n g) (unless_same b (entry y s)) ≡ cond b None (g s) =
    λ b s. first_unless (about n g) b (entry y s) ∙ ap (cond b None) (one s) in
    let moved = unless_same (old.context == y.context) (entry y (MovedTo y.context)) in
    let mode = unless_same (is_same_mode old.mode y.mode) (entry y (InMode y.mode)) in
    let hears = unless_same (bytes_eq old.talkers y.talkers) (entry y (Hears y.talkers)) in
    let parts = first_append (about n g) moved (mode ++ hears) ∙
    ap (option_or (first (about n g) moved)) (first_append (about n g) mode hears) in
    let first_is = each (old.context == y.context) (MovedTo y.context) in
    let second_is = each (is_same_mode old.mode y.mode) (InMode y.mode) in
    let third_is = each (bytes_eq old.talkers y.talkers) (Hears y.talkers) in
    parts ∙ (λ i. option_or (first_is i) (option_or (second_is i) (third_is i)))

or_neither : {A : Type 0} (b : Bool) (o : Option A) → option_or (cond b None None) o ≡ o
or_neither true o = refl
or_neither false o = refl

or_not_then : {A : Type 0} (o : Option A) (b : Bool) → option_or o (cond b None None) ≡ o
or_not_then None b = neither b None refl
or_not_then (Some x) b = refl

new_or_old : {A : Type 0} (b : Bool) (old new : A) → (b ≡ true → old ≡ new) → unwrap_or (cond b None (Some new)) old ≡ new
new_or_old true old new h = h refl
new_or_old false old new h = refl

context_back : (b c d : Bool) (old new : ℕ) → (b ≡ true → old ≡ new) →
    unwrap_or (option_or (cond b None (Some new)) (option_or (cond c None None) (cond d None None))) old ≡ new
context_back b c d old new h =
    ap (λ o. unwrap_or (option_or (cond b None (Some new)) o) old) (or_neither c (cond d None None)) ∙
    ap (λ o. unwrap_or o old) (or_not_then (cond b None (Some new)) d) ∙ new_or_old b old new h

mode_back : (b c d : Bool) (old new : Mode) → (c ≡ true → old ≡ new) →
    unwrap_or (option_or (cond b None None) (option_or (cond c None (Some new)) (cond d None None))) old ≡ new
mode_back b c d old new h =
    ap (λ o. unwrap_or o old) (or_neither b (option_or (cond c None (Some new)) (cond d None None)) ∙
    or_not_then (cond c None (Some new)) d) ∙ new_or_old c old new h

talkers_back : (b c d : Bool) (old new : List ℕ) → (d ≡ true → old ≡ new) →
    unwrap_or (option_or (cond b None None) (option_or (cond c None None) (cond d None (Some new)))) old ≡ new
talkers_back b c d old new h =
    ap (λ o. unwrap_or o old) (or_neither b (option_or (cond c None None) (cond d None (Some new))) ∙
    or_neither c (cond d None (Some new))) ∙ new_or_old d old new h

never_ended : (o : Option Listener) (y : Listener) → own is_end o y ≡ None
never_ended None y = neither (length y.talkers == 0) None refl
never_ended (Some old) y =
    or_neither (old.context == y.context) _ ∙ or_neither (is_same_mode old.mode y.mode) _ ∙
    neither (bytes_eq old.talkers y.talkers) None refl

none_heard : (ns : List ℕ) → length ns == 0 ≡ true → [] ≡ ns
none_heard [] h = refl
none_heard (n ∷ ns) h = absurd (omega (arith, eqb-true (length (n ∷ ns)) 0 h))

rebuilt_own : (n : ℕ) (o : Option Listener) (y : Listener) (e : Option (Unit {0})) → y.number ≡ n → e ≡ None →
    rebuilt n o e (own its_context o y) (own its_mode o y) (own its_talkers o y) ≡ Some (but_port y)
rebuilt_own n None y e number none =
    let talkers = new_or_old (length y.talkers == 0) [] y.talkers (none_heard y.talkers) in
    λ i. Some (record {
      number = sym number i;
      context = y.context;
      port = 0;
      mode = y.mode;
      talkers = talkers i;
    })
rebuilt_own n (Some old) y e number none =
    let b = old.context == y.context in
    let c = is_same_mode old.mode y.mode in
    let d = bytes_eq old.talkers y.talkers in
    let context = context_back b c d old.context y.context (eqb-true old.context y.context) in
    let mode = mode_back b c d old.mode y.mode (same_mode_is old.mode y.mode) in
    let talkers = talkers_back b c d old.talkers y.talkers ((bytes_eq-Decides old.talkers y.talkers).0) in
    ap (λ (p : Option (Unit {0})). rebuilt n (Some old) p (own its_context (Some old) y) (own its_mode (Some old) y)
    (own its_talkers (Some old) y)) none ∙
    (λ i. Some (record {
      number = sym number i;
      context = context i;
      port = 0;
      mode = mode i;
      talkers = talkers i;
    }))

-- If a termination still exists, no entry says that it ended.
not_ended : (n : ℕ) (y : Listener) (after xs : List Listener) → listener_at after n ≡ Some y →
    first (about n is_end) (flat_map (old_entries after) xs) ≡ None
not_ended n y after [] is = refl
not_ended n y after (x ∷ xs) is =
    none_in (about n is_end) (old_entries after x) (flat_map (old_entries after) xs)
    (first_unless (about n is_end) (is_some (listener_at after x.number)) (entry x Ended) ∙
    by_test (x.number == n) refl) ∙ not_ended n y after xs is
  where
    by_test : (b : Bool) → x.number == n ≡ b →
        cond (is_some (listener_at after x.number)) None (cond b (is_end Ended) None) ≡ None
    by_test true same =
        ap (λ (o : Option Listener). cond (is_some o) None (is_end Ended))
        (ap (listener_at after) (eqb-true x.number n same) ∙ is)
    by_test false other = neither (is_some (listener_at after x.number)) None refl

-- If a termination no longer exists, an entry says that it ended.
has_ended : (n : ℕ) (old : Listener) (after xs : List Listener) → listener_at after n ≡ None →
    listener_at xs n ≡ Some old → first (about n is_end) (flat_map (old_entries after) xs) ≡ Some tt
has_ended n old after [] none was = absurd (cc was)
has_ended n old after (x ∷ xs) none was =
    first_append (about n is_end) (old_entries after x) (flat_map (old_entries after) xs) ∙
    ap (λ (o : Option (Unit {0})). option_or o (first (about n is_end) (flat_map (old_entries after) xs)))
    (first_unless (about n is_end) (is_some (listener_at after x.number)) (entry x Ended)) ∙
    by_test (x.number == n) refl was (has_ended n old after xs none)
  where
    by_test : (b : Bool) → x.number == n ≡ b → cond b (Some x) (listener_at xs n) ≡ Some old →
        (listener_at xs n ≡ Some old → first (about n is_end) (flat_map (old_entries after) xs) ≡ Some tt) →
        option_or (cond (is_some (listener_at after x.number)) None (cond b (is_end Ended) None))
        (first (about n is_end) (flat_map (old_entries after) xs)) ≡ Some tt
    by_test true same is later =
        ap (λ (o : Option Listener). option_or (cond (is_some o) None (is_end Ended))
        (first (about n is_end) (flat_map (old_entries after) xs)))
        (ap (listener_at after) (eqb-true x.number n same) ∙ none)
    by_test false other is later =
        or_neither (is_some (listener_at after x.number)) (first (about n is_end) (flat_map (old_entries after) xs)) ∙
        later is

module _ (n : ℕ) (before after : List Listener) (rise : Rises after) where
  said_of : {A : Type 0} (g : Said → Option A) (y : Listener) → listener_at after n ≡ Some y →
      first (about n g) (flat_map (news before) after) ≡ own g (listener_at before n) y
  said_of g y is =
      let number = found_number after n y is in
      first_of_news n g before after rise ∙
      ap (option_and_then (λ z. first (about n g) (news before z))) is ∙
      ap (λ (k : ℕ). first (about n g) (new_entries (listener_at before k) y)) number ∙
      first_own n g (listener_at before n) y (eq-eqb y.number n number)

  all_said : {A : Type 0} (g : Said → Option A) (y : Listener) → g Ended ≡ None → listener_at after n ≡ Some y →
      first (about n g) (entries before after) ≡ own g (listener_at before n) y
  all_said g y none is =
      none_in (about n g) (flat_map (old_entries after) before) (flat_map (news before) after)
      (first_of_old n g after before none) ∙ said_of g y is

  none_said : {A : Type 0} (g : Said → Option A) → g Ended ≡ None → listener_at after n ≡ None →
      first (about n g) (entries before after) ≡ None
  none_said g none is =
      none_in (about n g) (flat_map (old_entries after) before) (flat_map (news before) after)
      (first_of_old n g after before none) ∙ first_of_news n g before after rise ∙
      ap (option_and_then (λ z. first (about n g) (news before z))) is

  rebuilds : rebuild n (listener_at before n) (entries before after) ≡ option_map but_port (listener_at after n)
  rebuilds = by_cases (listener_at before n) (listener_at after n) refl refl
    where
      by_cases : (o p : Option Listener) → listener_at before n ≡ o → listener_at after n ≡ p →
          rebuild n o (entries before after) ≡ option_map but_port p
      by_cases None None was is =
          ap (λ (c : Option ℕ). rebuilt n None (first (about n is_end) (entries before after)) c
          (first (about n its_mode) (entries before after)) (first (about n its_talkers) (entries before after)))
          (none_said its_context refl is)
      by_cases (Some old) None was is =
          ap (λ (e : Option (Unit {0})). rebuilt n (Some old) e (first (about n its_context) (entries before after))
          (first (about n its_mode) (entries before after)) (first (about n its_talkers) (entries before after)))
          (first_append (about n is_end) (flat_map (old_entries after) before) (flat_map (news before) after) ∙
          ap (λ (e : Option (Unit {0})). option_or e (first (about n is_end) (flat_map (news before) after)))
          (has_ended n old after before is was))
      by_cases o (Some y) was is =
          let context = all_said its_context y refl is ∙ ap (λ (q : Option Listener). own its_context q y) was in
          let mode = all_said its_mode y refl is ∙ ap (λ (q : Option Listener). own its_mode q y) was in
          let talkers = all_said its_talkers y refl is ∙ ap (λ (q : Option Listener). own its_talkers q y) was in
          let none = none_in (about n is_end) (flat_map (old_entries after) before) (flat_map (news before) after)
          (not_ended n y after before is) ∙ said_of is_end y is ∙ never_ended (listener_at before n) y in
          (λ i. rebuilt n o (first (about n is_end) (entries before after)) (context i) (mode i) (talkers i)) ∙
          rebuilt_own n o y (first (about n is_end) (entries before after)) (found_number after n y is) none

-- ## All numbers in a report fit in 64 bits

record IsShortListener (x : Listener) : Type 0 where
  number : IsShort x.number
  context : IsShort x.context
  port : IsShort x.port
  talkers : All IsShort x.talkers

all_in : {A : Type 0} (g : A → List Entry) (xs : List A) → All (λ x. All IsShortEntry (g x)) xs →
    All IsShortEntry (flat_map g xs)
all_in g [] h = All-nil IsShortEntry
all_in g (x ∷ xs) h = All-append IsShortEntry (g x) (flat_map g xs) (All-head (λ y. All IsShortEntry (g y)) x xs h)
    (all_in g xs (All-tail (λ y. All IsShortEntry (g y)) x xs h))

unless_short : (b : Bool) (x : Listener) (s : Said) → IsShort x.number → AreShort s →
    All IsShortEntry (unless_same b (entry x s))
unless_short true x s h k = All-nil IsShortEntry
unless_short false x s h k =
    All-cons IsShortEntry (entry x s) [] (record { number = h; said = k }) (All-nil IsShortEntry)

new_short : (o : Option Listener) (x : Listener) → IsShortListener x → All IsShortEntry (new_entries o x)
new_short None x h =
    let hears = unless_same (length x.talkers == 0) (entry x (Hears x.talkers)) in
    All-cons IsShortEntry (entry x (MadeIn x.context x.port)) (entry x (InMode x.mode) ∷ hears)
    (record { number = h.number; said = (h.context, h.port) })
    (All-cons IsShortEntry (entry x (InMode x.mode)) hears (record { number = h.number; said = tt })
    (unless_short (length x.talkers == 0) x (Hears x.talkers) h.number h.talkers))
new_short (Some old) x h =
    All-append IsShortEntry _ _
    (unless_short (old.context == x.context) x (MovedTo x.context) h.number h.context)
    (All-append IsShortEntry _ _ (unless_short (is_same_mode old.mode x.mode) x (InMode x.mode) h.number tt)
    (unless_short (bytes_eq old.talkers x.talkers) x (Hears x.talkers) h.number h.talkers))

entries_short : (before after : List Listener) → All IsShortListener before → All IsShortListener after →
    All IsShortEntry (entries before after)
entries_short before after h k =
    All-append IsShortEntry (flat_map (old_entries after) before) (flat_map (news before) after)
    (all_in (old_entries after) before (λ i d lt.
    unless_short (is_some (listener_at after (get_or before i d).number)) (get_or before i d) Ended (h i d lt).number tt))
    (all_in (news before) after (λ i d lt.
    new_short (listener_at before (get_or after i d).number) (get_or after i d) (k i d lt)))

-- ## The listeners of gateways

rising : (w : Gateway) → IsConsistent w.rooms → Rises (listeners_of w)
rising w c = λ i j d lt within.
    let rs = w.rooms.terminations in
    let long : j < length rs = omega (arith, within, length-map rs (listener_of w)) in
    let short : i < length rs = omega (arith, long, lt) in
    let one : (get_or (listeners_of w) i d).number ≡ (get_or rs i nobody).number =
    ap (λ (x : Listener). x.number) (get_or-map (listener_of w) rs i nobody d short) in
    let other : (get_or (listeners_of w) j d).number ≡ (get_or rs j nobody).number =
    ap (λ (x : Listener). x.number) (get_or-map (listener_of w) rs j nobody d long) in
    omega (arith, one, other, c.terminations.rising i j nobody lt long)

context_short : (w : Gateway) (c : ℕ) (o : Option Context) → IsSound w.rooms → context_at w.rooms c ≡ o → IsSome o →
    IsShort c
context_short w c None sound is there = absurd (cc there)
context_short w c (Some x) sound is there =
    let within = sound.context c x is in
    omega (arith, within.0, within.1.below, sound.consistent.last_context)

all_short : (w : Gateway) → IsConsistent w.rooms → All IsShortListener (listeners_of w)
all_short w c =
    let rs = w.rooms.terminations in
    let sound = sound_if w.rooms c in
    let each : All (IsTermination w.rooms.limits w.rooms.next_termination) rs =
    All-from_recursion (IsTermination w.rooms.limits w.rooms.next_termination) rs c.terminations.each in
    let numbers : All IsShort (numbers_of w) = All-map IsShort (λ (r : Record). r.number) rs
    (λ k d lt. omega (arith, (each k d lt).below, c.last_termination)) in
    All-map IsShortListener (listener_of w) rs (λ k d lt.
    let r = get_or rs k d in
    record {
      number = omega (arith, (each k d lt).below, c.last_termination);
      context = context_short w r.context (context_at w.rooms r.context) sound refl
          (sound.there r.number r (sound.by_number k d lt));
      port = omega (arith, (each k d lt).slot, c.limits.0.last);
      talkers = All-filter (λ n. flow w n r.number) IsShort (numbers_of w) numbers;
    })

there_too : (o : Option Listener) (y : Listener) → Some (but_port y) ≡ option_map but_port o → is_some o ≡ true
there_too None y h = absurd (cc h)
there_too (Some x) y h = refl

was_the_same : (o : Option Listener) (z : Listener) → option_map but_port o ≡ Some (but_port z) →
    (y : Listener) × (o ≡ Some y) × AreSame y z
was_the_same None z h = absurd (cc h)
was_the_same (Some y) z h =
    let same : but_port y ≡ but_port z = cc in (
      y,
      refl,
      record {
        number = ap (λ (x : Listener). x.number) same;
        context = ap (λ (x : Listener). x.context) same;
        mode = ap (λ (x : Listener). x.mode) same;
        talkers = ap (λ (x : Listener). x.talkers) same;
      },
    )

pub report_determines_outcome : ReportDeterminesOutcome
report_determines_outcome ticks u v w first_is second_is third_is h =
    let xs = listeners_of u in
    let ys = listeners_of v in
    let zs = listeners_of w in
    let said : entries xs ys ≡ entries xs zs = lines_same ticks (entries xs ys) (entries xs zs)
    (entries_short xs ys (all_short u first_is) (all_short v second_is))
    (entries_short xs zs (all_short u first_is) (all_short w third_is))
    (changes_text ticks xs ys ∙ h ∙ sym (changes_text ticks xs zs)) in
    let same : (n : ℕ) → option_map but_port (listener_at ys n) ≡ option_map but_port (listener_at zs n) =
    λ n. sym (rebuilds n xs ys (rising v second_is)) ∙ ap (rebuild n (listener_at xs n)) said ∙
    rebuilds n xs zs (rising w third_is) in
    one_list ys zs (rising v second_is) (rising w third_is)
    (λ k d lt. let y = get_or ys k d in
    there_too (listener_at zs y.number) y
    (sym (ap (option_map but_port) (all_found v (sound_if v.rooms second_is) k d lt)) ∙ same y.number))
    (λ k d lt. let z = get_or zs k d in
    was_the_same (listener_at ys z.number) z
    (same z.number ∙ ap (option_map but_port) (all_found w (sound_if w.rooms third_is) k d lt)))
