-- The state before some changes and the report of these changes determine the state after them.
use Rattle.std.proofs.Common.{◌≡◌, ◌==◌, ◌∙◌, ℕ, suc, ◌<◌, ◌≤◌, Bool, true, false, cond, List, [], ◌∷◌, ◌++◌, Option, Some, None, All, flat_map, get_or, map, length, refl, sym, ap, subst, arith}
use Rattle.std.specs.Prelude.{is_some}
use Rattle.std.specs.List.{AllPairs}
use Rattle.std.specs.Option.{option_and_then, option_or}
use Rattle.std.specs.Str.{bytes_eq}
use Rattle.std.proofs.lemmas.Bool.{eq-eqb, eqb-true, ne_eqb}
use Rattle.std.proofs.lemmas.Grind.{flat_map-append}
use Rattle.std.proofs.lemmas.List.{append-nil}
use Rattle.std.proofs.lemmas.List.Elements.{All-head, All-tail}
use Rattle.mg_words.specs.declared.mode.Mode.{Mode}
use Rattle.mg_words.specs.declared.mode.Mode.TheVariants.{Inactive, SendOnly, ReceiveOnly, SendReceive, Loopback}
use Rattle.mg_core.specs.Flows.{Listener, but_port, changes, is_same_mode, listener_at, lines_of_new, lines_of_old}
use Rattle.mg_core.proofs.ReportLineLemmas.{Ended, Entry, Hears, InMode, MadeIn, MovedTo, Said, line_of}

-- ## A report as a list of entries

-- The list with this entry, or the empty list if nothing of its kind changed.
abbrev pub unless_same : Bool → Entry → List Entry
unless_same b e = cond b [] (e ∷ [])

abbrev pub entry : Listener → Said → Entry
entry x said = record { number = x.number; said = said }

abbrev pub old_entries : List Listener → Listener → List Entry
old_entries after x = unless_same (is_some (listener_at after x.number)) (entry x Ended)

abbrev pub new_entries : Option Listener → Listener → List Entry
new_entries None x =
    entry x (MadeIn x.context x.port) ∷ entry x (InMode x.mode) ∷
    unless_same (length x.talkers == 0) (entry x (Hears x.talkers))
new_entries (Some old) x =
    unless_same (old.context == x.context) (entry x (MovedTo x.context)) ++
    (unless_same (is_same_mode old.mode x.mode) (entry x (InMode x.mode)) ++
    unless_same (bytes_eq old.talkers x.talkers) (entry x (Hears x.talkers)))

abbrev pub news : List Listener → Listener → List Entry
news before x = new_entries (listener_at before x.number) x

abbrev pub entries : List Listener → List Listener → List Entry
entries before after = flat_map (old_entries after) before ++ flat_map (news before) after

unless_text : (ticks : ℕ) (b : Bool) (e : Entry) →
    flat_map (line_of ticks) (unless_same b e) ≡ cond b [] (line_of ticks e)
unless_text ticks true e = refl
unless_text ticks false e = append-nil (line_of ticks e)

new_text : (ticks : ℕ) (o : Option Listener) (x : Listener) →
    flat_map (line_of ticks) (new_entries o x) ≡ lines_of_new ticks o x
new_text ticks None x =
    ap (λ (l : List ℕ). line_of ticks (entry x (MadeIn x.context x.port)) ++
    (line_of ticks (entry x (InMode x.mode)) ++ l))
    (unless_text ticks (length x.talkers == 0) (entry x (Hears x.talkers)))
new_text ticks (Some old) x =
    let moved = unless_same (old.context == x.context) (entry x (MovedTo x.context)) in
    let mode = unless_same (is_same_mode old.mode x.mode) (entry x (InMode x.mode)) in
    let hears = unless_same (bytes_eq old.talkers x.talkers) (entry x (Hears x.talkers)) in
    let first = unless_text ticks (old.context == x.context) (entry x (MovedTo x.context)) in
    let second = unless_text ticks (is_same_mode old.mode x.mode) (entry x (InMode x.mode)) in
    let third = unless_text ticks (bytes_eq old.talkers x.talkers) (entry x (Hears x.talkers)) in
    flat_map-append (line_of ticks) moved (mode ++ hears) ∙
    ap (λ (l : List ℕ). flat_map (line_of ticks) moved ++ l) (flat_map-append (line_of ticks) mode hears) ∙
    (λ i. first i ++ (second i ++ third i))

each_text : {A : Type 0} (f : Entry → List ℕ) (g : A → List Entry) (h : A → List ℕ) →
    ((x : A) → flat_map f (g x) ≡ h x) → (xs : List A) → flat_map f (flat_map g xs) ≡ flat_map h xs
each_text f g h same [] = refl
each_text f g h same (x ∷ xs) =
    let rest = each_text f g h same xs in
    flat_map-append f (g x) (flat_map g xs) ∙ (λ i. same x i ++ rest i)

pub changes_text : (ticks : ℕ) (before after : List Listener) →
    flat_map (line_of ticks) (entries before after) ≡ changes ticks before after
changes_text ticks before after =
    let ended = each_text (line_of ticks) (old_entries after) (lines_of_old ticks after)
    (λ x. unless_text ticks (is_some (listener_at after x.number)) (entry x Ended)) before in
    let others = each_text (line_of ticks) (news before)
    (λ x. lines_of_new ticks (listener_at before x.number) x)
    (λ x. new_text ticks (listener_at before x.number) x) after in
    flat_map-append (line_of ticks) (flat_map (old_entries after) before) (flat_map (news before) after) ∙
    (λ i. ended i ++ others i)

-- ## Listeners

abbrev IsThere : List Listener → ℕ → Type 0
IsThere xs n = is_some (listener_at xs n) ≡ true

pub same_mode_is : (a b : Mode) → is_same_mode a b ≡ true → a ≡ b
same_mode_is Inactive Inactive h = refl
same_mode_is SendOnly SendOnly h = refl
same_mode_is ReceiveOnly ReceiveOnly h = refl
same_mode_is SendReceive SendReceive h = refl
same_mode_is Loopback Loopback h = refl
same_mode_is a b h = absurd (cc h)

-- Two listeners that are equal except for their ports.
pub record AreSame (x y : Listener) : Type 0 where
  pub number : x.number ≡ y.number
  pub context : x.context ≡ y.context
  pub mode : x.mode ≡ y.mode
  pub talkers : x.talkers ≡ y.talkers

same_but_port : (x y : Listener) → AreSame x y → but_port x ≡ but_port y
same_but_port x y h = λ i. record {
  number = h.number i;
  context = h.context i;
  port = 0;
  mode = h.mode i;
  talkers = h.talkers i;
}

-- The listener existed before, and is unchanged except for its port.
abbrev WasThere : List Listener → Listener → Type 0
WasThere xs y = (x : Listener) × (listener_at xs y.number ≡ Some x) × AreSame x y

found_number_step : (b : Bool) (n : ℕ) (x y : Listener) (o : Option Listener) → (b ≡ true → y.number ≡ n) →
    (o ≡ Some x → x.number ≡ n) → cond b (Some y) o ≡ Some x → x.number ≡ n
found_number_step true n x y o f g h = let same : y ≡ x = cc h in ap (λ (z : Listener). z.number) (sym same) ∙ f refl
found_number_step false n x y o f g h = g h

pub found_number : (xs : List Listener) (n : ℕ) (x : Listener) → listener_at xs n ≡ Some x → x.number ≡ n
found_number [] n x h = absurd (cc h)
found_number (y ∷ ys) n x h = found_number_step (y.number == n) n x y (listener_at ys n) (eqb-true y.number n)
    (found_number ys n x) h

-- ## Lists with rising numbers

abbrev pub Rises : List Listener → Type 0
Rises xs = AllPairs (λ x later. x.number < later.number) xs

later_rise : (x : Listener) (xs : List Listener) → Rises (x ∷ xs) → Rises xs
later_rise x xs h = λ i j d lt within. h (suc i) (suc j) d (omega (arith, lt)) (omega (arith, within))

all_later : (x : Listener) (xs : List Listener) → Rises (x ∷ xs) → All (λ y. x.number < y.number) xs
all_later x xs h = λ k d lt. h 0 (suc k) d (omega arith) (omega (arith, lt))

-- If the numbers in a list rise, each number in the list is at least the first number.
least_step : (b : Bool) (n m : ℕ) (x : Listener) (o : Option Listener) → (b ≡ true → m ≡ n) →
    (is_some o ≡ true → m ≤ n) → is_some (cond b (Some x) o) ≡ true → m ≤ n
least_step true n m x o f g h = omega (arith, f refl)
least_step false n m x o f g h = g h

least : (x : Listener) (xs : List Listener) (n : ℕ) → Rises (x ∷ xs) → IsThere (x ∷ xs) n → x.number ≤ n
least x [] n rise h = least_step (x.number == n) n x.number x None (eqb-true x.number n) (λ e. absurd (cc e)) h
least x (y ∷ ys) n rise h = least_step (x.number == n) n x.number x (listener_at (y ∷ ys) n) (eqb-true x.number n)
    (λ e. omega (
      arith,
      least y ys n (later_rise x (y ∷ ys) rise) e,
      All-head (λ z. x.number < z.number) y ys (all_later x (y ∷ ys) rise),
    )) h

-- A number above the first number is looked up in the rest of the list.
behind : (x : Listener) (xs : List Listener) (n : ℕ) → x.number < n → listener_at (x ∷ xs) n ≡ listener_at xs n
behind x xs n lt = rw (ne_eqb x.number n (λ e. absurd (omega (arith, e, lt)))) refl

there_behind : (x : Listener) (xs ys : List Listener) → All (λ y. x.number < y.number) ys →
    All (λ y. IsThere (x ∷ xs) y.number) ys → All (λ y. IsThere xs y.number) ys
there_behind x xs ys later h = λ k d lt.
    subst (λ (o : Option Listener). is_some o ≡ true) (behind x xs (get_or ys k d).number (later k d lt)) (h k d lt)

was_behind : (x : Listener) (xs ys : List Listener) → All (λ y. x.number < y.number) ys →
    All (WasThere (x ∷ xs)) ys → All (WasThere xs) ys
was_behind x xs ys later h = λ k d lt.
    let was = h k d lt in
    (was.0, sym (behind x xs (get_or ys k d).number (later k d lt)) ∙ was.1, was.2)

there_from : (xs : List Listener) (n : ℕ) (x : Listener) → listener_at xs n ≡ Some x → IsThere xs n
there_from xs n x h = rw h refl

pub first_is : (x : Listener) (xs : List Listener) (n : ℕ) → x.number ≡ n → listener_at (x ∷ xs) n ≡ Some x
first_is x xs n h = rw (eq-eqb x.number n h) refl

some_same : (x y : Listener) (o : Option Listener) → o ≡ Some x → o ≡ Some y → x ≡ y
some_same x y o h k = cc

pub one_list : (xs ys : List Listener) → Rises xs → Rises ys → All (λ x. IsThere ys x.number) xs →
    All (WasThere xs) ys → map but_port xs ≡ map but_port ys
one_list [] [] p q there was = refl
one_list [] (y ∷ ys) p q there was =
    let first : WasThere [] y = All-head (WasThere []) y ys was in
    absurd (cc (first.1))
one_list (x ∷ xs) [] p q there was =
    let first : IsThere [] x.number = All-head (λ z. IsThere [] z.number) x xs there in
    absurd (cc first)
one_list (x ∷ xs) (y ∷ ys) p q there was =
    let first : WasThere (x ∷ xs) y = All-head (WasThere (x ∷ xs)) y ys was in
    let low : y.number ≤ x.number =
    least y ys x.number q (All-head (λ z. IsThere (y ∷ ys) z.number) x xs there) in
    let high : x.number ≤ y.number =
    least x xs y.number p (there_from (x ∷ xs) y.number first.0 first.1) in
    let number : x.number ≡ y.number = omega (arith, low, high) in
    let is : first.0 ≡ x =
    some_same first.0 x (listener_at (x ∷ xs) y.number) first.1 (first_is x xs y.number number) in
    let same : AreSame x y = subst (λ (z : Listener). AreSame z y) is first.2 in
    let rest : map but_port xs ≡ map but_port ys = one_list xs ys (later_rise x xs p) (later_rise y ys q)
    (there_behind y ys xs (λ k d lt. omega (arith, all_later x xs p k d lt, number))
    (All-tail (λ z. IsThere (y ∷ ys) z.number) x xs there))
    (was_behind x xs ys (λ k d lt. omega (arith, all_later y ys q k d lt, number))
    (All-tail (WasThere (x ∷ xs)) y ys was)) in
    ap (λ (l : List Listener). but_port x ∷ l) rest ∙
    ap (λ (z : Listener). z ∷ map but_port ys) (same_but_port x y same)

-- ## The first fact about a termination

abbrev pub about : {A : Type 0} → ℕ → (Said → Option A) → Entry → Option A
about n g e = cond (e.number == n) (g e.said) None

abbrev pub first : {A : Type 0} → (Entry → Option A) → List Entry → Option A
first f [] = None
first f (e ∷ es) = option_or (f e) (first f es)

or_none : {A : Type 0} (o : Option A) → option_or o None ≡ o
or_none None = refl
or_none (Some x) = refl

or_assoc : {A : Type 0} (a b c : Option A) → option_or a (option_or b c) ≡ option_or (option_or a b) c
or_assoc None b c = refl
or_assoc (Some x) b c = refl

pub first_append : {A : Type 0} (f : Entry → Option A) (es fs : List Entry) →
    first f (es ++ fs) ≡ option_or (first f es) (first f fs)
first_append f [] fs = refl
first_append f (e ∷ es) fs = ap (option_or (f e)) (first_append f es fs) ∙ or_assoc (f e) (first f es) (first f fs)

pub none_in : {A : Type 0} (f : Entry → Option A) (es fs : List Entry) → first f es ≡ None → first f (es ++ fs) ≡ first f fs
none_in f es fs h = first_append f es fs ∙ ap (λ o. option_or o (first f fs)) h

pub first_unless : {A : Type 0} (f : Entry → Option A) (b : Bool) (e : Entry) →
    first f (unless_same b e) ≡ cond b None (f e)
first_unless f true e = refl
first_unless f false e = or_none (f e)

pub neither : {A : Type 0} (b : Bool) (o : Option A) → o ≡ None → cond b None o ≡ None
neither true o h = refl
neither false o h = h

-- The entries of another termination contain nothing about this one.
not_about : {A : Type 0} (n : ℕ) (g : Said → Option A) (o : Option Listener) (y : Listener) → y.number == n ≡ false →
    first (about n g) (new_entries o y) ≡ None
not_about n g None y h = rw h (first_unless (about n g) (length y.talkers == 0) (entry y (Hears y.talkers)) ∙
    neither (length y.talkers == 0) (about n g (entry y (Hears y.talkers))) (rw h refl))
not_about n g (Some old) y h =
    let other : (s : Said) → about n g (entry y s) ≡ None = λ s. rw h refl in
    let same : (b : Bool) (s : Said) → first (about n g) (unless_same b (entry y s)) ≡ None =
    λ b s. first_unless (about n g) b (entry y s) ∙ neither b (about n g (entry y s)) (other s) in
    none_in (about n g) _ _ (same (old.context == y.context) (MovedTo y.context)) ∙
    none_in (about n g) _ _ (same (is_same_mode old.mode y.mode) (InMode y.mode)) ∙
    same (bytes_eq old.talkers y.talkers) (Hears y.talkers)

none_later : (n : ℕ) (ys : List Listener) → All (λ y. n < y.number) ys → listener_at ys n ≡ None
none_later n [] h = refl
none_later n (y ∷ ys) h =
    let lt : n < y.number = All-head (λ z. n < z.number) y ys h in
    rw (ne_eqb y.number n (λ e. absurd (omega (arith, e, lt))))
    (none_later n ys (All-tail (λ z. n < z.number) y ys h))

-- If the numbers in a list of listeners rise, the first fact about a termination is in that termination's own entries.
pub first_of_news : {A : Type 0} (n : ℕ) (g : Said → Option A) (before ys : List Listener) → Rises ys →
    first (about n g) (flat_map (news before) ys) ≡
    option_and_then (λ y. first (about n g) (news before y)) (listener_at ys n)
first_of_news {A = A} n g before [] rise = refl
first_of_news {A = A} n g before (y ∷ ys) rise =
    by_test (y.number == n) refl (first_of_news n g before ys (later_rise y ys rise))
  where
    by_test : (b : Bool) → y.number == n ≡ b → first (about n g) (flat_map (news before) ys) ≡
        option_and_then (λ z. first (about n g) (news before z)) (listener_at ys n) →
        first (about n g) (news before y ++ flat_map (news before) ys) ≡
        option_and_then (λ z. first (about n g) (news before z)) (cond b (Some y) (listener_at ys n))
    by_test true is rest =
        let number : y.number ≡ n = eqb-true y.number n is in
        let later : All (λ z. n < z.number) ys =
        subst (λ (k : ℕ). All (λ z. k < z.number) ys) number (all_later y ys rise) in
        let none = rest ∙ ap (option_and_then (λ z. first (about n g) (news before z))) (none_later n ys later) in
        first_append (about n g) (news before y) (flat_map (news before) ys) ∙
        ap (option_or (first (about n g) (news before y))) none ∙ or_none (first (about n g) (news before y))
    by_test false is rest =
        none_in (about n g) (news before y) (flat_map (news before) ys)
        (not_about n g (listener_at before y.number) y is) ∙ rest

-- Entries about ended terminations contain only the fact that they ended.
pub first_of_old : {A : Type 0} (n : ℕ) (g : Said → Option A) (after xs : List Listener) → g Ended ≡ None →
    first (about n g) (flat_map (old_entries after) xs) ≡ None
first_of_old n g after [] none = refl
first_of_old n g after (x ∷ xs) none =
    let is : first (about n g) (old_entries after x) ≡ None =
    first_unless (about n g) (is_some (listener_at after x.number)) (entry x Ended) ∙
    neither (is_some (listener_at after x.number)) (about n g (entry x Ended)) (within (x.number == n)) in
    none_in (about n g) (old_entries after x) (flat_map (old_entries after) xs) is ∙ first_of_old n g after xs none
  where
    within : (b : Bool) → cond b (g Ended) None ≡ None
    within true = none
    within false = refl
