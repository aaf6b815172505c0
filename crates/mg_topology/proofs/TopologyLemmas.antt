-- After each edit, the topology represents the list of edits with that edit added.
use Rattle.std.proofs.Common.{◌≡◌, ◌≢◌, ℕ, ◌<◌, Bool, true, false, not, ◌&&◌, ◌==◌, nat_lt, cond, Option, Some, List, [], ◌∷◌, ◌++◌, slice_index, length, get_or, take, ◌+◌, ◌^◌, refl, sym, ap, ◌∙◌, arith}
use Rattle.std.proofs.lemmas.List.{take_more}
use Rattle.std.proofs.lemmas.Bool.Decides.{nat_tests}
use Rattle.mg_topology.specs.declared.mask.TheConstants.{SEATS}
use Rattle.mg_topology.specs.declared.triple.Triple.{Triple}
use Rattle.mg_topology.specs.Mask.{has_seat}
use Rattle.mg_topology.specs.Triple.{mentions, word_of}
use Rattle.mg_topology.specs.aids.Word.{after_triple}
use Rattle.mg_topology.specs.Edits.{TopologyEdit, Enter, Leave, Apply, is_held, last_word, allows, may_hear}
use Rattle.mg_topology.specs.aids.Edits.{apply_all}
use Rattle.mg_topology.specs.aids.Topology.{TopologyState, holds, hears, StandsFor}
use Rattle.mg_topology.proofs.MaskLemmas.{has_seat-inside}

-- ---- seats, and rows at two held seats that differ

-- Whether a listener hears a talker depends on the row only if both seats are held and differ.
same_pair : (x y x' y' d b b' : Bool) → x ≡ x' → y ≡ y' → (x' ≡ true → y' ≡ true → d ≡ false → b ≡ b') →
    (x && (y && (not d && b))) ≡ (x' && (y' && (not d && b')))
same_pair x y false y' d b b' p q r = rw (p) refl
same_pair x y true false d b b' p q r = rw (p, q) refl
same_pair x y true true true b b' p q r = rw (p, q) refl
same_pair x y true true false b b' p q r = rw (p, q) (r refl refl refl)

row_of_pair : (x y d b b' : Bool) → x ≡ true → y ≡ true → d ≡ false →
    (x && (y && (not d && b))) ≡ (x && (y && (not d && b'))) → b ≡ b'
row_of_pair x y d b b' p q r e = grind arith

-- A topology represents a list of edits if it holds the same seats and its rows agree with the last words on pairs of
-- different held seats.
pub stands_from : (k : TopologyState) (es : List TopologyEdit) → ((s : ℕ) → holds k s ≡ is_held es s)
    → ((t l : ℕ) → is_held es t ≡ true → is_held es l ≡ true → (t == l) ≡ false →
    has_seat (slice_index k.rows l) t ≡ may_hear es t l)
    → StandsFor k es
stands_from k es held row = record {
  seats = held;
  pairs = λ t l. same_pair _ _ _ _ (t == l) _ _ (held t) (held l) (row t l);
}

pub row_from : (k : TopologyState) (es : List TopologyEdit) (t l : ℕ) → StandsFor k es → is_held es t ≡ true →
    is_held es l ≡ true → (t == l) ≡ false → has_seat (slice_index k.rows l) t ≡ may_hear es t l
row_from k es t l h p q d =
    row_of_pair (is_held es t) (is_held es l) (t == l) _ _ p q d
    (sym (same_pair (holds k t) (holds k l) _ _ (t == l) _ (has_seat (slice_index k.rows l) t) (h.seats t) (h.seats l)
    (λ _ _ _. refl)) ∙ h.pairs t l)

pub held_below : (k : TopologyState) (es : List TopologyEdit) (s : ℕ) → StandsFor k es → is_held es s ≡ true → s < SEATS
held_below k es s h p = grind (arith, nat_tests, h.seats s)

-- ---- the edits, one by one

entered_seat : (k k' : TopologyState) (n s : ℕ) (b : Bool) → n < SEATS →
    has_seat k'.held s ≡ cond (s == n) true (has_seat k.held s) → holds k s ≡ b → holds k' s ≡ cond (s == n) true b
entered_seat k k' n s b p e h = grind (arith, nat_tests)

entered_pair : (k k' : TopologyState) (n : ℕ) (es : List TopologyEdit) (t l : ℕ) →
    (l ≡ n → has_seat (slice_index k'.rows l) t ≡ true)
    → (l ≢ n → has_seat (slice_index k'.rows l) t ≡ cond (t == n) true (has_seat (slice_index k.rows l) t))
    → (is_held es t ≡ true → is_held es l ≡ true → has_seat (slice_index k.rows l) t ≡ may_hear es t l)
    → is_held (Enter n ∷ es) t ≡ true → is_held (Enter n ∷ es) l ≡ true →
    has_seat (slice_index k'.rows l) t ≡ may_hear (Enter n ∷ es) t l
entered_pair k k' n es t l own row h p q = grind (arith, nat_tests)

entered_below : (k : TopologyState) (n : ℕ) (es : List TopologyEdit) (s : ℕ) → n < SEATS → StandsFor k es →
    is_held (Enter n ∷ es) s ≡ true → s < SEATS
entered_below k n es s p h q = grind (arith, nat_tests, h.seats s)

pub enter_stands : (k k' : TopologyState) (n : ℕ) (es : List TopologyEdit) → n < SEATS
    → ((s : ℕ) → has_seat k'.held s ≡ cond (s == n) true (has_seat k.held s))
    → ((t : ℕ) → t < SEATS → has_seat (slice_index k'.rows n) t ≡ true)
    → ((t l : ℕ) → l < SEATS → l ≢ n → has_seat (slice_index k'.rows l) t ≡
    cond (t == n) true (has_seat (slice_index k.rows l) t))
    → StandsFor k es → StandsFor k' (Enter n ∷ es)
enter_stands k k' n es inside held own row h =
    stands_from k' (Enter n ∷ es)
    (λ s. entered_seat k k' n s (is_held es s) inside (held s) (h.seats s))
    (λ t l p q d. entered_pair k k' n es t l
    (λ e. ap (λ x. has_seat (slice_index k'.rows x) t) e ∙ own t (entered_below k n es t inside h p))
    (row t l (entered_below k n es l inside h q))
    (λ x y. row_from k es t l h x y d) p q)

left_seat : (k k' : TopologyState) (n s : ℕ) (b : Bool) →
    has_seat k'.held s ≡ cond (s == n) false (has_seat k.held s) → holds k s ≡ b → holds k' s ≡ cond (s == n) false b
left_seat k k' n s b e h = grind (arith, nat_tests)

still_held : (n : ℕ) (es : List TopologyEdit) (s : ℕ) → is_held (Leave n ∷ es) s ≡ true → is_held es s ≡ true
still_held n es s p = grind (arith, nat_tests)

pub leave_stands : (k k' : TopologyState) (n : ℕ) (es : List TopologyEdit)
    → ((s : ℕ) → has_seat k'.held s ≡ cond (s == n) false (has_seat k.held s)) → k'.rows ≡ k.rows
    → StandsFor k es → StandsFor k' (Leave n ∷ es)
leave_stands k k' n es held rows h =
    stands_from k' (Leave n ∷ es)
    (λ s. left_seat k k' n s (is_held es s) (held s) (h.seats s))
    (λ t l p q d. ap (λ r. has_seat (slice_index r l) t) rows ∙
    row_from k es t l h (still_held n es t p) (still_held n es l q) d)

applied_word : (triple : Triple) (o : Option Triple) (t l : ℕ) (b : Bool) →
    cond b (word_of triple t l) (allows o t l) ≡ allows (cond b (Some triple) o) t l
applied_word triple o t l true = refl
applied_word triple o t l false = refl

pub apply_stands : (k k' : TopologyState) (triple : Triple) (es : List TopologyEdit) → k'.held ≡ k.held
    → ((t l : ℕ) → l < SEATS → has_seat (slice_index k'.rows l) t ≡
    after_triple triple t l (has_seat (slice_index k.rows l) t))
    → StandsFor k es → StandsFor k' (Apply triple ∷ es)
apply_stands k k' triple es held row h =
    stands_from k' (Apply triple ∷ es)
    (λ s. ap (λ m. nat_lt s SEATS && has_seat m s) held ∙ h.seats s)
    (λ t l p q d. row t l (held_below k es l h q) ∙ ap (after_triple triple t l) (row_from k es t l h p q d)
    ∙ applied_word triple (last_word es t l) t l (mentions triple t l))

-- ---- triples in order

apply_all-push : (triples : List Triple) (triple : Triple) (es : List TopologyEdit) →
    apply_all (triples ++ triple ∷ []) es ≡ Apply triple ∷ apply_all triples es
apply_all-push [] triple es = refl
apply_all-push (t ∷ ts) triple es = apply_all-push ts triple (Apply t ∷ es)

-- Applying one more triple adds its edit to the list.
pub apply_all-more : (triples : List Triple) (i : ℕ) (triple : Triple) (es : List TopologyEdit) → i < length triples →
    triple ≡ get_or triples i triple
    → apply_all (take (i + 1) triples) es ≡ Apply triple ∷ apply_all (take i triples) es
apply_all-more triples i triple es p e =
    ap (λ x. apply_all x es) (take_more triples i triple p) ∙
    apply_all-push (take i triples) (get_or triples i triple) es
    ∙ ap (λ t. Apply t ∷ apply_all (take i triples) es) (sym e)

-- ---- what a topology says

-- A listener whose seat is held hears the talkers in its row, except itself and seats that are not held.
pub row_tells : (k : TopologyState) (t l : ℕ) (b : Bool) → k.held < 2 ^ SEATS → holds k l ≡ true
    → b ≡ cond (t == l) false (has_seat (slice_index k.rows l) t && has_seat k.held t) → b ≡ hears k t l
row_tells k t l b p q e = grind (arith, nat_tests, has_seat-inside k.held t p)
