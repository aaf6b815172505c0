-- The fields of a value, split off one by one.
use Rattle.std.proofs.Common.{◌≡◌, ℕ, ◌<◌, Bool, true, false, List, [], ◌∷◌, length, take, drop, refl, sym, ap, ◌∙◌, arith}
use Rattle.std.specs.List.{prefix_len, position_or_len, slice_split, filter}
use Rattle.mg_sdp.specs.Lines.{is_space_or_tab, is_filled}
use Rattle.mg_sdp.specs.Fields.{fields_of}
use Rattle.mg_sdp.proofs.SplitLemmas.{split_first, front_fails, one_more}

abbrev pub front : List ℕ → List ℕ
front text = take (position_or_len is_space_or_tab text) text

abbrev pub after : List ℕ → List ℕ
after text = drop (position_or_len is_space_or_tab text) text

blank_step : (b : ℕ) (text : List ℕ) (blank : Bool) → is_space_or_tab b ≡ blank →
    fields_of (drop (prefix_len is_space_or_tab text) text) ≡ fields_of text →
    fields_of (drop (prefix_len is_space_or_tab (b ∷ text)) (b ∷ text)) ≡ fields_of (b ∷ text)
unfolding fields_of
blank_step b text true e h = rw (e, one_more (prefix_len is_space_or_tab text)) h
blank_step b text false e h = rw e (rw e refl)

-- Skipping the blanks at the start of text does not change the fields.
pub fields_after : (text : List ℕ) → fields_of (drop (prefix_len is_space_or_tab text) text) ≡ fields_of text
fields_after [] = refl
fields_after (b ∷ text) = blank_step b text (is_space_or_tab b) refl (fields_after text)

field_first : (x : ℕ) (xs : List ℕ) → is_space_or_tab x ≡ false →
    fields_of (x ∷ xs) ≡ front (x ∷ xs) ∷ fields_of (after (x ∷ xs))
unfolding fields_of
field_first x xs e =
    let first = split_first is_space_or_tab (x ∷ xs) in
    let begins : front (x ∷ xs) ≡ x ∷ front xs = rw (e, one_more (position_or_len is_space_or_tab xs)) refl in
    let parts : slice_split is_space_or_tab (x ∷ xs) ≡ (x ∷ front xs) ∷ first.others = first.parts ∙
    ap (λ (part : List ℕ). part ∷ first.others) begins in
    ap (filter is_filled) parts ∙ sym (rw (begins, first.after) refl)

after_blanks : (rest text : List ℕ) → text ≡ drop (prefix_len is_space_or_tab rest) rest → 0 < length text →
    fields_of text ≡ front text ∷ fields_of (after text)
after_blanks rest [] same some = absurd (omega arith)
after_blanks rest (x ∷ xs) same some = field_first x xs (front_fails is_space_or_tab rest x xs (sym same))

pub fields_none : fields_of [] ≡ []
unfolding fields_of
fields_none = refl

-- If the rest isn't all blanks, its first field starts after the leading blanks. It ends at the next blank, or at the
-- end of the rest.
pub next_field : (rest text : List ℕ) → text ≡ drop (prefix_len is_space_or_tab rest) rest → 0 < length text →
    fields_of rest ≡ front text ∷ fields_of (after text)
next_field rest text same some = sym (fields_after rest) ∙ ap fields_of (sym same) ∙ after_blanks rest text same some

pub no_field : (rest text : List ℕ) (white : ℕ) → white ≡ prefix_len is_space_or_tab rest → text ≡ drop white rest →
    length text ≡ 0 → fields_of rest ≡ []
no_field rest [] white w same none = sym (fields_after rest) ∙ ap (λ (k : ℕ). fields_of (drop k rest)) (sym w) ∙
    ap fields_of (sym same) ∙ fields_none
no_field rest (x ∷ xs) white w same none = absurd (omega arith)

-- The iterator returns the next field and keeps the bytes after it.
pub field_step : (rest text field next : List ℕ) (blanks len : ℕ) → blanks ≡ prefix_len is_space_or_tab rest →
    text ≡ drop blanks rest → 0 < length text → len ≡ position_or_len is_space_or_tab text
    → field ≡ take len text → next ≡ drop len text → fields_of rest ≡ field ∷ fields_of next
field_step rest text field next blanks len w t some l f n =
    let same : text ≡ drop (prefix_len is_space_or_tab rest) rest = t ∙ ap (λ (k : ℕ). drop k rest) w in
    let taken : field ≡ front text = f ∙ ap (λ (k : ℕ). take k text) l in
    let left : next ≡ after text = n ∙ ap (λ (k : ℕ). drop k text) l in
    rw (taken, left) (next_field rest text same some)
