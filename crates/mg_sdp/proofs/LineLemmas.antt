-- The lines of a descriptor's content, split off one by one.
use Rattle.std.proofs.Common.{◌≡◌, ℕ, zero, suc, ◌-◌, ◌<◌, Bool, true, false, ◌||◌, cond, List, [], ◌∷◌, length, map, take, drop, refl, sym, ap, ◌∙◌, arith}
use Rattle.std.specs.List.{prefix_len, position_or_len, suffix_len, slice_split, filter}
use Rattle.mg_words.specs.LineEnd.{is_line_end}
use Rattle.mg_sdp.specs.Lines.{is_space_or_tab, is_filled, trimmed, trimmed_end, content_lines}
use Rattle.mg_sdp.proofs.SplitLemmas.{split_first, front_fails, suffix_short, one_more}

abbrev pub is_white : ℕ → Bool
is_white b = is_space_or_tab b || is_line_end b

-- The parts after trimming, without the empty parts.
abbrev filled : List (List ℕ) → List (List ℕ)
filled parts = filter is_filled (map trimmed parts)

trimmed-cons : (b : ℕ) (text : List ℕ) → is_space_or_tab b ≡ true → trimmed (b ∷ text) ≡ trimmed text
trimmed-cons b text e = rw (e, one_more (prefix_len is_space_or_tab text)) refl

skip_blank : (b : ℕ) (text : List ℕ) → is_line_end b ≡ false → is_space_or_tab b ≡ true →
    filled (slice_split is_line_end (b ∷ text)) ≡ filled (slice_split is_line_end text)
skip_blank b text no_end blank =
    let first = split_first is_line_end text in
    rw (no_end, first.parts) (rw (trimmed-cons b (take (position_or_len is_line_end text) text) blank) refl)

skip_step : (b : ℕ) (text : List ℕ) (ends blank : Bool) → is_line_end b ≡ ends → is_space_or_tab b ≡ blank →
    (blank || ends) ≡ true → content_lines (b ∷ text) ≡ content_lines text
unfolding content_lines
skip_step b text true blank e f white = rw e refl
skip_step b text false true e f white = skip_blank b text e f
skip_step b text false false e f white = cc

white_step : (b : ℕ) (text : List ℕ) (white : Bool) → is_white b ≡ white →
    content_lines (drop (prefix_len is_white text) text) ≡ content_lines text →
    content_lines (drop (prefix_len is_white (b ∷ text)) (b ∷ text)) ≡ content_lines (b ∷ text)
white_step b text true e h = rw (e, one_more (prefix_len is_white text))
    (h ∙ sym (skip_step b text (is_line_end b) (is_space_or_tab b) refl refl e))
white_step b text false e h = rw e refl

-- Skipping white space at the start of text does not change the lines.
pub lines_after : (text : List ℕ) → content_lines (drop (prefix_len is_white text) text) ≡ content_lines text
lines_after [] = refl
lines_after (b ∷ text) = white_step b text (is_white b) refl (lines_after text)

-- Filtering keeps a part that is not empty.
filled_stays : (b : Bool) (part : List ℕ) (parts : List (List ℕ)) → is_filled part ≡ b → b ≡ true →
    cond (is_filled part) (part ∷ parts) parts ≡ part ∷ parts
filled_stays b part parts e f = rw (e, f) refl

taken_filled : (n : ℕ) (x : ℕ) (xs : List ℕ) → 0 < n → is_filled (take n (x ∷ xs)) ≡ true
taken_filled zero x xs h = absurd (omega arith)
taken_filled (suc n) x xs h = refl

trimmed_first : (x : ℕ) (xs : List ℕ) → is_space_or_tab x ≡ false → trimmed (x ∷ xs) ≡ trimmed_end (x ∷ xs)
trimmed_first x xs e = rw e refl

end_filled : (x : ℕ) (xs : List ℕ) → is_space_or_tab x ≡ false → is_filled (trimmed_end (x ∷ xs)) ≡ true
end_filled x xs e = taken_filled (length (x ∷ xs) - suffix_len is_space_or_tab (x ∷ xs)) x xs
    (omega (arith, suffix_short is_space_or_tab x xs e))

-- The bytes before the first line end, or all bytes if there is no line end.
abbrev pub front : List ℕ → List ℕ
front text = take (position_or_len is_line_end text) text

abbrev pub after : List ℕ → List ℕ
after text = drop (position_or_len is_line_end text) text

lines_of_parts : (text : List ℕ) → content_lines text ≡
    cond (is_filled (trimmed (front text))) (trimmed (front text) ∷ content_lines (after text))
    (content_lines (after text))
unfolding content_lines
lines_of_parts text =
    let first = split_first is_line_end text in
    rw (first.parts, first.after) refl

front-cons : (x : ℕ) (xs : List ℕ) → is_line_end x ≡ false → front (x ∷ xs) ≡ x ∷ front xs
front-cons x xs e = rw (e, one_more (position_or_len is_line_end xs)) refl

line_first : (x : ℕ) (xs : List ℕ) → is_line_end x ≡ false → is_space_or_tab x ≡ false →
    content_lines (x ∷ xs) ≡ trimmed_end (front (x ∷ xs)) ∷ content_lines (after (x ∷ xs))
line_first x xs no_end no_blank =
    let begins = front-cons x xs no_end in
    let same : trimmed (front (x ∷ xs)) ≡ trimmed_end (front (x ∷ xs)) =
    rw begins (trimmed_first x (front xs) no_blank) in
    let some : is_filled (trimmed (front (x ∷ xs))) ≡ true = rw (same, begins) (end_filled x (front xs) no_blank) in
    lines_of_parts (x ∷ xs) ∙ filled_stays true _ _ some refl ∙
    ap (λ (line : List ℕ). line ∷ content_lines (after (x ∷ xs))) same

not_white : (x : ℕ) (blank ends : Bool) → is_space_or_tab x ≡ blank → is_line_end x ≡ ends → (blank || ends) ≡ false →
    (is_line_end x ≡ false) × (is_space_or_tab x ≡ false)
not_white x false false e f h = (f, e)
not_white x true ends e f h = cc
not_white x false true e f h = cc

after_white : (rest text : List ℕ) → text ≡ drop (prefix_len is_white rest) rest → 0 < length text →
    content_lines text ≡ trimmed_end (front text) ∷ content_lines (after text)
after_white rest [] same some = absurd (omega arith)
after_white rest (x ∷ xs) same some =
    let fails = front_fails is_white rest x xs (sym same) in
    let plain = not_white x (is_space_or_tab x) (is_line_end x) refl refl fails in
    line_first x xs plain.0 plain.1

pub lines_none : content_lines [] ≡ []
unfolding content_lines
lines_none = refl

-- If the rest isn't all white space, its first line starts after the leading white space. It ends at the next line end,
-- or at the end of the rest.
pub next_line : (rest text : List ℕ) → text ≡ drop (prefix_len is_white rest) rest → 0 < length text →
    content_lines rest ≡ trimmed_end (front text) ∷ content_lines (after text)
next_line rest text same some = sym (lines_after rest) ∙ ap content_lines (sym same) ∙ after_white rest text same some

pub no_line : (rest text : List ℕ) (white : ℕ) → white ≡ prefix_len is_white rest → text ≡ drop white rest →
    length text ≡ 0 → content_lines rest ≡ []
no_line rest [] white w same none = sym (lines_after rest) ∙ ap (λ (k : ℕ). content_lines (drop k rest)) (sym w) ∙
    ap content_lines (sym same) ∙ lines_none
no_line rest (x ∷ xs) white w same none = absurd (omega arith)

-- The iterator returns the next line and keeps the bytes after it.
pub line_step : (rest text line next : List ℕ) (white len blanks : ℕ) → white ≡ prefix_len is_white rest →
    text ≡ drop white rest → 0 < length text → len ≡ position_or_len is_line_end text
    → line ≡ take len text → next ≡ drop len text → blanks ≡ suffix_len is_space_or_tab line →
    content_lines rest ≡ take (length line - blanks) line ∷ content_lines next
line_step rest text line next white len blanks w t some l f n b =
    let same : text ≡ drop (prefix_len is_white rest) rest = t ∙ ap (λ (k : ℕ). drop k rest) w in
    let taken : line ≡ front text = f ∙ ap (λ (k : ℕ). take k text) l in
    let left : next ≡ after text = n ∙ ap (λ (k : ℕ). drop k text) l in
    rw (b, taken, left) (next_line rest text same some)
