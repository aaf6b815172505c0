-- Lemmas about complete lines.
use Rattle.std.proofs.Common.{◌≡◌, ◌≤◌, ℕ, suc, ◌+◌, ◌-◌, Bool, true, false, ◌||◌, List, [], ◌∷◌, ◌++◌, length, get_or, take, drop, refl, subst, ap, sym, ◌∙◌, append-nil, length-append, arith}
use Rattle.std.proofs.Math.Seq.{get_or-append_seam}
use Rattle.std.proofs.lemmas.Bool.Decides.{nat_tests}
use Rattle.std.proofs.lemmas.List.{get_or-drop, length-drop, length-take-le, take_all, take_more, take-append-drop}
use Rattle.std.proofs.lemmas.List.Folds.{list_any-append}
use Rattle.std.specs.Prelude.{◌==◌}
use Rattle.memchr.specs.Find.{NoneAfter, Nowhere, Passes, is_byte}
use Rattle.mg_chain.specs.Seals.{is_whole}
use Rattle.mg_journal.specs.Text.{has_line_feed, whole_lines, EndsInLineFeed, IsWhole}

or_true : (b : Bool) → (b || true) ≡ true
or_true true = refl
or_true false = refl

or_false : (b : Bool) → (b || false) ≡ b
or_false true = refl
or_false false = refl

fed_append : (a b : List ℕ) → has_line_feed (a ++ b) ≡ (has_line_feed a || has_line_feed b)
fed_append a b = list_any-append (λ (c : ℕ). c == 10) a b

fed_after : (a b : List ℕ) → has_line_feed b ≡ true → has_line_feed (a ++ b) ≡ true
fed_after a b fed = fed_append a b ∙ (ap (λ c. has_line_feed a || c) fed ∙ or_true (has_line_feed a))

fed_before : (a b : List ℕ) → has_line_feed b ≡ false → has_line_feed (a ++ b) ≡ has_line_feed a
fed_before a b unfed = fed_append a b ∙ (ap (λ c. has_line_feed a || c) unfed ∙ or_false (has_line_feed a))

-- Text without a line feed has no complete line.
pub whole_none : (bytes : List ℕ) → has_line_feed bytes ≡ false → whole_lines bytes ≡ []
unfolding whole_lines
whole_none [] unfed = refl
whole_none (b ∷ bytes) unfed = rw unfed refl

-- Bytes in front of a line feed belong to complete lines.
pub whole_before : (a b : List ℕ) → has_line_feed b ≡ true → whole_lines (a ++ b) ≡ a ++ whole_lines b
unfolding whole_lines
whole_before [] b fed = refl
whole_before (x ∷ a) b fed = rw (fed_after (x ∷ a) b fed) (ap (λ l. x ∷ l) (whole_before a b fed))

-- Appending bytes without a line feed adds no complete line.
pub whole_same : (a b : List ℕ) → has_line_feed b ≡ false → whole_lines (a ++ b) ≡ whole_lines a
unfolding whole_lines
whole_same [] b unfed = whole_none b unfed
whole_same (x ∷ a) b unfed = rw (fed_before (x ∷ a) b unfed) (rw (whole_same a b unfed) refl)

after_as : (a b : List ℕ) → (fed : Bool) → has_line_feed b ≡ fed → IsWhole a → whole_lines (a ++ b) ≡ a ++ whole_lines b
after_as a b true fed whole = whole_before a b fed
after_as a b false unfed whole =
    whole_same a b unfed ∙ (whole ∙ (sym (append-nil a) ∙ ap (λ l. a ++ l) (sym (whole_none b unfed))))

-- If `a` consists of complete lines, the complete lines of `a ++ b` are `a` and the complete lines of `b`.
pub whole_after : (a b : List ℕ) → IsWhole a → whole_lines (a ++ b) ≡ a ++ whole_lines b
whole_after a b whole = after_as a b (has_line_feed b) refl whole

pub whole_more : (a b : List ℕ) → IsWhole a → IsWhole b → IsWhole (a ++ b)
whole_more a b whole more = whole_after a b whole ∙ ap (λ l. a ++ l) more

-- A line that ends in a line feed is complete, whatever its other bytes are.
pub whole_line : (line : List ℕ) → IsWhole (line ++ 10 ∷ [])
unfolding whole_lines
whole_line line = whole_before line (10 ∷ []) refl

-- Complete lines contain a line feed, unless there are no bytes.
fed_of : (b : ℕ) (bytes : List ℕ) (fed : Bool) → has_line_feed (b ∷ bytes) ≡ fed → IsWhole (b ∷ bytes) → fed ≡ true
unfolding whole_lines
fed_of b bytes true is whole = refl
fed_of b bytes false is whole = absurd (cc (whole, whole_none (b ∷ bytes) is))

whole_rest : (b : ℕ) (bytes : List ℕ) → IsWhole (b ∷ bytes) → IsWhole bytes
unfolding whole_lines
whole_rest b bytes whole =
    let fed = fed_of b bytes (has_line_feed (b ∷ bytes)) refl whole in
    let same : b ∷ whole_lines bytes ≡ b ∷ bytes = sym (rw fed refl) ∙ whole in
    cc same

pub is_whole_of : (bytes : List ℕ) → IsWhole bytes → is_whole bytes ≡ true
is_whole_of [] whole = refl
is_whole_of (b ∷ []) whole =
    sym (or_false (b == 10)) ∙ fed_of b [] (has_line_feed (b ∷ [])) refl whole
is_whole_of (b ∷ c ∷ cs) whole = is_whole_of (c ∷ cs) (whole_rest b (c ∷ cs) whole)

-- ## Lengths

pub whole_nil : whole_lines [] ≡ []
unfolding whole_lines
whole_nil = refl

front_as : (b : ℕ) (bytes : List ℕ) (fed : Bool) → has_line_feed (b ∷ bytes) ≡ fed
    → whole_lines bytes ++ drop (length (whole_lines bytes)) bytes ≡ bytes
    → whole_lines (b ∷ bytes) ++ drop (length (whole_lines (b ∷ bytes))) (b ∷ bytes) ≡ b ∷ bytes
unfolding whole_lines
front_as b bytes true fed front = rw fed (ap (λ l. b ∷ l) front)
front_as b bytes false unfed front = rw unfed refl

-- The complete lines are a prefix of the bytes.
pub whole_front : (bytes : List ℕ) → whole_lines bytes ++ drop (length (whole_lines bytes)) bytes ≡ bytes
unfolding whole_lines
whole_front [] = refl
whole_front (b ∷ bytes) = front_as b bytes (has_line_feed (b ∷ bytes)) refl (whole_front bytes)

pub whole_le : (bytes : List ℕ) → length (whole_lines bytes) ≤ length bytes
whole_le bytes =
    omega (arith, ap length (whole_front bytes), length-append (whole_lines bytes) (drop (length (whole_lines bytes)) bytes))

zero_as : (bytes : List ℕ) (fed : Bool) → has_line_feed bytes ≡ fed → length (whole_lines bytes) ≡ 0
    → has_line_feed bytes ≡ false
unfolding whole_lines
zero_as bytes false unfed none = unfed
zero_as [] true fed none = refl
zero_as (b ∷ bytes) true fed none =
    let some : whole_lines (b ∷ bytes) ≡ b ∷ whole_lines bytes = rw fed refl in
    absurd (omega (arith, none, ap length some))

some_as : (bytes : List ℕ) (fed : Bool) → has_line_feed bytes ≡ fed → (length (whole_lines bytes) ≡ 0 → ⊥)
    → has_line_feed bytes ≡ true
some_as bytes true fed some = fed
some_as bytes false unfed some = absurd (some (ap length (whole_none bytes unfed)))

-- These lemmas give the length of the complete lines after text is appended, without a line feed or with one.
pub length_same : (text part : List ℕ) → length (whole_lines part) ≡ 0
    → length (whole_lines (text ++ part)) ≡ length (whole_lines text)
length_same text part none = ap length (whole_same text part (zero_as part (has_line_feed part) refl none))

pub length_more : (text part : List ℕ) → (length (whole_lines part) ≡ 0 → ⊥)
    → length (whole_lines (text ++ part)) ≡ length text + length (whole_lines part)
length_more text part some =
    ap length (whole_before text part (some_as part (has_line_feed part) refl some))
    ∙ length-append text (whole_lines part)

unfed_as : (b : ℕ) (bytes : List ℕ) (fed : Bool) → (b == 10) ≡ fed → Nowhere (Passes (is_byte 10) (b ∷ bytes)) 0 (length (b ∷ bytes))
    → has_line_feed bytes ≡ false → has_line_feed (b ∷ bytes) ≡ false
unfed_as b bytes true feed none unfed = absurd (none 0 (omega arith) (omega arith) feed)
unfed_as b bytes false other none unfed = rw other unfed

-- If no byte passes the search for a line feed, there is no line feed.
unfed : (bytes : List ℕ) → Nowhere (Passes (is_byte 10) bytes) 0 (length bytes) → has_line_feed bytes ≡ false
unfed [] none = refl
unfed (b ∷ bytes) none =
    unfed_as b bytes (b == 10) refl none (unfed bytes (λ k low high feed. none (suc k) (omega arith) (omega (arith, high)) feed))

-- A byte that passes the search is a line feed.
pub feed_of : (b : ℕ) → (b == 10) ≡ true → b ≡ 10
feed_of b passes = grind (arith, nat_tests, passes)

pub length_none : (text : List ℕ) → Nowhere (Passes (is_byte 10) text) 0 (length text) → 0 ≡ length (whole_lines text)
length_none text none = sym (ap length (whole_none text (unfed text none)))

-- The last complete line ends with the last line feed.
pub length_last : (text : List ℕ) (i : ℕ) → NoneAfter (Passes (is_byte 10) text) 0 (length text) i → get_or text i 0 ≡ 10
    → i + 1 ≡ length (whole_lines text)
length_last text i last feed =
    let rest = drop (i + 1) text in
    let none : Nowhere (Passes (is_byte 10) rest) 0 (length rest) = λ k low high passes.
    last.after (i + 1 + k) (omega arith) (omega (arith, high, length-drop (i + 1) text))
    (ap (λ (b : ℕ). b == 10) (sym (get_or-drop (i + 1) text k 0)) ∙ passes) in
    let front : take (i + 1) text ≡ take i text ++ 10 ∷ [] =
    take_more text i 0 last.high ∙ ap (λ (b : ℕ). take i text ++ b ∷ []) feed in
    let whole : whole_lines text ≡ take i text ++ 10 ∷ [] =
    ap whole_lines (sym (take-append-drop (i + 1) text)) ∙ whole_same (take (i + 1) text) rest (unfed rest none)
    ∙ ap whole_lines front ∙ whole_line (take i text) in
    sym (ap length whole ∙ length-append (take i text) (10 ∷ []) ∙ ap (λ (n : ℕ). n + 1) (length-take-le i text (omega (arith, last.high))))

-- ## The complete lines of complete lines

fed_as : (b : ℕ) (bytes : List ℕ) (fed : Bool) → has_line_feed (b ∷ bytes) ≡ fed
    → has_line_feed (whole_lines bytes) ≡ has_line_feed bytes
    → has_line_feed (whole_lines (b ∷ bytes)) ≡ has_line_feed (b ∷ bytes)
unfolding whole_lines
fed_as b bytes true fed same = rw fed (ap (λ c. (b == 10) || c) same ∙ fed)
fed_as b bytes false unfed same = rw unfed refl

fed_whole : (bytes : List ℕ) → has_line_feed (whole_lines bytes) ≡ has_line_feed bytes
unfolding whole_lines
fed_whole [] = refl
fed_whole (b ∷ bytes) = fed_as b bytes (has_line_feed (b ∷ bytes)) refl (fed_whole bytes)

twice_as : (b : ℕ) (bytes : List ℕ) (fed : Bool) → has_line_feed (b ∷ bytes) ≡ fed → IsWhole (whole_lines bytes)
    → IsWhole (whole_lines (b ∷ bytes))
unfolding whole_lines
twice_as b bytes true fed whole =
    let same : has_line_feed (b ∷ whole_lines bytes) ≡ true = ap (λ c. (b == 10) || c) (fed_whole bytes) ∙ fed in
    rw fed (rw same (ap (λ l. b ∷ l) whole))
twice_as b bytes false unfed whole = rw unfed refl

pub whole_twice : (bytes : List ℕ) → IsWhole (whole_lines bytes)
unfolding whole_lines
whole_twice [] = refl
whole_twice (b ∷ bytes) = twice_as b bytes (has_line_feed (b ∷ bytes)) refl (whole_twice bytes)

-- ## The last line feed

last_byte : (b : ℕ) (bytes : List ℕ)
    → b ∷ bytes ≡ take (length bytes) (b ∷ bytes) ++ get_or (b ∷ bytes) (length bytes) 0 ∷ []
last_byte b bytes =
    let all : take (length bytes + 1) (b ∷ bytes) ≡ b ∷ bytes = take_all (length bytes + 1) (b ∷ bytes) (omega arith) in
    sym all ∙ take_more (b ∷ bytes) (length bytes) 0 (omega arith)

pub ends_whole : (lines : List ℕ) → EndsInLineFeed lines → IsWhole lines
unfolding whole_lines
ends_whole [] ends = refl
ends_whole (b ∷ bytes) ends =
    let at : length (b ∷ bytes) - 1 ≡ length bytes = omega arith in
    let feed : get_or (b ∷ bytes) (length bytes) 0 ≡ 10 = ap (λ (n : ℕ). get_or (b ∷ bytes) n 0) (sym at) ∙ ends in
    let parts : b ∷ bytes ≡ take (length bytes) (b ∷ bytes) ++ 10 ∷ [] =
    last_byte b bytes ∙ ap (λ (c : ℕ). take (length bytes) (b ∷ bytes) ++ c ∷ []) feed in
    subst (λ (l : List ℕ). IsWhole l) (sym parts) (whole_line (take (length bytes) (b ∷ bytes)))

-- A line with a line feed appended to it satisfies `EndsInLineFeed`.
pub ends_line : (line : List ℕ) → EndsInLineFeed (line ++ 10 ∷ [])
ends_line line =
    let at : length (line ++ 10 ∷ []) - 1 ≡ length line = omega (arith, length-append line (10 ∷ [])) in
    ap (λ (n : ℕ). get_or (line ++ 10 ∷ []) n 0) at ∙ get_or-append_seam line 10 [] 0
