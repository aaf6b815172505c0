-- Sealing a sealed recording changes nothing.
use Rattle.std.proofs.Common.{◌≡◌, ℕ, zero, suc, ◌-◌, ◌<◌, ◌≤◌, Bool, true, false, cond, eqb, not, append-nil, append_assoc, length-append, List, [], ◌∷◌, ◌++◌, length, drop, codes, refl, sym, ap, subst, ◌∙◌, arith}
use Rattle.std.proofs.lemmas.Bool.Decides.{nat_tests}
use Rattle.std.specs.Prelude.{◌&&◌, nat_eq}
use Rattle.std.specs.List.{ends_with}
use Rattle.std.specs.Io.BufRead.{take_through, drop_through}
use lib.Pointwise.{pointwise}
use Rattle.mg_chain.specs.Seals.{is_seal, is_whole, last_part, seal_end, seal_of}
use Rattle.mg_chain.proofs.ReadLemmas.{line_whole, shorter}
use Rattle.mg_sealing.proofs.LineLemmas.{is_line, parts, taken_twice}
use Rattle.mg_sealing.proofs.SealedLemmas.{at_end, last_after, none_left, printed_whole}
use Rattle.mg_sealing.specs.Sealed.{ended, last_line, needs_seal, printed_with, sealed, sealed_with, ticks_left, ticks_with}

-- ## Complete lines

whole_same : (a b : List ℕ) → 0 < length b → is_whole (a ++ b) ≡ is_whole b
whole_same [] b some = refl
whole_same (x ∷ []) [] some = absurd (omega (arith, some))
whole_same (x ∷ []) (c ∷ cs) some = refl
whole_same (x ∷ y ∷ ys) b some = whole_same (y ∷ ys) b some

last_whole : (text : List ℕ) → is_whole (last_line text) ≡ is_whole text
unfolding last_line
last_whole [] = refl
last_whole (b ∷ bs) = at (eqb (length (drop_through 10 (b ∷ bs))) 0) refl (last_whole bs)
  where
    more : (bs : List ℕ) → length (drop_through 10 (b ∷ bs)) ≤ length bs → eqb (length (drop_through 10 (b ∷ bs))) 0 ≡ false
        → is_whole bs ≡ is_whole (b ∷ bs)
    more [] le e = absurd (grind (arith, nat_tests, le, e))
    more (c ∷ cs) le e = refl

    at : (is : Bool) → eqb (length (drop_through 10 (b ∷ bs))) 0 ≡ is → is_whole (last_line bs) ≡ is_whole bs
        → is_whole (cond is (b ∷ bs) (last_line bs)) ≡ is_whole (b ∷ bs)
    at true e rest = refl
    at false e rest = rest ∙ more bs (shorter b bs) e

ends_cons : (b c : ℕ) (cs : List ℕ) → ends_with nat_eq (b ∷ c ∷ cs) (10 ∷ []) ≡ ends_with nat_eq (c ∷ cs) (10 ∷ [])
ends_cons b c cs =
    let longer : length (b ∷ c ∷ cs) - 1 ≡ suc (length (c ∷ cs) - 1) = omega arith in
    ap (λ (n : ℕ). pointwise nat_eq (10 ∷ []) (drop n (b ∷ c ∷ cs))) longer

feed : (b : ℕ) → (nat_eq 10 b && true) ≡ true → eqb b 10 ≡ true
feed b same = grind (arith, nat_tests, same)

ends_whole : (line : List ℕ) → ends_with nat_eq line (10 ∷ []) ≡ true → is_whole line ≡ true
ends_whole [] ended = refl
ends_whole (b ∷ []) ended = feed b ended
ends_whole (b ∷ c ∷ cs) ended = ends_whole (c ∷ cs) (sym (ends_cons b c cs) ∙ ended)

and_left : (a b : Bool) → (a && b) ≡ true → a ≡ true
and_left true b both = refl
and_left false b both = absurd cc

needs_whole : (text : List ℕ) → needs_seal (last_line text) ≡ true → is_whole text ≡ true
needs_whole text needs =
    sym (last_whole text) ∙ ends_whole (last_line text)
    (and_left (ends_with nat_eq (last_line text) (10 ∷ [])) (not (is_seal (last_line text))) needs)

-- ## One line

nothing : (text : List ℕ) → length text ≡ 0 → text ≡ []
nothing [] none = refl
nothing (b ∷ bs) none = absurd (omega (arith, none))

-- Reading up to the next line feed returns `line` and leaves `rest`.
abbrev Cuts : (line rest : List ℕ) → Type 0
Cuts line rest = (take_through 10 (line ++ rest) ≡ line) × (drop_through 10 (line ++ rest) ≡ rest)

cuts : (line rest : List ℕ) → 0 < length line → take_through 10 line ≡ line → (is_whole line ≡ false → rest ≡ [])
    → Cuts line rest
cuts [] rest some one partial = absurd (omega (arith, some))
cuts (b ∷ bs) rest some one partial = at (is_whole (b ∷ bs)) refl
  where
    none : drop_through 10 (b ∷ bs) ≡ []
    none = nothing (drop_through 10 (b ∷ bs)) (none_left (b ∷ bs) one)

    at : (is : Bool) → is_whole (b ∷ bs) ≡ is → Cuts (b ∷ bs) rest
    at true e =
        let p = parts b bs rest e in (p.0 ∙ one, p.1 ∙ ap (λ (l : List ℕ). l ++ rest) none)
    at false e =
        subst (λ (r : List ℕ). Cuts (b ∷ bs) r) (sym (partial e))
        (subst (λ (l : List ℕ). (take_through 10 l ≡ b ∷ bs) × (drop_through 10 l ≡ [])) (sym (append-nil (b ∷ bs))) (one, none))

step_at : (most ticks : ℕ) (printed text line rest : List ℕ) → 0 < length text → take_through 10 text ≡ line
    → drop_through 10 text ≡ rest
    → sealed_with (suc most) ticks printed text
    ≡ sealed_with most (ticks_with (ticks_left ticks) line) (printed_with ticks printed line) rest
unfolding sealed_with
step_at most ticks printed [] line rest some taken left = absurd (omega (arith, some))
step_at most ticks printed (b ∷ bs) line rest some taken left =
    ap (λ (l : List ℕ). sealed_with most (ticks_with (ticks_left ticks) l) (printed_with ticks printed l)
    (drop_through 10 (b ∷ bs))) taken
    ∙ ap (λ (r : List ℕ). sealed_with most (ticks_with (ticks_left ticks) line) (printed_with ticks printed line) r) left

seal_some : (part : List ℕ) → 0 < length (seal_of part)
seal_some part = omega (arith, length-append (codes "# sha256 ") (seal_end part))

if_seal : (due is : Bool) (seal : List ℕ) → is ≡ true → cond (due && not is) seal [] ≡ []
if_seal true is seal e = rw e refl
if_seal false is seal e = refl

-- No seal is added before a seal.
seal_alone : (ticks : ℕ) (printed part : List ℕ) → printed_with ticks printed (seal_of part) ≡ printed ++ seal_of part
seal_alone ticks printed part =
    ap (λ (l : List ℕ). (printed ++ l) ++ seal_of part)
    (if_seal (eqb ticks 3000) (is_seal (seal_of part)) (seal_of (last_part printed)) (is_line part).is)
    ∙ ap (λ (l : List ℕ). l ++ seal_of part) (append-nil printed)

seal_step : (most ticks : ℕ) (printed part rest : List ℕ)
    → sealed_with (suc most) ticks printed (seal_of part ++ rest) ≡ sealed_with most (ticks_left ticks) (printed ++ seal_of part) rest
seal_step most ticks printed part rest =
    let l = is_line part in
    let c = cuts (seal_of part) rest (seal_some part) l.one (λ partial. absurd (cc (partial, l.whole))) in
    step_at most ticks printed (seal_of part ++ rest) (seal_of part) rest
    (omega (arith, length-append (seal_of part) rest, seal_some part)) c.0 c.1
    ∙ ap (λ (l : List ℕ). sealed_with most (ticks_left ticks) l rest) (seal_alone ticks printed part)

-- ## The rest of a sealed recording

-- The rest of the output after `printed`, which stays unchanged if it is sealed again.
record Rest (ticks : ℕ) (printed out : List ℕ) : Type 0 where
  left : List ℕ
  is : out ≡ printed ++ left
  none : is_whole printed ≡ false → left ≡ []
  twice : (most : ℕ) → length left ≤ most → sealed_with most ticks printed left ≡ out

not_needed : (ends seal : Bool) → seal ≡ true → (ends && not seal) ≡ false
not_needed true seal is = rw is refl
not_needed false seal is = refl

ended_if : (printed : List ℕ) (is : Bool) → needs_seal (last_line printed) ≡ is
    → ended printed ≡ cond is (printed ++ seal_of (last_part printed)) printed
ended_if printed is e = ap (λ (b : Bool). cond b (printed ++ seal_of (last_part printed)) printed) e

ended_twice : (printed part : List ℕ) → is_whole printed ≡ true → ended (printed ++ seal_of part) ≡ printed ++ seal_of part
ended_twice printed part whole =
    let l = is_line part in
    ended_if (printed ++ seal_of part) false
    (ap needs_seal (last_after printed (seal_of part) whole l.one (seal_some part))
    ∙ not_needed (ends_with nat_eq (seal_of part) (10 ∷ [])) (is_seal (seal_of part)) l.is)

seal_end_step : (most ticks : ℕ) (printed part : List ℕ) → is_whole printed ≡ true → length (seal_of part) ≤ most
    → sealed_with most ticks printed (seal_of part) ≡ printed ++ seal_of part
seal_end_step zero ticks printed part whole enough = absurd (omega (arith, enough, seal_some part))
seal_end_step (suc most) ticks printed part whole enough =
    ap (λ (l : List ℕ). sealed_with (suc most) ticks printed l) (sym (append-nil (seal_of part)))
    ∙ (seal_step most ticks printed part [] ∙ (at_end most (ticks_left ticks) (printed ++ seal_of part)
    ∙ ended_twice printed part whole))

ended_rest : (ticks : ℕ) (printed : List ℕ) → Rest ticks printed (ended printed)
ended_rest ticks printed = at (needs_seal (last_line printed)) refl
  where
    at : (is : Bool) → needs_seal (last_line printed) ≡ is
        → Rest ticks printed (cond is (printed ++ seal_of (last_part printed)) printed)
    at true e =
        let whole = needs_whole printed e in record {
          left = seal_of (last_part printed);
          is = refl;
          none = λ partial. absurd (cc (partial, whole));
          twice = λ most enough. seal_end_step most ticks printed (last_part printed) whole enough;
        }
    at false e = record {
      left = [];
      is = sym (append-nil printed);
      none = λ partial. refl;
      twice = λ most enough. at_end most ticks printed ∙ ended_if printed false e;
    }

-- The output stays unchanged with one more line, if no seal precedes the line.
line_twice : (most ticks : ℕ) (printed line left out : List ℕ) → 0 < length line → take_through 10 line ≡ line
    → (is_whole line ≡ false → left ≡ []) → length (line ++ left) ≤ most
    → ((more : ℕ) → length left ≤ more
    → sealed_with more (ticks_with (ticks_left ticks) line) (printed_with ticks printed line) left ≡ out)
    → sealed_with most ticks printed (line ++ left) ≡ out
line_twice zero ticks printed line left out some one partial enough twice =
    absurd (omega (arith, some, enough, length-append line left))
line_twice (suc most) ticks printed line left out some one partial enough twice =
    let c = cuts line left some one partial in
    let longer = length-append line left in
    step_at most ticks printed (line ++ left) line left (omega (arith, longer, some)) c.0 c.1
    ∙ twice most (omega (arith, longer, some, enough))

-- The output stays unchanged with one more line, if a seal that ends the minute precedes the line.
sealed_twice : (most ticks : ℕ) (printed part line left out : List ℕ) → eqb ticks 3000 ≡ true → 0 < length line
    → take_through 10 line ≡ line → (is_whole line ≡ false → left ≡ []) → length (seal_of part ++ (line ++ left)) ≤ most
    → ((more : ℕ) → length left ≤ more
    → sealed_with more (ticks_with (ticks_left ticks) line) ((printed ++ seal_of part) ++ line) left ≡ out)
    → sealed_with most ticks printed (seal_of part ++ (line ++ left)) ≡ out
sealed_twice zero ticks printed part line left out full some one partial enough twice =
    absurd (omega (arith, enough, seal_some part, length-append (seal_of part) (line ++ left)))
sealed_twice (suc most) ticks printed part line left out full some one partial enough twice =
    let begun : ticks_left ticks ≡ 0 = ap (λ (b : Bool). cond b 0 ticks) full in
    seal_step most ticks printed part (line ++ left)
    ∙ (ap (λ (n : ℕ). sealed_with most n (printed ++ seal_of part) (line ++ left)) begun
    ∙ line_twice most 0 (printed ++ seal_of part) line left out some one partial
    (omega (arith, enough, seal_some part, length-append (seal_of part) (line ++ left)))
    (λ more le. ap (λ (l : List ℕ). sealed_with more (ticks_with 0 line) (l ++ line) left) (append-nil (printed ++ seal_of part))
    ∙ (ap (λ (n : ℕ). sealed_with more (ticks_with n line) ((printed ++ seal_of part) ++ line) left) (sym begun)
    ∙ twice more le)))

line_rest : (ticks : ℕ) (printed line out : List ℕ) → is_whole printed ≡ true → 0 < length line → take_through 10 line ≡ line
    → Rest (ticks_with (ticks_left ticks) line) (printed_with ticks printed line) out → Rest ticks printed out
line_rest ticks printed line out whole some one rest = at (eqb ticks 3000 && not (is_seal line)) refl rest
  where
    partial : (front : List ℕ) (r : Rest (ticks_with (ticks_left ticks) line) (front ++ line) out)
        → is_whole line ≡ false → r.left ≡ []
    partial front r other = r.none (whole_same front line some ∙ other)

    at : (is : Bool) → (eqb ticks 3000 && not (is_seal line)) ≡ is
        → Rest (ticks_with (ticks_left ticks) line) ((printed ++ cond is (seal_of (last_part printed)) []) ++ line) out
        → Rest ticks printed out
    at true e r =
        let seal = seal_of (last_part printed) in record {
          left = seal ++ (line ++ r.left);
          is = r.is ∙ (append_assoc (printed ++ seal) line r.left ∙ append_assoc printed seal (line ++ r.left));
          none = λ other. absurd (cc (other, whole));
          twice = λ most enough. sealed_twice most ticks printed (last_part printed) line r.left out
              (and_left (eqb ticks 3000) (not (is_seal line)) e) some one (partial (printed ++ seal) r) enough r.twice;
        }
    at false e r =
        let same : printed_with ticks printed line ≡ (printed ++ []) ++ line =
        ap (λ (b : Bool). (printed ++ cond b (seal_of (last_part printed)) []) ++ line) e in record {
          left = line ++ r.left;
          is = r.is ∙ (ap (λ (l : List ℕ). (l ++ line) ++ r.left) (append-nil printed) ∙ append_assoc printed line r.left);
          none = λ other. absurd (cc (other, whole));
          twice = λ most enough. line_twice most ticks printed line r.left out some one (partial (printed ++ []) r) enough
              (λ more le. ap (λ (l : List ℕ). sealed_with more (ticks_with (ticks_left ticks) line) l r.left) same ∙ r.twice more le);
        }

taken_some : (b : ℕ) (bs : List ℕ) → 0 < length (take_through 10 (b ∷ bs))
taken_some b bs = at (eqb b 10)
  where
    at : (is : Bool) → 0 < length (cond is (b ∷ []) (b ∷ take_through 10 bs))
    at true = omega arith
    at false = omega arith

rest_of : (most ticks : ℕ) (printed text : List ℕ) → (0 < length text → is_whole printed ≡ true) → length text ≤ most
    → Rest ticks printed (sealed_with most ticks printed text)
unfolding sealed_with
rest_of zero ticks printed text whole enough = ended_rest ticks printed
rest_of (suc most) ticks printed [] whole enough = ended_rest ticks printed
rest_of (suc most) ticks printed (b ∷ bs) whole enough =
    let line = take_through 10 (b ∷ bs) in
    let left = drop_through 10 (b ∷ bs) in
    let before : is_whole printed ≡ true = whole (omega arith) in
    line_rest ticks printed line (sealed_with most (ticks_with (ticks_left ticks) line) (printed_with ticks printed line) left)
    before (taken_some b bs) (taken_twice (b ∷ bs))
    (rest_of most (ticks_with (ticks_left ticks) line) (printed_with ticks printed line) left
    (λ more. printed_whole ticks printed line before (line_whole (b ∷ bs) more)) (omega (arith, enough, shorter b bs)))

pub twice : (text : List ℕ) → sealed (sealed text) ≡ sealed text
twice text =
    let r = rest_of (length text) 0 [] text (λ some. refl) (omega arith) in
    ap (λ (l : List ℕ). sealed_with (length l) 0 [] l) r.is ∙ r.twice (length r.left) (omega arith)
