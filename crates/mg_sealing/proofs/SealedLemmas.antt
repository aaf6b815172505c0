-- Copying a recording line by line.
use Rattle.std.proofs.Common.{◌≡◌, ℕ, zero, suc, ◌<◌, ◌≤◌, Bool, true, false, cond, eqb, not, append-nil, length-append, List, [], ◌∷◌, ◌++◌, Option, None, Some, IfSome, length, refl, sym, ap, subst, ◌∙◌, arith}
use Rattle.std.proofs.lemmas.Bool.{eqb-true}
use Rattle.std.proofs.BufReadLemmas.{take_through_nonempty}
use Rattle.std.specs.Prelude.{◌&&◌, OnOk, Result, Ok, Err}
use Rattle.std.specs.Io.KnownBytes.{Appends, IsAtEnd}
use Rattle.std.specs.Io.BufRead.{take_through, drop_through, DropsThrough}
use Rattle.sha2.specs.declared.Sha256.{Sha256}
use Rattle.sha2.specs.Hashers.{Holds256}
use Rattle.mg_chain.specs.Seals.{is_seal, is_whole, last_part, seal_of}
use Rattle.mg_chain.proofs.PartLemmas.{part_nil, whole_tail}
use Rattle.mg_chain.proofs.ReadLemmas.{line_whole, shorter, whole_append}
use Rattle.mg_sealing.proofs.LineLemmas.{is_line, joined, parts, taken_twice}
use Rattle.mg_sealing.specs.Sealed.{ended, last_line, needs_seal, printed_with, seal_before, sealed, sealed_with, ticks_left, ticks_with}
use Rattle.mg_sealing.specs.aids.Copying.{Copying, Copies}

-- If nothing is left to copy, only the last seal may still have to be printed.
pub at_end : (most ticks : ℕ) (printed : List ℕ) → sealed_with most ticks printed [] ≡ ended printed
unfolding sealed_with
at_end zero ticks printed = refl
at_end (suc most) ticks printed = refl

copied : (text rest start old contents : Option (List ℕ)) (hasher : Sha256) (ticks : ℕ) (due : Bool)
    → Copies text rest start old hasher ticks due → IsAtEnd rest
    → ((printed : List ℕ) (start : Option (List ℕ)) → due ≡ needs_seal (last_line printed) → Holds256 hasher (last_part printed)
    → Appends start old printed → Appends start contents (ended printed))
    → IfSome text (λ all. Appends start contents (sealed all))
copied None rest start old contents hasher ticks due copies end prints = tt
copied (Some all) rest start old contents hasher ticks due copies end prints =
    let none : copies.left ≡ [] = subst (λ r. IsAtEnd r) copies.remaining end in
    subst (λ (l : List ℕ). Appends start contents l)
    (sym (at_end copies.most ticks copies.printed)
    ∙ (ap (λ left. sealed_with copies.most ticks copies.printed left) (sym none) ∙ copies.is))
    (prints copies.printed start copies.last copies.holds copies.prints)

-- If the last seal was printed at the end of the recording, the output is the sealed recording.
pub copied_if : {T E : Type 0} (printed : Result T E) (text rest start old contents : Option (List ℕ)) (hasher : Sha256)
    (ticks : ℕ) (due : Bool) → Copies text rest start old hasher ticks due → IsAtEnd rest
    → ((printed_text : List ℕ) (start : Option (List ℕ)) → due ≡ needs_seal (last_line printed_text)
    → Holds256 hasher (last_part printed_text) → Appends start old printed_text
    → OnOk printed (Appends start contents (ended printed_text)))
    → OnOk printed (IfSome text (λ all. Appends start contents (sealed all)))
copied_if (Ok done) text rest start old contents hasher ticks due copies end prints =
    copied text rest start old contents hasher ticks due copies end prints
copied_if (Err error) text rest start old contents hasher ticks due copies end prints = tt

-- Complete lines, with a seal after them if one is due, are complete lines.
pub before_whole : (ticks : ℕ) (printed line : List ℕ) → is_whole printed ≡ true
    → is_whole (printed ++ seal_before ticks printed line) ≡ true
before_whole ticks printed line whole =
    whole_append printed (seal_before ticks printed line) whole (at (eqb ticks 3000 && not (is_seal line)))
  where
    at : (is : Bool) → is_whole (cond is (seal_of (last_part printed)) []) ≡ true
    at true = (is_line (last_part printed)).whole
    at false = refl

pub printed_whole : (ticks : ℕ) (printed line : List ℕ) → is_whole printed ≡ true → is_whole line ≡ true
    → is_whole (printed_with ticks printed line) ≡ true
printed_whole ticks printed line whole more =
    whole_append (printed ++ seal_before ticks printed line) line (before_whole ticks printed line whole) more

-- After a line and the seal before it, the hasher has hashed the last part of the output.
pub sealed_hash : {T E : Type 0} (result : Result T E) (ticks : ℕ) (printed line : List ℕ) (middle new : Sha256)
    → is_whole printed ≡ true → Holds256 middle (last_part (printed ++ seal_before ticks printed line))
    → ((text : List ℕ) → is_whole text ≡ true → Holds256 middle (last_part text)
    → OnOk result (Holds256 new (last_part (text ++ line))))
    → OnOk result (Holds256 new (last_part (printed_with ticks printed line)))
sealed_hash result ticks printed line middle new whole holds adds =
    adds (printed ++ seal_before ticks printed line) (before_whole ticks printed line whole) holds

-- ## The last line

pub if_none : (n : ℕ) (x y : List ℕ) → n ≡ 0 → cond (eqb n 0) x y ≡ x
if_none n x y none = rw none refl

pub if_some : (n : ℕ) (x y : List ℕ) → 0 < n → cond (eqb n 0) x y ≡ y
if_some n x y some = at (eqb n 0) refl
  where
    at : (is : Bool) → eqb n 0 ≡ is → cond is x y ≡ y
    at true e = absurd (omega (arith, some, eqb-true n 0 e))
    at false e = refl

pub none_left : (line : List ℕ) → take_through 10 line ≡ line → length (drop_through 10 line) ≡ 0
none_left line one =
    omega (arith, ap length (joined line), length-append (take_through 10 line) (drop_through 10 line), ap length one)

pub last_after : (text line : List ℕ) → is_whole text ≡ true → take_through 10 line ≡ line → 0 < length line
    → last_line (text ++ line) ≡ line
unfolding last_line
last_after [] [] whole one some = absurd (omega (arith, some))
last_after [] (b ∷ bs) whole one some =
    if_none (length (drop_through 10 (b ∷ bs))) (b ∷ bs) (last_line bs) (none_left (b ∷ bs) one)
last_after (b ∷ bs) line whole one some =
    if_some (length (drop_through 10 (b ∷ (bs ++ line)))) (b ∷ (bs ++ line)) (last_line (bs ++ line))
    (omega (arith, ap length (parts b bs line whole).1, length-append (drop_through 10 (b ∷ bs)) line, some))
    ∙ last_after bs line (whole_tail b bs whole) one some

-- After a line, whether a last seal is due depends on this line alone.
last_is : (ticks : ℕ) (printed line : List ℕ) → is_whole printed ≡ true → take_through 10 line ≡ line
    → 0 < length line → needs_seal line ≡ needs_seal (last_line (printed_with ticks printed line))
last_is ticks printed line whole one some =
    sym (ap needs_seal (last_after (printed ++ seal_before ticks printed line) line (before_whole ticks printed line whole)
    one some))

none_due : false ≡ needs_seal (last_line [])
unfolding last_line
none_due = refl

-- ## Line by line

step : (all printed left line : List ℕ) (most ticks next : ℕ) (due : Bool) (new start contents : Option (List ℕ)) (after : Sha256)
    → length left ≤ most → sealed_with most ticks printed left ≡ sealed all
    → (0 < length left → is_whole printed ≡ true) → line ≡ take_through 10 left → 0 < length line
    → new ≡ Some (drop_through 10 left) → Holds256 after (last_part (printed_with ticks printed line))
    → Appends start contents (printed_with ticks printed line) → next ≡ ticks_with (ticks_left ticks) line
    → due ≡ needs_seal line → Copying all new start contents after next due
unfolding sealed_with
step all printed [] line most ticks next due new start contents after enough is whole taken some dropped holds prints counted kept =
    absurd (omega (arith, ap length taken))
step all printed (b ∷ bs) line zero ticks next due new start contents after enough is whole taken some dropped holds prints counted kept =
    absurd (omega arith)
step all printed (b ∷ bs) line (suc most) ticks next due new start contents after enough is whole taken some dropped holds prints counted kept =
    record {
      printed = printed_with ticks printed line;
      left = drop_through 10 (b ∷ bs);
      most = most;
      remaining = dropped;
      whole = λ more. printed_whole ticks printed line (whole (omega arith))
          (ap is_whole taken ∙ line_whole (b ∷ bs) more);
      holds = holds;
      prints = prints;
      last = kept
          ∙ last_is ticks printed line (whole (omega arith)) (ap (λ l. take_through 10 l) taken
          ∙ (taken_twice (b ∷ bs) ∙ sym taken)) some;
      enough = omega (arith, shorter b bs);
      is = ap (λ n. sealed_with most n (printed_with ticks printed line) (drop_through 10 (b ∷ bs))) counted
          ∙ (ap (λ l. sealed_with most (ticks_with (ticks_left ticks) l) (printed_with ticks printed l)
          (drop_through 10 (b ∷ bs))) taken ∙ is);
    }

-- Before the first line, nothing has been copied, and no seal is due.
pub starts : (text start : Option (List ℕ)) (hasher : Sha256) → Holds256 hasher [] → Copies text text start start hasher 0 false
starts None start hasher holds = tt
starts (Some all) start hasher holds = record {
  printed = [];
  left = all;
  most = length all;
  remaining = refl;
  whole = λ more. refl;
  holds = subst (λ (l : List ℕ). Holds256 hasher l) (sym part_nil) holds;
  prints = nothing start;
  last = none_due;
  enough = omega arith;
  is = refl;
}
  where
    nothing : (known : Option (List ℕ)) → Appends known known []
    nothing None = tt
    nothing (Some bytes) = sym (append-nil bytes)

-- Copying one more line continues `Copies`.
pub goes_on : (text rest new start old contents : Option (List ℕ)) (hasher after : Sha256) (ticks next : ℕ)
    (was due : Bool) (before items line : List ℕ)
    → Copies text rest start old hasher ticks was → IfSome rest (λ xs. items ≡ before ++ take_through 10 xs) → before ≡ []
    → line ≡ items → 0 < length line → DropsThrough rest new 10 → next ≡ ticks_with (ticks_left ticks) line
    → due ≡ needs_seal line
    → ((printed : List ℕ) → is_whole printed ≡ true → Holds256 hasher (last_part printed)
    → Holds256 after (last_part (printed_with ticks printed line)))
    → ((printed : List ℕ) (start : Option (List ℕ)) → is_whole printed ≡ true → Holds256 hasher (last_part printed)
    → Appends start old printed → Appends start contents (printed_with ticks printed line))
    → Copies text new start contents after next due
goes_on None rest new start old contents hasher after ticks next was due before items line copies bytes empty same some drops counted kept holds prints = tt
goes_on (Some all) rest new start old contents hasher after ticks next was due before items line copies bytes empty same some drops counted kept holds prints =
    let bytes : items ≡ before ++ take_through 10 copies.left =
    subst (λ r. IfSome r (λ xs. items ≡ before ++ take_through 10 xs)) copies.remaining bytes in
    let taken : line ≡ take_through 10 copies.left =
    same ∙ (bytes ∙ ap (λ l. l ++ take_through 10 copies.left) empty) in
    let dropped : new ≡ Some (drop_through 10 copies.left) =
    subst (λ r. DropsThrough r new 10) copies.remaining drops in
    let whole : is_whole copies.printed ≡ true =
    copies.whole (take_through_nonempty 10 copies.left (omega (arith, some, ap length taken))) in
    step all copies.printed copies.left line copies.most ticks next due new start contents after copies.enough copies.is
    copies.whole taken some dropped (holds copies.printed whole copies.holds)
    (prints copies.printed start whole copies.holds copies.prints) counted kept
