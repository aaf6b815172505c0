-- Bytes of a script that is resumed: they are split into lines, and each line is read.
use Rattle.std.proofs.Common.{◌≡◌, ◌≢◌, ℕ, zero, suc, ◌+◌, ◌<◌, ◌≤◌, Bool, true, List, [], ◌∷◌, ◌++◌, length, codes, get_or, replicate, take, drop, Some, None, Result, Ok, Err, refl, sym, ap, subst, ◌∙◌, append_assoc, length-append, length-take, arith}
use Rattle.std.proofs.lemmas.Bool.{eq-eqb, eqb-true}
use Rattle.std.proofs.lemmas.List.{drop-drop, get_or-take, length-replicate, replicate-append-replicate, take-append-drop}
use Rattle.std.proofs.lemmas.List.Folds.{concat-append}
use Rattle.std.specs.Cmp.Lexicographic.{pointwise, same_text}
use Rattle.std.specs.List.{concat}
use Rattle.std.specs.Prelude.{nat_eq}
use Rattle.mg_core.specs.declared.resumer.TheConstants.{EIGHT_TENS, SIXTEEN_TICKS}
use Rattle.memchr.specs.Find.{IsFirstByte, is_byte}
use Rattle.std.specs.Prelude.{IfErr, OnOk}
use Rattle.mg_lines.specs.Lines.{without_return, lines_after}
use Rattle.mg_core.specs.declared.fault.LineFault.{LineFault}
use Rattle.mg_core.specs.declared.fault.LineFault.TheVariants as faults
use Rattle.mg_core.specs.aids.Resuming.{Adds, AreGood, BytesBad, BytesResumed, BytesRun, CopiesTaken, EndedResumed, IsAfterCopies, IsBadLine, StartsBad}
use Rattle.mg_core.proofs.SplitLemmas.{around, line_feed, long_first, unbroken}
use Rattle.mg_core.proofs.ResumeLemmas.{good, lines_then, no_lines, resumes_err, too_long}

-- ## A line that a line feed ends

pub tick_ended : (Old New : List (List ℕ) → Type 0) (partial part : List ℕ) → partial ≡ [] → part ≡ codes "tick" →
    Adds Old New (replicate 1 (codes "tick")) → Adds Old New (without_return (partial ++ part) ∷ [])
tick_ended Old New partial part none is adds = rw (none, is) adds

pub ended_bad : (Old : List (List ℕ) → Type 0) (count counted k : ℕ) (text line : List ℕ) → counted ≡ count →
    line ≡ without_return text → (k ≡ counted + 1) × IsBadLine Old line →
    (more : List ℕ) → StartsBad Old count (lines_after true text (10 ∷ more)) k
ended_bad Old count counted k text line same is h more = record {
  bad = without_return text;
  others = lines_after true [] more;
  parts = line_feed true text more;
  is_bad = subst (IsBadLine Old) is h.1;
  number_is = h.0 ∙ ap (λ n. n + 1) same;
}

long_starts : (Old : List (List ℕ) → Type 0) (count : ℕ) (text bytes : List ℕ) → 140002 ≤ length text →
    StartsBad Old count (lines_after true text bytes) (count + 1)
long_starts Old count text bytes le =
    let h = long_first text bytes le in
    record { bad = h.bad; others = h.others; parts = h.parts; is_bad = too_long Old h.bad h.long; number_is = refl }

pub ended_long : (Old : List (List ℕ) → Type 0) (count : ℕ) (text : List ℕ) → 140002 ≤ length text →
    (more : List ℕ) → StartsBad Old count (lines_after true text (10 ∷ more)) (count + 1)
ended_long Old count text le more = long_starts Old count text (10 ∷ more) le

-- ## Splitting bytes into lines

-- The text consists of a part without a line feed, a line feed, and the rest.
pub record IsCut (rest part next : List ℕ) : Type 0 where
  pub parts : part ++ (10 ∷ next) ≡ rest
  pub plain : (k : ℕ) → k < length part → get_or part k 0 ≢ 10

-- If a search finds a first line feed, the text is split at this line feed.
pub cut_at_feed : (rest part tail next : List ℕ) (n : ℕ) → IsFirstByte (is_byte 10) rest (Some n) →
    part ≡ take n rest → tail ≡ drop n rest → next ≡ drop 1 tail → IsCut rest part next
cut_at_feed rest part tail next n h front back after =
    let feed : get_or rest n 0 ≡ 10 = eqb-true (get_or rest n 0) 10 h.1 in
    let high = h.0.high in
    let left : next ≡ drop (n + 1) rest = after ∙ ap (drop 1) back ∙ drop-drop 1 n rest in
    let parts : take n rest ++ (10 ∷ drop (n + 1) rest) ≡ rest =
    subst (λ (x : ℕ). take n rest ++ (x ∷ drop (n + 1) rest) ≡ rest) feed (around rest n high) in
    let plain : (k : ℕ) → k < length (take n rest) → get_or (take n rest) k 0 ≢ 10 = λ k lt e.
    let below : k < n = omega (arith, lt, length-take n rest) in
    h.0.before k (omega arith) below (eq-eqb (get_or rest k 0) 10 (sym (get_or-take n rest k 0 below) ∙ e)) in
    subst (λ (l : List ℕ). IsCut rest part l) (sym left)
    (subst (λ (l : List ℕ). IsCut rest l (drop (n + 1) rest)) (sym front) (record { parts = parts; plain = plain }))

pub no_feed : (rest : List ℕ) → IsFirstByte (is_byte 10) rest None → (k : ℕ) → k < length rest →
    get_or rest k 0 ≢ 10
no_feed rest h k lt e = h k (omega arith) lt (eq-eqb (get_or rest k 0) 10 e)

at_cut : (rest part next : List ℕ) → IsCut rest part next → (ended : Bool) (left more : List ℕ) →
    lines_after ended left (rest ++ more) ≡ lines_after ended (left ++ part) (10 ∷ (next ++ more))
at_cut rest part next cut ended left more =
    ap (λ (l : List ℕ). lines_after ended left (l ++ more)) (sym cut.parts)
    ∙ ap (lines_after ended left) (append_assoc part (10 ∷ next) more)
    ∙ unbroken part cut.plain ended left (10 ∷ (next ++ more))

pub bytes_start : (n : ℕ) (partial bytes : List ℕ) (Old : List (List ℕ) → Type 0) →
    BytesRun n n partial bytes partial bytes Old Old
bytes_start n partial bytes Old = record {
  lines = [];
  split = λ ended more. refl;
  number = omega arith;
  adds = no_lines Old;
}

pub bytes_feed : (n m : ℕ) (partial bytes left rest part next : List ℕ) (Old Mid New : List (List ℕ) → Type 0) →
    BytesRun n m partial bytes left rest Old Mid → IsCut rest part next →
    Adds Mid New (without_return (left ++ part) ∷ []) → BytesRun n (m + 1) partial bytes [] next Old New
bytes_feed n m partial bytes left rest part next Old Mid New h cut line =
    let text = without_return (left ++ part) in
    record {
      lines = h.lines ++ text ∷ [];
      split = λ ended more. h.split ended more ∙
          ap (λ (l : List (List ℕ)). h.lines ++ l) (at_cut rest part next cut ended left more
          ∙ line_feed ended (left ++ part) (next ++ more)) ∙
          sym (append_assoc h.lines (text ∷ []) (lines_after ended [] (next ++ more)));
      number = omega (arith, length-append h.lines (text ∷ []), h.number);
      adds = lines_then Old Mid New h.lines (text ∷ []) h.adds line;
    }

-- ## Copies of a line

copies_then : (line : List ℕ) (n m : ℕ) (text rest next : List ℕ) → IsAfterCopies line n text rest →
    IsAfterCopies line m rest next → IsAfterCopies line (n + m) text next
copies_then copy n m text rest next h more =
    let line = copy ++ 10 ∷ [] in
    h ∙ ap (λ (l : List ℕ). concat (replicate n line) ++ l) more
    ∙ sym (append_assoc (concat (replicate n line)) (concat (replicate m line)) next)
    ∙ ap (λ (l : List ℕ). l ++ next) (sym (concat-append (replicate n line) (replicate m line))
    ∙ ap concat (replicate-append-replicate n m line))

-- Sixteen `tick` lines are counted at once.
pub sixteen_more : (n : ℕ) (text rest next : List ℕ) → IsAfterCopies (codes "tick") n text rest →
    pointwise nat_eq (take 80 rest) SIXTEEN_TICKS.now ≡ true → next ≡ drop 80 rest →
    IsAfterCopies (codes "tick") (n + 16) text next
sixteen_more n text rest next h same after =
    copies_then (codes "tick") n 16 text rest next h (sym (take-append-drop 80 rest)
    ∙ ap (λ (l : List ℕ). l ++ drop 80 rest) (same_text (take 80 rest) SIXTEEN_TICKS.now (sym same))
    ∙ ap (λ (l : List ℕ). SIXTEEN_TICKS.now ++ l) (sym after))

-- Eight `ticks 10` lines are counted at once.
pub eight_more : (n : ℕ) (text rest next : List ℕ) → IsAfterCopies (codes "ticks 10") n text rest →
    pointwise nat_eq (take 72 rest) EIGHT_TENS.now ≡ true → next ≡ drop 72 rest →
    IsAfterCopies (codes "ticks 10") (n + 8) text next
eight_more n text rest next h same after =
    copies_then (codes "ticks 10") n 8 text rest next h (sym (take-append-drop 72 rest)
    ∙ ap (λ (l : List ℕ). l ++ drop 72 rest) (same_text (take 72 rest) EIGHT_TENS.now (sym same))
    ∙ ap (λ (l : List ℕ). EIGHT_TENS.now ++ l) (sym after))

lines_of_ticks : (k : ℕ) (ended : Bool) (more : List ℕ) →
    lines_after ended [] (concat (replicate k (codes "tick\n")) ++ more) ≡
    replicate k (codes "tick") ++ lines_after ended [] more
unfolding lines_after
lines_of_ticks zero ended more = refl
lines_of_ticks (suc k) ended more = ap (λ (l : List (List ℕ)). codes "tick" ∷ l) (lines_of_ticks k ended more)

lines_of_tens : (k : ℕ) (ended : Bool) (more : List ℕ) →
    lines_after ended [] (concat (replicate k (codes "ticks 10\n")) ++ more) ≡
    replicate k (codes "ticks 10") ++ lines_after ended [] more
unfolding lines_after
lines_of_tens zero ended more = refl
lines_of_tens (suc k) ended more = ap (λ (l : List (List ℕ)). codes "ticks 10" ∷ l) (lines_of_tens k ended more)

-- The copies of a line are read after the bytes so far, if text is split into lines after these copies.
bytes_copies : (line : List ℕ) → ((k : ℕ) (ended : Bool) (more : List ℕ) →
    lines_after ended [] (concat (replicate k (line ++ 10 ∷ [])) ++ more) ≡ replicate k line ++ lines_after ended [] more) →
    (n m p : ℕ) (partial bytes rest next : List ℕ) (Old Mid New : List (List ℕ) → Type 0) →
    BytesRun n m partial bytes [] rest Old Mid → CopiesTaken line m p rest next Mid New →
    BytesRun n p partial bytes [] next Old New
bytes_copies line lines_of n m p partial bytes rest next Old Mid New h taken =
    let k = taken.copies in
    let copies = replicate k line in
    record {
      lines = h.lines ++ copies;
      split = λ ended more. h.split ended more ∙
          ap (λ (l : List (List ℕ)). h.lines ++ l) (ap (λ (l : List ℕ). lines_after ended [] (l ++ more)) taken.parts
          ∙ ap (lines_after ended []) (append_assoc (concat (replicate k (line ++ 10 ∷ []))) next more)
          ∙ lines_of k ended (next ++ more)) ∙
          sym (append_assoc h.lines copies (lines_after ended [] (next ++ more)));
      number = omega (arith, taken.number, h.number, length-append h.lines copies, length-replicate k line);
      adds = lines_then Old Mid New h.lines copies h.adds taken.adds;
    }

pub bytes_ticks : (n m p : ℕ) (partial bytes rest next : List ℕ) (Old Mid New : List (List ℕ) → Type 0) →
    BytesRun n m partial bytes [] rest Old Mid → CopiesTaken (codes "tick") m p rest next Mid New →
    BytesRun n p partial bytes [] next Old New
bytes_ticks = bytes_copies (codes "tick") lines_of_ticks

pub bytes_tens : (n m p : ℕ) (partial bytes rest next : List ℕ) (Old Mid New : List (List ℕ) → Type 0) →
    BytesRun n m partial bytes [] rest Old Mid → CopiesTaken (codes "ticks 10") m p rest next Mid New →
    BytesRun n p partial bytes [] next Old New
bytes_tens = bytes_copies (codes "ticks 10") lines_of_tens

-- If a bad line follows the lines so far, it is the first bad line of the bytes.
bad_after : (n m k : ℕ) (partial bytes left rest : List ℕ) (Old Mid : List (List ℕ) → Type 0) →
    ((lines : List (List ℕ)) → Mid lines → AreGood lines) → BytesRun n m partial bytes left rest Old Mid →
    ((more : List ℕ) → StartsBad Mid m (lines_after true left (rest ++ more)) k) → BytesBad Old n partial bytes k
bad_after n m k partial bytes left rest Old Mid are_good h bad = record {
  lines = h.lines;
  bad = λ more. record {
    bad = (bad more).bad;
    others = (bad more).others;
    parts = h.split true more ∙ ap (λ (l : List (List ℕ)). h.lines ++ l) (bad more).parts;
    is_bad = λ before old. (bad more).is_bad (before ++ h.lines) (h.adds before old);
  };
  number_is = omega (arith, (bad []).number_is, h.number);
  good = λ before old. are_good (before ++ h.lines) (h.adds before old);
}

pub bytes_stop : (s : Bool) (n m p : ℕ) (partial bytes left rest part next last : List ℕ)
    (Old Mid New : List (List ℕ) → Type 0) (e : LineFault) → ((lines : List (List ℕ)) → Mid lines → AreGood lines) →
    BytesRun n m partial bytes left rest Old Mid → IsCut rest part next →
    EndedResumed s m (left ++ part) Mid New (Err e) → BytesResumed s n p partial bytes last Old New (Err e)
bytes_stop s n m p partial bytes left rest part next last Old Mid New e are_good h cut line =
    resumes_err s (Adds Mid New (without_return (left ++ part) ∷ [])) (BytesRun n p partial bytes last [] Old New)
    (λ k. (more : List ℕ) → StartsBad Mid m (lines_after true (left ++ part) (10 ∷ more)) k)
    (BytesBad Old n partial bytes) e
    (λ k bad. bad_after n m k partial bytes left rest Old Mid are_good h
    (λ more. subst (λ (l : List (List ℕ)). StartsBad Mid m l k) (sym (at_cut rest part next cut true left more))
    (bad (next ++ more)))) line

bytes_kept : (n m : ℕ) (partial bytes left rest : List ℕ) (Old Mid : List (List ℕ) → Type 0) →
    BytesRun n m partial bytes left rest Old Mid → ((k : ℕ) → k < length rest → get_or rest k 0 ≢ 10) →
    BytesRun n m partial bytes (left ++ rest) [] Old Mid
bytes_kept n m partial bytes left rest Old Mid h plain = record {
  lines = h.lines;
  split = λ ended more. h.split ended more ∙
      ap (λ (l : List (List ℕ)). h.lines ++ l) (unbroken rest plain ended left more);
  number = h.number;
  adds = h.adds;
}

bytes_long : (n m : ℕ) (partial bytes left rest : List ℕ) (Old Mid : List (List ℕ) → Type 0) →
    ((lines : List (List ℕ)) → Mid lines → AreGood lines) → BytesRun n m partial bytes left rest Old Mid →
    ((k : ℕ) → k < length rest → get_or rest k 0 ≢ 10) → 140002 ≤ length (left ++ rest) →
    BytesBad Old n partial bytes (m + 1)
bytes_long n m partial bytes left rest Old Mid are_good h plain long =
    bad_after n m (m + 1) partial bytes left rest Old Mid are_good h
    (λ more. subst (λ (l : List (List ℕ)). StartsBad Mid m l (m + 1)) (sym (unbroken rest plain true left more))
    (long_starts Mid m (left ++ rest) more long))

-- The bytes after the last line feed are kept, unless they make the line too long.
pub bytes_last : (s : Bool) (n m : ℕ) (partial bytes left rest kept : List ℕ) (Old Mid : List (List ℕ) → Type 0)
    (r : Result (Unit {0}) LineFault) → ((lines : List (List ℕ)) → Mid lines → AreGood lines) →
    BytesRun n m partial bytes left rest Old Mid →
    ((k : ℕ) → k < length rest → get_or rest k 0 ≢ 10) → OnOk r (kept ≡ left ++ rest) →
    IfErr r (λ fault. (fault ≡ faults.Bad (m + 1)) × (140002 ≤ length (left ++ rest))) →
    BytesResumed s n m partial bytes kept Old Mid r
bytes_last s n m partial bytes left rest kept Old Mid (Ok done) are_good h plain same long =
    subst (λ (l : List ℕ). BytesRun n m partial bytes l [] Old Mid) (sym same)
    (bytes_kept n m partial bytes left rest Old Mid h plain)
bytes_last s n m partial bytes left rest kept Old Mid (Err fault) are_good h plain same long =
    subst (λ (e : LineFault). BytesResumed s n m partial bytes kept Old Mid (Err e)) (sym long.0)
    (bytes_long n m partial bytes left rest Old Mid are_good h plain long.1)
