-- How far a resumed script was read, its last line, and the result.
use Rattle.std.proofs.Common.{◌≡◌, ◌≢◌, ℕ, ◌+◌, ◌≤◌, Bool, true, false, List, [], ◌∷◌, ◌++◌, length, eqb, Option, Some, Result, Ok, Err, refl, sym, ap, subst, ◌∙◌, append_assoc, length-append, arith, inl, inr, ◌⊎◌}
use Rattle.std.proofs.lemmas.Bool.{eqb-true, ne_eqb, true≢false}
use Rattle.std.proofs.lemmas.List.{append-nil}
use Rattle.std.proofs.KnownBytes.{Consumes-nil, Consumes-trans, Consumes-kept}
use Rattle.std.specs.Io.KnownBytes.{Keeps, Consumes, IsAtEnd}
use Rattle.std.specs.Result.{is_err}
use Rattle.std.specs.Prelude.{OnOk}
use Rattle.mg_core.specs.World.{World}
use Rattle.mg_lines.specs.Lines.{lines_after, lines_of}
use Rattle.mg_core.specs.declared.fault.LineFault.{LineFault}
use Rattle.mg_core.specs.declared.fault.LineFault.TheVariants as faults
use Rattle.mg_engine.specs.declared.fault.StartFault.{StartFault}
use Rattle.mg_engine.specs.declared.fault.StartFault.TheVariants as starts
use Rattle.mg_core.specs.declared.fault.RunFault.{RunFault}
use Rattle.mg_core.specs.declared.fault.RunFault.TheVariants as runs
use Rattle.mg_core.specs.declared.fault.ScriptFault.{ScriptFault}
use Rattle.mg_core.specs.declared.fault.ScriptFault.TheVariants as scripts
use Rattle.mg_core.specs.declared.state.CoreState.{CoreState}
use Rattle.mg_core.specs.Follow.{IsFollowed}
use Rattle.mg_core.specs.aids.Following.{GoesOn, IsFollowedUntil}
use Rattle.mg_core.specs.Note.{Note, events_in, notes_of}
use Rattle.mg_core.specs.Counted.{expanded, journal_lines}
use Rattle.mg_core.specs.aids.Resume.{FindsBadLine, IsResumed}
use Rattle.mg_core.specs.Run.{HasRead}
use Rattle.mg_core.specs.aids.Resuming.{Adds, AllResumed, AreGood, BytesBad, BytesResumed, BytesRun, IsBadLine, KeepsLines, KeepsUp, LastResumed, LineRead, StartsBad}
use Rattle.mg_core.specs.aids.Steps.{run_fault_at_start, run_fault_of, script_fault_of}
use Rattle.mg_core.proofs.RunLemmas.{script_result}
use Rattle.mg_core.proofs.SplitLemmas.{last_line, no_line}
use Rattle.mg_core.proofs.ResumeLemmas.{caught_up, events_of_notes, good, no_lines, resumes_err}

-- ## How far the script was read

-- The text that was read has these complete lines, and ends with this partial line.
pub record Far (input remaining : Option (List ℕ)) (partial : List ℕ) (count : ℕ) (lines : List (List ℕ)) : Type 0 where
  pub text : List ℕ
  pub consumed : Consumes input remaining text
  pub split : (ended : Bool) (more : List ℕ) → lines_of ended (text ++ more) ≡ lines ++ lines_after ended partial more
  pub counted : count ≡ length lines

-- The text was read this far, and its lines satisfy `Old`.
abbrev pub Reaches : (Old : List (List ℕ) → Type 0) → (input remaining : Option (List ℕ)) → List ℕ → ℕ → Type 0
Reaches Old input remaining partial count =
    (lines : List (List ℕ)) × Far input remaining partial count lines × Old lines

pub reaches_start : (Old : List (List ℕ) → Type 0) (input : Option (List ℕ)) (partial : List ℕ) (count : ℕ) →
    partial ≡ [] → count ≡ 0 → Old [] → Reaches Old input input partial count
reaches_start Old input partial count none zero_is start = (
  [],
  record {
    text = [];
    consumed = Consumes-nil input;
    split = λ ended more. ap (λ (l : List ℕ). lines_after ended l more) (sym none);
    counted = zero_is;
  },
  start,
)

pub reaches_bytes : (Old New : List (List ℕ) → Type 0) (i x y : Option (List ℕ)) (partial bytes left : List ℕ)
    (n m : ℕ) → Reaches Old i x partial n → Consumes x y bytes → BytesRun n m partial bytes left [] Old New →
    Reaches New i y left m
reaches_bytes Old New i x y partial bytes left n m come eaten h =
    let (lines, p, old) = come in (
      lines ++ h.lines,
      record {
        text = p.text ++ bytes;
        consumed = Consumes-trans i x y p.text bytes p.consumed eaten;
        split = λ ended more. ap (lines_after ended []) (append_assoc p.text bytes more) ∙ p.split ended (bytes ++ more) ∙
            ap (λ (l : List (List ℕ)). lines ++ l) (h.split ended more) ∙
            sym (append_assoc lines h.lines (lines_after ended left more));
        counted = omega (arith, h.number, p.counted, length-append lines h.lines);
      },
      h.adds lines old,
    )

bad_in_bytes : (Old : List (List ℕ) → Type 0) (i x y : Option (List ℕ)) (partial bytes : List ℕ) (n k : ℕ) →
    Reaches Old i x partial n → Consumes x y bytes → BytesBad Old n partial bytes k → FindsBadLine i y k
bad_in_bytes Old i x y partial bytes n k (lines, p, old) eaten h =
    let (notes, are) = h.good lines old in
    record {
      text = p.text ++ bytes;
      ended = false;
      read = record { consumed = Consumes-trans i x y p.text bytes p.consumed eaten; at_end = λ e. absurd (cc e) };
      lines = lines ++ h.lines;
      events = events_in notes;
      are = events_of_notes (expanded false (lines ++ h.lines)) notes are;
      number_is = omega (arith, h.number_is, p.counted, length-append lines h.lines);
      bad = λ more none.
          let b = h.bad more in
          record {
            bad = b.bad;
            others = b.others;
            parts = ap (lines_after true []) (append_assoc p.text bytes more) ∙ p.split true (bytes ++ more) ∙
                ap (λ (l : List (List ℕ)). lines ++ l) b.parts ∙ sym (append_assoc lines h.lines (b.bad ∷ b.others));
            is_bad = b.is_bad lines old;
          };
    }

pub reaches_fault : (s : Bool) (base : World) (Old New : List (List ℕ) → Type 0) (Follows : List Note → Type 0)
    (i x y : Option (List ℕ)) (partial bytes left : List ℕ) (n m : ℕ) (state : CoreState) (e : LineFault) →
    Reaches Old i x partial n → Consumes x y bytes → BytesResumed s n m partial bytes left Old New (Err e) →
    AllResumed s base i y state Follows (Err (script_fault_of e))
reaches_fault s base Old New Follows i x y partial bytes left n m state (faults.Bad k) come eaten h =
    bad_in_bytes Old i x y partial bytes n k come eaten h
reaches_fault s base Old New Follows i x y partial bytes left n m state faults.Write come eaten h = h
reaches_fault s base Old New Follows i x y partial bytes left n m state faults.NoMemory come eaten h = tt

abbrev AtEnd : Option (List ℕ) → Option (List ℕ) → Type 0
AtEnd x y = Keeps x y × IsAtEnd y

read_to_end : (i x y : Option (List ℕ)) (partial : List ℕ) (n : ℕ) (lines : List (List ℕ)) → AtEnd x y →
    (p : Far i x partial n lines) → HasRead i y p.text true
read_to_end i x y partial n lines end p =
    record { consumed = Consumes-kept i x y p.text p.consumed end.0; at_end = λ e. end.1 }

split_at_end : (i x : Option (List ℕ)) (partial : List ℕ) (n : ℕ) (lines : List (List ℕ))
    (p : Far i x partial n lines) → lines_of true p.text ≡ lines ++ lines_after true partial []
split_at_end i x partial n lines p = ap (lines_after true []) (sym (append-nil p.text)) ∙ p.split true []

followed_at_end : (base : World) (Old : List (List ℕ) → Type 0) (Follows : List Note → Type 0)
    (i x y : Option (List ℕ)) (partial : List ℕ) (n : ℕ) (state : CoreState) (c : Bool) → Reaches Old i x partial n →
    AtEnd x y → Adds Old (KeepsLines base state c 0 Follows) (lines_after true partial []) →
    IsFollowed base i y state Follows
followed_at_end base Old Follows i x y partial n state c (lines, p, old) end h =
    let kept = h lines old in
    let (run, follows) = caught_up base state Follows kept.notes kept.keeps in
    record {
      script = p.text;
      read = read_to_end i x y partial n lines end p;
      notes = kept.notes;
      are = ap (λ (l : List (List ℕ)). notes_of (expanded false l)) (split_at_end i x partial n lines p) ∙ kept.are;
      run = run;
      follows = follows;
    }

bad_at_end : (Old : List (List ℕ) → Type 0) (i x y : Option (List ℕ)) (partial : List ℕ) (n k : ℕ) →
    ((lines : List (List ℕ)) → Old lines → AreGood lines) → Reaches Old i x partial n → AtEnd x y →
    StartsBad Old n (lines_after true partial []) k → FindsBadLine i y k
bad_at_end Old i x y partial n k are_good (lines, p, old) end h =
    let (notes, are) = are_good lines old in
    record {
      text = p.text;
      ended = true;
      read = read_to_end i x y partial n lines end p;
      lines = lines;
      events = events_in notes;
      are = events_of_notes (expanded false lines) notes are;
      number_is = omega (arith, h.number_is, p.counted);
      bad = λ more none. record {
        bad = h.bad;
        others = h.others;
        parts = ap (λ (l : List ℕ). lines_of true (p.text ++ l)) (none refl) ∙ p.split true [] ∙
            ap (λ (l : List (List ℕ)). lines ++ l) h.parts;
        is_bad = h.is_bad lines old;
      };
    }

pub reaches_end : (s : Bool) (base : World) (Old : List (List ℕ) → Type 0) (Follows : List Note → Type 0)
    (i x y : Option (List ℕ)) (partial : List ℕ) (n : ℕ) (state : CoreState) (c : Bool)
    (r : Result (Unit {0}) LineFault) → ((lines : List (List ℕ)) → Old lines → AreGood lines) →
    Reaches Old i x partial n → AtEnd x y → LastResumed s n partial Old (KeepsLines base state c 0 Follows) r →
    AllResumed s base i y state Follows (script_result r)
reaches_end s base Old Follows i x y partial n state c (Ok done) are_good come end h =
    followed_at_end base Old Follows i x y partial n state c come end h
reaches_end s base Old Follows i x y partial n state c (Err (faults.Bad k)) are_good come end h =
    bad_at_end Old i x y partial n k are_good come end h
reaches_end s base Old Follows i x y partial n state c (Err faults.Write) are_good come end h = h
reaches_end s base Old Follows i x y partial n state c (Err faults.NoMemory) are_good come end h = tt

-- ## The last line

last_empty : (line : List ℕ) (Old : List (List ℕ) → Type 0) → eqb (length line) 0 ≡ true →
    Adds Old Old (lines_after true line [])
last_empty [] Old e = subst (Adds Old Old) (sym no_line) (no_lines Old)
last_empty (b ∷ bs) Old e = absurd (omega (arith, eqb-true (length (b ∷ bs)) 0 e))

pub no_last_line : (line partial : List ℕ) (Old : List (List ℕ) → Type 0) → line ≡ partial →
    eqb (length line) 0 ≡ true → Adds Old Old (lines_after true partial [])
no_last_line line partial Old is e =
    subst (λ (l : List ℕ). Adds Old Old (lines_after true l [])) is (last_empty line Old e)

last_bad : (Old : List (List ℕ) → Type 0) (count b k : ℕ) (bs : List ℕ) →
    (k ≡ count + 1) × IsBadLine Old (b ∷ bs) → StartsBad Old count (lines_after true (b ∷ bs) []) k
last_bad Old count b k bs h =
    record { bad = b ∷ bs; others = []; parts = last_line b bs; is_bad = h.1; number_is = h.0 }

last_full : (s : Bool) (count : ℕ) (line : List ℕ) (Old New : List (List ℕ) → Type 0)
    (r : Result (Unit {0}) LineFault) → eqb (length line) 0 ≡ false → LineRead s (count + 1) line Old New r →
    LastResumed s count line Old New r
last_full s count [] Old New r e h = absurd (true≢false e)
last_full s count (b ∷ bs) Old New (Ok done) e h = subst (Adds Old New) (sym (last_line b bs)) h
last_full s count (b ∷ bs) Old New (Err fault) e h =
    resumes_err s (Adds Old New ((b ∷ bs) ∷ [])) (Adds Old New (lines_after true (b ∷ bs) []))
    (λ k. (k ≡ count + 1) × IsBadLine Old (b ∷ bs)) (StartsBad Old count (lines_after true (b ∷ bs) [])) fault
    (λ k bad. last_bad Old count b k bs bad) h

pub last_line_resumed : (s : Bool) (count : ℕ) (line partial : List ℕ) (Old New : List (List ℕ) → Type 0)
    (r : Result (Unit {0}) LineFault) → line ≡ partial → eqb (length line) 0 ≡ false →
    LineRead s (count + 1) line Old New r → LastResumed s count partial Old New r
last_line_resumed s count line partial Old New r is e h =
    subst (λ (l : List ℕ). LastResumed s count l Old New r) is (last_full s count line Old New r e h)

-- ## The result of a resumption

pub is_resumed : (base : World) (i y : Option (List ℕ)) (state : CoreState) (Follows : List Note → Type 0) →
    IsFollowed base i y state Follows → IsResumed base i y state
is_resumed base i y state Follows h = record {
  script = h.script;
  read = h.read;
  events = events_in h.notes;
  are = events_of_notes (journal_lines true h.script) h.notes h.are;
  sent = h.run.0;
  world = h.run.1;
  history = h.run.2;
}

pub is_followed : (base : World) (i y : Option (List ℕ)) (state : CoreState) (Starts : Type 0)
    (Follows : List Note → Type 0) → Starts → IsFollowed base i y state (λ notes. Starts → Follows notes) →
    IsFollowed base i y state Follows
is_followed base i y state Starts Follows start h = record {
  script = h.script;
  read = h.read;
  notes = h.notes;
  are = h.are;
  run = h.run;
  follows = h.follows start;
}

pub bad_line_found : {A : Type 0} (s : Bool) (base : World) (i y : Option (List ℕ)) (state : CoreState)
    (Follows : List Note → Type 0) (r : Result A RunFault) (fault : RunFault) (e : ScriptFault) →
    AllResumed s base i y state Follows (Err e) → r ≡ Err fault → fault ≡ run_fault_of e → (number : ℕ) →
    r ≡ Err (runs.Script number) → FindsBadLine i y number
bad_line_found s base i y state Follows r fault (scripts.Bad k) h failed same number is =
    subst (λ (n : ℕ). FindsBadLine i y n) (cc (failed, same, is)) h
bad_line_found s base i y state Follows r fault scripts.Read h failed same number is = absurd (cc (failed, same, is))
bad_line_found s base i y state Follows r fault scripts.Write h failed same number is = absurd (cc (failed, same, is))
bad_line_found s base i y state Follows r fault scripts.NoMemory h failed same number is =
    absurd (cc (failed, same, is))

pub follower_stopped : {A : Type 0} (s : Bool) (base : World) (i y : Option (List ℕ)) (state : CoreState)
    (Follows : List Note → Type 0) (r : Result A RunFault) (fault : RunFault) (e : ScriptFault) →
    AllResumed s base i y state Follows (Err e) → r ≡ Err fault → fault ≡ run_fault_of e → r ≡ Err runs.Write →
    s ≡ true
follower_stopped s base i y state Follows r fault (scripts.Bad k) h failed same is = absurd (cc (failed, same, is))
follower_stopped s base i y state Follows r fault scripts.Read h failed same is = absurd (cc (failed, same, is))
follower_stopped s base i y state Follows r fault scripts.Write h failed same is = h
follower_stopped s base i y state Follows r fault scripts.NoMemory h failed same is = absurd (cc (failed, same, is))

pub not_begun : {A : Type 0} (i y : Option (List ℕ)) (r : Result A RunFault) (fault : RunFault) (f : StartFault) →
    r ≡ Err fault → fault ≡ run_fault_at_start f → (number : ℕ) → r ≡ Err (runs.Script number) →
    FindsBadLine i y number
not_begun i y r fault starts.BadConfig failed same number is = absurd (cc (failed, same, is))
not_begun i y r fault starts.NoMemory failed same number is = absurd (cc (failed, same, is))

-- ## A follower that is done

pub not_err : {A E : Type 0} (r : Result A E) (X : Type 0) → is_err r ≡ false → OnOk r X → X
not_err (Ok value) X none h = h
not_err (Err e) X none h = absurd (true≢false none)

-- The text was read this far. At its end, the follower was not done.
abbrev pub Waits : {F : Type 0} → (F → Bool) → (F → List Note → Type 0) → (Old : List (List ℕ) → Type 0)
    → (input remaining : Option (List ℕ)) → List ℕ → ℕ → Type 0
Waits done Follows Old input remaining partial count =
    (r : Reaches Old input remaining partial count) × ((r.1.text ≡ []) ⊎ GoesOn done Follows r.1.text)

pub waits_start : {F : Type 0} (done : F → Bool) (Follows : F → List Note → Type 0) (Old : List (List ℕ) → Type 0)
    (input : Option (List ℕ)) (partial : List ℕ) (count : ℕ) → partial ≡ [] → count ≡ 0 → Old [] →
    Waits done Follows Old input input partial count
unfolding reaches_start
waits_start done Follows Old input partial count none zero_is start =
    (reaches_start Old input partial count none zero_is start, inl refl)

pub followed_to_end : {F : Type 0} (base : World) (Old : List (List ℕ) → Type 0) (i x y : Option (List ℕ))
    (partial : List ℕ) (n : ℕ) (state : CoreState) (c : Bool) (done : F → Bool) (Follows : F → List Note → Type 0)
    (last : F) → Waits done Follows Old i x partial n → AtEnd x y →
    Adds Old (KeepsLines base state c 0 (Follows last)) (lines_after true partial []) →
    IsFollowedUntil base i y state done Follows last
unfolding followed_at_end
followed_to_end base Old i x y partial n state c done Follows last (r, waits) end h =
    let p = r.1 in
    let f = followed_at_end base Old (Follows last) i x y partial n state c r end h in
    let same : p.text ++ [] ≡ p.text = append-nil p.text in
    record {
      front = p.text;
      piece = [];
      size = omega arith;
      goes_on = waits;
      ended = true;
      read = subst (λ (l : List ℕ). HasRead i y l true) (sym same) f.read;
      until = λ e. refl;
      notes = f.notes;
      are = ap (λ (l : List ℕ). notes_of (journal_lines true l)) same ∙ f.are;
      run = f.run;
      follows = f.follows;
    }

no_part : (partial : List ℕ) → lines_after false partial [] ≡ []
unfolding lines_after
no_part [] = refl
no_part (b ∷ bs) = rw (ne_eqb (length (b ∷ bs)) 0 (λ e. absurd (omega arith))) refl

-- The lines in a record `Far` are the complete lines of its text.
complete : (i x : Option (List ℕ)) (partial : List ℕ) (n : ℕ) (lines : List (List ℕ)) (p : Far i x partial n lines) →
    lines_of false p.text ≡ lines
complete i x partial n lines p =
    ap (lines_after false []) (sym (append-nil p.text)) ∙ p.split false []
    ∙ ap (λ (l : List (List ℕ)). lines ++ l) (no_part partial) ∙ append-nil lines

-- After all pending ticks were run, the same lines have been read, and no tick is pending.
pub ticks_run : (base : World) (old new : CoreState) (c d : Bool) (n : ℕ) (Old New : List Note → Type 0) → d ≡ c →
    ((notes : List Note) → KeepsUp base old n Old notes → KeepsUp base new 0 New notes) →
    (lines : List (List ℕ)) → KeepsLines base old c n Old lines → KeepsLines base new d 0 New lines
ticks_run base old new c d n Old New is run lines h =
    record { notes = h.notes; are = h.are; counted = is ∙ h.counted; keeps = run h.notes h.keeps }

-- One more piece of the script was read, and its ticks were run.
pub record Advances {F : Type 0} (base : World) (state : CoreState) (c : Bool) (done : F → Bool)
    (Follows : F → List Note → Type 0) (now : F) (i x y : Option (List ℕ)) (front piece left : List ℕ) (m : ℕ)
    : Type 0 where
  pub lines : List (List ℕ)
  pub far : Far i y left m lines
  pub text : far.text ≡ front ++ piece
  pub keeps : KeepsLines base state c 0 (Follows now) lines

pub advances : {F : Type 0} (base : World) (state : CoreState) (c : Bool) (done : F → Bool)
    (Follows : F → List Note → Type 0) (now : F) (Old Mid : List (List ℕ) → Type 0) (i x y : Option (List ℕ))
    (partial piece left : List ℕ) (n m : ℕ) (r : Reaches Old i x partial n) → Consumes x y piece →
    BytesRun n m partial piece left [] Old Mid →
    ((lines : List (List ℕ)) → Mid lines → KeepsLines base state c 0 (Follows now) lines) →
    Advances base state c done Follows now i x y r.1.text piece left m
unfolding reaches_bytes
advances base state c done Follows now Old Mid i x y partial piece left n m r eaten h step =
    let next = reaches_bytes Old Mid i x y partial piece left n m r eaten h in
    record { lines = next.0; far = next.1; text = refl; keeps = step next.0 next.2 }

-- In a record `Advances`, the notes in `keeps` are the notes of the complete lines of the text.
advanced_notes : {F : Type 0} (base : World) (state : CoreState) (c : Bool) (done : F → Bool)
    (Follows : F → List Note → Type 0) (now : F) (i x y : Option (List ℕ)) (front piece left : List ℕ) (m : ℕ)
    (a : Advances base state c done Follows now i x y front piece left m) →
    notes_of (journal_lines false a.far.text) ≡ Some a.keeps.notes
advanced_notes base state c done Follows now i x y front piece left m a =
    ap (λ (l : List (List ℕ)). notes_of (expanded false l)) (complete i y left m a.lines a.far) ∙ a.keeps.are

pub waits_on : {F : Type 0} (base : World) (state : CoreState) (c : Bool) (done : F → Bool)
    (Follows : F → List Note → Type 0) (now : F) (i x y : Option (List ℕ)) (front piece left : List ℕ) (m ticks : ℕ) →
    ticks ≡ 0 → done now ≡ false → Advances base state c done Follows now i x y front piece left m →
    Waits done Follows (KeepsLines base state c ticks (Follows now)) i y left m
waits_on base state c done Follows now i x y front piece left m ticks none undone a =
    let (run, follows) = caught_up base state (Follows now) a.keeps.notes a.keeps.keeps in (
      (a.lines, a.far, subst (λ (k : ℕ). KeepsLines base state c k (Follows now) a.lines) (sym none) a.keeps),
      inr (record {
        follower = now;
        notes = a.keeps.notes;
        are = advanced_notes base state c done Follows now i x y front piece left m a;
        follows = follows;
        undone = undone;
      }),
    )

pub followed_to_done : {F : Type 0} (base : World) (state : CoreState) (c : Bool) (done : F → Bool)
    (Follows : F → List Note → Type 0) (now : F) (i x y : Option (List ℕ)) (front piece left : List ℕ) (m : ℕ) →
    length piece ≤ 4096 → ((front ≡ []) ⊎ GoesOn done Follows front) → done now ≡ true →
    Advances base state c done Follows now i x y front piece left m → IsFollowedUntil base i y state done Follows now
followed_to_done base state c done Follows now i x y front piece left m short waits is_done a =
    let (run, follows) = caught_up base state (Follows now) a.keeps.notes a.keeps.keeps in
    record {
      front = front;
      piece = piece;
      size = short;
      goes_on = waits;
      ended = false;
      read = subst (λ (l : List ℕ). HasRead i y l false) a.text
          (record { consumed = a.far.consumed; at_end = λ e. absurd (cc e) });
      until = λ e. absurd (true≢false (sym is_done ∙ e));
      notes = a.keeps.notes;
      are = ap (λ (l : List ℕ). notes_of (journal_lines false l)) (sym a.text)
          ∙ advanced_notes base state c done Follows now i x y front piece left m a;
      run = run;
      follows = follows;
    }

pub is_followed_until : {F : Type 0} (base : World) (i y : Option (List ℕ)) (state : CoreState) (done : F → Bool)
    (Starts : Type 0) (Follows : F → List Note → Type 0) (last : F) → Starts →
    IsFollowedUntil base i y state done (λ f notes. Starts → Follows f notes) last →
    IsFollowedUntil base i y state done Follows last
is_followed_until base i y state done Starts Follows last start h = record {
  front = h.front;
  piece = h.piece;
  size = h.size;
  goes_on = elim h.goes_on [
    | inl none ↦ inl none
    | inr on ↦ inr (record {
      follower = on.follower;
      notes = on.notes;
      are = on.are;
      follows = on.follows start;
      undone = on.undone;
    })
  ];
  ended = h.ended;
  read = h.read;
  until = h.until;
  notes = h.notes;
  are = h.are;
  run = h.run;
  follows = h.follows start;
}
