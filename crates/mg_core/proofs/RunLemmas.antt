-- Running lines one after another, and the bytes of these lines.
use Rattle.std.proofs.Common.{◌≡◌, ◌≢◌, ℕ, ◌+◌, ◌<◌, ◌≤◌, Bool, true, false, List, [], ◌∷◌, ◌++◌, length, get_or, take, drop, Option, Some, None, Result, Ok, Err, refl, sym, ap, subst, ◌∙◌, append_assoc, length-append, arith}
use Rattle.std.proofs.lemmas.Grind.{flat_map-append}
use Rattle.std.proofs.lemmas.List.{append-nil, take_more}
use Rattle.std.specs.Prelude.{OnOk}
use Rattle.mg_words.specs.OptionSteps.{◌>>=◌}
use Rattle.std.proofs.KnownBytes.{Consumes-nil, Consumes-trans, Consumes-kept}
use Rattle.std.specs.Io.KnownBytes.{Keeps, Consumes, IsAtEnd}
use Rattle.mg_core.specs.declared.state.CoreState.{CoreState}
use Rattle.mg_core.specs.World.{World}
use Rattle.mg_core.specs.aids.Stands.{StandsFor}
use Rattle.mg_core.specs.declared.event.Event.{Event}
use Rattle.mg_core.specs.declared.line_runner.LineRunner.{LineRunner}
use Rattle.mg_core.specs.declared.shown.Shown.{Shown}
use Rattle.mg_core.specs.declared.shown.Shown.TheVariants as shows
use Rattle.mg_core.specs.declared.fault.LineFault.{LineFault}
use Rattle.mg_core.specs.declared.fault.LineFault.TheVariants as faults
use Rattle.mg_core.specs.declared.fault.ScriptFault.{ScriptFault}
use Rattle.mg_lines.specs.Lines.{without_return, lines_after, lines_of}
use Rattle.mg_core.specs.Script.{event_of, events_of, then_all}
use Rattle.mg_core.specs.Step.{Sent, Run}
use Rattle.mg_core.specs.Flows.{changes_by}
use Rattle.mg_core.specs.Run.{IsShownText, ReportsChanges, Ran, HasRead, RanBeforeMore, HasBadAfter}
use Rattle.mg_core.specs.Run.{lines_for, line_of}
use Rattle.mg_core.specs.aids.Faults.{RanAllRead}
use Rattle.mg_core.specs.aids.Steps.{Follows, LeadsOn, AllRan, LineRan, BytesRan, Finishes, RanCounted, after_sent, script_fault_of}
use Rattle.mg_lines.proofs.WriterLemmas.{appends_then, appends_keeps}
use Rattle.mg_core.proofs.LineLemmas.{no_text, same_appends, sent_both}
use Rattle.mg_core.proofs.SplitLemmas.{one_byte, line_feed, regroup, at_feed, at_last_feed, long_line, bad_later, unfinished, last_line, no_line, around}

-- ## Lines and events one after another

before_both : (e : Option Event) (l fs : List Event) → then_all e (l ++ fs) ≡ then_all e l ++ fs
before_both None l fs = refl
before_both (Some e) l fs = refl

abbrev events_are : List Event → Option (List Event)
events_are es = Some es

are_same : (a b : List Event) → events_are a ≡ events_are b → a ≡ b
are_same a b h = cc h

events_step : (o : Option (Option Event)) (p all : Option (List Event)) (es fs : List Event) →
    (o >>= λ e. p >>= λ l. Some (then_all e l)) ≡ Some es → ((l : List Event) → p ≡ Some l → all ≡ Some (l ++ fs)) →
    (o >>= λ e. all >>= λ l. Some (then_all e l)) ≡ Some (es ++ fs)
events_step None p all es fs h k = absurd (cc h)
events_step (Some e) None all es fs h k = absurd (cc h)
events_step (Some e) (Some l) all es fs h k =
    rw (k l refl) (ap events_are (before_both e l fs ∙ ap (λ (x : List Event). x ++ fs) (are_same (then_all e l) es h)))

pub events_both : (xs ys : List (List ℕ)) (es fs : List Event) → events_of xs ≡ Some es → events_of ys ≡ Some fs →
    events_of (xs ++ ys) ≡ Some (es ++ fs)
unfolding events_of
events_both [] ys es fs h k = k ∙ ap (λ (x : List Event). events_are (x ++ fs)) (are_same [] es h)
events_both (x ∷ xs) ys es fs h k = events_step (event_of x) (events_of xs) (events_of (xs ++ ys)) es fs h
    (λ l is. events_both xs ys l fs is k)

pub run_both : (w v u : World) (es fs : List Event) (a b : List Sent) → Run w es a v → Run v fs b u →
    Run w (es ++ fs) (a ++ b) u
run_both w v u [] fs a b h k = subst (λ (x : World). Run x fs (a ++ b) u) h.1
    (subst (λ (l : List Sent). Run v fs l u) (ap (λ (l : List Sent). l ++ b) (sym h.0)) k)
run_both w v u (e ∷ es) fs a b h k = (
  h.0,
  h.1 ++ b,
  h.2,
  h.3,
  run_both h.2 v u es fs h.1 b h.4 k,
  ap (λ (l : List Sent). l ++ b) h.5 ∙
      append_assoc h.0 h.1 b,
)

lines_both : (a b : List Sent) → lines_for (a ++ b) ≡ lines_for a ++ lines_for b
lines_both a b = flat_map-append line_of a b

tells_both : (w v u : World) (es fs : List Event) (s t : List ℕ) → ReportsChanges w es s v → ReportsChanges v fs t u →
    ReportsChanges w (es ++ fs) (s ++ t) u
tells_both w v u [] fs s t h k = subst (λ (x : World). ReportsChanges x fs (s ++ t) u) h.1
    (subst (λ (l : List ℕ). ReportsChanges v fs l u) (ap (λ (l : List ℕ). l ++ t) (sym h.0)) k)
tells_both w v u (e ∷ es) fs s t h k = (
  h.0,
  h.1 ++ t,
  h.2,
  h.3,
  tells_both h.2 v u es fs h.1 t h.4 k,
  ap (λ (l : List ℕ). l ++ t) h.5 ∙ append_assoc (lines_for h.0) (changes_by w h.2 ++ h.1) t ∙
      ap (λ (l : List ℕ). lines_for h.0 ++ l) (append_assoc (changes_by w h.2) h.1 t),
)

texts_both : (shown : Shown) (w v u : World) (es fs : List Event) (a b : List Sent) (s t : List ℕ) →
    IsShownText shown w es a s v → IsShownText shown v fs b t u → IsShownText shown w (es ++ fs) (a ++ b) (s ++ t) u
texts_both shows.Sent w v u es fs a b s t h k =
    ap (λ (l : List ℕ). l ++ t) h ∙ ap (λ (l : List ℕ). lines_for a ++ l) k ∙ sym (lines_both a b)
texts_both shows.SentAndFlows w v u es fs a b s t h k = tells_both w v u es fs s t h k

-- The runner's state represents the world. If changes are shown, the runner stores the world's terminations.
abbrev pub Followed : Shown → LineRunner → World → Type 0
Followed shown r w = Follows shown r.core.state r.watched w

pub on_ok : {E A B : Type 0} (r : Result (Unit {0}) E) → (A → B) → OnOk r A → OnOk r B
on_ok (Ok done) f a = f a
on_ok (Err e) f a = tt

-- The result of a whole script, given the result of its last line.
abbrev pub script_result : Result (Unit {0}) LineFault → Result (Unit {0}) ScriptFault
script_result (Ok done) = Ok tt
script_result (Err fault) = Err (script_fault_of fault)

module _ (shown : Shown) where
  ran_both : (w v u : World) (xs ys : List (List ℕ)) (a b c : Option (List ℕ)) → Ran shown w xs v a b →
      Ran shown v ys u b c →
      Ran shown w (xs ++ ys) u a c
  ran_both w v u xs ys a b c h k = record {
    events = h.events ++ k.events;
    sent = h.sent ++ k.sent;
    text = h.text ++ k.text;
    are = events_both xs ys h.events k.events h.are k.are;
    run = run_both w v u h.events k.events h.sent k.sent h.run k.run;
    is_text = texts_both shown w v u h.events k.events h.sent k.sent h.text k.text h.is_text k.is_text;
    written = appends_then a b c h.text k.text h.written k.written;
  }

  -- If the writer's content and the world stay the same, it remains true that the lines were run.
  ran_kept : (w v u : World) (xs : List (List ℕ)) (a b c : Option (List ℕ)) → Ran shown w xs v a b → Keeps b c → u ≡ v →
      Ran shown w xs u a c
  ran_kept w v u xs a b c h k same = subst (λ (x : World). Ran shown w xs x a c) (sym same)
      (record {
        events = h.events;
        sent = h.sent;
        text = h.text;
        are = h.are;
        run = h.run;
        is_text = h.is_text;
        written = appends_keeps a b c h.text h.written k;
      })

  -- The lemmas below also count the datagrams sent.

  counted_both : (w v u : World) (xs ys : List (List ℕ)) (s t z : ℕ) (a b c : Option (List ℕ)) →
      RanCounted shown w xs v s t a b → RanCounted shown v ys u t z b c → RanCounted shown w (xs ++ ys) u s z a c
  unfolding ran_both
  counted_both w v u xs ys s t z a b c h k = record {
    ran = ran_both w v u xs ys a b c h.ran k.ran;
    counted = k.counted ∙ ap (λ (n : ℕ). after_sent n k.ran.sent) h.counted ∙ sym (sent_both s h.ran.sent k.ran.sent);
  }

  counted_kept : (w v u : World) (xs : List (List ℕ)) (s t : ℕ) (a b c : Option (List ℕ)) →
      RanCounted shown w xs v s t a b →
      Keeps b c → u ≡ v → RanCounted shown w xs u s t a c
  counted_kept w v u xs s t a b c h k same =
      subst (λ (x : World). RanCounted shown w xs x s t a c) (sym same)
      (record {
        ran = record {
          events = h.ran.events;
          sent = h.ran.sent;
          text = h.ran.text;
          are = h.ran.are;
          run = h.ran.run;
          is_text = h.ran.is_text;
          written = appends_keeps a b c h.ran.text h.ran.written k;
        };
        counted = h.counted;
      })

  counted_nothing : (w : World) (s t : ℕ) (a : Option (List ℕ)) → t ≡ s → RanCounted shown w [] w s t a a
  unfolding events_of after_sent
  counted_nothing w s t a same = record {
    ran = record {
      events = [];
      sent = [];
      text = [];
      are = refl;
      run = (refl, refl);
      is_text = no_text shown w;
      written = same_appends a;
    };
    counted = same;
  }

  -- Before the first byte, no line has been run.
  pub bytes_start : (n : ℕ) (partial : List ℕ) (w : World) (s : ℕ) (a : Option (List ℕ)) →
      BytesRan shown n n partial [] partial w w s s a a (Ok tt)
  bytes_start n partial w s a = ([], λ ended more. refl, omega arith, counted_nothing w s s a refl)

  -- A byte other than a line feed ends no line.
  pub bytes_plain : (n m : ℕ) (partial front left : List ℕ) (w v : World) (s t : ℕ) (a b : Option (List ℕ)) (x : ℕ) →
      x ≢ 10 → BytesRan shown n m partial front left w v s t a b (Ok tt) →
      BytesRan shown n m partial (front ++ x ∷ []) (left ++ x ∷ []) w v s t a b (Ok tt)
  bytes_plain n m partial front left w v s t a b x ne h = (
    h.0,
    λ ended more. ap (lines_after ended partial) (regroup front x more) ∙ h.1 ended (x ∷ more) ∙
        ap (λ (l : List (List ℕ)). h.0 ++ l) (one_byte ended x left more ne),
    h.2,
    h.3,
  )

  -- If a line feed ends a line, and the line was run, one more line of the bytes was run.
  pub bytes_line : (n m : ℕ) (partial front left : List ℕ) (w v u : World) (s t z : ℕ) (a b c : Option (List ℕ))
      (number : ℕ) → BytesRan shown n m partial front left w v s t a b (Ok tt) →
      LineRan shown number (without_return left) v u t z b c (Ok tt) →
      BytesRan shown n (m + 1) partial (front ++ 10 ∷ []) [] w u s z a c (Ok tt)
  bytes_line n m partial front left w v u s t z a b c number h k =
      let line = without_return left in
      let next : (ended : Bool) (more : List ℕ) →
      lines_after ended partial ((front ++ 10 ∷ []) ++ more) ≡ (h.0 ++ line ∷ []) ++ lines_after ended [] more =
      λ ended more. ap (lines_after ended partial) (regroup front 10 more) ∙ h.1 ended (10 ∷ more) ∙
      ap (λ (l : List (List ℕ)). h.0 ++ l) (line_feed ended left more) ∙
      sym (append_assoc h.0 (line ∷ []) (lines_after ended [] more)) in (
        h.0 ++ line ∷ [],
        next,
        omega (arith, length-append h.0 (line ∷ []), h.2),
        counted_both w v u h.0 (line ∷ []) s t z a b c h.3 k,
      )

  -- If a line feed ends a line, and running the line failed, the run of the bytes stops with the same fault.
  pub bytes_stop : (n m p : ℕ) (partial front left back other : List ℕ) (w v u : World) (s t z : ℕ)
      (a b c : Option (List ℕ)) (e : LineFault) → BytesRan shown n m partial front left w v s t a b (Ok tt) →
      LineRan shown (m + 1) (without_return left) v u t z b c (Err e) →
      BytesRan shown n p partial (front ++ (10 ∷ back)) other w u s z a c (Err e)
  bytes_stop n m p partial front left back other w v u s t z a b c (faults.Bad k) h l = (
    h.0,
    λ more. record {
      bad = without_return left;
      others = lines_after true [] (back ++ more);
      parts = at_feed true partial front left back more h.0 h.1;
      is_bad = l.1;
    },
    omega (arith, l.0, h.2),
    ran_kept w v u h.0 a b c h.3.ran l.2 l.3,
  )
  bytes_stop n m p partial front left back other w v u s t z a b c faults.Write h l = (
    h.0,
    without_return left,
    lines_after false [] back,
    at_last_feed partial front left back h.0 h.1,
    v,
    b,
    h.3.ran,
    l,
  )
  bytes_stop n m p partial front left back other w v u s t z a b c faults.NoMemory h l = (
    h.0,
    without_return left,
    lines_after false [] back,
    at_last_feed partial front left back h.0 h.1,
    ran_kept w v u h.0 a b c h.3.ran l.0 l.1,
  )

  -- If one more byte makes the line too long, the line is bad.
  pub bytes_long : (n m p : ℕ) (partial front left back other : List ℕ) (w v : World) (s t z : ℕ) (a b : Option (List ℕ))
      (x : ℕ) → x ≢ 10 → 140001 ≤ length left → BytesRan shown n m partial front left w v s t a b (Ok tt) →
      BytesRan shown n p partial (front ++ (x ∷ back)) other w v s z a b (Err (faults.Bad (m + 1)))
  bytes_long n m p partial front left back other w v s t z a b x ne le h =
      let long : (more : List ℕ) → HasBadAfter [] (lines_after true (left ++ x ∷ []) (back ++ more)) =
      λ more. long_line (left ++ x ∷ []) (back ++ more) (omega (arith, length-append left (x ∷ []))) in
      let split : (more : List ℕ) → lines_after true partial ((front ++ (x ∷ back)) ++ more) ≡ h.0 ++
      lines_after true (left ++ x ∷ []) (back ++ more) =
      λ more. ap (lines_after true partial) (append_assoc front (x ∷ back) more) ∙ h.1 true (x ∷ (back ++ more)) ∙
      ap (λ (l : List (List ℕ)). h.0 ++ l) (one_byte true x left (back ++ more) ne) in (
        h.0,
        λ more. record {
          bad = (long more).bad;
          others = (long more).others;
          parts = split more ∙
              ap (λ (l : List (List ℕ)). h.0 ++ l) (long more).parts;
          is_bad = (long more).is_bad;
        },
        omega (arith, h.2),
        h.3.ran,
      )

  -- How far a script was run. The complete lines of the text that was read were run on a gateway that began in the
  -- world `base`, and the text ends with this partial line.
  pub record Progress (base : World) (input remaining : Option (List ℕ)) (partial : List ℕ) (count : ℕ) (now : World)
      (sent : ℕ) (old new : Option (List ℕ)) : Type 0 where
    pub text : List ℕ
    pub consumed : Consumes input remaining text
    pub lines : List (List ℕ)
    pub split : (ended : Bool) (more : List ℕ) → lines_of ended (text ++ more) ≡ lines ++ lines_after ended partial more
    pub counted : count ≡ length lines
    pub ran : RanCounted shown base lines now 0 sent old new

  pub progress_start : (base : World) (input : Option (List ℕ)) (partial : List ℕ) (count s : ℕ) (a : Option (List ℕ))
      → partial ≡ [] → count ≡ 0 → s ≡ 0 → Progress base input input partial count base s a a
  progress_start base input partial count s a none zero_is unsent =
      record {
        text = [];
        consumed = Consumes-nil input;
        lines = [];
        split = λ ended more. ap (λ (l : List ℕ). lines_after ended l more) (sym none);
        counted = zero_is;
        ran = counted_nothing base 0 s a unsent;
      }

  pub progress_bytes : (base : World) (i x y : Option (List ℕ)) (partial bytes left : List ℕ) (n m : ℕ) (v u : World)
      (s t : ℕ) (a b c : Option (List ℕ)) → Progress base i x partial n v s a b → Consumes x y bytes →
      BytesRan shown n m partial bytes left v u s t b c (Ok tt) → Progress base i y left m u t a c
  progress_bytes base i x y partial bytes left n m v u s t a b c p eaten h = record {
    text = p.text ++ bytes;
    consumed = Consumes-trans i x y p.text bytes p.consumed eaten;
    lines = p.lines ++ h.0;
    split = λ ended more. ap (lines_after ended []) (append_assoc p.text bytes more) ∙ p.split ended (bytes ++ more) ∙
        ap (λ (l : List (List ℕ)). p.lines ++ l) (h.1 ended more) ∙
        sym (append_assoc p.lines h.0 (lines_after ended left more));
    counted = omega (arith, h.2, p.counted, length-append p.lines h.0);
    ran = counted_both base v u p.lines h.0 0 s t a b c p.ran h.3;
  }

  -- If the input ends here, the partial line is its last line.
  split_at_end : (base : World) (i x : Option (List ℕ)) (partial : List ℕ) (n : ℕ) (v : World) (s : ℕ)
      (a b : Option (List ℕ)) (ended : Bool) (p : Progress base i x partial n v s a b) →
      lines_of ended p.text ≡ p.lines ++ lines_after ended partial []
  split_at_end base i x partial n v s a b ended p = ap (lines_after ended []) (sym (append-nil p.text)) ∙ p.split ended
      []

  -- The lines that were run are the complete lines of the text that was read.
  all_run : (base : World) (i x : Option (List ℕ)) (partial : List ℕ) (n : ℕ) (v : World) (s : ℕ)
      (a b : Option (List ℕ)) (p : Progress base i x partial n v s a b) → lines_of false p.text ≡ p.lines
  all_run base i x partial n v s a b p = split_at_end base i x partial n v s a b false p ∙
      ap (λ (l : List (List ℕ)). p.lines ++ l) (unfinished partial) ∙ append-nil p.lines

  not_ended : {A : Type 0} → false ≡ true → A
  not_ended e = absurd (cc e)

  -- The lines that were run include all those that were complete before the last bytes were read.
  run_in_bytes : (base : World) (i x : Option (List ℕ)) (partial bytes : List ℕ) (n : ℕ) (v : World) (s : ℕ)
      (a b : Option (List ℕ)) (lines : List (List ℕ)) → length bytes ≤ 4096 →
      (p : Progress base i x partial n v s a b) → RanBeforeMore (p.text ++ bytes) false (p.lines ++ lines)
  run_in_bytes base i x partial bytes n v s a b lines few p = record {
    before = p.text;
    given = bytes;
    parts = refl;
    size = few;
    end_alone = not_ended;
    later = lines;
    lines_are = ap (λ (l : List (List ℕ)). l ++ lines) (sym (all_run base i x partial n v s a b p));
  }

  -- A line in the last bytes follows the lines that were run.
  line_in_bytes : (base : World) (i x : Option (List ℕ)) (partial bytes line : List ℕ) (n : ℕ) (v : World) (s : ℕ)
      (a b : Option (List ℕ)) (lines others : List (List ℕ)) → lines_after false partial bytes ≡ lines ++ line ∷ others →
      (p : Progress base i x partial n v s a b) → lines_of false (p.text ++ bytes) ≡ (p.lines ++ lines) ++ line ∷ others
  line_in_bytes base i x partial bytes line n v s a b lines others is p = p.split false bytes ∙
      ap (λ (l : List (List ℕ)). p.lines ++ l) is ∙ sym (append_assoc p.lines lines (line ∷ others))

  pub progress_fault : (base : World) (i x y : Option (List ℕ)) (partial bytes left : List ℕ) (n m : ℕ)
      (state : CoreState) (v u : World) (s t : ℕ) (a b c : Option (List ℕ)) (e : LineFault) →
      Progress base i x partial n v s a b → Consumes x y bytes → length bytes ≤ 4096 →
      BytesRan shown n m partial bytes left v u s t b c (Err e) → AllRan base shown i y state m t a c
      (Err (script_fault_of e))
  progress_fault base i x y partial bytes left n m state v u s t a b c (faults.Bad k) p eaten few h = record {
    text = p.text ++ bytes;
    ended = false;
    read = record { consumed = Consumes-trans i x y p.text bytes p.consumed eaten; at_end = not_ended };
    lines = p.lines ++ h.0;
    before_more = run_in_bytes base i x partial bytes n v s a b h.0 few p;
    bad = λ more none. bad_later p.lines h.0 (lines_after true partial (bytes ++ more))
        (lines_of true ((p.text ++ bytes) ++ more))
        (ap (lines_after true []) (append_assoc p.text bytes more) ∙ p.split true (bytes ++ more)) (h.1 more);
    number_is = omega (arith, h.2, p.counted, length-append p.lines h.0);
    last = u;
    ran = ran_both base v u p.lines h.0 a b c p.ran.ran h.3;
  }
  progress_fault base i x y partial bytes left n m state v u s t a b c faults.Write p eaten few h = record {
    line = h.1;
    now = h.4;
    held = h.5;
    up_to = record {
      text = p.text ++ bytes;
      ended = false;
      read = record { consumed = Consumes-trans i x y p.text bytes p.consumed eaten; at_end = not_ended };
      lines = p.lines ++ h.0;
      before_more = run_in_bytes base i x partial bytes n v s a b h.0 few p;
      others = h.2;
      line_is = line_in_bytes base i x partial bytes h.1 n v s a b h.0 h.2 h.3 p;
      ran = ran_both base v h.4 p.lines h.0 a b h.5 p.ran.ran h.6;
    };
    last = u;
    cut = h.7;
  }
  progress_fault base i x y partial bytes left n m state v u s t a b c faults.NoMemory p eaten few h = record {
    line = h.1;
    now = u;
    up_to = record {
      text = p.text ++ bytes;
      ended = false;
      read = record { consumed = Consumes-trans i x y p.text bytes p.consumed eaten; at_end = not_ended };
      lines = p.lines ++ h.0;
      before_more = run_in_bytes base i x partial bytes n v s a b h.0 few p;
      others = h.2;
      line_is = line_in_bytes base i x partial bytes h.1 n v s a b h.0 h.2 h.3 p;
      ran = ran_both base v u p.lines h.0 a b c p.ran.ran h.4;
    };
  }

  -- Reading failed, after all complete lines of the text were run.
  pub progress_unread : (base : World) (i x y : Option (List ℕ)) (partial : List ℕ) (n : ℕ) (v : World) (s : ℕ)
      (a b : Option (List ℕ)) → Progress base i x partial n v s a b → Keeps x y → RanAllRead base shown i y a b
  progress_unread base i x y partial n v s a b p same = record {
    text = p.text;
    read = record { consumed = Consumes-kept i x y p.text p.consumed same; at_end = not_ended };
    last = v;
    ran = subst (λ (l : List (List ℕ)). Ran shown base l v a b)
        (sym (all_run base i x partial n v s a b p))
        p.ran.ran;
  }

  abbrev AtEnd : Option (List ℕ) → Option (List ℕ) → Type 0
  AtEnd x y = Keeps x y × IsAtEnd y

  read_to_end : (base : World) (i x y : Option (List ℕ)) (partial : List ℕ) (n : ℕ) (v : World) (s : ℕ)
      (a b : Option (List ℕ)) → AtEnd x y → (p : Progress base i x partial n v s a b) → HasRead i y p.text true
  read_to_end base i x y partial n v s a b end p =
      record { consumed = Consumes-kept i x y p.text p.consumed end.0; at_end = λ e. end.1 }

  run_to_end : (base : World) (i x : Option (List ℕ)) (partial : List ℕ) (n : ℕ) (v : World) (s : ℕ)
      (a b : Option (List ℕ)) (p : Progress base i x partial n v s a b) → RanBeforeMore p.text true p.lines
  run_to_end base i x partial n v s a b p = record {
    before = p.text;
    given = [];
    parts = sym (append-nil p.text);
    size = omega arith;
    end_alone = λ e. refl;
    later = [];
    lines_are = sym (append-nil (lines_of false p.text) ∙ all_run base i x partial n v s a b p);
  }

  last_of : (base : World) (i x : Option (List ℕ)) (k : ℕ) (ks : List ℕ) (n : ℕ) (v : World) (s : ℕ)
      (a b : Option (List ℕ)) (p : Progress base i x (k ∷ ks) n v s a b) →
      lines_of true p.text ≡ p.lines ++ (k ∷ ks) ∷ []
  last_of base i x k ks n v s a b p = split_at_end base i x (k ∷ ks) n v s a b true p ∙
      ap (λ (l : List (List ℕ)). p.lines ++ l) (last_line k ks)

  line_end : (base : World) (i x y : Option (List ℕ)) (k : ℕ) (ks : List ℕ) (n m : ℕ) (state : CoreState)
      (v u : World) (s t : ℕ) (a b c : Option (List ℕ)) (r : Result (Unit {0}) LineFault) →
      Progress base i x (k ∷ ks) n v s a b → AtEnd x y → OnOk r (StandsFor state u) →
      LineRan shown (n + 1) (k ∷ ks) v u s t b c r →
      OnOk r (m ≡ n + 1) → AllRan base shown i y state m t a c (script_result r)
  line_end base i x y k ks n m state v u s t a b c (Ok done) p end stands h more =
      let split = last_of base i x k ks n v s a b p in (
        p.text,
        read_to_end base i x y (k ∷ ks) n v s a b end p,
        record {
          last = u;
          ran = subst (λ (l : List (List ℕ)). RanCounted shown base l u 0 t a c) (sym split)
              (counted_both base v u p.lines ((k ∷ ks) ∷ []) 0 s t a b c p.ran h);
          stands = stands;
          lines = omega (arith, more, p.counted, length-append p.lines ((k ∷ ks) ∷ [])) ∙ ap length (sym split);
        },
      )
  line_end base i x y k ks n m state v u s t a b c (Err (faults.Bad number)) p end stands h more = record {
    text = p.text;
    ended = true;
    read = read_to_end base i x y (k ∷ ks) n v s a b end p;
    lines = p.lines;
    before_more = run_to_end base i x (k ∷ ks) n v s a b p;
    bad = λ more none. record {
      bad = k ∷ ks;
      others = [];
      parts = ap (λ (l : List ℕ). lines_of true (p.text ++ l)) (none refl) ∙ p.split true [] ∙
          ap (λ (l : List (List ℕ)). p.lines ++ l) (last_line k ks);
      is_bad = h.1;
    };
    number_is = omega (arith, h.0, p.counted);
    last = u;
    ran = ran_kept base v u p.lines a b c p.ran.ran h.2 h.3;
  }
  line_end base i x y k ks n m state v u s t a b c (Err faults.Write) p end stands h more = record {
    line = k ∷ ks;
    now = v;
    held = b;
    up_to = record {
      text = p.text;
      ended = true;
      read = read_to_end base i x y (k ∷ ks) n v s a b end p;
      lines = p.lines;
      before_more = run_to_end base i x (k ∷ ks) n v s a b p;
      others = [];
      line_is = last_of base i x k ks n v s a b p;
      ran = p.ran.ran;
    };
    last = u;
    cut = h;
  }
  line_end base i x y k ks n m state v u s t a b c (Err faults.NoMemory) p end stands h more = record {
    line = k ∷ ks;
    now = u;
    up_to = record {
      text = p.text;
      ended = true;
      read = read_to_end base i x y (k ∷ ks) n v s a b end p;
      lines = p.lines;
      before_more = run_to_end base i x (k ∷ ks) n v s a b p;
      others = [];
      line_is = last_of base i x k ks n v s a b p;
      ran = ran_kept base v u p.lines a b c p.ran.ran h.0 h.1;
    };
  }

  pub progress_end : (base : World) (i x y : Option (List ℕ)) (partial : List ℕ) (n m : ℕ) (state : CoreState)
      (v u : World) (s t : ℕ) (a b c : Option (List ℕ)) (r : Result (Unit {0}) LineFault) →
      Progress base i x partial n v s a b → AtEnd x y → OnOk r (StandsFor state u) →
      Finishes shown n m partial v u s t b c r →
      AllRan base shown i y state m t a c (script_result r)
  progress_end base i x y [] n m state v u s t a b c r p end stands h =
      let all = split_at_end base i x [] n v s a b true p ∙ ap (λ (l : List (List ℕ)). p.lines ++ l) no_line ∙
      append-nil p.lines in
      rw h.0 (
        p.text,
        read_to_end base i x y [] n v s a b end p,
        record {
          last = u;
          ran = subst (λ (n : ℕ). RanCounted shown base (lines_of true p.text) u 0 n a c) (sym h.4)
              (subst (λ (l : List (List ℕ)). RanCounted shown base l u 0 s a c) (sym all)
              (counted_kept base v u p.lines 0 s a b c p.ran h.1 h.2));
          stands = subst (λ (o : Result (Unit {0}) LineFault). OnOk o (StandsFor state u)) h.0 stands;
          lines = h.3 ∙ p.counted ∙ ap length (sym all);
        },
      )
  progress_end base i x y (k ∷ ks) n m state v u s t a b c r p end stands h =
      line_end base i x y k ks n m state v u s t a b c r p end stands h.0 h.1

  -- The steps below use the index of a byte.

  -- The effect of a call on a runner, in terms of the worlds that the runner follows.
  abbrev pub Leaves : LineRunner → LineRunner → Result (Unit {0}) LineFault → (World → World → Type 0) → Type 0
  Leaves old new r Comes = LeadsOn (Followed shown old) (Followed shown new) r Comes

  -- The complete lines in the first bytes were run, from each world that the runner followed on entry.
  abbrev pub HasRun : ℕ → ℕ → List ℕ → List ℕ → List ℕ → LineRunner → LineRunner → ℕ → ℕ → Option (List ℕ) →
      Option (List ℕ) → Result (Unit {0}) LineFault → Type 0
  HasRun n m partial bytes left entered kept s t a b r =
      Leaves entered kept r (λ w now. BytesRan shown n m partial bytes left w now s t a b r)

  pub index_start : (n : ℕ) (partial : List ℕ) (kept : LineRunner) (s : ℕ) (a : Option (List ℕ)) →
      HasRun n n partial [] partial kept kept s s a a (Ok tt)
  index_start n partial kept s a w h = (w, bytes_start n partial w s a, h)

  pub index_plain : (n m : ℕ) (partial bytes left : List ℕ) (entered kept : LineRunner) (s t : ℕ) (a b : Option (List ℕ))
      (i : ℕ) → i < length bytes → get_or bytes i 0 ≢ 10 →
      HasRun n m partial (take i bytes) left entered kept s t a b (Ok tt) →
      HasRun n m partial (take (i + 1) bytes) (left ++ get_or bytes i 0 ∷ []) entered kept s t a b (Ok tt)
  index_plain n m partial bytes left entered kept s t a b i lt ne inside w h =
      let (now, ran, stands) = inside w h in (
        now,
        subst (λ (l : List ℕ). BytesRan shown n m partial l (left ++ get_or bytes i 0 ∷ []) w now s t a b (Ok tt))
            (sym (take_more bytes i 0 lt)) (bytes_plain n m partial (take i bytes) left w now s t a b (get_or bytes i 0)
            ne
            ran),
        stands,
      )

  pub index_line : (n m : ℕ) (partial bytes left : List ℕ) (entered kept new : LineRunner) (s t z : ℕ)
      (a b c : Option (List ℕ)) (i number : ℕ) → i < length bytes → get_or bytes i 0 ≡ 10 →
      HasRun n m partial (take i bytes) left entered kept s t a b (Ok tt) →
      Leaves kept new (Ok tt) (λ w after. LineRan shown number (without_return left) w after t z b c (Ok tt)) →
      HasRun n (m + 1) partial (take (i + 1) bytes) [] entered new s z a c (Ok tt)
  index_line n m partial bytes left entered kept new s t z a b c i number lt feed inside step w h =
      let (now, ran, stands) = inside w h in
      let (after, line, last) = step now stands in (
        after,
        subst (λ (l : List ℕ). BytesRan shown n (m + 1) partial l [] w after s z a c (Ok tt))
            (sym (take_more bytes i 0 lt ∙ ap (λ (x : ℕ). take i bytes ++ x ∷ []) feed))
            (bytes_line n m partial (take i bytes) left w now after s t z a b c number ran line),
        last,
      )

  pub index_stop : (n m p : ℕ) (partial bytes left other : List ℕ) (entered kept new : LineRunner) (s t z : ℕ)
      (a b c : Option (List ℕ)) (i : ℕ) (e : LineFault) → i < length bytes → get_or bytes i 0 ≡ 10 →
      HasRun n m partial (take i bytes) left entered kept s t a b (Ok tt) →
      Leaves kept new (Err e) (λ w after. LineRan shown (m + 1) (without_return left) w after t z b c (Err e)) →
      HasRun n p partial bytes other entered new s z a c (Err e)
  index_stop n m p partial bytes left other entered kept new s t z a b c i e lt feed inside step w h =
      let (now, ran, stands) = inside w h in
      let (after, line, last) = step now stands in (
        after,
        subst (λ (l : List ℕ). BytesRan shown n p partial l other w after s z a c (Err e))
            (ap (λ (x : ℕ). take i bytes ++ (x ∷ drop (i + 1) bytes)) (sym feed) ∙ around bytes i lt)
            (bytes_stop n m p partial (take i bytes) left (drop (i + 1) bytes) other w now after s t z a b c e ran line),
        last,
      )

  pub index_long : (n m p : ℕ) (partial bytes left other : List ℕ) (entered kept : LineRunner) (s t z : ℕ)
      (a b : Option (List ℕ)) (i : ℕ) → i < length bytes → get_or bytes i 0 ≢ 10 → 140001 ≤ length left →
      HasRun n m partial (take i bytes) left entered kept s t a b (Ok tt) →
      HasRun n p partial bytes other entered kept s z a b (Err (faults.Bad (m + 1)))
  index_long n m p partial bytes left other entered kept s t z a b i lt ne long inside w h =
      let (now, ran, stands) = inside w h in (
        now,
        subst (λ (l : List ℕ). BytesRan shown n p partial l other w now s z a b (Err (faults.Bad (m + 1))))
            (around bytes i lt) (bytes_long n m p partial (take i bytes) left (drop (i + 1) bytes) other w now s t z a b
            (get_or bytes i 0) ne long ran),
        tt,
      )

  -- ## The progress of a runner

  -- The script was run this far, and the runner follows the resulting world.
  abbrev pub Comes : World → Option (List ℕ) → Option (List ℕ) → List ℕ → ℕ → LineRunner → ℕ → Option (List ℕ) →
      Option (List ℕ) → Type 0
  Comes base input remaining partial count kept s old new = (now : World) ×
      Progress base input remaining partial count now s old new × Followed shown kept now

  pub comes_start : (base : World) (input : Option (List ℕ)) (partial : List ℕ) (count : ℕ) (kept : LineRunner) (s : ℕ)
      (a : Option (List ℕ)) → partial ≡ [] → count ≡ 0 → s ≡ 0 → Followed shown kept base →
      Comes base input input partial count kept s a a
  comes_start base input partial count kept s a none zero_is unsent stands =
      (base, progress_start base input partial count s a none zero_is unsent, stands)

  pub comes_bytes : (base : World) (i x y : Option (List ℕ)) (partial bytes left : List ℕ) (n m : ℕ)
      (kept new : LineRunner) (s t : ℕ) (a b c : Option (List ℕ)) → Comes base i x partial n kept s a b →
      Consumes x y bytes → HasRun n m partial bytes left kept new s t b c (Ok tt) → Comes base i y left m new t a c
  comes_bytes base i x y partial bytes left n m kept new s t a b c come eaten step =
      let (now, p, stands) = come in
      let (after, h, last) = step now stands in
      (after, progress_bytes base i x y partial bytes left n m now after s t a b c p eaten h, last)

  pub comes_unread : (base : World) (i x y : Option (List ℕ)) (partial : List ℕ) (n : ℕ) (kept : LineRunner) (s : ℕ)
      (a b : Option (List ℕ)) → Comes base i x partial n kept s a b → Keeps x y → RanAllRead base shown i y a b
  comes_unread base i x y partial n kept s a b come same =
      let (now, p, stands) = come in
      progress_unread base i x y partial n now s a b p same

  pub comes_fault : (base : World) (i x y : Option (List ℕ)) (partial bytes left : List ℕ) (n m : ℕ)
      (kept new : LineRunner) (s t : ℕ) (a b c : Option (List ℕ)) (e : LineFault) →
      Comes base i x partial n kept s a b →
      Consumes x y bytes → length bytes ≤ 4096 → HasRun n m partial bytes left kept new s t b c (Err e) →
      AllRan base shown i y new.core.state m t a c (Err (script_fault_of e))
  comes_fault base i x y partial bytes left n m kept new s t a b c e come eaten few step =
      let (now, p, stands) = come in
      let (next, h, last) = step now stands in
      progress_fault base i x y partial bytes left n m new.core.state now next s t a b c e p eaten few h

  pub comes_end : (base : World) (i x y : Option (List ℕ)) (partial : List ℕ) (n m : ℕ) (kept new : LineRunner)
      (s t : ℕ) (a b c : Option (List ℕ)) (r : Result (Unit {0}) LineFault) → Comes base i x partial n kept s a b →
      Keeps x y × IsAtEnd y → Leaves kept new r (λ w next. Finishes shown n m partial w next s t b c r) →
      AllRan base shown i y new.core.state m t a c (script_result r)
  comes_end base i x y partial n m kept new s t a b c r come end step =
      let (now, p, stands) = come in
      let (next, h, last) = step now stands in
      progress_end base i x y partial n m new.core.state now next s t a b c r p end
      (on_ok r (λ (f : Followed shown new next). f.stands) last) h
