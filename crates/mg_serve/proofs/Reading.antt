-- Lines, the bytes of these lines, and the progress of a session.
use Rattle.std.proofs.Common.{◌≡◌, ◌≢◌, ℕ, ◌-◌, ◌<◌, ◌≤◌, Bool, true, false, cond, eqb, List, [], ◌∷◌, ◌++◌, length, map, take, Result, Ok, Err, refl, sym, ap, ◌∙◌, append_assoc, length-take, arith, true≢false}
use Rattle.std.proofs.lemmas.List.{map-append, take-append-le, take_all, take_at, length-take-le}
use Rattle.std.proofs.lemmas.Bool.{ne_eqb, ltb-true, ltb-false, false_from_ne_true}
use Rattle.std.proofs.lemmas.Slice.Eq.{bytes_eq-Decides}
use Rattle.std.proofs.Math.Dec.{ltb}
use Rattle.std.specs.Str.{bytes_eq}
use Rattle.std.specs.Prelude.{slice_index, codes}
use Rattle.mg_serve.specs.Setup.{Setup}
use Rattle.mg_core.specs.World.{World}
use Rattle.mg_lines.specs.declared.write_failed.WriteFailed.{WriteFailed}
use Rattle.mg_serve.specs.declared.command.Command.{Command}
use Rattle.mg_serve.specs.declared.command.Command.TheVariants.{Poll, Tick, Stats, Quit, Unknown}
use Rattle.mg_lines.specs.Lines.{without_return, lines_after}
use Rattle.mg_serve.specs.Lines.{line_command, is_quit, prints, before_quit}
use Rattle.mg_serve.specs.declared.form.Form.{Form}
use Rattle.mg_serve.specs.Session.{Performs, Session}
use Rattle.mg_serve.specs.Trace.{TraceEntry}
use Rattle.mg_serve.specs.aids.Driving.{BytesTaken}
use Rattle.mg_serve.proofs.Taking.{each_both, each_one}

-- ## The first 8 bytes of a line

not_command : (line : List ℕ) → 5 < length line → line_command line ≡ Unknown
not_command line long =
    rw (
      false_from_ne_true (bytes_eq line (codes "poll"))
          (λ t. absurd (omega (arith, long, ap length ((bytes_eq-Decides line (codes "poll")).0 t)))),
      false_from_ne_true (bytes_eq line (codes "tick"))
          (λ t. absurd (omega (arith, long, ap length ((bytes_eq-Decides line (codes "tick")).0 t)))),
      false_from_ne_true (bytes_eq line (codes "stats"))
          (λ t. absurd (omega (arith, long, ap length ((bytes_eq-Decides line (codes "stats")).0 t)))),
      false_from_ne_true (bytes_eq line (codes "quit"))
          (λ t. absurd (omega (arith, long, ap length ((bytes_eq-Decides line (codes "quit")).0 t)))),
    ) refl

-- Truncating a line to 8 bytes does not change the command that the line denotes.
cut_by : (long : Bool) (line : List ℕ) → ltb 8 (length line) ≡ long → line_command (take 8 line) ≡ line_command line
cut_by true line is = not_command (take 8 line) (omega (arith, length-take 8 line, ltb-true 8 (length line) is)) ∙
    sym (not_command line (omega (arith, ltb-true 8 (length line) is)))
cut_by false line is = ap line_command (take_all 8 line (ltb-false 8 (length line) is))

pub cut_command : (line : List ℕ) → line_command (take 8 line) ≡ line_command line
cut_command line = cut_by (ltb 8 (length line)) line refl

return_long : (t : Bool) (line : List ℕ) → 7 < length line → 5 < length (cond t (take (length line - 1) line) line)
return_long true line long = omega (arith, long, length-take (length line - 1) line)
return_long false line long = omega (arith, long)

long_unknown : (line : List ℕ) → 7 < length line → line_command (without_return line) ≡ Unknown
long_unknown line long = not_command (without_return line)
    (return_long (eqb (slice_index line (length line - 1)) 13) line long)

cut_return_by : (long : Bool) (line : List ℕ) → ltb 8 (length line) ≡ long →
    line_command (without_return (take 8 line)) ≡ line_command (without_return line)
cut_return_by true line is = long_unknown (take 8 line)
    (omega (arith, length-take 8 line, ltb-true 8 (length line) is)) ∙
    sym (long_unknown line (omega (arith, ltb-true 8 (length line) is)))
cut_return_by false line is = ap (λ (l : List ℕ). line_command (without_return l))
    (take_all 8 line (ltb-false 8 (length line) is))

pub cut_return : (line : List ℕ) → line_command (without_return (take 8 line)) ≡ line_command (without_return line)
cut_return line = cut_return_by (ltb 8 (length line)) line refl

cut_push_by : (long : Bool) (line : List ℕ) (b : ℕ) → ltb 8 (length line) ≡ long →
    take 8 (take 8 line ++ b ∷ []) ≡ take 8 (line ++ b ∷ [])
cut_push_by true line b is =
    let le : 8 ≤ length line = omega (arith, ltb-true 8 (length line) is) in
    take_at (take 8 line) (b ∷ []) 8 (length-take-le 8 line le) ∙ sym (take-append-le 8 line (b ∷ []) le)
cut_push_by false line b is = ap (λ (l : List ℕ). take 8 (l ++ b ∷ [])) (take_all 8 line (ltb-false 8 (length line) is))

cut_push : (line : List ℕ) (b : ℕ) → take 8 (take 8 line ++ b ∷ []) ≡ take 8 (line ++ b ∷ [])
cut_push line b = cut_push_by (ltb 8 (length line)) line b refl

-- ## The next byte

one_byte : (ended : Bool) (x : ℕ) (partial bytes : List ℕ) → x ≢ 10 →
    lines_after ended partial (x ∷ bytes) ≡ lines_after ended (partial ++ x ∷ []) bytes
unfolding lines_after
one_byte ended x partial bytes ne = rw (ne_eqb x 10 ne) refl

line_feed : (ended : Bool) (partial bytes : List ℕ) →
    lines_after ended partial (10 ∷ bytes) ≡ without_return partial ∷ lines_after ended [] bytes
unfolding lines_after
line_feed ended partial bytes = refl

pub first_line : (q : Bool) (line : List ℕ) (lines : List (List ℕ)) → is_quit (line_command line) ≡ q →
    before_quit (line ∷ lines) ≡ cond q [] (line ∷ before_quit lines)
unfolding before_quit
first_line q line lines is = rw is refl

pub quit_idle : (setup : Setup) (command : Command) (w next : World) (p : List TraceEntry) → is_quit command ≡ true →
    Performs setup command w p next → (p ≡ []) × (next ≡ w)
quit_idle setup Poll w next p is h = absurd cc
quit_idle setup (Tick timing) w next p is h = absurd cc
quit_idle setup Stats w next p is h = absurd cc
quit_idle setup Quit w next p is h = h
quit_idle setup Unknown w next p is h = absurd cc

-- A byte other than a line feed ends no line.
pub plain_byte : (form : Form) (setup : Setup) (left : List ℕ) (b : ℕ) (w : World) → b ≢ 10 →
    BytesTaken form setup left (b ∷ []) (take 8 (take 8 left ++ b ∷ [])) (Ok false) w [] w
plain_byte form setup left b w ne = (
  [],
  left ++ b ∷ [],
  cut_push left b,
  λ ended more. ap before_quit (one_byte ended b left more ne),
  (refl, refl),
)

-- A line feed ends a line. If this line is `quit`, no line is left to execute.
feed_split : (q ended : Bool) (left more : List ℕ) → is_quit (line_command (without_return left)) ≡ q →
    before_quit (lines_after ended left (10 ∷ more)) ≡
    cond q [] (without_return left ∷ before_quit (lines_after ended [] more))
feed_split q ended left more is = ap before_quit (line_feed ended left more) ∙
    first_line q (without_return left) (lines_after ended [] more) is

pub line_done : (setup : Setup) (line : List ℕ) (w next : World) (p : List TraceEntry) →
    Performs setup (line_command line) w p next → Session setup (line_command line ∷ []) w p next
line_done setup line w next p h = each_one (Performs setup) (line_command line) w next p h

pub feed_byte : (form : Form) (setup : Setup) (q : Bool) (left : List ℕ) (w next : World) (p : List TraceEntry) →
    is_quit (line_command (without_return left)) ≡ q → Performs setup (line_command (without_return left)) w p next →
    BytesTaken form setup left (10 ∷ []) [] (Ok q) w p next
feed_byte form setup false left w next p is h = (
  without_return left ∷ [],
  [],
  refl,
  λ ended more. feed_split false ended left more is,
  line_done setup (without_return left) w next p h,
)
feed_byte form setup true left w next p is h = (
  [],
  λ ended more. feed_split true ended left more is,
  quit_idle setup (line_command (without_return left)) w next p is h,
)

pub no_more : before_quit [] ≡ []
unfolding before_quit
no_more = refl

-- At the end of the input, a non-empty partial line is the last line.
pub last_line : (b : ℕ) (bs : List ℕ) → lines_after true (b ∷ bs) [] ≡ (b ∷ bs) ∷ []
unfolding lines_after
last_line b bs = rw (ne_eqb (length (b ∷ bs)) 0 (λ e. absurd (omega (arith, e)))) refl

quit_prints_nothing : (form : Form) (command : Command) → is_quit command ≡ true → prints form command ≡ true → ⊥
quit_prints_nothing form Poll quit printed = absurd (true≢false (sym quit))
quit_prints_nothing form (Tick timing) quit printed = absurd (true≢false (sym quit))
quit_prints_nothing form Stats quit printed = absurd (true≢false (sym quit))
quit_prints_nothing form Quit quit printed = absurd (true≢false (sym printed))
quit_prints_nothing form Unknown quit printed = absurd (true≢false (sym quit))

pub feed_fault_by : (form : Form) (setup : Setup) (q : Bool) (left kept : List ℕ) (failed : WriteFailed) (w next :
    World)
    (p : List TraceEntry) → is_quit (line_command (without_return left)) ≡ q →
    prints form (line_command (without_return left)) ≡ true → Performs setup (line_command (without_return left)) w p next
    →
    BytesTaken form setup left (10 ∷ []) kept (Err failed) w p next
feed_fault_by form setup false left kept failed w next p is printed h = (
  without_return left ∷ [],
  λ ended more. (before_quit (lines_after ended [] more), feed_split false ended left more is),
  record { front = []; command = line_command (without_return left); is = refl; printed = printed },
  line_done setup (without_return left) w next p h,
)
feed_fault_by form setup true left kept failed w next p is printed h =
    absurd (quit_prints_nothing form (line_command (without_return left)) is printed)

-- If something can be printed for the partial line at the end of the input, that line is not `quit`.
pub last_stands : (form : Form) (kept left : List ℕ) → kept ≡ take 8 left → 0 < length kept → prints form (line_command
    kept) ≡ true
    → (before_quit (lines_after true left []) ≡ left ∷ []) × (prints form (line_command left) ≡ true)
last_stands form kept [] is some printed = absurd (omega (arith, some, ap length is))
last_stands form kept (x ∷ xs) is some printed =
    let line = x ∷ xs in
    let same : line_command kept ≡ line_command line = ap line_command is ∙ cut_command line in
    let answered : prints form (line_command line) ≡ true = ap (prints form) (sym same) ∙ printed in
    let on : is_quit (line_command line) ≡ false =
    false_from_ne_true (is_quit (line_command line))
    (λ quit. quit_prints_nothing form (line_command line) quit answered) in (
      ap before_quit (last_line x xs) ∙ first_line false line [] on ∙
          ap (λ (l : List (List ℕ)). line ∷ l) no_more,
      answered,
    )

-- ## Bytes and the bytes after them

pub session_both : (setup : Setup) (xs ys : List (List ℕ)) (w mid next : World) (p q : List TraceEntry) →
    Session setup (map line_command xs) w p mid → Session setup (map line_command ys) mid q next →
    Session setup (map line_command (xs ++ ys)) w (p ++ q) next
session_both setup xs ys w mid next p q h k = rw (map-append line_command xs ys)
    (each_both (Performs setup) (map line_command xs) (map line_command ys) w mid next p q h k)

pub bytes_then : (form : Form) (setup : Setup) (partial a left b kept : List ℕ) (lines : List (List ℕ))
    (r : Result Bool WriteFailed) (w mid next : World) (p q : List TraceEntry) →
    ((ended : Bool) (more : List ℕ) → before_quit (lines_after ended partial (a ++ more)) ≡ lines ++
    before_quit (lines_after ended left more)) → Session setup (map line_command lines) w p mid →
    BytesTaken form setup left b kept r mid q next → BytesTaken form setup partial (a ++ b) kept r w (p ++ q) next
bytes_then form setup partial a left b kept lines (Ok false) w mid next p q split ran h = (
  lines ++ h.0,
  h.1,
  h.2,
  λ ended more. ap (λ (l : List ℕ). before_quit (lines_after ended partial l)) (append_assoc a b more) ∙
      split ended (b ++ more) ∙ ap (λ (l : List (List ℕ)). lines ++ l) (h.3 ended more) ∙
      sym (append_assoc lines h.0 (before_quit (lines_after ended h.1 more))),
  session_both setup lines h.0 w mid next p q ran h.4,
)
bytes_then form setup partial a left b kept lines (Ok true) w mid next p q split ran h = (
  lines ++ h.0,
  λ ended more. ap (λ (l : List ℕ). before_quit (lines_after ended partial l)) (append_assoc a b more) ∙
      split ended (b ++ more) ∙ ap (λ (l : List (List ℕ)). lines ++ l) (h.1 ended more),
  session_both setup lines h.0 w mid next p q ran h.2,
)
bytes_then form setup partial a left b kept lines (Err failed) w mid next p q split ran h = (
  lines ++ h.0,
  λ ended more. (
    (h.1 ended more).0,
    ap (λ (l : List ℕ). before_quit (lines_after ended partial l)) (append_assoc a b more) ∙ split ended (b ++ more) ∙
        ap (λ (l : List (List ℕ)). lines ++ l) (h.1 ended more).1 ∙ sym (append_assoc lines h.0 (h.1 ended more).0),
  ),
  record {
    front = map line_command lines ++ h.2.front;
    command = h.2.command;
    is = map-append line_command lines h.0 ∙ ap (λ (l : List Command). map line_command lines ++ l) h.2.is ∙
        sym (append_assoc (map line_command lines) h.2.front (h.2.command ∷ []));
    printed = h.2.printed;
  },
  session_both setup lines h.0 w mid next p q ran h.3,
)

pub no_bytes : (form : Form) (setup : Setup) (partial kept : List ℕ) (w : World) → kept ≡ take 8 partial →
    BytesTaken form setup partial [] kept (Ok false) w [] w
no_bytes form setup partial kept w is = ([], partial, is, λ ended more. refl, (refl, refl))

-- After `quit` (`whatever_follows`) or a failed print (`faulty_follows`), more bytes change nothing.
pub whatever_follows : (form : Form) (setup : Setup) (partial a b kept : List ℕ) (w next : World) (p : List TraceEntry) →
    BytesTaken form setup partial a kept (Ok true) w p next → BytesTaken form setup partial (a ++ b) kept (Ok true) w p
    next
whatever_follows form setup partial a b kept w next p h = (
  h.0,
  λ ended more. ap (λ (l : List ℕ). before_quit (lines_after ended partial l)) (append_assoc a b more) ∙
      h.1 ended (b ++ more),
  h.2,
)

pub faulty_follows : (form : Form) (setup : Setup) (partial a b kept : List ℕ) (failed : WriteFailed) (w next : World)
    (p : List TraceEntry) → BytesTaken form setup partial a kept (Err failed) w p next →
    BytesTaken form setup partial (a ++ b) kept (Err failed) w p next
faulty_follows form setup partial a b kept failed w next p h = (
  h.0,
  λ ended more. (
    (h.1 ended (b ++ more)).0,
    ap (λ (l : List ℕ). before_quit (lines_after ended partial l)) (append_assoc a b more) ∙ (h.1 ended (b ++ more)).1,
  ),
  h.2,
  h.3,
)
