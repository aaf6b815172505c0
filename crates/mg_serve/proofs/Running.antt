-- The progress of a session, from one core state to the next.
use Rattle.std.proofs.Common.{◌≡◌, ◌≢◌, ℕ, ◌+◌, ◌<◌, Bool, true, false, List, [], ◌∷◌, ◌++◌, length, get_or, take, drop, Option, Some, None, Result, Ok, Err, refl, sym, ap, subst, ◌∙◌, append_assoc, arith}
use Rattle.std.proofs.lemmas.List.{append-nil, take-append-drop, take_more}
use Rattle.std.proofs.lemmas.Bool.{ne_eqb}
use Rattle.std.specs.Io.KnownBytes.{Keeps, Consumes}
use Rattle.mg_serve.specs.Setup.{Setup}
use Rattle.mg_core.specs.declared.state.CoreState.{CoreState}
use Rattle.mg_core.specs.World.{World}
use Rattle.mg_lines.specs.declared.write_failed.WriteFailed.{WriteFailed}
use Rattle.mg_lines.specs.Lines.{without_return, lines_after}
use Rattle.mg_serve.specs.declared.command.Command.{Command}
use Rattle.mg_serve.specs.declared.form.Form.{Form}
use Rattle.mg_serve.specs.Lines.{line_command, is_quit, prints, before_quit}
use Rattle.mg_serve.specs.Session.{Performs}
use Rattle.mg_serve.specs.Trace.{TraceEntry}
use Rattle.mg_serve.specs.aids.Driving.{BytesTaken}
use Rattle.mg_serve.specs.aids.Outside.{Outside, LeadsByTrace}
use Rattle.mg_serve.proofs.Steps.{prints_some, some_printed}
use Rattle.mg_serve.proofs.Taking.{tells_both, takes_none, takes_as, takes_seen}
use Rattle.mg_serve.proofs.Reading.{cut_return, plain_byte, feed_byte, feed_fault_by, no_more, bytes_then, no_bytes, whatever_follows, faulty_follows}

-- ## Bytes by their index

more_bytes : (setup : Setup) (partial a b kept new : List ℕ) (r : Result Bool WriteFailed) (old mid core : CoreState)
    (x y z : Outside) → LeadsByTrace old mid x y (BytesTaken x.printer.form setup partial a kept (Ok false)) →
    ((left : List ℕ) → kept ≡ take 8 left → LeadsByTrace mid core y z (BytesTaken y.printer.form setup left b new r)) →
    LeadsByTrace old core x z (BytesTaken x.printer.form setup partial (a ++ b) new r)
more_bytes setup partial a b kept new r old mid core x y z first second w stands =
    let (p, m, logged, h, held) = first w stands in
    let (q, next, more, k, last) = second h.1 h.2 m held in (
      p ++ q,
      next,
      tells_both x y z p q logged more,
      bytes_then x.printer.form setup partial a h.1 b new h.0 r w m next p q h.3 h.4
          (subst (λ (f : Form). BytesTaken f setup h.1 b new r m q next) logged.prints.form k),
      last,
    )

pub bytes_start : (setup : Setup) (partial kept : List ℕ) (core : CoreState) (x : Outside) →
    kept ≡ take 8 partial → LeadsByTrace core core x x (BytesTaken x.printer.form setup partial [] kept (Ok false))
bytes_start setup partial kept core x is = takes_none core x (BytesTaken x.printer.form setup partial [] kept (Ok false))
    (λ w. no_bytes x.printer.form setup partial kept w is)

takes_plain : (setup : Setup) (kept : List ℕ) (b : ℕ) (core : CoreState) (y : Outside) → b ≢ 10 →
    (left : List ℕ) → kept ≡ take 8 left → LeadsByTrace core core y y
    (BytesTaken y.printer.form setup left (b ∷ []) (take 8 (kept ++ b ∷ [])) (Ok false))
takes_plain setup kept b core y ne left is =
    takes_none core y (BytesTaken y.printer.form setup left (b ∷ []) (take 8 (kept ++ b ∷ [])) (Ok false))
    (λ w. subst (λ (k : List ℕ). BytesTaken y.printer.form setup left (b ∷ []) (take 8 (k ++ b ∷ [])) (Ok false) w []
    w)
    (sym is) (plain_byte y.printer.form setup left b w ne))

same_command : (kept left : List ℕ) → kept ≡ take 8 left →
    line_command (without_return kept) ≡ line_command (without_return left)
same_command kept left is = ap (λ (k : List ℕ). line_command (without_return k)) is ∙ cut_return left

takes_feed : (setup : Setup) (kept : List ℕ) (q : Bool) (mid core : CoreState) (y z : Outside) →
    q ≡ is_quit (line_command (without_return kept)) →
    LeadsByTrace mid core y z (Performs setup (line_command (without_return kept))) → (left : List ℕ) →
    kept ≡ take 8 left →
    LeadsByTrace mid core y z (BytesTaken y.printer.form setup left (10 ∷ []) [] (Ok q))
takes_feed setup kept q mid core y z quit h left is =
    let same = same_command kept left is in
    takes_as mid core y z (Performs setup (line_command (without_return kept)))
    (BytesTaken y.printer.form setup left (10 ∷ []) [] (Ok q)) h
    (λ w next p k. feed_byte y.printer.form setup q left w next p (sym (quit ∙ ap is_quit same))
    (subst (λ (d : Command). Performs setup d w p next) same k))

takes_fault : (setup : Setup) (kept new : List ℕ) (failed : WriteFailed) (mid core : CoreState)
    (y z : Outside) → y.printer.has_failed ≡ false → z.printer.has_failed ≡ true →
    LeadsByTrace mid core y z (Performs setup (line_command (without_return kept))) → (left : List ℕ) →
    kept ≡ take 8 left →
    LeadsByTrace mid core y z (BytesTaken y.printer.form setup left (10 ∷ []) new (Err failed))
takes_fault setup kept new failed mid core y z before after h left is =
    let same = same_command kept left is in
    let form = y.printer.form in
    takes_seen mid core y z (Performs setup (line_command (without_return kept)))
    (BytesTaken form setup left (10 ∷ []) new (Err failed)) h
    (λ w next p logged k.
    let done = subst (λ (d : Command). Performs setup d w p next) same k in
    feed_fault_by form setup (is_quit (line_command (without_return left))) left new failed w next p refl
    (prints_some form setup (line_command (without_return left)) w next p done
    (some_printed y z p before after logged)) done)

pub index_plain : (setup : Setup) (partial bytes kept new : List ℕ) (i : ℕ) (old mid : CoreState)
    (x y : Outside) → i < length bytes → get_or bytes i 0 ≢ 10 →
    new ≡ take 8 (kept ++ get_or bytes i 0 ∷ []) →
    LeadsByTrace old mid x y (BytesTaken x.printer.form setup partial (take i bytes) kept (Ok false)) →
    LeadsByTrace old mid x y (BytesTaken x.printer.form setup partial (take (i + 1) bytes) new (Ok false))
index_plain setup partial bytes kept new i old mid x y lt ne is h =
    let b = get_or bytes i 0 in
    subst (λ (l : List ℕ). LeadsByTrace old mid x y (BytesTaken x.printer.form setup partial l new (Ok false)))
    (sym (take_more
    bytes i 0 lt))
    (subst (λ (k : List ℕ). LeadsByTrace old mid x y
    (BytesTaken x.printer.form setup partial (take i bytes ++ b ∷ []) k (Ok
    false))) (sym is)
    (more_bytes setup partial (take i bytes) (b ∷ []) kept (take 8 (kept ++ b ∷ [])) (Ok false) old mid mid x y y h
    (takes_plain setup kept b mid y ne)))

pub index_feed : (setup : Setup) (partial bytes kept new : List ℕ) (i : ℕ) (q : Bool) (old mid core : CoreState)
    (x y z : Outside) → i < length bytes → get_or bytes i 0 ≡ 10 →
    LeadsByTrace old mid x y (BytesTaken x.printer.form setup partial (take i bytes) kept (Ok false)) →
    q ≡ is_quit (line_command (without_return kept)) → new ≡ [] →
    LeadsByTrace mid core y z (Performs setup (line_command (without_return kept))) →
    LeadsByTrace old core x z (BytesTaken x.printer.form setup partial (take (i + 1) bytes) new (Ok q))
index_feed setup partial bytes kept new i q old mid core x y z lt feed h quit is k =
    subst (λ (l : List ℕ). LeadsByTrace old core x z (BytesTaken x.printer.form setup partial l new (Ok q)))
    (sym (take_more bytes i 0 lt ∙ ap (λ (b : ℕ). take i bytes ++ b ∷ []) feed))
    (subst (λ (l : List ℕ). LeadsByTrace old core x z
    (BytesTaken x.printer.form setup partial (take i bytes ++ 10 ∷ []) l (Ok
    q))) (sym is)
    (more_bytes setup partial (take i bytes) (10 ∷ []) kept [] (Ok q) old mid core x y z h
    (takes_feed setup kept q mid core y z quit k)))

pub index_quit : (setup : Setup) (partial bytes kept new : List ℕ) (i : ℕ) (old mid core : CoreState)
    (x y z : Outside) → i < length bytes → get_or bytes i 0 ≡ 10 →
    LeadsByTrace old mid x y (BytesTaken x.printer.form setup partial (take i bytes) kept (Ok false)) →
    true ≡ is_quit (line_command (without_return kept)) → new ≡ [] →
    LeadsByTrace mid core y z (Performs setup (line_command (without_return kept))) →
    LeadsByTrace old core x z (BytesTaken x.printer.form setup partial bytes new (Ok true))
index_quit setup partial bytes kept new i old mid core x y z lt feed h quit is k =
    subst (λ (l : List ℕ). LeadsByTrace old core x z (BytesTaken x.printer.form setup partial l new (Ok true)))
    (take-append-drop (i + 1) bytes)
    (takes_as old core x z (BytesTaken x.printer.form setup partial (take (i + 1) bytes) new (Ok true))
    (BytesTaken x.printer.form setup partial (take (i + 1) bytes ++ drop (i + 1) bytes) new (Ok true))
    (index_feed setup partial bytes kept new i true old mid core x y z lt feed h quit is k)
    (λ w next p. whatever_follows x.printer.form setup partial (take (i + 1) bytes) (drop (i + 1) bytes) new w next p))

pub index_fault : (setup : Setup) (partial bytes kept new : List ℕ) (i : ℕ) (failed : WriteFailed)
    (old mid core : CoreState) (x y z : Outside) → i < length bytes → get_or bytes i 0 ≡ 10 →
    LeadsByTrace old mid x y (BytesTaken x.printer.form setup partial (take i bytes) kept (Ok false)) →
    y.printer.has_failed ≡ false → z.printer.has_failed ≡ true →
    LeadsByTrace mid core y z (Performs setup (line_command (without_return kept))) →
    LeadsByTrace old core x z (BytesTaken x.printer.form setup partial bytes new (Err failed))
index_fault setup partial bytes kept new i failed old mid core x y z lt feed h before after k =
    subst (λ (l : List ℕ). LeadsByTrace old core x z (BytesTaken x.printer.form setup partial l new (Err failed)))
    (take-append-drop (i + 1) bytes)
    (takes_as old core x z (BytesTaken x.printer.form setup partial (take (i + 1) bytes) new (Err failed))
    (BytesTaken x.printer.form setup partial (take (i + 1) bytes ++ drop (i + 1) bytes) new (Err failed))
    (subst (λ (l : List ℕ). LeadsByTrace old core x z (BytesTaken x.printer.form setup partial l new (Err failed)))
    (sym (take_more bytes i 0 lt ∙ ap (λ (b : ℕ). take i bytes ++ b ∷ []) feed))
    (more_bytes setup partial (take i bytes) (10 ∷ []) kept new (Err failed) old mid core x y z h
    (takes_fault setup kept new failed mid core y z before after k)))
    (λ w next p. faulty_follows x.printer.form setup partial (take (i + 1) bytes) (drop (i + 1) bytes) new failed w next
    p))

-- ## The text that was read

consumes_then : (i j k : Option (List ℕ)) (a b : List ℕ) → Consumes i j a → Consumes j k b → Consumes i k (a ++ b)
consumes_then None j k a b h l = tt
consumes_then (Some i) None k a b h l = absurd h
consumes_then (Some i) (Some j) None a b h l = absurd l
consumes_then (Some i) (Some j) (Some k) a b h l = h ∙ ap (λ (t : List ℕ). a ++ t) l ∙ sym (append_assoc a b k)

pub consumes_keeps : (i j k : Option (List ℕ)) (a : List ℕ) → Consumes i j a → Keeps j k → Consumes i k a
consumes_keeps None j k a h l = tt
consumes_keeps (Some i) None k a h l = absurd h
consumes_keeps (Some i) (Some j) None a h l = absurd l
consumes_keeps (Some i) (Some j) (Some k) a h l = h ∙ ap (λ (t : List ℕ). a ++ t) (sym l)

pub consumes_none : (i : Option (List ℕ)) → Consumes i i []
consumes_none None = tt
consumes_none (Some i) = refl

-- Text was read, and its bytes were taken.
abbrev pub Read : Form → Setup → Option (List ℕ) → Option (List ℕ) → List ℕ → Result Bool WriteFailed → World → List
    TraceEntry →
    World → Type 0
Read form setup i k kept r w trace next = (text : List ℕ) × Consumes i k text ×
    BytesTaken form setup [] text kept r w trace next

pub read_start : (setup : Setup) (i : Option (List ℕ)) (kept : List ℕ) (core : CoreState) (x : Outside) →
    kept ≡ [] → LeadsByTrace core core x x (Read x.printer.form setup i i kept (Ok false))
read_start setup i kept core x is = takes_none core x (Read x.printer.form setup i i kept (Ok false))
    (λ w. ([], consumes_none i, no_bytes x.printer.form setup [] kept w is))

pub read_more : (setup : Setup) (i j k : Option (List ℕ)) (b kept new : List ℕ) (r : Result Bool WriteFailed)
    (old mid core : CoreState) (x y z : Outside) →
    LeadsByTrace old mid x y (Read x.printer.form setup i j kept (Ok false)) →
    Consumes j k b → ((left : List ℕ) → kept ≡ take 8 left →
    LeadsByTrace mid core y z (BytesTaken y.printer.form setup left
    b new r)) →
    LeadsByTrace old core x z (Read x.printer.form setup i k new r)
read_more setup i j k b kept new r old mid core x y z first eaten second w stands =
    let (p, m, logged, h, held) = first w stands in
    let t = h.2 in
    let (q, next, more, l, last) = second t.1 t.2 m held in (
      p ++ q,
      next,
      tells_both x y z p q logged more,
      (
        h.0 ++ b,
        consumes_then i j k h.0 b h.1 eaten,
        bytes_then x.printer.form setup [] h.0 t.1 b new t.0 r w m next p q t.3 t.4
            (subst (λ (f : Form). BytesTaken f setup t.1 b new r m q next) logged.prints.form l),
      ),
      last,
    )

pub at_nil : (ended : Bool) (text : List ℕ) → before_quit (lines_after ended [] text) ≡
    before_quit (lines_after ended [] (text ++ []))
at_nil ended text = ap (λ (l : List ℕ). before_quit (lines_after ended [] l)) (sym (append-nil text))

unfinished : (left : List ℕ) → lines_after false left [] ≡ []
unfolding lines_after
unfinished [] = refl
unfinished (b ∷ bs) = rw (ne_eqb (length (b ∷ bs)) 0 (λ e. absurd (omega (arith, e)))) refl

pub nothing_left : (left : List ℕ) → before_quit (lines_after false left []) ≡ []
nothing_left left = ap before_quit (unfinished left) ∙ no_more
