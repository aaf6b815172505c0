-- How a run by lines ends.
use Rattle.std.proofs.Common.{◌≡◌, ◌≢◌, ℕ, ◌+◌, ◌<◌, inl, inr, Bool, true, false, cond, List, [], ◌∷◌, ◌++◌, length, map, take, Option, Some, None, Result, Ok, Err, refl, sym, ap, subst, ◌∙◌, length-take, arith}
use Rattle.std.proofs.lemmas.List.{append-nil, map-append}
use Rattle.std.specs.Prelude.{◌⊎◌}
use Rattle.std.specs.Io.KnownBytes.{Keeps, IsAtEnd}
use Rattle.mg_serve.specs.Setup.{Setup}
use Rattle.mg_core.specs.declared.fault.RunFault.{RunFault}
use Rattle.mg_core.specs.declared.fault.RunFault.TheVariants as faults
use Rattle.mg_core.specs.declared.state.CoreState.{CoreState}
use Rattle.mg_core.specs.World.{World}
use Rattle.mg_lines.specs.declared.write_failed.WriteFailed.{WriteFailed}
use Rattle.mg_lines.specs.Lines.{lines_after, lines_of}
use Rattle.mg_serve.specs.declared.command.Command.{Command}
use Rattle.mg_serve.specs.declared.form.Form.{Form}
use Rattle.mg_serve.specs.Lines.{LastPrints, line_command, is_quit, prints, before_quit}
use Rattle.mg_serve.specs.Session.{Performs, Session}
use Rattle.mg_serve.specs.Serve.{Exits}
use Rattle.mg_serve.specs.Trace.{TraceEntry, output_of}
use Rattle.mg_serve.specs.aids.Driving.{Finished, RanLines}
use Rattle.mg_serve.specs.aids.Outside.{Outside, LeadsByTrace}
use Rattle.mg_serve.proofs.Steps.{finished_prints, some_printed}
use Rattle.mg_serve.proofs.Taking.{takes_as, takes_joined, takes_then}
use Rattle.mg_serve.proofs.Reading.{cut_command, first_line, last_line, last_stands, no_more, quit_idle, line_done, session_both}
use Rattle.mg_serve.proofs.Running.{Read, at_nil, consumes_keeps, nothing_left}

-- ## The end of a run by lines

abbrev pub done : Result (Unit {0}) RunFault
done = Ok tt

ends_by_quit : (form : Form) (setup : Setup) (i k : Option (List ℕ)) (kept : List ℕ) (w next : World) (p : List TraceEntry) →
    Read form setup i k kept (Ok true) w p next → RanLines form setup i k done w p next
ends_by_quit form setup i k kept w next p h =
    let t = h.2 in (
      map line_command t.0,
      record {
        text = h.0;
        ended = false;
        lines = t.0;
        others = [];
        consumed = h.1;
        counted = at_nil false h.0 ∙ t.1 false [] ∙ sym (append-nil t.0);
        are = refl;
        exits = (refl, inr (λ more. t.1 true more));
      },
      t.2,
    )

abbrev pub failed_by : RunFault → Result (Unit {0}) RunFault
failed_by fault = Err fault

ends_by_write : (form : Form) (setup : Setup) (i k : Option (List ℕ)) (kept : List ℕ) (failed : WriteFailed)
    (w next : World) (p : List TraceEntry) → Read form setup i k kept (Err failed) w p next →
    RanLines form setup i k (failed_by faults.Write) w p next
ends_by_write form setup i k kept failed w next p h =
    let t = h.2 in (
      map line_command t.0,
      record {
        text = h.0;
        ended = false;
        lines = t.0;
        others = (t.1 false []).0;
        consumed = h.1;
        counted = at_nil false h.0 ∙ (t.1 false []).1;
        are = refl;
        exits = inr t.2;
      },
      t.3,
    )

ends_by_read : (form : Form) (setup : Setup) (i j k : Option (List ℕ)) (kept : List ℕ) (w next : World)
    (p : List TraceEntry) → Keeps j k → Read form setup i j kept (Ok false) w p next →
    RanLines form setup i k (failed_by faults.Read) w p next
ends_by_read form setup i j k kept w next p same h =
    let t = h.2 in (
      map line_command t.0,
      record {
        text = h.0;
        ended = false;
        lines = t.0;
        others = [];
        consumed = consumes_keeps i j k h.0 h.1 same;
        counted = at_nil false h.0 ∙ t.3 false [] ∙ ap (λ (l : List (List ℕ)). t.0 ++ l) (nothing_left t.1);
        are = refl;
        exits = (refl, refl);
      },
      t.4,
    )

no_line : before_quit (lines_after true [] []) ≡ []
unfolding lines_after before_quit
no_line = refl

last_by : (setup : Setup) (q : Bool) (line : List ℕ) (w next : World) (p : List TraceEntry) →
    is_quit (line_command line) ≡ q → Performs setup (line_command line) w p next →
    Session setup (map line_command (cond q [] (line ∷ []))) w p next
last_by setup false line w next p is h = line_done setup line w next p h
last_by setup true line w next p is h = quit_idle setup (line_command line) w next p is h

last_done : (setup : Setup) (kept left : List ℕ) (w next : World) (p : List TraceEntry) → kept ≡ take 8 left →
    Finished setup kept w p next → Session setup (map line_command (before_quit (lines_after true left []))) w p next
last_done setup [] [] w next p is h =
    subst (λ (l : List (List ℕ)). Session setup (map line_command l) w p next) (sym no_line) h
last_done setup [] (x ∷ xs) w next p is h = absurd (omega (arith, ap length is, length-take 8 (x ∷ xs)))
last_done setup (b ∷ bs) [] w next p is h = absurd (omega (arith, ap length is))
last_done setup (b ∷ bs) (x ∷ xs) w next p is h =
    let line = x ∷ xs in
    let quit = is_quit (line_command line) in
    let same : line_command (b ∷ bs) ≡ line_command line = ap line_command is ∙ cut_command line in
    let lines : before_quit (lines_after true line []) ≡ cond quit [] (line ∷ []) =
    ap before_quit (last_line x xs) ∙ first_line quit line [] refl ∙
    ap (λ (l : List (List ℕ)). cond quit [] (line ∷ l)) no_more in
    subst (λ (l : List (List ℕ)). Session setup (map line_command l) w p next) (sym lines)
    (last_by setup quit line w next p refl (subst (λ (d : Command). Performs setup d w p next) same h))

last_prints : (form : Form) (kept left : List ℕ) (lines : List (List ℕ)) → kept ≡ take 8 left →
    (0 < length kept) × (prints form (line_command kept) ≡ true) →
    LastPrints form (map line_command (lines ++ before_quit (lines_after true left [])))
last_prints form kept left lines is some =
    let stands = last_stands form kept left is some.0 some.1 in
    record {
      front = map line_command lines;
      command = line_command left;
      is = ap (λ (l : List (List ℕ)). map line_command (lines ++ l)) stands.0 ∙
          map-append line_command lines (left ∷ []);
      printed = stands.1;
    }

-- The reason why no more lines of the text are executed.
abbrev pub LineExits : {T : Type 0} → Form → Result T RunFault → Bool → List ℕ → List (List ℕ) → List (List ℕ) → Option (List ℕ)
    → List Command → Type 0
LineExits form result ended text lines others left commands = Exits result
    ((others ≡ []) × (((ended ≡ true) × IsAtEnd left)
    ⊎ ((more : List ℕ) → before_quit (lines_of true (text ++ more)) ≡ lines)))
    ((ended ≡ false) × (others ≡ [])) ((lines ≡ []) × (text ≡ [])) (LastPrints form commands)

-- At the end of the input, a partial line that isn't empty is the last line.
ends_at_end : (form : Form) (setup : Setup) (i j k : Option (List ℕ)) (kept : List ℕ)
    (r : Result (Unit {0}) RunFault) (w mid next : World) (p q : List TraceEntry) → Keeps j k →
    ((text : List ℕ) (lines : List (List ℕ)) (left : List ℕ) → kept ≡ take 8 left →
    LineExits form r true text (lines ++ before_quit (lines_after true left [])) [] k
    (map line_command (lines ++ before_quit (lines_after true left [])))) →
    Read form setup i j kept (Ok false) w p mid → Finished setup kept mid q next →
    RanLines form setup i k r w (p ++ q) next
ends_at_end form setup i j k kept r w mid next p q same exits h last =
    let t = h.2 in
    let lines = t.0 ++ before_quit (lines_after true t.1 []) in (
      map line_command lines,
      record {
        text = h.0;
        ended = true;
        lines = lines;
        others = [];
        consumed = consumes_keeps i j k h.0 h.1 same;
        counted = at_nil true h.0 ∙ t.3 true [] ∙ sym (append-nil lines);
        are = refl;
        exits = exits h.0 t.0 t.1 t.2;
      },
      session_both setup t.0 (before_quit (lines_after true t.1 [])) w mid next p q t.4
          (last_done setup kept t.1 mid next q t.2 last),
    )

pub takes_end : (setup : Setup) (i j k : Option (List ℕ)) (kept : List ℕ)
    (old mid core : CoreState) (x y z : Outside) →
    LeadsByTrace old mid x y (Read x.printer.form setup i j kept (Ok false)) →
    Keeps j k × IsAtEnd k → LeadsByTrace mid core y z (Finished setup kept) →
    LeadsByTrace old core x z (RanLines x.printer.form setup i k done)
takes_end setup i j k kept old mid core x y z first end last =
    let form = x.printer.form in
    takes_then old mid core x y z (Read form setup i j kept (Ok false)) (Finished setup kept)
    (RanLines form setup i k done) first last
    (λ w m next p q h l. ends_at_end form setup i j k kept done w m next p q end.0
    (λ text lines left is. (refl, inl (refl, end.1))) h l)

-- If printing fails for the last line of the input, the run ends with `Write`.
pub takes_end_fault : (setup : Setup) (i j k : Option (List ℕ)) (kept : List ℕ)
    (old mid core : CoreState) (x y z : Outside) →
    LeadsByTrace old mid x y (Read x.printer.form setup i j kept (Ok false)) →
    Keeps j k × IsAtEnd k → y.printer.has_failed ≡ false → z.printer.has_failed ≡ true →
    LeadsByTrace mid core y z (Finished setup kept) →
    LeadsByTrace old core x z (RanLines x.printer.form setup i k (failed_by faults.Write))
takes_end_fault setup i j k kept old mid core x y z first end before after last =
    let form = x.printer.form in
    takes_joined old mid core x y z (Read form setup i j kept (Ok false)) (Finished setup kept)
    (RanLines form setup i k (failed_by faults.Write)) first last
    (λ w m next p q logged more h l.
    let some = subst (λ (f : Form). output_of f q ≢ []) logged.prints.form (some_printed y z q before after more) in
    ends_at_end form setup i j k kept (failed_by faults.Write) w m next p q end.0
    (λ text lines left is. inr (last_prints form kept left lines is (finished_prints form setup kept m next q l some)))
    h l)

pub takes_quit : (setup : Setup) (i k : Option (List ℕ)) (kept : List ℕ) (old core : CoreState)
    (x z : Outside) → LeadsByTrace old core x z (Read x.printer.form setup i k kept (Ok true)) →
    LeadsByTrace old core x z (RanLines x.printer.form setup i k done)
takes_quit setup i k kept old core x z h =
    takes_as old core x z (Read x.printer.form setup i k kept (Ok true)) (RanLines x.printer.form setup i k done) h
    (ends_by_quit x.printer.form setup i k kept)

pub takes_broken : (setup : Setup) (i k : Option (List ℕ)) (kept : List ℕ) (failed : WriteFailed)
    (old core : CoreState) (x z : Outside) →
    LeadsByTrace old core x z (Read x.printer.form setup i k kept (Err failed)) →
    LeadsByTrace old core x z (RanLines x.printer.form setup i k (failed_by faults.Write))
takes_broken setup i k kept failed old core x z h =
    takes_as old core x z (Read x.printer.form setup i k kept (Err failed)) (RanLines x.printer.form setup i k
    (failed_by faults.Write)) h
    (ends_by_write x.printer.form setup i k kept failed)

pub takes_unread : (setup : Setup) (i j k : Option (List ℕ)) (kept : List ℕ) (old mid : CoreState)
    (x y : Outside) → Keeps j k → LeadsByTrace old mid x y (Read x.printer.form setup i j kept (Ok false)) →
    LeadsByTrace old mid x y (RanLines x.printer.form setup i k (failed_by faults.Read))
takes_unread setup i j k kept old mid x y same h =
    takes_as old mid x y (Read x.printer.form setup i j kept (Ok false)) (RanLines x.printer.form setup i k
    (failed_by faults.Read)) h
    (λ w next p. ends_by_read x.printer.form setup i j k kept w next p same)

keeps_same : (i : Option (List ℕ)) → Keeps i i
keeps_same None = tt
keeps_same (Some i) = refl

-- If a run reaches the maximum number of reads, it ends with `Read`.
pub takes_enough : (setup : Setup) (i j : Option (List ℕ)) (kept : List ℕ) (old mid : CoreState)
    (x y : Outside) → LeadsByTrace old mid x y (Read x.printer.form setup i j kept (Ok false)) →
    LeadsByTrace old mid x y (RanLines x.printer.form setup i j (failed_by faults.Read))
takes_enough setup i j kept old mid x y h = takes_unread setup i j j kept old mid x y (keeps_same j) h
