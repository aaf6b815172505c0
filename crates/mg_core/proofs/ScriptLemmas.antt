-- A run of a script as a whole.
use Rattle.std.proofs.Common.{◌≡◌, ℕ, List, [], Option, Result, Ok, Err, false, refl, sym, ◌∙◌, ap, ◌+◌, length, inl, inr, arith}
use Rattle.std.proofs.KnownBytes.{Consumes-nil}
use Rattle.std.proofs.lemmas.List.{append-nil}
use Rattle.mg_lines.specs.Lines.{lines_after, lines_of}
use Rattle.mg_engine.specs.declared.fault.StartFault.{StartFault}
use Rattle.mg_engine.specs.declared.fault.StartFault.TheVariants as starts
use Rattle.mg_core.specs.declared.counts.Counts.{Counts}
use Rattle.mg_core.specs.declared.fault.RunFault.{RunFault}
use Rattle.mg_core.specs.declared.fault.RunFault.TheVariants as ends
use Rattle.mg_core.specs.declared.fault.ScriptFault.{ScriptFault}
use Rattle.mg_core.specs.declared.fault.ScriptFault.TheVariants as faults
use Rattle.mg_core.specs.declared.shown.Shown.{Shown}
use Rattle.mg_core.specs.declared.state.CoreState.{CoreState}
use Rattle.mg_core.specs.Run.{RanToFault, ScriptRan, Stops}
use Rattle.mg_core.specs.Script.{events_of}
use Rattle.mg_core.specs.aids.Faults.{RanAllRead, RanToBadLine, RanToCutLine, RanToUnrunLine}
use Rattle.mg_core.specs.aids.Steps.{AllRan, run_fault_at_start, run_fault_of}
use Rattle.mg_core.specs.World.{World, capped, counts_of}
use Rattle.mg_core.specs.aids.Stands.{StandsFor}
use Rattle.mg_core.proofs.LineLemmas.{no_text, same_appends, sent_at_once}

-- ## The faults of a run

module _ (base : World) (shown : Shown) (input rest old new : Option (List ℕ)) where
  at_bad_line : (number : ℕ) → RanToBadLine base shown input rest number old new →
      RanToFault base shown input rest old new (ends.Script number)
  at_bad_line number h = record {
    text = h.text;
    ended = h.ended;
    read = h.read;
    lines = h.lines;
    before_more = h.before_more;
    now = h.last;
    held = new;
    ran = h.ran;
    stops = (h.number_is, refl, h.bad);
  }

  all_read : RanAllRead base shown input rest old new → RanToFault base shown input rest old new ends.Read
  all_read h = record {
    text = h.text;
    ended = false;
    read = h.read;
    lines = lines_of false h.text;
    before_more = record {
      before = h.text;
      given = [];
      parts = sym (append-nil h.text);
      size = omega arith;
      end_alone = λ e. refl;
      later = [];
      lines_are = sym (append-nil (lines_of false h.text));
    };
    now = h.last;
    held = new;
    ran = h.ran;
    stops = (refl, refl, refl);
  }

  at_cut_line : RanToCutLine base shown input rest old new → RanToFault base shown input rest old new ends.Write
  at_cut_line h = record {
    text = h.up_to.text;
    ended = h.up_to.ended;
    read = h.up_to.read;
    lines = h.up_to.lines;
    before_more = h.up_to.before_more;
    now = h.now;
    held = h.held;
    ran = h.up_to.ran;
    stops = (
      h.line,
      h.cut.text,
      h.last,
      (h.up_to.others, h.up_to.line_is),
      record {
        events = h.cut.events;
        sent = h.cut.sent;
        text = h.cut.text;
        are = h.cut.are;
        run = h.cut.run;
        is_text = h.cut.is_text;
        written = refl;
      },
      record {
        front = h.cut.front;
        rest = h.cut.rest;
        parts = h.cut.parts;
        cut = h.cut.cut;
        written = h.cut.written;
      },
    );
  }

  at_unrun_line : RanToUnrunLine base shown input rest old new →
      RanToFault base shown input rest old new ends.NoMemory
  at_unrun_line h = record {
    text = h.up_to.text;
    ended = h.up_to.ended;
    read = h.up_to.read;
    lines = h.up_to.lines;
    before_more = h.up_to.before_more;
    now = h.now;
    held = new;
    ran = h.up_to.ran;
    stops = (refl, inl (h.line, (h.up_to.others, h.up_to.line_is)));
  }

-- If the gateway could not be started, nothing was read, run or written.
nothing_ran : (base : World) (shown : Shown) (input a : Option (List ℕ)) (fault : RunFault) →
    Stops fault shown [] false [] base a a → RanToFault base shown input input a a fault
unfolding events_of lines_after
nothing_ran base shown input a fault stops = record {
  text = [];
  ended = false;
  read = record { consumed = Consumes-nil input; at_end = λ e. absurd (cc e) };
  lines = [];
  before_more = record {
    before = [];
    given = [];
    parts = refl;
    size = omega arith;
    end_alone = λ e. refl;
    later = [];
    lines_are = refl;
  };
  now = base;
  held = a;
  ran = record {
    events = [];
    sent = [];
    text = [];
    are = refl;
    run = (refl, refl);
    is_text = no_text shown base;
    written = same_appends a;
  };
  stops = stops;
}

pub not_started : (base : World) (shown : Shown) (input a : Option (List ℕ)) (fault : StartFault) →
    ScriptRan base shown input input a a (Err (run_fault_at_start fault))
not_started base shown input a starts.BadConfig = nothing_ran base shown input a ends.BadConfig (refl, refl, refl)
not_started base shown input a starts.NoMemory =
    nothing_ran base shown input a ends.NoMemory (refl, inr (refl, refl))

pub script_fault : (base : World) (shown : Shown) (input rest : Option (List ℕ)) (state : CoreState) (count n : ℕ)
    (a b : Option (List ℕ)) (fault : ScriptFault) → AllRan base shown input rest state count n a b (Err fault) →
    ScriptRan base shown input rest a b (Err (run_fault_of fault))
script_fault base shown input rest state count n a b (faults.Bad number) h =
    at_bad_line base shown input rest a b number h
script_fault base shown input rest state count n a b faults.Read h = all_read base shown input rest a b h
script_fault base shown input rest state count n a b faults.Write h = at_cut_line base shown input rest a b h
script_fault base shown input rest state count n a b faults.NoMemory h = at_unrun_line base shown input rest a b h

-- A fault of a script is never a fault of the configuration.
pub not_bad : {A : Type 0} (r : Result A RunFault) (e : RunFault) (fault : ScriptFault) → r ≡ Err e → e ≡ run_fault_of fault →
    r ≡ Err ends.BadConfig → ⊥
not_bad r e (faults.Bad n) is from bad = cc (is, from, bad)
not_bad r e faults.Read is from bad = cc (is, from, bad)
not_bad r e faults.Write is from bad = cc (is, from, bad)
not_bad r e faults.NoMemory is from bad = cc (is, from, bad)

pub script_done : (base : World) (shown : Shown) (input rest : Option (List ℕ)) (state : CoreState) (count n : ℕ)
    (counts : Counts)
    (a b : Option (List ℕ)) → AllRan base shown input rest state count n a b (Ok tt) → counts.lines ≡ count →
    counts.sent ≡ n → ((w : World) → StandsFor state w →
    record counts { lines = 0; sent = 0; failed = 0 } ≡ counts_of w.tally) →
    ScriptRan base shown input rest a b (Ok counts)
script_done base shown input rest state count n counts a b h lines sent counted =
    let all = h.2 in (
      h.0,
      h.1,
      record {
        last = all.last;
        ran = all.ran.ran;
        lines = lines ∙ all.lines;
        sent = sent ∙ all.ran.counted ∙
            sent_at_once 0 all.ran.ran.sent (omega arith) ∙ ap capped (none_before (length all.ran.ran.sent));
        counted = counted all.last all.stands;
      },
    )
  where
    none_before : (k : ℕ) → 0 + k ≡ k
    none_before k = omega arith
