-- Steps of a printer, which prints nothing more after printing has failed.
use Rattle.std.specs.Prelude.{◌≡◌, ◌≢◌, ℕ, Bool, true, false, List, [], Option}
use Rattle.std.specs.Io.KnownBytes.{Keeps, Appends}
use Rattle.mg_lines.specs.Streams.{WritesFront}
use Rattle.mg_serve.specs.declared.form.Form.{Form}
use Rattle.mg_serve.specs.Trace.{TraceEntry, output_of}

-- The form of the output, and whether printing has failed.
pub record PrinterView : Type 0 where
  pub form : Form
  pub has_failed : Bool

-- The text was printed. If this print failed, only a proper prefix of the text was printed. If printing had failed
-- before, nothing was printed.
abbrev pub Puts : Bool → Bool → List ℕ → Option (List ℕ) → Option (List ℕ) → Type 0
Puts false false text old new = Appends old new text
Puts false true text old new = (text ≢ []) × WritesFront text old new
Puts true false text old new = ⊥
Puts true true text old new = Keeps old new

-- The output of the trace was printed.
pub record Prints (old new : PrinterView) (before after : Option (List ℕ)) (trace : List TraceEntry)
    : Type 0 where
  pub form : new.form ≡ old.form
  pub puts : Puts old.has_failed new.has_failed (output_of old.form trace) before after
