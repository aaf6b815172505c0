-- Several prints in sequence.
use Rattle.std.proofs.Common.{◌≡◌, ℕ, Bool, true, false, List, [], ◌∷◌, ◌++◌, Option, refl, sym, ap, subst, ◌∙◌, append_assoc}
use Rattle.std.proofs.KnownBytes.{Appends-nil, Appends-trans, Appends-kept, Keeps-refl, Keeps-trans}
use Rattle.std.proofs.lemmas.List.Concat.{flat_map-append}
use Rattle.std.specs.Io.KnownBytes.{Keeps, Appends}
use Rattle.mg_lines.specs.Streams.{WritesFront}
use Rattle.mg_lines.proofs.WriterLemmas.{longer}
use Rattle.mg_ports.specs.declared.call.Call.{Call}
use Rattle.mg_serve.specs.declared.form.Form.{Form}
use Rattle.mg_serve.specs.Trace.{TraceEntry, Called, Happened, Printed, Noted, Stale, calls_of, output_of, printed_text}
use Rattle.mg_serve.specs.aids.Printing.{PrinterView, Prints, Puts}

-- ## Output and calls of two traces in sequence

pub output_both : (form : Form) (p q : List TraceEntry) → output_of form (p ++ q) ≡ output_of form p ++ output_of form q
output_both form p q = flat_map-append (printed_text form) p q

pub calls_both : (p q : List TraceEntry) → calls_of (p ++ q) ≡ calls_of p ++ calls_of q
calls_both [] q = refl
calls_both (Called call ∷ p) q = ap (λ (l : List Call). call ∷ l) (calls_both p q)
calls_both (Happened event ∷ p) q = calls_both p q
calls_both (Printed text ∷ p) q = calls_both p q
calls_both (Noted text ∷ p) q = calls_both p q
calls_both (Stale source bytes ∷ p) q = calls_both p q

-- ## Printing two texts in sequence

left_empty : (s t : List ℕ) → s ++ t ≡ [] → s ≡ []
left_empty [] t is = refl
left_empty (b ∷ s) t is = absurd cc

right_empty : (s t : List ℕ) → s ++ t ≡ [] → t ≡ []
right_empty [] t is = is
right_empty (b ∷ s) t is = absurd cc

front_then : (x y z : Option (List ℕ)) (s t : List ℕ) → WritesFront s x y → Keeps y z → WritesFront (s ++ t) x z
front_then x y z s t h same = record {
  front = h.front;
  rest = h.rest ++ t;
  cut = longer h.rest t h.cut;
  parts = ap (λ (l : List ℕ). l ++ t) h.parts ∙ append_assoc h.front h.rest t;
  written = Appends-kept x y z h.front h.written same;
}

front_after : (x y z : Option (List ℕ)) (s t : List ℕ) → Appends x y s → WritesFront t y z → WritesFront (s ++ t) x z
front_after x y z s t h k = record {
  front = s ++ k.front;
  rest = k.rest;
  cut = k.cut;
  parts = ap (λ (l : List ℕ). s ++ l) k.parts ∙ sym (append_assoc s k.front k.rest);
  written = Appends-trans x y z s k.front h k.written;
}

-- If nothing more is written after a print, the same text was printed.
pub puts_kept : (a b : Bool) (x y z : Option (List ℕ)) (s : List ℕ) → Puts a b s x y → Keeps y z → Puts a b s x z
puts_kept false false x y z s h same = Appends-kept x y z s h same
puts_kept false true x y z s h same = (
  h.0,
  record {
    front = h.1.front;
    rest = h.1.rest;
    parts = h.1.parts;
    cut = h.1.cut;
    written = Appends-kept x y z h.1.front h.1.written same;
  },
)
puts_kept true false x y z s h same = absurd h
puts_kept true true x y z s h same = Keeps-trans x y z h same

pub puts_both : (a b c : Bool) (x y z : Option (List ℕ)) (s t : List ℕ) → Puts a b s x y → Puts b c t y z →
    Puts a c (s ++ t) x z
puts_both false false false x y z s t h k = Appends-trans x y z s t h k
puts_both false false true x y z s t h k = (λ is. k.0 (right_empty s t is), front_after x y z s t h k.1)
puts_both false true false x y z s t h k = absurd k
puts_both false true true x y z s t h k = (λ is. h.0 (left_empty s t is), front_then x y z s t h.1 k)
puts_both true false c x y z s t h k = absurd h
puts_both true true false x y z s t h k = absurd k
puts_both true true true x y z s t h k = Keeps-trans x y z h k

pub puts_nothing : (a : Bool) (x : Option (List ℕ)) → Puts a a [] x x
puts_nothing false x = Appends-nil x
puts_nothing true x = Keeps-refl x

-- ## Printing traces

pub prints_both : (a b c : PrinterView) (x y z : Option (List ℕ)) (p q : List TraceEntry) → Prints a b x y p →
    Prints b c y z q → Prints a c x z (p ++ q)
prints_both a b c x y z p q h k = record {
  form = k.form ∙ h.form;
  puts = subst (λ (l : List ℕ). Puts a.has_failed c.has_failed l x z) (sym (output_both a.form p q))
      (puts_both a.has_failed b.has_failed c.has_failed x y z (output_of a.form p) (output_of a.form q) h.puts
      (subst (λ (f : Form). Puts b.has_failed c.has_failed (output_of f q) y z) h.form k.puts));
}

-- A trace without output prints nothing.
pub prints_nothing : (a : PrinterView) (x : Option (List ℕ)) (p : List TraceEntry) → output_of a.form p ≡ [] →
    Prints a a x x p
prints_nothing a x p none = record {
  form = refl;
  puts = subst (λ (l : List ℕ). Puts a.has_failed a.has_failed l x x) (sym none) (puts_nothing a.has_failed x);
}
