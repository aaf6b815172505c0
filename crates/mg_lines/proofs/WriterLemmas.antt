-- The content of a writer after successive writes.
use Rattle.std.proofs.Common.{◌≡◌, ℕ, ◌+◌, ◌<◌, ◌≤◌, List, ◌++◌, length, take, drop, Option, Some, None, sym, ap, ◌∙◌, append_assoc, arith}
use Rattle.std.proofs.lemmas.List.{take-append-drop, length-append, length-drop}
use Rattle.std.proofs.Math.Seq.{take-add}
use Rattle.std.specs.Io.KnownBytes.{Keeps, Appends}
use Rattle.mg_lines.specs.Streams.{WritesFront}

pub appends_then : (a b c : Option (List ℕ)) (x y : List ℕ) → Appends a b x → Appends b c y → Appends a c (x ++ y)
appends_then None b c x y h k = tt
appends_then (Some a) None c x y h k = absurd h
appends_then (Some a) (Some b) None x y h k = absurd k
appends_then (Some a) (Some b) (Some c) x y h k = k ∙ ap (λ (l : List ℕ). l ++ y) h ∙ append_assoc a x y

pub appends_keeps : (a b c : Option (List ℕ)) (x : List ℕ) → Appends a b x → Keeps b c → Appends a c x
appends_keeps None b c x h k = tt
appends_keeps (Some a) None c x h k = absurd h
appends_keeps (Some a) (Some b) None x h k = absurd k
appends_keeps (Some a) (Some b) (Some c) x h k = k ∙ h

-- Appending to non-empty text gives non-empty text.
pub longer : (rest more : List ℕ) → 0 < length rest → 0 < length (rest ++ more)
longer rest more some = rw (length-append rest more) (omega (arith, some))

-- If a writer writes the first `i` bytes of the text, and then the next `n` bytes, the first `i + n` bytes are written.
pub front_more : (a b c : Option (List ℕ)) (t part : List ℕ) (i n : ℕ) → i ≤ length t → part ≡ drop i t →
    Appends a b (take i t) → Appends b c (take n part) → Appends a c (take (i + n) t)
front_more a b c t part i n le is h k = rw (take-add i n t)
    (appends_then a b c (take i t) (take n (drop i t)) h (rw is at k))

-- If writing stops before the end of the text, a proper prefix of the text was written.
pub stops : (a b c : Option (List ℕ)) (t : List ℕ) (i : ℕ) → i < length t → Appends a b (take i t) → Keeps b c →
    WritesFront t a c
stops a b c t i lt h k = record {
  front = take i t;
  rest = drop i t;
  parts = sym (take-append-drop i t);
  cut = rw (length-drop i t) (omega (arith, lt));
  written = appends_keeps a b c (take i t) h k;
}
