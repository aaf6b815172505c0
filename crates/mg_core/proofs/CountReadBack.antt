-- The line that counts ticks is read as that many ticks, and scripts without such lines are read unchanged.
use Rattle.std.proofs.Common.{◌≡◌, ℕ, zero, suc, ◌<◌, ◌^◌, Bool, true, false, ◌||◌, eqb, List, [], ◌∷◌, ◌++◌, length, length-append, get_or, take, drop, codes, decimal, replicate, Option, Some, None, refl, sym, ap, ◌∙◌, arith}
use Rattle.std.specs.Prelude.{◌&&◌, not, if◌then◌else◌}
use Rattle.std.specs.Str.{bytes_eq}
use Rattle.std.proofs.lemmas.Bool.{le-leb, ne_eqb}
use Rattle.std.proofs.lemmas.Fmt.{first_decimal, length-decimal-le}
use Rattle.std.proofs.lemmas.List.{take-append-drop}
use Rattle.std.proofs.lemmas.Slice.Eq.{bytes_eq-Decides}
use Rattle.mg_words.specs.Cut.{cut}
use Rattle.mg_words.specs.Numbers.{decimal_of}
use Rattle.mg_words.specs.OptionSteps.{◌>>=◌}
use Rattle.mg_words.specs.declared.peer.Peer.{Peer}
use Rattle.mg_sdp.proofs.DecimalLemmas.{IsWritten, decimal_passes, written}
use Rattle.mg_lines.specs.Lines.{lines_after, lines_of}
use Rattle.mg_core.specs.declared.event.Event.{Event}
use Rattle.mg_core.specs.declared.event.Event.TheVariants.{Control, Tick}
use Rattle.mg_core.specs.Counted.{expanded, is_mark, ticks_in, ticks_line}
use Rattle.mg_core.specs.Peer.{peer_of}
use Rattle.mg_core.specs.Script.{an_event, bytes_of, control_of, datagram, datagram_of, event_of, events_of, spelling_of, then_all}
use Rattle.mg_core.specs.aids.Resuming.{counted_in}
use Rattle.mg_core.proofs.CountedLemmas.{counted_line, expanded_one, plain_line}
use Rattle.mg_core.proofs.ReadBackLemmas.{cut_seam, decimals_above, is_not, tick_read}
use Rattle.mg_core.proofs.RecordingLemmas.{line_then, whole_line}

-- ## The line that counts ticks

some_digits : (n : ℕ) (ds : List ℕ) → IsWritten n ds → eqb (length ds) 0 ≡ false
some_digits n ds w = rw w.parts (ne_eqb (length (w.front ++ w.last ∷ [])) 0
    (λ e. absurd (omega (arith, length-append w.front (w.last ∷ [])))))

number_read : (n : ℕ) → n < 2 ^ 64 → decimal_of 20 18446744073709551615 (decimal n) ≡ Some n
number_read n small =
    let w = written n small in
    rw (
      some_digits n (decimal n) w,
      le-leb (length (decimal n)) 20 (length-decimal-le 20 n (omega arith) (omega arith) small),
      w.digits,
      w.value,
      le-leb n 18446744073709551615 (omega (arith, small)),
    ) refl

no_zero : (ds : List ℕ) → 48 < get_or ds 0 0 → bytes_eq (take 1 ds) (codes "0") ≡ false
no_zero [] high = absurd (omega (arith, high))
no_zero (d ∷ ds) high = rw (ne_eqb d 48 (λ e. omega (arith, high, e))) refl

pub count_read_back : (n : ℕ) → 0 < n → n < 2 ^ 64 → ticks_in (codes "ticks " ++ decimal n) ≡ Some n
count_read_back n some small = rw (no_zero (decimal n) (first_decimal n some small)) (number_read n small)

lines_of_count : (ended : Bool) (n : ℕ) → n < 2 ^ 64 → lines_of ended (ticks_line n) ≡ (codes "ticks " ++ decimal n) ∷ []
unfolding lines_after
lines_of_count ended n small = line_then ended [] (codes "ticks " ++ decimal n) []
    (decimal_passes (is_not 10) (decimals_above 10 (omega arith)) n small)
    ∙ ap (λ (l : List ℕ). l ∷ [])
    (whole_line (codes "ticks " ++ decimal n) (decimal_passes (is_not 13) (decimals_above 13 (omega arith)) n small))

events_of_ticks : (k : ℕ) → events_of (replicate k (codes "tick")) ≡ Some (replicate k Tick)
unfolding events_of
events_of_ticks zero = refl
events_of_ticks (suc k) = rw (tick_read, events_of_ticks k) refl

-- Where ticks are counted, the line for `n` ticks is read as `n` ticks. `n` is not 0, and has at most 64 bits.
pub count_is_ticks : (n : ℕ) → 0 < n → n < 2 ^ 64 →
    events_of (expanded true (lines_of true (ticks_line n))) ≡ Some (replicate n Tick)
count_is_ticks n some small =
    let line = codes "ticks " ++ decimal n in
    ap (λ (l : List (List ℕ)). events_of (expanded true l)) (lines_of_count true n small)
    ∙ ap events_of (expanded_one true line ∙ counted_line true line n (count_read_back n some small))
    ∙ events_of_ticks n

-- ## Scripts in which no line counts ticks

no_bytes : (o : Option Peer) (text : List ℕ) →
    (o >>= λ source. bytes_of (codes "ticks") text >>= λ bytes. datagram bytes >>= λ b. an_event (Control source b)) ≡ None
unfolding spelling_of
no_bytes None text = refl
no_bytes (Some source) text = refl

no_control : (o : Option (List ℕ × List ℕ)) → (o >>= λ parts. peer_of parts.0 >>= λ source.
    bytes_of (codes "ticks") parts.1 >>= λ bytes. datagram bytes >>= λ b. an_event (Control source b)) ≡ None
no_control None = refl
no_control (Some parts) = no_bytes (peer_of parts.0) parts.1

control_none : (rest : List ℕ) → control_of (codes "ticks") rest ≡ None
unfolding control_of
control_none rest = no_control (cut 32 rest)

datagram_none : (rest : List ℕ) → datagram_of (codes "ticks " ++ rest) ≡ None
unfolding datagram_of
datagram_none rest = rw (cut_seam 32 (codes "ticks") rest refl refl) (control_none rest)

either_none : (long : Bool) (o : Option (Option Event)) → o ≡ None → (if long then None else o) ≡ None
either_none true o none = refl
either_none false o none = none

-- As an ordinary script line, a line that counts ticks is bad.
count_none : (rest : List ℕ) → event_of (codes "ticks " ++ rest) ≡ None
unfolding event_of
count_none rest = either_none _ (datagram_of (codes "ticks " ++ rest)) (datagram_none rest)

is_ticks : (line : List ℕ) (b : Bool) (n : ℕ) → bytes_eq (take 6 line) (codes "ticks ") ≡ b →
    (if b && not (bytes_eq (take 1 (drop 6 line)) (codes "0"))
    then decimal_of 20 18446744073709551615 (drop 6 line) else None) ≡ Some n → line ≡ codes "ticks " ++ drop 6 line
is_ticks line true n is counted =
    sym (take-append-drop 6 line)
    ∙ ap (λ (l : List ℕ). l ++ drop 6 line) ((bytes_eq-Decides (take 6 line) (codes "ticks ")).0 is)
is_ticks line false n is counted = absurd (cc counted)

counted_none : (line : List ℕ) (n : ℕ) → ticks_in line ≡ Some n → event_of line ≡ None
counted_none line n counted =
    ap event_of (is_ticks line (bytes_eq (take 6 line) (codes "ticks ")) n refl counted) ∙ count_none (drop 6 line)

plain_case : (line : List ℕ) (e : Option Event) (o : Option ℕ) → ticks_in line ≡ o → event_of line ≡ Some e → o ≡ None
plain_case line e None is event = refl
plain_case line e (Some n) is event =
    let none : event_of line ≡ None = counted_none line n is in
    absurd (cc (none, event))

event_plain : (c : Bool) (line : List ℕ) (e : Option Event) → event_of line ≡ Some e → counted_in c line ≡ None
event_plain true line e is = plain_case line e (ticks_in line) refl is
event_plain false line e is = refl

same_lines : (line : List ℕ) (o : Option (Option Event)) (all : Option (List Event)) (es : List Event) →
    (o >>= λ e. all >>= λ l. Some (then_all e l)) ≡ Some es →
    (e : Option Event) × (l : List Event) × (o ≡ Some e) × (all ≡ Some l)
same_lines line None all es is = absurd (cc is)
same_lines line (Some e) None es is = absurd (cc is)
same_lines line (Some e) (Some l) es is = (e, l, refl, refl)

-- A script in which no line counts ticks is read unchanged.
pub script_stays : (c : Bool) (lines : List (List ℕ)) (es : List Event) → events_of lines ≡ Some es →
    expanded c lines ≡ lines
unfolding expanded events_of
script_stays c [] es is = refl
script_stays c (line ∷ lines) es is =
    let (e, l, event, more) = same_lines line (event_of line) (events_of lines) es is in
    ap (λ (front : List (List ℕ)). front ++ expanded (c || is_mark line) lines)
    (plain_line c line (event_plain c line e event))
    ∙ ap (λ (l : List (List ℕ)). line ∷ l) (script_stays (c || is_mark line) lines l more)

-- A script in which no line counts ticks has the same events, whether or not ticks are counted.
pub script_same : (c : Bool) (lines : List (List ℕ)) (es : List Event) → events_of lines ≡ Some es →
    events_of (expanded c lines) ≡ Some es
script_same c lines es is = ap events_of (script_stays c lines es is) ∙ is
