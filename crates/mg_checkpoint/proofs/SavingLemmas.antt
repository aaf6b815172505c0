-- What is saved of terminations and contexts.
use Rattle.std.proofs.Common.{◌≡◌, ℕ, zero, suc, ◌-◌, ◌<◌, ◌≤◌, ◌==◌, eq-eqb, refl, List, [], ◌∷◌, ◌++◌, append_assoc, ◌∙◌, length, get_or, map, zip, take, take_all, Some, option_map, sym, ap, subst, arith}
use Rattle.std.proofs.lemmas.List.{get_or-map, length-map}
use Rattle.std.proofs.lemmas.Option.{slice_get-get_or}
use Rattle.std.specs.List.{count_by, slice_get}
use Rattle.mg_rooms.specs.declared.context.Context.{Context}
use Rattle.mg_rooms.specs.declared.record.Record.{Record}
use Rattle.mg_rooms.specs.Consistent.{IsConsistent}
use Rattle.mg_rooms.specs.Registry.{Registry, context_at}
use Rattle.mg_rooms.proofs.CountLemmas.{count-append, find-at}
use Rattle.mg_engine.specs.declared.sent_media.SentMedia.{SentMedia}
use Rattle.mg_engine.specs.Gateway.{Gateway, TerminationMedia}
use Rattle.mg_engine.specs.aids.Quiet.{sent_of}
use Rattle.mg_checkpoint.specs.aids.Text.{opening_lines}
use Rattle.mg_checkpoint.specs.Said.{SaidTermination, muted_for, said_termination, said_terminations}

-- Five parts, of which the last isn't appended yet.
pub five_parts : (o p q r s a b c d e : List ℕ) → p ≡ o ++ a → q ≡ p ++ b → r ≡ q ++ c → s ≡ r ++ d
    → s ++ e ≡ o ++ (a ++ (b ++ (c ++ (d ++ e))))
five_parts o p q r s a b c d e f g h i = rw (i, h, g, f) (simp append_assoc)

-- Three parts of one piece of text.
pub three_parts : (o p q r a b c : List ℕ) → p ≡ o ++ a → q ≡ p ++ b → r ≡ q ++ c → r ≡ o ++ ((a ++ b) ++ c)
three_parts o p q r a b c e f g = g ∙ rw (f, e) (simp append_assoc)

-- If the numbers are equal, the first two lines, which say them, are equal too.
pub same_opening : (o : List ℕ) (a b c d v w x y : ℕ) → a ≡ v → b ≡ w → c ≡ x → d ≡ y
    → o ++ opening_lines a b c d ≡ o ++ opening_lines v w x y
same_opening o a b c d v w x y e f g h = cc

-- ## Terminations

abbrev pub said_with : Gateway → Record → SentMedia → SaidTermination
said_with w r sent = record { termination = r; sent = sent; muted = muted_for w r }

zipped : (w : Gateway) (rs : List Record) (ss : List TerminationMedia) (i : ℕ) (r : Record) (sent : SentMedia)
    → slice_get rs i ≡ Some r → option_map (sent_of w.config) (slice_get ss i) ≡ Some sent
    → slice_get (map (said_termination w) (zip rs ss)) i ≡ Some (said_with w r sent)
zipped w [] ss i r sent e f = absurd (cc)
zipped w (x ∷ rs) [] i r sent e f = absurd (cc)
zipped w (x ∷ rs) (s ∷ ss) zero r sent e f =
    let record_is : x ≡ r = cc in
    let sent_is : sent_of w.config s ≡ sent = cc in
    cc
zipped w (x ∷ rs) (s ∷ ss) (suc i) r sent e f = zipped w rs ss i r sent e f

-- What is said of the termination at an index.
pub said_at : (w : Gateway) (i : ℕ) (r : Record) (sent : SentMedia) → slice_get w.rooms.terminations i ≡ Some r
    → option_map (sent_of w.config) (slice_get w.media i) ≡ Some sent
    → slice_get (said_terminations w) i ≡ Some (said_with w r sent)
said_at w i r sent e f = zipped w w.rooms.terminations w.media i r sent e f

said_short : (w : Gateway) (rs : List Record) (ss : List TerminationMedia)
    → length (map (said_termination w) (zip rs ss)) ≤ length rs
said_short w [] ss = omega arith
said_short w (r ∷ rs) [] = omega arith
said_short w (r ∷ rs) (s ∷ ss) = omega (arith, said_short w rs ss)

-- If there are at most `n` terminations, what is said of the first `n` is all that is said.
pub all_said : (w : Gateway) (n : ℕ) → length w.rooms.terminations ≤ n
    → take n (said_terminations w) ≡ said_terminations w
all_said w n enough =
    take_all n (said_terminations w) (omega (arith, said_short w w.rooms.terminations w.media, enough))

-- ## Contexts

no_context : Context
no_context = record { number = 0; room = 0; members = [] }

-- The context at an index is found by its number.
pub context_step : (w : Registry) (numbers : List ℕ) (i : ℕ) → IsConsistent w → numbers ≡ map (λ x. x.number) w.contexts
    → i < length numbers → (x : Context) × (slice_get w.contexts i ≡ Some x)
    × (context_at w (get_or numbers i 0) ≡ Some x) × (x.number ≡ get_or numbers i 0)
context_step w numbers i consistent these within =
    let x = get_or w.contexts i no_context in
    let below : i < length w.contexts
    = subst (λ n. i < n) (ap length these ∙ length-map w.contexts (λ x. x.number)) within in
    let number : get_or numbers i 0 ≡ x.number
    = ap (λ ns. get_or ns i 0) these ∙ get_or-map (λ x. x.number) w.contexts i no_context 0 below in
    let found : context_at w x.number ≡ Some x
    = find-at (λ y. y.number == x.number) w.contexts i no_context below (eq-eqb x.number x.number refl)
    (consistent.contexts.one_number x.number) in (
      x,
      slice_get-get_or w.contexts i no_context below,
      subst (λ n. context_at w n ≡ Some x) (sym number) found,
      sym number,
    )

pub all_contexts : (w : Registry) (numbers : List ℕ) (n : ℕ) → numbers ≡ map (λ x. x.number) w.contexts
    → length numbers ≤ n → take n w.contexts ≡ w.contexts
all_contexts w numbers n these enough =
    take_all n w.contexts (subst (λ k. k ≤ n) (ap length these ∙ length-map w.contexts (λ x. x.number)) enough)

-- ## The last line

-- The number of line feeds grows by that of the text that was appended.
pub lines_of_body : (old body all : List ℕ) → all ≡ old ++ body
    → count_by (λ b. b == 10) all - count_by (λ b. b == 10) old ≡ count_by (λ b. b == 10) body
lines_of_body old body all is =
    ap (λ text. count_by (λ b. b == 10) text - count_by (λ b. b == 10) old) is
    ∙ omega (arith, count-append (λ (b : ℕ). b == 10) old body)

-- The last line says how many line feeds the text that was appended has.
pub last_lines : (old body all : List ℕ) (olds alls : List ℕ) (before after lines : ℕ) → all ≡ old ++ body → olds ≡ old
    → alls ≡ all → before ≡ count_by (λ b. b == 10) olds → after ≡ count_by (λ b. b == 10) alls → lines ≡ after - before
    → lines ≡ count_by (λ b. b == 10) body
last_lines old body all olds alls before after lines is e f g h i =
    let one : before ≡ count_by (λ b. b == 10) old = g ∙ ap (count_by (λ b. b == 10)) e in
    let two : after ≡ count_by (λ b. b == 10) all = h ∙ ap (count_by (λ b. b == 10)) f in
    let left = lines_of_body old body all is in
    cc
