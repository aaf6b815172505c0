-- The text of a report determines its entries.
use Rattle.std.proofs.Common.{◌≡◌, ◌∙◌, ℕ, ◌^◌, ◌<◌, true, List, [], ◌∷◌, ◌++◌, Some, All, flat_map, get_or, length, refl, sym, ap, append_assoc, arith, codes, decimal}
use Rattle.std.specs.List.{list_all}
use Rattle.std.proofs.lemmas.Bool.{eq-eqb, ne_eqb}
use Rattle.std.proofs.lemmas.Fmt.{decimal_injective}
use Rattle.std.proofs.lemmas.List.{append_cancel_left}
use Rattle.std.proofs.lemmas.List.Elements.{All-head, All-tail}
use Rattle.mg_words.specs.Cut.{cut}
use Rattle.mg_words.specs.declared.mode.Mode.{Mode}
use Rattle.mg_words.specs.declared.mode.Mode.TheVariants.{Inactive, SendOnly, ReceiveOnly, SendReceive, Loopback}
use Rattle.mg_words.specs.Mode.{mode_text}
use Rattle.mg_sdp.proofs.DecimalLemmas.{decimal_passes}
use Rattle.mg_sdp.proofs.ReadBackLemmas.{all_append}
use Rattle.mg_core.specs.Flows.{line_head, name_in_line, names_in_line}
use Rattle.mg_core.proofs.ReadBackLemmas.{cut_seam, decimals_above, is_not}

-- ## The fact in a line

pub data Said : Type 0 where
  Ended : Said
  MadeIn : (context port : ℕ) → Said
  MovedTo : (context : ℕ) → Said
  InMode : (mode : Mode) → Said
  Hears : (talkers : List ℕ) → Said

-- A fact about the termination with this number.
pub record Entry : Type 0 where
  pub number : ℕ
  pub said : Said

abbrev said_text : Said → List ℕ
said_text Ended = codes "ended"
said_text (MadeIn context port) = codes "made in context " ++ (decimal context ++ (codes " at port " ++ decimal port))
said_text (MovedTo context) = codes "moved to context " ++ decimal context
said_text (InMode mode) = codes "mode " ++ mode_text mode
said_text (Hears talkers) = codes "hears" ++ names_in_line talkers

abbrev pub line_of : ℕ → Entry → List ℕ
line_of ticks e = line_head ticks e.number ++ ((32 ∷ said_text e.said) ++ codes "\n")

-- The number fits in 64 bits, so its decimal text determines the number.
abbrev pub IsShort : ℕ → Type 0
IsShort n = n < 2 ^ 64

abbrev pub AreShort : Said → Type 0
AreShort Ended = Unit {0}
AreShort (MadeIn context port) = IsShort context × IsShort port
AreShort (MovedTo context) = IsShort context
AreShort (InMode mode) = Unit {0}
AreShort (Hears talkers) = All IsShort talkers

pub record IsShortEntry (e : Entry) : Type 0 where
  pub number : IsShort e.number
  pub said : AreShort e.said

-- ## The parts of a line

pair_same : (p q : List ℕ × List ℕ) → Some p ≡ Some q → p ≡ q
pair_same p q e = cc

-- Suppose two equal strings each have a first occurrence of the same byte. Then their parts before this byte are equal,
-- and so are their parts after it.
two_parts : (byte : ℕ) (a b s t : List ℕ) → list_all (is_not byte) a ≡ true → list_all (is_not byte) b ≡ true →
    a ++ byte ∷ s ≡ b ++ byte ∷ t → (a ≡ b) × (s ≡ t)
two_parts byte a b s t h k e =
    let one : cut byte (a ++ byte ∷ s) ≡ Some (a, s) = cut_seam byte a s (eq-eqb byte byte refl) h in
    let other : cut byte (b ++ byte ∷ t) ≡ Some (b, t) = cut_seam byte b t (eq-eqb byte byte refl) k in
    let same = pair_same (a, s) (b, t) (sym one ∙ ap (cut byte) e ∙ other) in
    (ap (λ (p : List ℕ × List ℕ). p.0) same, ap (λ (p : List ℕ × List ℕ). p.1) same)

decimal_plain : (byte n : ℕ) → byte < 48 → IsShort n → list_all (is_not byte) (decimal n) ≡ true
decimal_plain byte n small short = decimal_passes (is_not byte) (decimals_above byte small) n short

-- Suppose two equal strings start with a number and a space. Then the numbers are equal, and so is the text after the
-- space.
number_then : (m n : ℕ) (s t : List ℕ) → IsShort m → IsShort n → decimal m ++ 32 ∷ s ≡ decimal n ++ 32 ∷ t →
    (m ≡ n) × (s ≡ t)
number_then m n s t h k e =
    let two = two_parts 32 (decimal m) (decimal n) s t (decimal_plain 32 m (omega arith) h)
    (decimal_plain 32 n (omega arith) k) e in
    (decimal_injective m n h k two.0, two.1)

-- ## The names of talkers in a line

-- Names with a space after each of them.
abbrev after_space : List ℕ → List ℕ
after_space [] = []
after_space (n ∷ ns) = codes "RTP/" ++ (decimal n ++ 32 ∷ after_space ns)

spaced : (ns : List ℕ) → flat_map name_in_line ns ++ 32 ∷ [] ≡ 32 ∷ after_space ns
spaced [] = refl
spaced (n ∷ ns) = ap (λ (l : List ℕ). codes " RTP/" ++ l)
    (append_assoc (decimal n) (flat_map name_in_line ns) (32 ∷ []) ∙ ap (λ (l : List ℕ). decimal n ++ l) (spaced ns))

spaced_same : (ns ms : List ℕ) → All IsShort ns → All IsShort ms → after_space ns ≡ after_space ms → ns ≡ ms
spaced_same [] [] h k e = refl
spaced_same [] (m ∷ ms) h k e = absurd (cc e)
spaced_same (n ∷ ns) [] h k e = absurd (cc e)
spaced_same (n ∷ ns) (m ∷ ms) h k e =
    let numbers : decimal n ++ 32 ∷ after_space ns ≡ decimal m ++ 32 ∷ after_space ms = cc in
    let two = number_then n m (after_space ns) (after_space ms) (All-head IsShort n ns h) (All-head IsShort m ms k)
    numbers in
    let rest = spaced_same ns ms (All-tail IsShort n ns h) (All-tail IsShort m ms k) two.1 in
    λ i. two.0 i ∷ rest i

named_all : (n : ℕ) (ns : List ℕ) → names_in_line (n ∷ ns) ≡ flat_map name_in_line (n ∷ ns)
named_all n ns = rw (ne_eqb (length (n ∷ ns)) 0 (λ e. absurd (omega (arith, e)))) refl

names_same : (ns ms : List ℕ) → All IsShort ns → All IsShort ms → names_in_line ns ≡ names_in_line ms → ns ≡ ms
names_same [] [] h k e = refl
names_same [] (m ∷ ms) h k e = absurd (omega (arith, ap (λ l. get_or l 1 0) (e ∙ named_all m ms)))
names_same (n ∷ ns) [] h k e = absurd (omega (arith, ap (λ l. get_or l 1 0) (sym (named_all n ns) ∙ e)))
names_same (n ∷ ns) (m ∷ ms) h k e =
    let both : 32 ∷ after_space (n ∷ ns) ≡ 32 ∷ after_space (m ∷ ms) =
    sym (spaced (n ∷ ns)) ∙ ap (λ l. l ++ 32 ∷ []) (sym (named_all n ns) ∙ e ∙ named_all m ms) ∙ spaced (m ∷ ms) in
    let rest : after_space (n ∷ ns) ≡ after_space (m ∷ ms) = cc in
    spaced_same (n ∷ ns) (m ∷ ms) h k rest

-- ## The text of a fact

mode_same : (a b : Mode) → mode_text a ≡ mode_text b → a ≡ b
unfolding mode_text
mode_same Inactive Inactive e = refl
mode_same SendOnly SendOnly e = refl
mode_same ReceiveOnly ReceiveOnly e = refl
mode_same SendReceive SendReceive e = refl
mode_same Loopback Loopback e = refl
mode_same a b e = absurd (omega (arith, ap (λ l. get_or l 0 0) e, ap (λ l. get_or l 4 0) e))

said_same : (s t : Said) → AreShort s → AreShort t → said_text s ≡ said_text t → s ≡ t
said_same Ended Ended h k e = refl
said_same (MadeIn c p) (MadeIn d q) h k e =
    let context = number_then c d (codes "at port " ++ decimal p) (codes "at port " ++ decimal q) h.0 k.0
    (append_cancel_left (codes "made in context ") _ _ e) in
    let port = decimal_injective p q h.1 k.1 (append_cancel_left (codes "at port ") _ _ context.1) in
    λ i. MadeIn (context.0 i) (port i)
said_same (MovedTo c) (MovedTo d) h k e =
    ap MovedTo (decimal_injective c d h k (append_cancel_left (codes "moved to context ") _ _ e))
said_same (InMode m) (InMode n) h k e = ap InMode (mode_same m n (append_cancel_left (codes "mode ") _ _ e))
said_same (Hears ns) (Hears ms) h k e = ap Hears (names_same ns ms h k (append_cancel_left (codes "hears") _ _ e))
said_same s t h k e = absurd (omega (arith, ap (λ l. get_or l 1 0) e, ap (λ l. get_or l 2 0) e))

mode_plain : (m : Mode) → list_all (is_not 10) (mode_text m) ≡ true
unfolding mode_text
mode_plain Inactive = refl
mode_plain SendOnly = refl
mode_plain ReceiveOnly = refl
mode_plain SendReceive = refl
mode_plain Loopback = refl

name_plain : (ns : List ℕ) → All IsShort ns → list_all (is_not 10) (flat_map name_in_line ns) ≡ true
name_plain [] h = refl
name_plain (n ∷ ns) h = all_append (is_not 10) (name_in_line n) (flat_map name_in_line ns)
    (decimal_plain 10 n (omega arith) (All-head IsShort n ns h)) (name_plain ns (All-tail IsShort n ns h))

names_plain : (ns : List ℕ) → All IsShort ns → list_all (is_not 10) (names_in_line ns) ≡ true
names_plain [] h = refl
names_plain (n ∷ ns) h = rw (named_all n ns) (name_plain (n ∷ ns) h)

-- The text of a fact has no line feed.
said_plain : (s : Said) → AreShort s → list_all (is_not 10) (said_text s) ≡ true
said_plain Ended h = refl
said_plain (MadeIn context port) h = all_append (is_not 10) (decimal context) (codes " at port " ++ decimal port)
    (decimal_plain 10 context (omega arith) h.0) (decimal_plain 10 port (omega arith) h.1)
said_plain (MovedTo context) h = decimal_plain 10 context (omega arith) h
said_plain (InMode mode) h = mode_plain mode
said_plain (Hears talkers) h = names_plain talkers h

-- ## Lines

-- The rest of a line after its number of ticks, and the text after that line.
abbrev named : Entry → List ℕ → List ℕ
named e rest = codes " ticks: RTP/" ++ (decimal e.number ++ 32 ∷ (said_text e.said ++ 10 ∷ rest))

line_then : (ticks : ℕ) (e : Entry) (rest : List ℕ) →
    line_of ticks e ++ rest ≡ codes "# " ++ (decimal ticks ++ named e rest)
line_then ticks e rest = simp append_assoc

line_same : (ticks : ℕ) (e f : Entry) (rest others : List ℕ) → IsShortEntry e → IsShortEntry f →
    line_of ticks e ++ rest ≡ line_of ticks f ++ others → (e ≡ f) × (rest ≡ others)
line_same ticks e f rest others h k same =
    let text = append_cancel_left (codes "# ") (decimal ticks ++ named e rest) (decimal ticks ++ named f others)
    (sym (line_then ticks e rest) ∙ same ∙ line_then ticks f others) in
    let names = append_cancel_left (decimal ticks) (named e rest) (named f others) text in
    let number = number_then e.number f.number (said_text e.said ++ 10 ∷ rest) (said_text f.said ++ 10 ∷ others)
    h.number k.number (append_cancel_left (codes " ticks: RTP/") _ _ names) in
    let said = two_parts 10 (said_text e.said) (said_text f.said) rest others (said_plain e.said h.said)
    (said_plain f.said k.said) number.1 in
    let is = said_same e.said f.said h.said k.said said.0 in
    (λ i. record { number = number.0 i; said = is i }, said.1)

-- If two lists of entries with numbers of at most 64 bits have equal lines, the entries are equal too.
pub lines_same : (ticks : ℕ) (es fs : List Entry) → All IsShortEntry es → All IsShortEntry fs →
    flat_map (line_of ticks) es ≡ flat_map (line_of ticks) fs → es ≡ fs
lines_same ticks [] [] h k same = refl
lines_same ticks [] (f ∷ fs) h k same = absurd (cc same)
lines_same ticks (e ∷ es) [] h k same = absurd (cc same)
lines_same ticks (e ∷ es) (f ∷ fs) h k same =
    let two = line_same ticks e f (flat_map (line_of ticks) es) (flat_map (line_of ticks) fs)
    (All-head IsShortEntry e es h) (All-head IsShortEntry f fs k) same in
    let rest = lines_same ticks es fs (All-tail IsShortEntry e es h) (All-tail IsShortEntry f fs k) two.1 in
    λ i. two.0 i ∷ rest i
