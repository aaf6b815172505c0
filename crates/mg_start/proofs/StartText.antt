-- The lines that are appended before a gateway starts, as a reader of the journal reads them.
use Rattle.std.proofs.Common.{◌≡◌, ◌≢◌, ℕ, zero, suc, ◌==◌, ◌^◌, ◌<◌, ◌≤◌, Bool, true, false, ◌||◌, not, eqb, List, [], ◌∷◌, ◌++◌, length, length-append, All, codes, decimal, replicate, Option, Some, None, IfSome, refl, sym, ap, subst, ◌∙◌, append_assoc, append-nil, arith}
use Rattle.std.proofs.lemmas.Bool.{and_parts, eq-eqb, eqb-true, not-true, true≢false}
use Rattle.std.proofs.lemmas.Fmt.{decimal_is_IsNumeral, length-decimal-le}
use Rattle.std.proofs.lemmas.List.Elements.{All-append, All-cons, All-nil}
use Rattle.std.proofs.lemmas.Str.Parse.{digit_from_value}
use Rattle.std.specs.Str.Parse.{AllDigits}
use Rattle.std.specs.List.{list_all}
use Rattle.mg_lines.specs.Lines.{lines_after}
use Rattle.mg_core.specs.declared.event.Event.{Event}
use Rattle.mg_core.specs.declared.event.Event.TheVariants.{Tick}
use Rattle.mg_core.specs.Counted.{ticks_line}
use Rattle.mg_core.specs.Recording.{Noted, RecordingsAreRead}
use Rattle.mg_core.proofs.ReadBackLemmas.{is_not}
use Rattle.mg_serve.proofs.JournalText.{IsScriptFrom, count_script, entry_script, marked, marked_both, no_text, noted, script_more}
use Rattle.mg_start.specs.Journal.{StartsAreRead, fence_comment, missed_lines, start_lines}

-- ## Comments without a line feed inside

plain_byte : (b : ℕ) → is_not 10 b ≡ true → b ≢ 10
plain_byte b h e = true≢false (sym (eq-eqb b 10 e) ∙ not-true (eqb b 10) h)

all_plain : (text : List ℕ) → list_all (is_not 10) text ≡ true → All (λ b. b ≢ 10) text
all_plain [] h = All-nil (λ b. b ≢ 10)
all_plain (b ∷ bs) h =
    let two = and_parts (is_not 10 b) (list_all (is_not 10) bs) h in
    All-cons (λ b. b ≢ 10) b bs (plain_byte b two.0) (all_plain bs two.1)

digits_plain : (ds : List ℕ) → AllDigits 10 ds → All (λ b. b ≢ 10) ds
digits_plain [] h = All-nil (λ b. b ≢ 10)
digits_plain (d ∷ ds) h =
    All-cons (λ b. b ≢ 10) d ds (λ e. omega (arith, digit_from_value d h.0, e)) (digits_plain ds h.1)

-- If the bytes around a number have no line feed, the bytes and the number together have none.
around : (front back : List ℕ) (n : ℕ) → list_all (is_not 10) front ≡ true → list_all (is_not 10) back ≡ true
    → n < 2 ^ 64 → All (λ b. b ≢ 10) (front ++ (decimal n ++ back))
around front back n before after small =
    All-append (λ b. b ≢ 10) front (decimal n ++ back) (all_plain front before)
    (All-append (λ b. b ≢ 10) (decimal n) back (digits_plain (decimal n) (decimal_is_IsNumeral n small).0.1)
    (all_plain back after))

number_short : (n : ℕ) → n < 2 ^ 64 → length (decimal n) ≤ 20
number_short n small = length-decimal-le 20 n (omega arith) (omega arith) small

-- ## The lines as a part of a script

abbrev mark : List ℕ
mark = codes "# counted ticks\n"

marks : marked mark ≡ true
unfolding lines_after
marks = refl

or_marked : (c : Bool) → (c || marked mark) ≡ true
or_marked true = refl
or_marked false = marks

mark_script : RecordingsAreRead → (c : Bool) → IsScriptFrom c mark []
mark_script law c =
    entry_script law c (Noted (codes "counted ticks")) (omega arith, all_plain (codes "counted ticks") refl)

positive : (n : ℕ) → (n == 0) ≡ false → 0 < n
positive zero is = absurd (true≢false is)
positive (suc n) is = omega arith

missed_script : RecordingsAreRead → (missed : ℕ) (none : Bool) → (missed == 0) ≡ none → missed < 2 ^ 64
    → IsScriptFrom true (missed_lines missed) (replicate missed Tick)
missed_script law missed true is small =
    subst (λ (n : ℕ). IsScriptFrom true (missed_lines n) (replicate n Tick)) (sym (eqb-true missed 0 is)) no_text
missed_script law missed false is small =
    let text = codes "missed " ++ (decimal missed ++ codes " ticks") in
    let comment = codes "# " ++ (text ++ codes "\n") in
    let parts : comment ++ ticks_line missed ≡ codes "# missed " ++ (decimal missed ++ (codes " ticks\n" ++ ticks_line missed)) =
    simp append_assoc in
    let plain = around (codes "missed ") (codes " ticks") missed refl refl small in
    rw is (subst (λ (l : List ℕ). IsScriptFrom true l (replicate missed Tick)) parts
    (noted law text comment (ticks_line missed) (replicate missed Tick) refl
    (omega (
      arith,
      length-append (codes "missed ") (decimal missed ++ codes " ticks"),
      length-append (decimal missed) (codes " ticks"),
      number_short missed small,
    )) plain
    (count_script missed (positive missed is) small)))

fence_script : RecordingsAreRead → (fence : Option ℕ) → IfSome fence (λ number. number < 2 ^ 64)
    → IsScriptFrom true (fence_comment fence) []
fence_script law None small = no_text
fence_script law (Some number) small =
    let text = codes "fence " ++ (decimal number ++ []) in
    let comment = codes "# " ++ (text ++ codes "\n") in
    let parts : comment ++ [] ≡ codes "# fence " ++ (decimal number ++ codes "\n") =
    append-nil comment ∙ simp append-nil in
    let plain = around (codes "fence ") [] number refl refl small in
    subst (λ (l : List ℕ). IsScriptFrom true l []) parts
    (noted law text comment [] [] refl
    (omega (
      arith,
      length-append (codes "fence ") (decimal number ++ []),
      length-append (decimal number) [],
      number_short number small,
    )) plain no_text)

rest_script : RecordingsAreRead → (missed : ℕ) (fence : Option ℕ) → missed < 2 ^ 64 → IfSome fence (λ number. number < 2 ^ 64)
    → IsScriptFrom true (missed_lines missed ++ fence_comment fence) (replicate missed Tick)
rest_script law missed fence small known =
    subst (λ (l : List Event). IsScriptFrom true (missed_lines missed ++ fence_comment fence) l)
    (append-nil (replicate missed Tick))
    (script_more true (missed_lines missed) (fence_comment fence) (replicate missed Tick) []
    (missed_script law missed (missed == 0) refl small) (fence_script law fence known))

start_script : RecordingsAreRead → (c : Bool) (missed : ℕ) (fence : Option ℕ) → missed < 2 ^ 64
    → IfSome fence (λ number. number < 2 ^ 64) → IsScriptFrom c (start_lines missed fence) (replicate missed Tick)
start_script law c missed fence small known =
    let rest = missed_lines missed ++ fence_comment fence in
    script_more c mark rest [] (replicate missed Tick) (mark_script law c)
    (subst (λ (b : Bool). IsScriptFrom b rest (replicate missed Tick)) (sym (or_marked c)) (rest_script law missed fence small known))

or_true : (b : Bool) → (b || true) ≡ true
or_true true = refl
or_true false = refl

pub starts_read : RecordingsAreRead → StartsAreRead
starts_read law text told missed fence small known script =
    let start = start_lines missed fence in
    let rest = missed_lines missed ++ fence_comment fence in
    let is : marked start ≡ true =
    marked_both mark rest (mark_script law false).0 ∙ ap (λ (b : Bool). b || marked rest) marks in (
      script_more false text start told (replicate missed Tick) script (start_script law (marked text) missed fence small known),
      marked_both text start script.0 ∙ (ap (λ (b : Bool). marked text || b) is ∙ or_true (marked text)),
    )
