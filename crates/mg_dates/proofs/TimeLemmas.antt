-- Dates in comments, and how timelines change with more notes.
use Rattle.std.proofs.Common.{◌≡◌, ◌≢◌, ℕ, ◌+◌, ◌-◌, ◌^◌, ◌≤◌, suc, zero, Bool, true, false, ◌&&◌, cond, List, [], ◌∷◌, ◌++◌, codes, drop, length, min, take, Option, Some, None, refl, sym, ap, ◌∙◌, subst, arith}
use Rattle.std.specs.Prelude.{reverse, IsUtf8}
use Rattle.std.specs.Option.{option_map_or}
use Rattle.std.specs.Str.{bytes_eq, is_utf8}
use Rattle.std.proofs.lemmas.List.{append-nil, reverse-append}
use Rattle.std.proofs.lemmas.Str.{IsUtf8-from_is_utf8, is_utf8-from_IsUtf8}
use Rattle.mg_core.specs.declared.event.Event.{Event}
use Rattle.mg_core.specs.declared.event.Event.TheVariants.{Control, Media, Tick}
use Rattle.mg_core.specs.Counting.{is_tick}
use Rattle.mg_core.specs.Follow.{ticks_of}
use Rattle.mg_core.specs.Note.{Note, Comment, Happened}
use Rattle.mg_dates.specs.Dates.{date_of_text}
use Rattle.mg_dates.specs.Times.{after_date, after_ticks, agreement_of, date_in, next_tick, timeline_of, up_to_limit, with_date}
use Rattle.mg_dates.specs.declared.agreement.Agreement.{Agreement}
use Rattle.mg_dates.specs.declared.agreement.Agreement.TheVariants.{Agrees, First, JumpedAhead, WentBack}
use Rattle.mg_dates.specs.declared.date.Date.{Date}
use Rattle.mg_dates.specs.declared.timeline.Timeline.{Timeline}

-- ## Dates in comments

cond_both : {A : Type 0} (a b : Bool) (x y : A) → a ≡ true → b ≡ true → cond (a && b) x y ≡ x
cond_both true true x y h k = refl
cond_both true false x y h k = absurd cc
cond_both false b x y h k = absurd cc

pub date_read : (line mark text : List ℕ) → mark ≡ codes "# time " → bytes_eq (take (length mark) line) mark ≡ true →
    text ≡ drop (length mark) line → IsUtf8 text → date_of_text text ≡ date_in line
date_read line mark text is begins rest utf8 =
    let same : text ≡ drop 7 line = rest ∙ ap (λ (l : List ℕ). drop (length l) line) is in
    let first = subst (λ (l : List ℕ). bytes_eq (take (length l) line) l ≡ true) is begins in
    ap date_of_text same ∙ sym (cond_both (bytes_eq (take 7 line) (codes "# time ")) (is_utf8 (drop 7 line))
    (date_of_text (drop 7 line)) None first
    (is_utf8-from_IsUtf8 (drop 7 line) (subst (λ (l : List ℕ). IsUtf8 l) same utf8)))

cond_other : {A : Type 0} (a b : Bool) (x y : A) → ¬ b ≡ true → cond (a && b) x y ≡ y
cond_other true true x y h = absurd (h refl)
cond_other true false x y h = refl
cond_other false b x y h = refl

pub date_unread : (line mark text : List ℕ) → mark ≡ codes "# time " → text ≡ drop (length mark) line → ¬ IsUtf8 text →
    None ≡ date_in line
date_unread line mark text is rest bad =
    let same : text ≡ drop 7 line = rest ∙ ap (λ (l : List ℕ). drop (length l) line) is in
    sym (cond_other (bytes_eq (take 7 line) (codes "# time ")) (is_utf8 (drop 7 line)) (date_of_text (drop 7 line)) None
    (λ e. bad (subst (λ (l : List ℕ). IsUtf8 l) (sym same) (IsUtf8-from_is_utf8 (drop 7 line) e))))

-- ## Notes, newest first

pub back_one : (notes : List Note) (note : Note) → reverse (notes ++ note ∷ []) ≡ note ∷ reverse notes
back_one notes note = reverse-append notes (note ∷ [])

ticks_back : (n : ℕ) (older : List Note) → ticks_of (suc n) ++ older ≡ ticks_of n ++ Happened Tick ∷ older
ticks_back zero older = refl
ticks_back (suc n) older = ap (λ (l : List Note). Happened Tick ∷ l) (ticks_back n older)

same_ticks : (n : ℕ) → reverse (ticks_of n) ≡ ticks_of n
same_ticks zero = refl
same_ticks (suc n) = reverse-append (Happened Tick ∷ []) (ticks_of n)
    ∙ ap (λ (l : List Note). l ++ Happened Tick ∷ []) (same_ticks n) ∙ sym (ticks_back n [])
    ∙ append-nil (ticks_of (suc n))

pub back_ticks : (notes : List Note) (n : ℕ) → reverse (notes ++ ticks_of n) ≡ ticks_of n ++ reverse notes
back_ticks notes n = reverse-append notes (ticks_of n) ∙ ap (λ (l : List Note). l ++ reverse notes) (same_ticks n)

-- ## Timelines after more notes

pub no_tick : (event : Event) → event ≢ Tick → is_tick event ≡ false
no_tick (Control source bytes) h = refl
no_tick (Media port source bytes) h = refl
no_tick Tick h = absurd (h refl)

pub timeline_comment : (notes : List Note) (line : List ℕ) (old new : Timeline) → old ≡ timeline_of (reverse notes) →
    new ≡ option_map_or (after_date old) (date_in line) old →
    new ≡ timeline_of (reverse (notes ++ Comment line ∷ []))
unfolding timeline_of
timeline_comment notes line old new is after =
    after ∙ ap (λ (t : Timeline). option_map_or (after_date t) (date_in line) t) is
    ∙ sym (ap timeline_of (back_one notes (Comment line)))

if_tick : (b : Bool) (t : Timeline) → b ≡ false → t ≡ cond b (after_ticks 1 t) t
if_tick true t h = absurd cc
if_tick false t h = refl

pub timeline_datagram : (older : List Note) (event : Event) → event ≢ Tick →
    timeline_of older ≡ timeline_of (Happened event ∷ older)
unfolding timeline_of
timeline_datagram older event h = if_tick (is_tick event) (timeline_of older) (no_tick event h)

within : (n m : ℕ) → min n m ≤ m
within n m = omega arith

kept : (b : Bool) (t : Timeline) → t.ticks ≤ 2 ^ 64 - 1 → (cond b (after_ticks 1 t) t).ticks ≤ 2 ^ 64 - 1
kept true t h = omega arith
kept false t h = h

dated_limit : (agreement : Agreement) (date : Date) (t : Timeline) → t.ticks ≤ 2 ^ 64 - 1 →
    (with_date agreement date t).ticks ≤ 2 ^ 64 - 1
dated_limit Agrees date t h = h
dated_limit First date t h = omega arith
dated_limit WentBack date t h = omega arith
dated_limit JumpedAhead date t h = omega arith

found_limit : (found : Option Date) (t : Timeline) → t.ticks ≤ 2 ^ 64 - 1 →
    (option_map_or (after_date t) found t).ticks ≤ 2 ^ 64 - 1
found_limit None t h = h
found_limit (Some date) t h = dated_limit (agreement_of (next_tick t) date) date t h

timeline_limit : (older : List Note) → (timeline_of older).ticks ≤ 2 ^ 64 - 1
unfolding timeline_of
timeline_limit [] = omega arith
timeline_limit (Comment line ∷ older) = found_limit (date_in line) (timeline_of older) (timeline_limit older)
timeline_limit (Happened event ∷ older) = kept (is_tick event) (timeline_of older) (timeline_limit older)

no_more : (n : ℕ) → n ≤ 2 ^ 64 - 1 → n ≡ up_to_limit (n + 0)
no_more n h = omega arith

one_more : (n m : ℕ) → up_to_limit (up_to_limit (n + m) + 1) ≡ up_to_limit (n + suc m)
one_more n m = omega arith

pub timeline_ticks : (n : ℕ) (older : List Note) → timeline_of (ticks_of n ++ older) ≡ after_ticks n (timeline_of older)
unfolding timeline_of
timeline_ticks zero older = λ i. record {
  start = (timeline_of older).start;
  ticks = no_more (timeline_of older).ticks (timeline_limit older) i;
}
timeline_ticks (suc n) older = ap (after_ticks 1) (timeline_ticks n older)
    ∙ λ i. record { start = (timeline_of older).start; ticks = one_more (timeline_of older).ticks n i }

pub timeline_more : (notes : List Note) (count : ℕ) (old new : Timeline) → old ≡ timeline_of (reverse notes) →
    new ≡ after_ticks count old → new ≡ timeline_of (reverse (notes ++ ticks_of count))
timeline_more notes count old new is after = after ∙ ap (after_ticks count) is
    ∙ sym (timeline_ticks count (reverse notes)) ∙ sym (ap timeline_of (back_ticks notes count))
