-- Reading lines one by one returns what their alternatives offer.
use Rattle.std.proofs.Common.{◌≡◌, ℕ, ◌<◌, ◌≤◌, Bool, true, false, cond, eqb, not, ltb, List, [], ◌∷◌, ◌++◌, length, take, map, Option, Some, None, Result, Ok, Err, refl, sym, ap, ◌∙◌, append_assoc, length-append, arith}
use Rattle.std.proofs.lemmas.List.{append-nil, take-append-le, length-take, take_all, length-map, map-append}
use Rattle.std.proofs.lemmas.Bool.{lt-ltb, le-ltb, ltb-true, ltb-false}
use Rattle.std.specs.Prelude.{◌↔◌, is_some}
use Rattle.std.specs.List.{list_all}
use Rattle.mg_sdp.specs.declared.offer.Offer.{Offer}
use Rattle.mg_sdp.specs.declared.fault.SdpFault.{SdpFault}
use Rattle.mg_sdp.specs.declared.fault.SdpFault.TheVariants.{Line, TooMany}
use Rattle.mg_sdp.specs.declared.alternative.Alternative.{Alternative}
use Rattle.mg_sdp.specs.Lines.{letter_and_value, is_line, content_lines}
use Rattle.mg_sdp.specs.Offer.{offer_of}
use Rattle.mg_sdp.specs.Alternatives.{is_version}
use Rattle.mg_sdp.specs.aids.Contents.{IsContentReading}
use Rattle.mg_sdp.specs.Sessions.{one_alternative, alternatives_after, sessions_of}
use Rattle.mg_sdp.specs.aids.Progress.{Progress}
use Rattle.mg_sdp.specs.aids.Reader.{with_line, progress_at_start, ended, continued, line_read, offers_at_end, finished}
use Rattle.mg_sdp.proofs.GroupLemmas.{are_alternatives}
use Rattle.mg_sdp.proofs.AlternativeLemmas.{state_of, state_of-nil, state_of-push, offer_by-state_of}

abbrev current_of : List (List ℕ) → Option Alternative
current_of [] = None
current_of (line ∷ lines) = Some (state_of (line ∷ lines))

-- The progress of reading after these complete alternatives and these lines of the current alternative.
abbrev progress_of : List (List (List ℕ)) → List (List ℕ) → Progress
progress_of done current = record {
  offers = take 8 (map offer_of done);
  current = current_of current;
  over = ltb 8 (length done);
}

abbrev paused : List (Option Offer) → Bool → Progress
paused offers over = record { offers = offers; current = None; over = over }

paused_same : (xs ys : List (Option Offer)) (a b : Bool) → xs ≡ ys → a ≡ b → paused xs a ≡ paused ys b
paused_same xs ys a b e f = rw (e, f) refl

mapped_push : (done : List (List (List ℕ))) (lines : List (List ℕ)) →
    map offer_of (done ++ lines ∷ []) ≡ map offer_of done ++ offer_of lines ∷ []
mapped_push done lines = map-append offer_of done (lines ∷ [])

-- Ending an alternative adds its offer, or marks the limit as exceeded.
end_within : (done : List (List (List ℕ))) (lines : List (List ℕ)) (over : Bool) → length done < 8 →
    ltb 8 (length done) ≡ over → paused (take 8 (map offer_of done) ++ offer_of lines ∷ []) over ≡
    progress_of (done ++ lines ∷ []) []
end_within done lines over small f =
    let len = length-map done offer_of in
    let more = length-append done (lines ∷ []) in
    let two = length-append (map offer_of done) (offer_of lines ∷ []) in
    let some : take 8 (map offer_of done) ≡ map offer_of done = take_all 8 (map offer_of done) (omega arith) in
    let all : take 8 (map offer_of done ++ offer_of lines ∷ []) ≡ map offer_of done ++ offer_of lines ∷ [] =
    take_all 8 (map offer_of done ++ offer_of lines ∷ []) (omega arith) in
    let was : ltb 8 (length done) ≡ false = le-ltb 8 (length done) (omega arith) in
    let is : ltb 8 (length (done ++ lines ∷ [])) ≡ false = le-ltb 8 (length (done ++ lines ∷ [])) (omega arith) in
    paused_same _ _ _ _ (rw (mapped_push done lines, all, some) refl) (sym f ∙ was ∙ sym is)

end_after : (done : List (List (List ℕ))) (lines : List (List ℕ)) → 8 ≤ length done →
    paused (take 8 (map offer_of done)) true ≡ progress_of (done ++ lines ∷ []) []
end_after done lines large =
    let len = length-map done offer_of in
    let more = length-append done (lines ∷ []) in
    let first : take 8 (map offer_of done ++ offer_of lines ∷ []) ≡ take 8 (map offer_of done) =
    take-append-le 8 (map offer_of done) (offer_of lines ∷ []) (omega arith) in
    let is : ltb 8 (length (done ++ lines ∷ [])) ≡ true = lt-ltb 8 (length (done ++ lines ∷ [])) (omega arith) in
    paused_same _ _ _ _ (rw (mapped_push done lines, first) refl) (sym is)

end_one : (done : List (List (List ℕ))) (lines : List (List ℕ)) (small over : Bool) →
    ltb (length (take 8 (map offer_of done))) 8 ≡ small → ltb 8 (length done) ≡ over
    → cond small (paused (take 8 (map offer_of done) ++ offer_of lines ∷ []) over)
    (paused (take 8 (map offer_of done)) true) ≡ progress_of (done ++ lines ∷ []) []
end_one done lines true over f g = end_within done lines over
    (omega (arith, ltb-true _ _ f, length-take 8 (map offer_of done), length-map done offer_of)) g
end_one done lines false over f g = end_after done lines
    (omega (arith, ltb-false _ _ f, length-take 8 (map offer_of done), length-map done offer_of))

pub ended-progress_of : (done : List (List (List ℕ))) (current : List (List ℕ)) →
    ended (progress_of done current) ≡ progress_of (done ++ one_alternative current) []
ended-progress_of done [] = rw (append-nil done) refl
ended-progress_of done (line ∷ lines) = rw (offer_by-state_of (line ∷ lines))
    (end_one done (line ∷ lines) (ltb (length (take 8 (map offer_of done))) 8) (ltb 8 (length done)) refl refl)

-- The progress after these complete alternatives, while this alternative is read. By the lemmas below, a line is added
-- to the current alternative.
abbrev begun : List (List (List ℕ)) → Alternative → Progress
begun done alternative = record {
  offers = take 8 (map offer_of done);
  current = Some alternative;
  over = ltb 8 (length done);
}

continue_step : (done : List (List (List ℕ))) (current : List (List ℕ)) (line : List ℕ) (letter : ℕ) (value : List ℕ)
    → letter_and_value line ≡ Some (letter, value) →
    continued (progress_of done current) letter value ≡ progress_of done (current ++ line ∷ [])
continue_step done [] line letter value e =
    ap (begun done) (ap (λ (a : Alternative). with_line a letter value) (sym state_of-nil) ∙
    state_of-push [] line letter value e)
continue_step done (first ∷ lines) line letter value e =
    ap (begun done) (state_of-push (first ∷ lines) line letter value e)

line_step : (done : List (List (List ℕ))) (current : List (List ℕ)) (line : List ℕ) (letter : ℕ) (value : List ℕ)
    (version : Bool) → letter_and_value line ≡ Some (letter, value) → eqb letter 118 ≡ version
    → continued (cond version (ended (progress_of done current)) (progress_of done current)) letter value ≡
    cond version (progress_of (done ++ one_alternative current) (line ∷ []))
    (progress_of done (current ++ line ∷ []))
line_step done current line letter value true e f =
    ap (λ (p : Progress). continued p letter value) (ended-progress_of done current) ∙
    continue_step (done ++ one_alternative current) [] line letter value e
line_step done current line letter value false e f = continue_step done current line letter value e

-- The result of reading the remaining lines from this progress.
abbrev pub read_on : Progress → List (List ℕ) → Result (List (Option Offer)) SdpFault
read_on p [] = finished p
read_on p (line ∷ lines) = cond (is_line line) (read_on (line_read p line) lines) (Err Line)

-- The result is the fault `Line` if a line is malformed, and otherwise depends on the number of alternatives.
abbrev given : Bool → List (List (List ℕ)) → Result (List (Option Offer)) SdpFault
given lined alternatives = cond (not lined) (Err Line)
    (cond (ltb 8 (length alternatives)) (Err TooMany) (Ok (map offer_of alternatives)))

closed_at : (done : List (List (List ℕ))) (over : Bool) → ltb 8 (length done) ≡ over →
    offers_at_end (paused (take 8 (map offer_of done)) over) ≡ given true done
closed_at done true e = rw e refl
closed_at done false e =
    let len = length-map done offer_of in
    let all : take 8 (map offer_of done) ≡ map offer_of done =
    take_all 8 (map offer_of done) (omega (arith, ltb-false _ _ e)) in
    rw (e, all) refl

finished-progress_of : (done : List (List (List ℕ))) (current : List (List ℕ)) →
    finished (progress_of done current) ≡ given true (done ++ one_alternative current)
unfolding finished
finished-progress_of done current = ap offers_at_end (ended-progress_of done current) ∙
    closed_at (done ++ one_alternative current) (ltb 8 (length (done ++ one_alternative current))) refl

some_if : (b : Bool) (value : List ℕ) → is_some (cond b (Some value) None) ≡ b
some_if true value = refl
some_if false value = refl

line_read-progress_of : (done : List (List (List ℕ))) (current : List (List ℕ)) (line : List ℕ) (letter : ℕ)
    (value : List ℕ) → letter_and_value line ≡ Some (letter, value)
    → line_read (progress_of done current) line ≡
    cond (is_version line) (progress_of (done ++ one_alternative current) (line ∷ []))
    (progress_of done (current ++ line ∷ []))
unfolding line_read
line_read-progress_of done current line letter value e =
    rw (e, some_if (eqb letter 118) value) (line_step done current line letter value (eqb letter 118) e refl)

-- Reading the remaining lines yields the result for all lines.
read_step : (done : List (List (List ℕ))) (current : List (List ℕ)) (line : List ℕ) (lines : List (List ℕ))
    (version : Bool) → is_version line ≡ version
    → ((done' : List (List (List ℕ))) (current' : List (List ℕ)) →
    read_on (progress_of done' current') lines ≡
    given (list_all is_line lines) (done' ++ alternatives_after current' lines))
    → read_on (cond (is_version line) (progress_of (done ++ one_alternative current) (line ∷ []))
    (progress_of done (current ++ line ∷ []))) lines ≡
    given (list_all is_line lines) (done ++ alternatives_after current (line ∷ lines))
read_step done current line lines true e others =
    rw e (others (done ++ one_alternative current) (line ∷ []) ∙
    ap (given (list_all is_line lines)) (append_assoc done (one_alternative current)
    (alternatives_after (line ∷ []) lines)))
read_step done current line lines false e others = rw e (others done (current ++ line ∷ []))

read_line : (done : List (List (List ℕ))) (current : List (List ℕ)) (line : List ℕ) (lines : List (List ℕ))
    (o : Option (ℕ × List ℕ)) → letter_and_value line ≡ o
    → ((done' : List (List (List ℕ))) (current' : List (List ℕ)) →
    read_on (progress_of done' current') lines ≡
    given (list_all is_line lines) (done' ++ alternatives_after current' lines))
    → read_on (progress_of done current) (line ∷ lines) ≡
    given (list_all is_line (line ∷ lines)) (done ++ alternatives_after current (line ∷ lines))
read_line done current line lines None e others = let fault : is_line line ≡ false = rw e refl in rw fault refl
read_line done current line lines (Some parts) e others =
    let lined : is_line line ≡ true = rw e refl in
    rw lined (ap (λ (p : Progress). read_on p lines) (line_read-progress_of done current line parts.0 parts.1 e) ∙
    read_step done current line lines (is_version line) refl others)

pub read_on-progress_of : (lines : List (List ℕ)) (done : List (List (List ℕ))) (current : List (List ℕ)) →
    read_on (progress_of done current) lines ≡ given (list_all is_line lines) (done ++ alternatives_after current lines)
read_on-progress_of [] done current = finished-progress_of done current
read_on-progress_of (line ∷ lines) done current =
    read_line done current line lines (letter_and_value line) refl
    (λ done' current'. read_on-progress_of lines done' current')

-- Reading the lines of a descriptor's content one by one yields the result that the definitions require.
pub content_read : (content : List ℕ) → read_on progress_at_start (content_lines content) ≡ sessions_of content
unfolding sessions_of
content_read content = read_on-progress_of (content_lines content) [] []

pub sessions_read : (content : List ℕ) (result : Result (List (Option Offer)) SdpFault) →
    result ≡ sessions_of content → IsContentReading content result
unfolding sessions_of
sessions_read content result e = (
  alternatives_after [] (content_lines content),
  are_alternatives (content_lines content),
  e,
)

pub line_fault : (p : Progress) (line : List ℕ) (lines : List (List ℕ)) → is_line line ≡ false →
    read_on p (line ∷ lines) ≡ Err Line
line_fault p line lines e = rw e refl

-- These lemmas show that the result is the fault `Line` if and only if a line is malformed.
over_told : (over : Bool) (offers : List (Option Offer)) → cond over (Err TooMany) (Ok offers) ≡ Err Line → ⊥
over_told true offers e = cc
over_told false offers e = cc

line_told : (lined over : Bool) (offers : List (Option Offer)) →
    (cond (not lined) (Err Line) (cond over (Err TooMany) (Ok offers)) ≡ Err Line) ↔ (lined ≡ false)
line_told true over offers = (λ e. absurd (over_told over offers e), λ e. cc)
line_told false over offers = (λ e. refl, λ e. refl)

pub sessions_fault : (content : List ℕ) (result : Result (List (Option Offer)) SdpFault) →
    result ≡ sessions_of content → (result ≡ Err Line) ↔ (list_all is_line (content_lines content) ≡ false)
unfolding sessions_of
sessions_fault content result e =
    let alternatives = alternatives_after [] (content_lines content) in
    rw e (line_told (list_all is_line (content_lines content)) (ltb 8 (length alternatives))
    (map offer_of alternatives))
