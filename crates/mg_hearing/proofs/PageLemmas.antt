-- Text that is written in pieces, and the output as a page.
use Rattle.std.proofs.Common.{◌≡◌, ◌∙◌, ◌+◌, ◌<◌, ℕ, true, false, List, [], ◌∷◌, ◌++◌, None, Option, Result, Ok, Err, Some, ap, append_assoc, drop, get_or, length, refl, subst, sym}
use Rattle.std.proofs.KnownBytes.{Appends-trans}
use Rattle.std.proofs.lemmas.List.{at_drop_more}
use Rattle.std.specs.Prelude.{IfOk, IfSome}
use Rattle.std.specs.List.{AllZip, flat_map}
use Rattle.std.specs.Io.KnownBytes.{Appends}
use Rattle.mg_core.specs.declared.state.CoreState.{CoreState}
use Rattle.mg_core.specs.Follow.{IsFollowed}
use Rattle.mg_core.specs.Note.{Note}
use Rattle.mg_core.specs.World.{World}
use Rattle.mg_dates.specs.declared.date.Date.{Date}
use Rattle.mg_heard.specs.declared.entry.Entry.{Entry}
use Rattle.mg_heard.specs.declared.extent.Extent.{Extent}
use Rattle.mg_heard.specs.declared.format.Format.{Format}
use Rattle.mg_heard.specs.declared.format.Format.TheVariants as formats
use Rattle.mg_heard.specs.declared.missing.Missing.{Missing}
use Rattle.mg_heard.specs.Escaped.{escaped}
use Rattle.mg_heard.specs.Lines.{head_of}
use Rattle.mg_heard.specs.Reported.{WritesReport}
use Rattle.mg_heard.specs.Told.{TellsAll}
use Rattle.mg_options.specs.declared.status.Status.{Status}
use Rattle.mg_arguments.specs.declared.heard_request.HeardRequest.{HeardRequest}
use Rattle.mg_hearing.specs.declared.question.Question.{Question}
use Rattle.mg_hearing.specs.declared.page_text.TheConstants.{COMMAND, HASH, PROGRAM, PROGRAM_HASH, SIZE, SOURCE, TABLE_END, TICKS, TIME, TRUST, WHOLE}
use Rattle.mg_hearing.specs.Heard.{Prints}
use Rattle.mg_heard.specs.Came.{unless_missing}
use Rattle.mg_options.specs.declared.status.Status.TheVariants.{Done, Unknown}
use Rattle.mg_hearing.specs.Page.{IsDigest, IsFilled, WritesPage, back_parts, front_parts, last_words, party_word, script_name}
use Rattle.mg_hearing.specs.aids.Parts.{IsFront, IsOrigin, IsScale, WritesTable}
use Rattle.mg_hearing.specs.aids.Forms.{PrintsLines, is_page}
use Rattle.mg_hearing.proofs.HeardLemmas.{prints_more}

-- Writing one more piece moves it from the remaining text to the written text.
pub piece_more : {X : Type 0} (f : X → List ℕ) (xs : List X) (i : ℕ) (d : X) (before whole : List ℕ) →
    i < length xs → before ++ flat_map f (drop i xs) ≡ whole →
    (before ++ f (get_or xs i d)) ++ flat_map f (drop (i + 1) xs) ≡ whole
piece_more f xs i d before whole lt is =
    append_assoc before (f (get_or xs i d)) (flat_map f (drop (i + 1) xs)) ∙
    sym (at_drop_more (λ rest. before ++ flat_map f rest) xs i d lt) ∙ is

-- If the format isn't a page, the output in lines is the output that `Prints` requires.
pub as_lines : (format : Format) (at : Option Date) (request : HeardRequest) (asked : Question) (script old new : Option (List ℕ)) (missing : Missing)
    (status : Status) (extent : Extent) (xs : List Entry) → is_page format ≡ false → PrintsLines asked at old new missing status extent xs →
    Prints format at request asked script old new missing status extent xs
as_lines formats.Text None request asked script old new missing status extent xs other h = h
as_lines formats.Text (Some time) request asked script old new missing status extent xs other h = h
as_lines formats.Csv None request asked script old new missing status extent xs other h = h
as_lines formats.Csv (Some time) request asked script old new missing status extent xs other h = h
as_lines formats.Json None request asked script old new missing status extent xs other h = h
as_lines formats.Json (Some time) request asked script old new missing status extent xs other h = h
as_lines formats.Page at request asked script old new missing status extent xs other h = absurd cc

as_form : (format : Format) (at : Option Date) (request : HeardRequest) (asked : Question) (script old new : Option (List ℕ)) (missing : Missing)
    (extent : Extent) (xs : List Entry) → is_page format ≡ true → WritesPage request asked script old new xs →
    Prints format at request asked script old new missing (unless_missing Unknown missing Done) extent xs
as_form formats.Text at request asked script old new missing extent xs page h = absurd cc
as_form formats.Csv at request asked script old new missing extent xs page h = absurd cc
as_form formats.Json at request asked script old new missing extent xs page h = absurd cc
as_form formats.Page at request asked script old new missing extent xs page h = (h, refl)

-- ## Parts

filled_with : List (List ℕ × Option (List ℕ)) → List (List ℕ) → List ℕ
filled_with (part ∷ parts) (shown ∷ more) = part.0 ++ (escaped shown ++ filled_with parts more)
filled_with parts shown = []

IsGiven : List ℕ × Option (List ℕ) → List ℕ → Type 0
IsGiven part shown = IfSome part.1 (λ given. shown ≡ given)

-- Parts that are filled with the given texts satisfy `IsFilled`.
filled : (parts : List (List ℕ × Option (List ℕ))) (shown : List (List ℕ)) → AllZip IsGiven parts shown →
    IsFilled parts (filled_with parts shown)
unfolding IsGiven filled_with
filled [] [] h = refl
filled [] (shown ∷ more) h = absurd h
filled (part ∷ parts) [] h = absurd h
filled (part ∷ parts) (shown ∷ more) h = (shown, filled_with parts more, h.0, filled parts more h.1, refl)

-- Filled parts, followed by more filled parts, satisfy `IsFilled`.
filled_both : (parts more : List (List ℕ × Option (List ℕ))) (a b : List ℕ) → IsFilled parts a → IsFilled more b →
    IsFilled (parts ++ more) (a ++ b)
filled_both [] more a b h k = subst (λ (t : List ℕ). IsFilled more (t ++ b)) (sym h) k
filled_both (part ∷ parts) more a b (shown, others, given, rest, is) k = (
  shown,
  others ++ b,
  given,
  filled_both parts more others b rest k,
  ap (λ (t : List ℕ). t ++ b) is ∙ append_assoc part.0 (escaped shown ++ others) b
      ∙ ap (λ (t : List ℕ). part.0 ++ t) (append_assoc (escaped shown) others b),
)

front_filled : (request : HeardRequest) (front : List ℕ) → IsFront request front → IsFilled (front_parts request) front
unfolding IsGiven filled_with
front_filled request front h =
    let name = script_name request.file request.later in
    subst (λ (t : List ℕ). IsFilled (front_parts request) t) (sym h.is)
    (filled (front_parts request) (name ∷ name ∷ party_word request.query.listener ∷ party_word request.query.talker
    ∷ h.from ∷ h.until ∷ [] ∷ []) (refl, (refl, (refl, (refl, (tt, (tt, (refl, tt))))))))

scale_parts : List (List ℕ × Option (List ℕ))
scale_parts = (TABLE_END.now, None) ∷ (TICKS.now, None) ∷ (WHOLE.now, Some []) ∷ []

origin_parts : HeardRequest → (digest : List ℕ) → List (List ℕ × Option (List ℕ))
origin_parts request digest = (SOURCE.now, Some (script_name request.file request.later)) ∷ (SIZE.now, None) ∷ (HASH.now, Some digest)
    ∷ (TIME.now, None) ∷ (PROGRAM.now, None) ∷ (PROGRAM_HASH.now, None) ∷ (COMMAND.now, None)
    ∷ ([], Some (last_words request.file request.later)) ∷ (TRUST.now, Some []) ∷ []

back_filled : (request : HeardRequest) (digest scale origin : List ℕ) → IsScale scale → IsOrigin request digest origin →
    IsFilled (back_parts request digest) (scale ++ origin)
unfolding IsGiven filled_with scale_parts origin_parts
back_filled request digest scale origin h k =
    let first : IsFilled scale_parts scale = subst (λ (t : List ℕ). IsFilled scale_parts t) (sym h.is)
    (filled scale_parts (h.scale ∷ h.ticks ∷ [] ∷ []) (tt, (tt, (refl, tt)))) in
    let second : IsFilled (origin_parts request digest) origin =
    subst (λ (t : List ℕ). IsFilled (origin_parts request digest) t) (sym k.is)
    (filled (origin_parts request digest) (script_name request.file request.later ∷ k.size ∷ digest ∷ k.covered ∷ k.program ∷ k.program_digest
    ∷ k.options ∷ last_words request.file request.later ∷ [] ∷ []) (refl, (tt, (refl, (tt, (tt, (tt, (tt, (refl, (refl, tt)))))))))) in
    filled_both scale_parts (origin_parts request digest) scale origin first second

-- A table, followed by its scale and the origin, is a page.
pub as_page : (request : HeardRequest) (asked : Question) (script old mid new : Option (List ℕ))
    (scale digest origin : List ℕ) (missing : Missing) (extent : Extent) (xs : List Entry) → is_page asked.style.format ≡ true →
    IsScale scale → IsDigest script digest → IsOrigin request digest origin → Appends mid new (scale ++ origin) →
    WritesTable request asked old mid xs → Prints asked.style.format asked.at request asked script old new missing (unless_missing Unknown missing Done) extent xs
as_page request asked script old mid new scale digest origin missing extent xs page scaled hashed is writes h =
    let (front, rows, begins, lines, table) = h in
    let head = head_of asked.style.format in
    as_form asked.style.format asked.at request asked script old new missing extent xs page (
      front,
      rows,
      digest,
      scale ++ origin,
      front_filled request front begins,
      hashed,
      lines,
      back_filled request digest scale origin scaled is,
      subst (λ (t : List ℕ). Appends old new t) (append_assoc front (head ++ rows) (scale ++ origin)
          ∙ ap (λ (t : List ℕ). front ++ t) (append_assoc head rows (scale ++ origin)))
          (Appends-trans old mid new (front ++ (head ++ rows)) (scale ++ origin) table writes),
    )

-- The front of a page, followed by its rows, is a table.
pub as_table : {S E : Type 0} (request : HeardRequest) (asked : Question) (base : World) (input rest old mid new : Option (List ℕ))
    (front : List ℕ) (A : Missing → List Note → Type 0) (result : Result (S × Extent × Missing) E) →
    IsFront request front → Appends old mid front →
    IfOk result (λ written. (state : CoreState) × IsFollowed base input rest state (λ notes. A written.2 notes
    × TellsAll base notes (λ extent xs. WritesReport asked.style asked.query mid new xs × (written.1 ≡ extent)))) →
    IfOk result (λ written. (state : CoreState) × IsFollowed base input rest state (λ notes. A written.2 notes
    × TellsAll base notes (λ _. WritesTable request asked old new)))
as_table request asked base input rest old mid new front A (Ok value) is begins (state, h) = (
  state,
  prints_more base input rest state (A value.2)
      (λ extent xs. WritesReport asked.style asked.query mid new xs × (value.1 ≡ extent))
      (λ _. WritesTable request asked old new)
      (λ (extent : Extent) (xs : List Entry) (h : WritesReport asked.style asked.query mid new xs × (value.1 ≡ extent)).
      let (text, are, appends) = h.0 in (
        front,
        text,
        is,
        are,
        Appends-trans old mid new front (head_of asked.style.format ++ text) begins appends,
      )) h,
)
as_table request asked base input rest old mid new front A (Err error) is begins h = tt
