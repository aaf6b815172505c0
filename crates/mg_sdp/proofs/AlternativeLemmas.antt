-- Reading lines one by one results in an alternative that offers what the definitions say.
use Rattle.std.proofs.Common.{◌≡◌, ℕ, Bool, true, false, ◌&&◌, cond, eqb, List, [], ◌∷◌, ◌++◌, Option, Some, None, refl, ap}
use Rattle.std.proofs.lemmas.List.{append-nil}
use Rattle.std.proofs.lemmas.List.Elements.{filter_map-append}
use Rattle.std.proofs.lemmas.List.Folds.{list_all-append}
use Rattle.std.proofs.lemmas.Bool.{eqb-true}
use Rattle.std.specs.List.{list_all, last_or, cons_option}
use Rattle.std.specs.Option.{option_map_or}
use Rattle.mg_words.specs.OptionSteps.{◌>>=◌}
use Rattle.mg_sdp.specs.declared.media.MediaLine.{MediaLine}
use Rattle.mg_sdp.specs.declared.part.AlternativePart.{AlternativePart}
use Rattle.mg_sdp.specs.declared.part.AlternativePart.TheVariants.{Missing, Faulty}
use Rattle.mg_sdp.specs.declared.alternative.Alternative.{Alternative}
use Rattle.mg_sdp.specs.Lines.{letter_and_value, line_value, values_of}
use Rattle.mg_sdp.specs.Fields.{fields_of}
use Rattle.mg_sdp.specs.Media.{media_in}
use Rattle.mg_sdp.specs.Connection.{connection_in}
use Rattle.mg_sdp.specs.Offer.{is_served_version, is_served_attribute, only_media, offer_of}
use Rattle.mg_sdp.specs.aids.Reader.{offer_with, part_of, no_lines, with_line, media_with_line, offer_at, offer_from, offer_by}

abbrev media_part : List (List ℕ) → AlternativePart MediaLine
media_part [] = Missing
media_part (value ∷ []) = part_of (media_in (fields_of value))
media_part (value ∷ another ∷ values) = Faulty

abbrev connection_part : Option (List ℕ) → AlternativePart (Option (List ℕ))
connection_part None = Missing
connection_part (Some value) = part_of (connection_in (fields_of value))

-- The alternative whose lines have these values of v=, a=, m= and c=.
abbrev state_by : List (List ℕ) → List (List ℕ) → List (List ℕ) → List (List ℕ) → Alternative
state_by versions attributes medias connections = record {
  holds = list_all is_served_version versions && list_all is_served_attribute attributes;
  media = media_part medias;
  connection = connection_part (last_or None connections);
}

-- The alternative that consists of these lines.
unfoldable pub state_of : List (List ℕ) → Alternative
state_of lines = state_by (values_of 118 lines) (values_of 97 lines) (values_of 109 lines) (values_of 99 lines)

pub state_of-nil : state_of [] ≡ no_lines
unfolding state_of
state_of-nil = refl

-- These lemmas show that the offer of the alternative is the offer of its lines.
offer_given : (holds : Bool) (o : Option MediaLine) (address : Option (List ℕ)) →
    offer_at holds (part_of o) address ≡ (o >>= (λ media. cond holds (Some (offer_with media address)) None))
offer_given holds None address = refl
offer_given holds (Some media) address = refl

offer_medias : (holds : Bool) (medias : List (List ℕ)) (address : Option (List ℕ)) →
    offer_at holds (media_part medias) address ≡
    (only_media medias >>= (λ media. cond holds (Some (offer_with media address)) None))
offer_medias holds [] address = refl
offer_medias holds (value ∷ []) address = offer_given holds (media_in (fields_of value)) address
offer_medias holds (value ∷ another ∷ values) address = refl

offer_connected : (holds : Bool) (medias : List (List ℕ)) (o : Option (Option (List ℕ))) →
    offer_from holds (media_part medias) (part_of o) ≡
    (o >>= (λ address. only_media medias >>= (λ media. cond holds (Some (offer_with media address)) None)))
offer_connected holds medias None = refl
offer_connected holds medias (Some address) = offer_medias holds medias address

-- The address that the last connection line asks for.
abbrev address_by : Option (List ℕ) → Option (Option (List ℕ))
address_by last = option_map_or (λ value. connection_in (fields_of value)) last (Some None)

offer_last : (holds : Bool) (medias : List (List ℕ)) (last : Option (List ℕ)) →
    offer_from holds (media_part medias) (connection_part last) ≡
    (address_by last >>= (λ address. only_media medias >>=
    (λ media. cond holds (Some (offer_with media address)) None)))
offer_last holds medias None = offer_medias holds medias None
offer_last holds medias (Some value) = offer_connected holds medias (connection_in (fields_of value))

pub offer_by-state_of : (lines : List (List ℕ)) → offer_by (state_of lines) ≡ offer_of lines
unfolding state_of offer_of
offer_by-state_of lines = offer_last (list_all is_served_version (values_of 118 lines) && list_all is_served_attribute
    (values_of 97 lines)) (values_of 109 lines) (last_or None (values_of 99 lines))

-- These lemmas are about reading one more line: its value is added to the values of its letter.
and_version : (a b c : Bool) → ((a && b) && c) ≡ ((a && (c && true)) && b)
and_version true true true = refl
and_version true true false = refl
and_version true false true = refl
and_version true false false = refl
and_version false b c = refl

and_attribute : (a b c : Bool) → ((a && b) && c) ≡ (a && (b && (c && true)))
and_attribute true true true = refl
and_attribute true true false = refl
and_attribute true false c = refl
and_attribute false b c = refl

part_faulty : (o : Option MediaLine) (value : List ℕ) → media_with_line (part_of o) value ≡ Faulty
part_faulty None value = refl
part_faulty (Some media) value = refl

media_push : (medias : List (List ℕ)) (value : List ℕ) →
    media_with_line (media_part medias) value ≡ media_part (medias ++ value ∷ [])
media_push [] value = refl
media_push (first ∷ []) value = part_faulty (media_in (fields_of first)) value
media_push (first ∷ another ∷ values) value = refl

last_push : (o : Option (List ℕ)) (values : List (List ℕ)) (value : List ℕ) →
    last_or o (values ++ value ∷ []) ≡ Some value
last_push o [] value = refl
last_push o (first ∷ values) value = last_push (Some first) values value

-- The values of letter k after a line with this letter and value.
abbrev more : List (List ℕ) → ℕ → ℕ → List ℕ → List (List ℕ)
more values k letter value = values ++ cons_option (cond (eqb letter k) (Some value) None) []

abbrev states : List (List ℕ) → List (List ℕ) → List (List ℕ) → List (List ℕ) → ℕ → List ℕ → Alternative
states versions attributes medias connections letter value =
    state_by (more versions 118 letter value) (more attributes 97 letter value) (more medias 109 letter value)
    (more connections 99 letter value)

abbrev with_holds : AlternativePart MediaLine → AlternativePart (Option (List ℕ)) → Bool → Alternative
with_holds media connection holds = record { holds = holds; media = media; connection = connection }

step_version : (versions attributes medias connections : List (List ℕ)) (value : List ℕ) →
    with_line (state_by versions attributes medias connections) 118 value ≡
    states versions attributes medias connections 118 value
step_version versions attributes medias connections value =
    simp (append-nil, list_all-append) (ap (with_holds (media_part medias)
    (connection_part (last_or None connections)))
    (and_version (list_all is_served_version versions) (list_all is_served_attribute attributes)
    (is_served_version value)))

step_attribute : (versions attributes medias connections : List (List ℕ)) (value : List ℕ) →
    with_line (state_by versions attributes medias connections) 97 value ≡
    states versions attributes medias connections 97 value
step_attribute versions attributes medias connections value =
    simp (append-nil, list_all-append) (ap (with_holds (media_part medias)
    (connection_part (last_or None connections)))
    (and_attribute (list_all is_served_version versions) (list_all is_served_attribute attributes)
    (is_served_attribute value)))

step_media : (versions attributes medias connections : List (List ℕ)) (value : List ℕ) →
    with_line (state_by versions attributes medias connections) 109 value ≡
    states versions attributes medias connections 109 value
step_media versions attributes medias connections value = simp (append-nil, media_push)

step_connection : (versions attributes medias connections : List (List ℕ)) (value : List ℕ) →
    with_line (state_by versions attributes medias connections) 99 value ≡
    states versions attributes medias connections 99 value
step_connection versions attributes medias connections value = simp (append-nil, last_push)

step_other : (versions attributes medias connections : List (List ℕ)) (letter : ℕ) (value : List ℕ) →
    eqb letter 118 ≡ false → eqb letter 97 ≡ false → eqb letter 109 ≡ false → eqb letter 99 ≡ false
    → with_line (state_by versions attributes medias connections) letter value ≡
    states versions attributes medias connections letter value
step_other versions attributes medias connections letter value e f g h = rw (e, f, g, h) (simp append-nil)

-- Reading a line with any letter results in the alternative that includes the line.
cases_step : (versions attributes medias connections : List (List ℕ)) (letter : ℕ) (value : List ℕ) (a b c d : Bool) →
    eqb letter 118 ≡ a → eqb letter 97 ≡ b → eqb letter 109 ≡ c → eqb letter 99 ≡ d
    → with_line (state_by versions attributes medias connections) letter value ≡
    states versions attributes medias connections letter value
cases_step versions attributes medias connections letter value true b c d e f g h =
    rw (eqb-true letter 118 e) (step_version versions attributes medias connections value)
cases_step versions attributes medias connections letter value false true c d e f g h =
    rw (eqb-true letter 97 f) (step_attribute versions attributes medias connections value)
cases_step versions attributes medias connections letter value false false true d e f g h =
    rw (eqb-true letter 109 g) (step_media versions attributes medias connections value)
cases_step versions attributes medias connections letter value false false false true e f g h =
    rw (eqb-true letter 99 h) (step_connection versions attributes medias connections value)
cases_step versions attributes medias connections letter value false false false false e f g h =
    step_other versions attributes medias connections letter value e f g h

pub state_of-push : (lines : List (List ℕ)) (line : List ℕ) (letter : ℕ) (value : List ℕ) →
    letter_and_value line ≡ Some (letter, value) →
    with_line (state_of lines) letter value ≡ state_of (lines ++ line ∷ [])
unfolding state_of
state_of-push lines line letter value e =
    rw (
      filter_map-append (line_value 118) lines (line ∷ []),
      filter_map-append (line_value 97) lines (line ∷ []),
      filter_map-append (line_value 109) lines (line ∷ []),
      filter_map-append (line_value 99) lines (line ∷ []),
      e,
    )
    (cases_step (values_of 118 lines) (values_of 97 lines) (values_of 109 lines) (values_of 99 lines) letter value
    (eqb letter 118) (eqb letter 97) (eqb letter 109) (eqb letter 99) refl refl refl refl)
