-- The requests that the options of `mg_bridge heard` make.
use Rattle.std.proofs.Common.{◌≡◌, ◌∙◌, Bool, true, false, List, [], ◌∷◌, Option, Some, None, Result, Ok, Err, ap, codes, sym}
use Rattle.std.specs.Prelude.{ok_or, unwrap_or, if◌then◌else◌}
use Rattle.std.specs.Option.{option_map_or}
use Rattle.clap.specs.Walk.{Row, Text, first_of}
use Rattle.clap.specs.Kinds.{Kinds}
use Rattle.clap.specs.declared.error.kind.ErrorKind.TheVariants.{ValueValidation}
use Rattle.mg_words.specs.ResultSteps.{◌>>=◌}
use Rattle.mg_dates.specs.Dates.{date_of_text}
use Rattle.mg_dates.specs.declared.date.Date.{Date}
use Rattle.mg_heard.specs.declared.format.Format.{Format}
use Rattle.mg_heard.specs.declared.format.Format.TheVariants as formats
use Rattle.mg_heard.specs.declared.asked.Asked.{Asked}
use Rattle.mg_heard.specs.declared.asked_query.AskedQuery.{AskedQuery}
use Rattle.mg_service.specs.declared.file_path_fault.FilePathFault.{FilePathFault}
use Rattle.mg_arguments.specs.declared.heard_request.HeardRequest.{HeardRequest}
use Rattle.mg_arguments.specs.declared.invocation.Invocation.{Invocation}
use Rattle.mg_arguments.specs.declared.printing.Printing.{Printing}
use Rattle.mg_service.specs.FilePath.{file_path}
use Rattle.mg_arguments.specs.Options.{asked_in, form_in, format_of, is_set, later_in, named_by, printing_in, query_in, request_in, reshapes_page, valid, value_by}
use Rattle.mg_arguments.specs.ZoneName.{zone_name}
use Rattle.mg_arguments.specs.aids.Options.{PathsAre, Refuses}
use Rattle.mg_arguments.specs.declared.option_fault.OptionFault.{OptionFault}
use Rattle.mg_arguments.specs.declared.option_fault.OptionFault.TheVariants.{Invalid, NoMemory}

abbrev valid_value : {A : Type 0} → Option A → Result (Option A) Kinds
valid_value read = ok_or read (ValueValidation ∷ []) >>= (λ value. Ok (Some value))

abbrev read_by : {A : Type 0} → (Text → Option A) → Option Text → Result (Option A) Kinds
read_by read text = option_map_or (λ t. valid_value (read t)) text (Ok None)

-- If the option's text has a value, `value_by` returns this value.
pub named_is : {A : Type 0} (read : Text → Option A) (name : Text) (rows : List Row) (text : Text) (value : A) →
    Some text ≡ first_of name rows → Some value ≡ read text → value_by read name rows ≡ Ok (Some value)
named_is read name rows text value named is = sym (ap valid_value is ∙ ap (read_by read) named)

pub named_fails : {A : Type 0} (read : Text → Option A) (name : Text) (rows : List Row) (text : Text) →
    Some text ≡ first_of name rows → None ≡ read text → value_by read name rows ≡ Err (ValueValidation ∷ [])
named_fails read name rows text named is = sym (ap valid_value is ∙ ap (read_by read) named)

pub not_named : {A : Type 0} (read : Text → Option A) (name : Text) (rows : List Row) → None ≡ first_of name rows →
    value_by read name rows ≡ Ok None
not_named read name rows named = sym (ap (read_by read) named)

-- If a step returns a value, the next step continues with the value.
pub goes_on : {A B : Type 0} (value : A) (read : Result A Kinds) (next : A → Result B Kinds) → read ≡ Ok value →
    (read >>= next) ≡ next value
goes_on {A = A} value read next is = ap (λ (r : Result A Kinds). r >>= next) is

pub ends : {A B : Type 0} (kinds : Kinds) (read : Result A Kinds) (next : A → Result B Kinds) → read ≡ Err kinds →
    (read >>= next) ≡ Err kinds
ends {A = A} kinds read next is = ap (λ (r : Result A Kinds). r >>= next) is

-- ## The query

abbrev with_until : (listener talker : Option Asked) → (from until : Option Date) → Result AskedQuery Kinds
with_until listener talker from until =
    Ok (record { listener = listener; talker = talker; from = from; until = until })

abbrev with_from : List Row → (listener talker : Option Asked) → Option Date → Result AskedQuery Kinds
with_from rows listener talker from =
    value_by date_of_text (codes "to") rows >>= with_until listener talker from

abbrev with_talker : List Row → (listener talker : Option Asked) → Result AskedQuery Kinds
with_talker rows listener talker =
    value_by date_of_text (codes "from") rows >>= with_from rows listener talker

abbrev with_listener : List Row → Option Asked → Result AskedQuery Kinds
with_listener rows listener =
    value_by (asked_in rows) (codes "talker") rows >>= with_talker rows listener

at_listener : (rows : List Row) (listener : Option Asked) →
    value_by (asked_in rows) (codes "listener") rows ≡ Ok listener → query_in rows ≡ with_listener rows listener
at_listener rows listener is =
    goes_on listener (value_by (asked_in rows) (codes "listener") rows) (with_listener rows) is

at_talker : (rows : List Row) (listener talker : Option Asked) →
    value_by (asked_in rows) (codes "listener") rows ≡ Ok listener →
    value_by (asked_in rows) (codes "talker") rows ≡ Ok talker → query_in rows ≡ with_talker rows listener talker
at_talker rows listener talker is heard =
    at_listener rows listener is ∙
    goes_on talker (value_by (asked_in rows) (codes "talker") rows) (with_talker rows listener) heard

at_from : (rows : List Row) (listener talker : Option Asked) (from : Option Date) →
    value_by (asked_in rows) (codes "listener") rows ≡ Ok listener →
    value_by (asked_in rows) (codes "talker") rows ≡ Ok talker →
    value_by date_of_text (codes "from") rows ≡ Ok from → query_in rows ≡ with_from rows listener talker from
at_from rows listener talker from is heard begins =
    at_talker rows listener talker is heard ∙
    goes_on from (value_by date_of_text (codes "from") rows) (with_from rows listener talker) begins

pub query_is : (rows : List Row) (listener talker : Option Asked) (from until : Option Date) →
    value_by (asked_in rows) (codes "listener") rows ≡ Ok listener →
    value_by (asked_in rows) (codes "talker") rows ≡ Ok talker →
    value_by date_of_text (codes "from") rows ≡ Ok from → value_by date_of_text (codes "to") rows ≡ Ok until →
    query_in rows ≡ with_until listener talker from until
query_is rows listener talker from until is heard begins lasts =
    at_from rows listener talker from is heard begins ∙
    goes_on until (value_by date_of_text (codes "to") rows) (with_until listener talker from) lasts

pub refuses_listener : (rows : List Row) →
    value_by (asked_in rows) (codes "listener") rows ≡ Err (ValueValidation ∷ []) →
    query_in rows ≡ Err (ValueValidation ∷ [])
refuses_listener rows none =
    ends (ValueValidation ∷ []) (value_by (asked_in rows) (codes "listener") rows) (with_listener rows) none

pub refuses_talker : (rows : List Row) (listener : Option Asked) →
    value_by (asked_in rows) (codes "listener") rows ≡ Ok listener →
    value_by (asked_in rows) (codes "talker") rows ≡ Err (ValueValidation ∷ []) →
    query_in rows ≡ Err (ValueValidation ∷ [])
refuses_talker rows listener is none =
    at_listener rows listener is ∙
    ends (ValueValidation ∷ []) (value_by (asked_in rows) (codes "talker") rows) (with_talker rows listener) none

pub refuses_from : (rows : List Row) (listener talker : Option Asked) →
    value_by (asked_in rows) (codes "listener") rows ≡ Ok listener →
    value_by (asked_in rows) (codes "talker") rows ≡ Ok talker →
    value_by date_of_text (codes "from") rows ≡ Err (ValueValidation ∷ []) →
    query_in rows ≡ Err (ValueValidation ∷ [])
refuses_from rows listener talker is heard none =
    at_talker rows listener talker is heard ∙
    ends (ValueValidation ∷ []) (value_by date_of_text (codes "from") rows) (with_from rows listener talker) none

pub refuses_until : (rows : List Row) (listener talker : Option Asked) (from : Option Date) →
    value_by (asked_in rows) (codes "listener") rows ≡ Ok listener →
    value_by (asked_in rows) (codes "talker") rows ≡ Ok talker →
    value_by date_of_text (codes "from") rows ≡ Ok from →
    value_by date_of_text (codes "to") rows ≡ Err (ValueValidation ∷ []) →
    query_in rows ≡ Err (ValueValidation ∷ [])
refuses_until rows listener talker from is heard begins none =
    at_from rows listener talker from is heard begins ∙
    ends (ValueValidation ∷ []) (value_by date_of_text (codes "to") rows) (with_until listener talker from) none

-- ## The format

abbrev formed : Bool → Bool → Result (Option Format) Kinds → Result Format Kinds
formed page reshapes named =
    if page then (if reshapes then Err (ValueValidation ∷ []) else Ok formats.Page)
    else (named >>= (λ format. Ok (unwrap_or format formats.Text)))

in_format : (rows : List Row) (named : Result (Option Format) Kinds) → is_set (codes "report") rows ≡ false →
    value_by format_of (codes "format") rows ≡ named → form_in rows ≡ formed false (reshapes_page rows) named
in_format rows named lines is =
    ap (λ (b : Bool). formed b (reshapes_page rows) (value_by format_of (codes "format") rows)) lines ∙
    ap (λ (r : Result (Option Format) Kinds). formed false (reshapes_page rows) r) is

pub form_is : (rows : List Row) (format : Option Format) → is_set (codes "report") rows ≡ false →
    value_by format_of (codes "format") rows ≡ Ok format → form_in rows ≡ Ok (unwrap_or format formats.Text)
form_is rows format lines is = in_format rows (Ok format) lines is

pub refuses_form : (rows : List Row) → is_set (codes "report") rows ≡ false →
    value_by format_of (codes "format") rows ≡ Err (ValueValidation ∷ []) → form_in rows ≡ Err (ValueValidation ∷ [])
refuses_form rows lines none = in_format rows (Err (ValueValidation ∷ [])) lines none

on_page : (rows : List Row) (reshapes : Bool) → is_set (codes "report") rows ≡ true → reshapes_page rows ≡ reshapes →
    form_in rows ≡ formed true reshapes (value_by format_of (codes "format") rows)
on_page rows reshapes page is =
    ap (λ (b : Bool). formed b (reshapes_page rows) (value_by format_of (codes "format") rows)) page ∙
    ap (λ (b : Bool). formed true b (value_by format_of (codes "format") rows)) is

pub form_is_page : (rows : List Row) → is_set (codes "report") rows ≡ true → reshapes_page rows ≡ false →
    form_in rows ≡ Ok formats.Page
form_is_page rows page own = on_page rows false page own

pub refuses_page : (rows : List Row) → is_set (codes "report") rows ≡ true → reshapes_page rows ≡ true →
    form_in rows ≡ Err (ValueValidation ∷ [])
refuses_page rows page other = on_page rows true page other

-- ## The style of answers

abbrev with_names : Format → (zone names : Option Text) → Result Printing Kinds
with_names format zone names =
    Ok (record { format = format; zone = zone; names = names })

abbrev with_zone : List Row → Format → Option Text → Result Printing Kinds
with_zone rows format zone = valid (named_by file_path (codes "names") rows) >>= with_names format zone

abbrev with_format : List Row → Format → Result Printing Kinds
with_format rows format = value_by zone_name (codes "zone") rows >>= with_zone rows format

at_format : (rows : List Row) (format : Format) → form_in rows ≡ Ok format →
    printing_in rows ≡ with_format rows format
at_format rows format is = goes_on format (form_in rows) (with_format rows) is

at_zone : (rows : List Row) (format : Format) (zone : Option Text) →
    form_in rows ≡ Ok format → value_by zone_name (codes "zone") rows ≡ Ok zone →
    printing_in rows ≡ with_zone rows format zone
at_zone rows format zone is placed =
    at_format rows format is ∙ goes_on zone (value_by zone_name (codes "zone") rows) (with_zone rows format) placed

pub printing_is : (rows : List Row) (format : Format) (zone names : Option Text) →
    form_in rows ≡ Ok format → value_by zone_name (codes "zone") rows ≡ Ok zone →
    Ok names ≡ named_by file_path (codes "names") rows → printing_in rows ≡ with_names format zone names
printing_is rows format zone names is placed called =
    at_zone rows format zone is placed ∙ goes_on names (valid (named_by file_path (codes "names") rows)) (with_names format zone)
    (ap (λ (r : Result (Option Text) FilePathFault). valid r) (sym called))

pub refuses_format : (rows : List Row) → form_in rows ≡ Err (ValueValidation ∷ []) →
    printing_in rows ≡ Err (ValueValidation ∷ [])
refuses_format rows none =
    ends (ValueValidation ∷ []) (form_in rows) (with_format rows) none

pub refuses_zone : (rows : List Row) (format : Format) → form_in rows ≡ Ok format →
    value_by zone_name (codes "zone") rows ≡ Err (ValueValidation ∷ []) → printing_in rows ≡ Err (ValueValidation ∷ [])
refuses_zone rows format is none =
    at_format rows format is ∙
    ends (ValueValidation ∷ []) (value_by zone_name (codes "zone") rows) (with_zone rows format) none

pub refuses_names : (rows : List Row) (format : Format) (zone : Option Text) (fault : FilePathFault) →
    form_in rows ≡ Ok format → value_by zone_name (codes "zone") rows ≡ Ok zone →
    Err fault ≡ named_by file_path (codes "names") rows → printing_in rows ≡ Err (ValueValidation ∷ [])
refuses_names rows format zone fault is placed none =
    at_zone rows format zone is placed ∙
    ends (ValueValidation ∷ []) (valid (named_by file_path (codes "names") rows)) (with_names format zone)
    (ap (λ (r : Result (Option Text) FilePathFault). valid r) (sym none))

-- ## The question

abbrev with_later : AskedQuery → Option Date → Printing → Option Text → List Text → Result HeardRequest Kinds
with_later query time printing file later = Ok (record {
  file = file;
  later = later;
  printing = printing;
  query = query;
  at = time;
})

abbrev with_file : List Row → AskedQuery → Option Date → Printing → Option Text → Result HeardRequest Kinds
with_file rows query time printing file = valid (later_in rows) >>= with_later query time printing file

abbrev with_printing : List Row → AskedQuery → Option Date → Printing → Result HeardRequest Kinds
with_printing rows query time printing =
    valid (named_by file_path (codes "file") rows) >>= with_file rows query time printing

abbrev with_time : List Row → AskedQuery → Option Date → Result HeardRequest Kinds
with_time rows query time = printing_in rows >>= with_printing rows query time

abbrev with_query : List Row → AskedQuery → Result HeardRequest Kinds
with_query rows query = value_by date_of_text (codes "at") rows >>= with_time rows query

at_query : (rows : List Row) (query : AskedQuery) → query_in rows ≡ Ok query → request_in rows ≡ with_query rows query
at_query rows query is = goes_on query (query_in rows) (with_query rows) is

at_time : (rows : List Row) (query : AskedQuery) (time : Option Date) → query_in rows ≡ Ok query →
    value_by date_of_text (codes "at") rows ≡ Ok time → request_in rows ≡ with_time rows query time
at_time rows query time is timed =
    at_query rows query is ∙
    goes_on time (value_by date_of_text (codes "at") rows) (with_time rows query) timed

at_printing : (rows : List Row) (query : AskedQuery) (time : Option Date) (printing : Printing) →
    query_in rows ≡ Ok query → value_by date_of_text (codes "at") rows ≡ Ok time →
    printing_in rows ≡ Ok printing → request_in rows ≡ with_printing rows query time printing
at_printing rows query time printing is timed formed =
    at_time rows query time is timed ∙
    goes_on printing (printing_in rows) (with_printing rows query time) formed

at_file : (rows : List Row) (query : AskedQuery) (time : Option Date) (printing : Printing) (file : Option Text) →
    query_in rows ≡ Ok query → value_by date_of_text (codes "at") rows ≡ Ok time →
    printing_in rows ≡ Ok printing → Ok file ≡ named_by file_path (codes "file") rows →
    request_in rows ≡ with_file rows query time printing file
at_file rows query time printing file is timed formed named =
    at_printing rows query time printing is timed formed ∙
    goes_on file (valid (named_by file_path (codes "file") rows)) (with_file rows query time printing)
    (ap (λ (r : Result (Option Text) FilePathFault). valid r) (sym named))

pub heard_is : (rows : List Row) (query : AskedQuery) (time : Option Date) (printing : Printing) (file : Option Text)
    (later : List Text) → query_in rows ≡ Ok query → value_by date_of_text (codes "at") rows ≡ Ok time →
    printing_in rows ≡ Ok printing → Ok file ≡ named_by file_path (codes "file") rows → later_in rows ≡ Ok later →
    request_in rows ≡ with_later query time printing file later
heard_is rows query time printing file later is timed formed named others =
    at_file rows query time printing file is timed formed named ∙
    goes_on later (valid (later_in rows)) (with_later query time printing file)
    (ap (λ (r : Result (List Text) FilePathFault). valid r) others)

pub refuses_query : (rows : List Row) → query_in rows ≡ Err (ValueValidation ∷ []) →
    request_in rows ≡ Err (ValueValidation ∷ [])
refuses_query rows none = ends (ValueValidation ∷ []) (query_in rows) (with_query rows) none

pub refuses_time : (rows : List Row) (query : AskedQuery) → query_in rows ≡ Ok query →
    value_by date_of_text (codes "at") rows ≡ Err (ValueValidation ∷ []) →
    request_in rows ≡ Err (ValueValidation ∷ [])
refuses_time rows query is none =
    at_query rows query is ∙
    ends (ValueValidation ∷ []) (value_by date_of_text (codes "at") rows) (with_time rows query) none

pub refuses_printing : (rows : List Row) (query : AskedQuery) (time : Option Date) → query_in rows ≡ Ok query →
    value_by date_of_text (codes "at") rows ≡ Ok time →
    printing_in rows ≡ Err (ValueValidation ∷ []) →
    request_in rows ≡ Err (ValueValidation ∷ [])
refuses_printing rows query time is timed none =
    at_time rows query time is timed ∙
    ends (ValueValidation ∷ []) (printing_in rows) (with_printing rows query time) none

pub refuses_file : (rows : List Row) (query : AskedQuery) (time : Option Date) (printing : Printing)
    (fault : FilePathFault) → query_in rows ≡ Ok query → value_by date_of_text (codes "at") rows ≡ Ok time →
    printing_in rows ≡ Ok printing → Err fault ≡ named_by file_path (codes "file") rows →
    request_in rows ≡ Err (ValueValidation ∷ [])
refuses_file rows query time printing fault is timed formed none =
    at_printing rows query time printing is timed formed ∙
    ends (ValueValidation ∷ []) (valid (named_by file_path (codes "file") rows)) (with_file rows query time printing)
    (ap (λ (r : Result (Option Text) FilePathFault). valid r) (sym none))

-- The paths of the later files can't be used, or memory ran out.
pub refuses_later : (rows : List Row) (query : AskedQuery) (time : Option Date) (printing : Printing)
    (file : Option Text) (fault : OptionFault) → query_in rows ≡ Ok query →
    value_by date_of_text (codes "at") rows ≡ Ok time → printing_in rows ≡ Ok printing →
    Ok file ≡ named_by file_path (codes "file") rows → PathsAre (later_in rows) (Err fault) →
    Refuses fault (request_in rows)
refuses_later rows query time printing file NoMemory is timed formed named none = tt
refuses_later rows query time printing file (Invalid message) is timed formed named (fault, none) =
    at_file rows query time printing file is timed formed named ∙
    ends (ValueValidation ∷ []) (valid (later_in rows)) (with_later query time printing file)
    (ap (λ (r : Result (List Text) FilePathFault). valid r) none)

-- ## The run for a question

pub asks : (f : HeardRequest → Result Invocation Kinds) (rows : List Row) (request : HeardRequest)
    (answer : Result Invocation Kinds) → request_in rows ≡ Ok request → f request ≡ answer →
    (request_in rows >>= f) ≡ answer
asks f rows request answer is e = goes_on request (request_in rows) f is ∙ e

pub refuses_request : (f : HeardRequest → Result Invocation Kinds) (rows : List Row) (fault : OptionFault) →
    Refuses fault (request_in rows) → Refuses fault (request_in rows >>= f)
refuses_request f rows NoMemory none = tt
refuses_request f rows (Invalid message) none = ends (ValueValidation ∷ []) (request_in rows) f none
