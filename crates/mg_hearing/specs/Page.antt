-- The page (HTML) that `mg_bridge heard --report` prints. Its fixed parts are constants of the program. Between them
-- are escaped texts and the rows of a table.
use Rattle.std.specs.Prelude.{◌≡◌, ℕ, ◌==◌, List, [], ◌∷◌, ◌++◌}
use Rattle.std.specs.Prelude.{◌-◌, Option, Some, None, codes, filter, length, unwrap_or, IfSome, if◌then◌else◌}
use Rattle.std.specs.Io.KnownBytes.{Appends}
use Rattle.std.specs.List.{flat_map, slice_get}
use Rattle.std.specs.Option.{option_map_or}
use Rattle.hex.specs.Hex.{encode_lower}
use Rattle.sha2.specs.Sha256.{sha256}
use Rattle.mg_heard.specs.declared.entry.Entry.{Entry}
use Rattle.mg_heard.specs.declared.asked.Asked.{Asked}
use Rattle.mg_heard.specs.declared.asked.Asked.TheVariants.{Key, Name}
use Rattle.mg_heard.specs.Escaped.{escaped}
use Rattle.mg_heard.specs.Lines.{AreLines, head_of}
use Rattle.mg_heard.specs.Query.{party_name_text, selects_entry}
use Rattle.mg_arguments.specs.declared.heard_request.HeardRequest.{HeardRequest}
use Rattle.mg_hearing.specs.declared.question.Question.{Question}
use Rattle.mg_hearing.specs.declared.page_text.TheConstants.{TITLE, ASKED, LISTENER, TALKER, FROM}
use Rattle.mg_hearing.specs.declared.page_text.TheConstants.{UNTIL, ANSWER, TABLE_END, TICKS, WHOLE}
use Rattle.mg_hearing.specs.declared.page_text.TheConstants.{SOURCE, SIZE, HASH, TIME}
use Rattle.mg_hearing.specs.declared.page_text.TheConstants.{PROGRAM, PROGRAM_HASH, COMMAND, TRUST}

-- ## Words of a command line

-- A byte within single quotes on a command line. A single quote is written as the end of the quoted string, an escaped
-- quote and the start of another quoted string.
abbrev pub quoted_byte : ℕ → List ℕ
quoted_byte b = if b == 39 then codes "'\\''" else b ∷ []

-- `text` as one word of a command line.
abbrev pub quoted : List ℕ → List ℕ
quoted text = codes "'" ++ (flat_map quoted_byte text ++ codes "'")

-- ## The question

-- The terminations that a question is about, as text.
abbrev pub party_word : Option Asked → List ℕ
party_word None = codes "anyone"
party_word (Some (Key key)) = party_name_text key
party_word (Some (Name name)) = name

-- The name of a script: that of its first file, and that of the last one if there are several.
abbrev pub script_name : (file : Option (List ℕ)) → (later : List (List ℕ)) → List ℕ
script_name file later = unwrap_or file (codes "standard input")
    ++ option_map_or (λ last. codes " to " ++ last) (slice_get later (length later - 1)) []

-- ## The page

-- A part of a page: fixed texts, each followed by an escaped text. If a part gives no text to escape, the escaped text
-- can be any text.
abbrev pub IsFilled : List (List ℕ × Option (List ℕ)) → List ℕ → Type 0
IsFilled [] text = text ≡ []
IsFilled (part ∷ parts) text =
    (shown : List ℕ) × (others : List ℕ) × IfSome part.1 (λ given. shown ≡ given)
    × IsFilled parts others × (text ≡ part.0 ++ (escaped shown ++ others))

-- The part of a page before the table.
abbrev pub front_parts : HeardRequest → List (List ℕ × Option (List ℕ))
front_parts request =
    (TITLE.now, Some (script_name request.file request.later)) ∷ (ASKED.now, Some (script_name request.file request.later))
    ∷ (LISTENER.now, Some (party_word request.query.listener))
    ∷ (TALKER.now, Some (party_word request.query.talker)) ∷ (FROM.now, None) ∷ (UNTIL.now, None)
    ∷ (ANSWER.now, Some []) ∷ []

-- The end of a command: the quoted names of files, or a placeholder for the input, which has no name.
abbrev pub last_words : (file : Option (List ℕ)) → (later : List (List ℕ)) → List ℕ
last_words None later = codes " < FILE"
last_words (Some name) later = codes " -- " ++ (quoted name ++ flat_map (λ file. codes " " ++ quoted file) later)

-- The end of a page. It states the timeline's scale after the table, the script with this digest, the program that
-- wrote the page, and the command that makes the page.
abbrev pub back_parts : HeardRequest → (digest : List ℕ) → List (List ℕ × Option (List ℕ))
back_parts request digest =
    (TABLE_END.now, None) ∷ (TICKS.now, None) ∷ (WHOLE.now, Some [])
    ∷ (SOURCE.now, Some (script_name request.file request.later)) ∷ (SIZE.now, None) ∷ (HASH.now, Some digest)
    ∷ (TIME.now, None) ∷ (PROGRAM.now, None) ∷ (PROGRAM_HASH.now, None) ∷ (COMMAND.now, None)
    ∷ ([], Some (last_words request.file request.later)) ∷ (TRUST.now, Some []) ∷ []

-- If the text is known, these are the lower-case hexadecimal digits of its SHA-256.
abbrev pub IsDigest : Option (List ℕ) → List ℕ → Type 0
IsDigest text digest = IfSome text (λ t. digest ≡ encode_lower (sha256 t))

-- A writer has received a page with a row for each entry that the query selects, and with the script's digest. (No
-- contract says that the timeline's scale, the times, the program's hash and the options are correct.)
abbrev pub WritesPage : HeardRequest → Question → (script old new : Option (List ℕ)) → List Entry
    → Type 0
WritesPage request asked script old new xs =
    (front : List ℕ) × (rows : List ℕ) × (digest : List ℕ) × (back : List ℕ)
    × IsFilled (front_parts request) front × IsDigest script digest
    × AreLines asked.style (filter (selects_entry asked.query) xs) rows
    × IsFilled (back_parts request digest) back
    × Appends old new (front ++ (head_of asked.style.format ++ (rows ++ back)))
