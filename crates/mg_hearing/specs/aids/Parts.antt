-- The parts of a page, as the code writes them.
use Rattle.std.specs.Prelude.{◌≡◌, ℕ, List, [], ◌∷◌, ◌++◌}
use Rattle.std.specs.Prelude.{Option, filter}
use Rattle.std.specs.Io.KnownBytes.{Appends}
use Rattle.std.specs.List.{concat}
use Rattle.mg_heard.specs.declared.entry.Entry.{Entry}
use Rattle.mg_heard.specs.Escaped.{escaped}
use Rattle.mg_heard.specs.Lines.{AreLines, head_of}
use Rattle.mg_heard.specs.Query.{selects_entry}
use Rattle.mg_arguments.specs.declared.heard_request.HeardRequest.{HeardRequest}
use Rattle.mg_hearing.specs.declared.question.Question.{Question}
use Rattle.mg_hearing.specs.declared.page_text.TheConstants.{TITLE, ASKED, LISTENER, TALKER, FROM}
use Rattle.mg_hearing.specs.declared.page_text.TheConstants.{UNTIL, ANSWER, TABLE_END, TICKS, WHOLE}
use Rattle.mg_hearing.specs.declared.page_text.TheConstants.{SOURCE, SIZE, HASH, TIME}
use Rattle.mg_hearing.specs.declared.page_text.TheConstants.{PROGRAM, PROGRAM_HASH, COMMAND, TRUST}
use Rattle.mg_hearing.specs.Page.{last_words, party_word, script_name}

-- A page up to its table, with some texts for the two times.
pub record IsFront (request : HeardRequest) (front : List ℕ) : Type 0 where
  pub from : List ℕ
  pub until : List ℕ
  pub is : front ≡ concat (
      TITLE.now ∷ escaped (script_name request.file request.later) ∷ ASKED.now
      ∷ escaped (script_name request.file request.later) ∷ LISTENER.now
      ∷ escaped (party_word request.query.listener) ∷ TALKER.now
      ∷ escaped (party_word request.query.talker) ∷ FROM.now ∷ escaped from ∷ UNTIL.now
      ∷ escaped until ∷ ANSWER.now ∷ [])

-- The end of a table, and the scale of its timeline.
pub record IsScale (text : List ℕ) : Type 0 where
  pub scale : List ℕ
  pub ticks : List ℕ
  pub is : text ≡ concat (
      TABLE_END.now ∷ escaped scale ∷ TICKS.now ∷ escaped ticks ∷ WHOLE.now ∷ [])

-- The end of a page: the script with this digest, the program that wrote the page, and the command that makes the page.
pub record IsOrigin (request : HeardRequest) (digest text : List ℕ) : Type 0 where
  pub size : List ℕ
  pub covered : List ℕ
  pub program : List ℕ
  pub program_digest : List ℕ
  pub options : List ℕ
  pub is : text ≡ concat (
      SOURCE.now ∷ escaped (script_name request.file request.later) ∷ SIZE.now ∷ escaped size ∷ HASH.now
      ∷ escaped digest ∷ TIME.now ∷ escaped covered ∷ PROGRAM.now ∷ escaped program
      ∷ PROGRAM_HASH.now ∷ escaped program_digest ∷ COMMAND.now ∷ escaped options
      ∷ escaped (last_words request.file request.later) ∷ TRUST.now ∷ [])

-- A writer has received the front of a page and a row for each entry that the query selects.
abbrev pub WritesTable : HeardRequest → Question → (old new : Option (List ℕ)) → List Entry → Type 0
WritesTable request asked old new xs =
    (front : List ℕ) × (rows : List ℕ) × IsFront request front
    × AreLines asked.style (filter (selects_entry asked.query) xs) rows
    × Appends old new (front ++ (head_of asked.style.format ++ rows))
