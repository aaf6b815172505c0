-- The lines that report terminations that the gateway of a script never had.
use Rattle.std.specs.Prelude.{◌≡◌, ℕ, Bool, List, [], ◌++◌, Option, codes, if◌then◌else◌}
use Rattle.std.specs.Io.KnownBytes.{Appends}
use Rattle.mg_heard.specs.declared.asked.Asked.{Asked}
use Rattle.mg_heard.specs.declared.missing.Missing.{Missing}
use Rattle.mg_hearing.specs.Page.{party_word}

-- The line that reports a missing talker or listener in the words of the question, or nothing if it isn't missing.
-- `name` is the script's name.
abbrev pub absence_line : (name : List ℕ) → Option Asked → (is_missing : Bool) → List ℕ
absence_line name asked is_missing =
    if is_missing then name ++ (codes ": " ++ (party_word asked ++ codes " was never there\n")) else []

abbrev pub absences : (name : List ℕ) → (talker listener : Option Asked) → Missing → List ℕ
absences name talker listener m = absence_line name talker m.talker ++ absence_line name listener m.listener

-- A writer has received exactly this text. If the text is empty, the writer is unchanged.
abbrev pub Receives : {E : Type 0} → (E → Option (List ℕ)) → (old new : E) → List ℕ → Type 0
Receives contents old new text = (text ≡ [] → new ≡ old) × Appends (contents old) (contents new) text
