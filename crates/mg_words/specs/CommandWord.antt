-- Commands (RFC 3525, section 7.2).
use Rattle.std.specs.Prelude.{ℕ, List, codes}
use Rattle.mg_words.specs.declared.command_word.CommandWord.{CommandWord}
use Rattle.mg_words.specs.declared.command_word.CommandWord.TheVariants.{Add, Modify, Move}
use Rattle.mg_words.specs.declared.command_word.CommandWord.TheVariants.{Subtract, AuditValue}
use Rattle.mg_words.specs.declared.command_word.CommandWord.TheVariants.{AuditCapability, Notify}
use Rattle.mg_words.specs.declared.command_word.CommandWord.TheVariants.{ServiceChange}

-- The keyword in its long form.
unfoldable pub command_text : CommandWord → List ℕ
command_text Add = codes "Add"
command_text Modify = codes "Modify"
command_text Move = codes "Move"
command_text Subtract = codes "Subtract"
command_text AuditValue = codes "AuditValue"
command_text AuditCapability = codes "AuditCapability"
command_text Notify = codes "Notify"
command_text ServiceChange = codes "ServiceChange"
