-- The number of edits that a request caused, counted from the items of its reply. Each edit costs
-- rows of samples, by this project's own rule.
use Rattle.std.specs.Prelude.{ℕ, Bool, true, false, List, count_by}
use Rattle.mg_words.specs.declared.command_word.CommandWord.{CommandWord}
use Rattle.mg_words.specs.declared.command_word.CommandWord.TheVariants.{AuditValue}
use Rattle.mg_reply.specs.declared.item.Item.{Item}
use Rattle.mg_reply.specs.declared.item.Item.TheVariants.{Command}
use Rattle.mg_reply.specs.declared.outcome.Outcome.TheVariants.{Done}

-- Whether a successful command is an edit. An AuditValue is not, because it only reports.
abbrev pub is_edit : CommandWord → Bool
is_edit AuditValue = false
is_edit word = true

-- Whether an item reports a successful edit.
abbrev pub reports_edit : Item → Bool
reports_edit (Command word term (Done parts)) = is_edit word
reports_edit item = false

-- The number of items that report an edit.
abbrev pub edits_reported : List Item → ℕ
edits_reported items = count_by reports_edit items
