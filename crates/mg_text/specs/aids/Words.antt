-- The values of single words, case by case. The grammar defines modes, associations and commands by their long words.
-- `proofs/WordLemmas` proves that the two definitions agree.
use Rattle.std.specs.Prelude.{Bool, true, false, List, ℕ, Option, Some, None, codes}
use Rattle.std.specs.Option.{option_map, option_map_or}
use Rattle.mg_words.specs.Cut.{after_prefix}
use Rattle.mg_words.specs.declared.association.Association.{Association}
use Rattle.mg_words.specs.declared.association.Association.TheVariants as associations
use Rattle.mg_words.specs.declared.mode.Mode.{Mode}
use Rattle.mg_words.specs.declared.mode.Mode.TheVariants as modes
use Rattle.mg_words.specs.declared.command_word.CommandWord.{CommandWord}
use Rattle.mg_words.specs.declared.command_word.CommandWord.TheVariants as commands
use Rattle.mg_text.specs.declared.keyword.Keyword.{Keyword}
use Rattle.mg_text.specs.declared.keyword.Keyword.TheVariants as keywords
use Rattle.mg_text.specs.declared.command.Command.{Command}
use Rattle.mg_text.specs.declared.command_head.CommandHead.{CommandHead}
use Rattle.mg_text.specs.Keyword.{keyword_of}
use Rattle.mg_text.specs.Words.{by_keyword}

-- The association with this keyword: Isolate, Oneway or Bothway.
abbrev pub association_named : Keyword → Option Association
association_named keywords.Isolate = Some associations.Isolate
association_named keywords.Oneway = Some associations.Oneway
association_named keywords.Bothway = Some associations.Bothway
association_named _ = None

-- The mode with this keyword.
abbrev pub mode_named : Keyword → Option Mode
mode_named keywords.SendOnly = Some modes.SendOnly
mode_named keywords.ReceiveOnly = Some modes.ReceiveOnly
mode_named keywords.SendReceive = Some modes.SendReceive
mode_named keywords.Inactive = Some modes.Inactive
mode_named keywords.Loopback = Some modes.Loopback
mode_named _ = None

-- The command with this keyword.
abbrev pub command_named : Keyword → Option CommandWord
command_named keywords.Add = Some commands.Add
command_named keywords.Modify = Some commands.Modify
command_named keywords.Move = Some commands.Move
command_named keywords.Subtract = Some commands.Subtract
command_named keywords.AuditValue = Some commands.AuditValue
command_named keywords.AuditCapability = Some commands.AuditCapability
command_named keywords.Notify = Some commands.Notify
command_named keywords.ServiceChange = Some commands.ServiceChange
command_named _ = None

-- The keyword of a command with these prefixes.
abbrev pub headed : Bool → Bool → Keyword → Option CommandHead
headed optional wildcard keyword =
    option_map (λ word. record { word = word; is_optional = optional; wants_wildcard = wildcard })
    (command_named keyword)

-- The command after a prefix, or the other result if the prefix is missing.
abbrev pub prefixed : Bool → Bool → Option (List ℕ) → Option CommandHead → Option CommandHead
prefixed optional wildcard (Some rest) other = by_keyword (headed optional wildcard) rest
prefixed optional wildcard None other = other

-- The keyword of a command, alone or after O-W-, O- or W-.
unfoldable pub command_of : List ℕ → Option CommandHead
command_of text =
    option_map_or (headed false false) (keyword_of text)
    (prefixed true true (after_prefix (codes "O-W-") text)
    (prefixed true false (after_prefix (codes "O-") text)
    (prefixed false true (after_prefix (codes "W-") text) None)))

-- The keyword and the prefixes of a command.
abbrev pub head_of : Command → CommandHead
head_of x = record { word = x.word; is_optional = x.is_optional; wants_wildcard = x.wants_wildcard }
