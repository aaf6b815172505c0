-- Rules about who must not be heard, and how they are written.
use Rattle.std.specs.Prelude.{ℕ, Bool, nat_lt, List, length, ok_or, Result, Err, if◌then◌else◌}
use Rattle.mg_heard.specs.Asked.{rule_by}
use Rattle.mg_heard.specs.declared.asked_rule.AskedRule.{AskedRule}
use Rattle.mg_service.specs.Read.{all_read}
use Rattle.mg_arguments.specs.declared.rule_fault.RuleFault.{RuleFault}
use Rattle.mg_arguments.specs.declared.rule_fault.RuleFault.TheVariants.{Unreadable, TooMany}

-- The rules that these strings state. There are at most 64.
abbrev pub rules_of : (has_names : Bool) → List (List ℕ) → Result (List AskedRule) RuleFault
rules_of has_names texts =
    if nat_lt 64 (length texts) then Err TooMany
    else all_read (λ text. ok_or (rule_by has_names text) Unreadable) texts
