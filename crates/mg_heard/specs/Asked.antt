-- How questions name terminations, and how names turn into keys.
use Rattle.std.specs.Prelude.{◌≡◌, ℕ, ◌<◌, ◌-◌, ◌&&◌, Bool, List, [], ◌∷◌, length, take, drop, Option}
use Rattle.std.specs.Prelude.{Some, None, codes, if◌then◌else◌}
use Rattle.std.specs.Option.{option_map, option_or}
use Rattle.std.specs.Str.{bytes_eq}
use Rattle.mg_words.specs.Cut.{cut}
use Rattle.mg_words.specs.OptionSteps.{◌>>=◌}
use Rattle.mg_heard.specs.declared.asked.Asked.{Asked}
use Rattle.mg_heard.specs.declared.asked.Asked.TheVariants.{Key, Name}
use Rattle.mg_heard.specs.declared.asked_query.AskedQuery.{AskedQuery}
use Rattle.mg_heard.specs.declared.asked_rule.AskedRule.{AskedRule}
use Rattle.mg_heard.specs.declared.named.Named.{Named}
use Rattle.mg_heard.specs.declared.party_name.PartyName.{PartyName}
use Rattle.mg_heard.specs.declared.query.Query.{Query}
use Rattle.mg_heard.specs.declared.rule.Rule.{Rule}
use Rattle.mg_heard.specs.Names.{keys_with, name_in}
use Rattle.mg_heard.specs.Query.{party_name_of}

-- ## Keys, names and rules as text

-- The key or name that `text` gives. Names are allowed only if `has_names` is set.
abbrev pub asked_by : (has_names : Bool) → List ℕ → Option Asked
asked_by has_names text =
    option_or (option_map Key (party_name_of text))
    (if has_names then option_map Name (name_in text) else None)

-- The parts of `text` before and after the arrow ` -> `. The first `>` must belong to the arrow.
abbrev pub around_arrow : List ℕ → Option (List ℕ × List ℕ)
around_arrow text = do
  parts ← cut 62 text
  if bytes_eq (drop (length parts.0 - 2) parts.0) (codes " -")
      && bytes_eq (take 1 parts.1) (codes " ")
      then Some (take (length parts.0 - 2) parts.0, drop 1 parts.1) else None

-- The terminations that one side of an arrow selects; `*` selects all terminations.
abbrev pub pattern_by : (has_names : Bool) → List ℕ → Option (Option Asked)
pattern_by has_names text =
    if bytes_eq text (codes "*") then Some None else option_map Some (asked_by has_names text)

-- The rule that `text` states: a talker, an arrow and a listener.
abbrev pub rule_by : (has_names : Bool) → List ℕ → Option AskedRule
rule_by has_names text = do
  parts ← around_arrow text
  talker ← pattern_by has_names parts.0
  listener ← pattern_by has_names parts.1
  Some (record { talker = talker; listener = listener })

-- ## Terminations

-- The keys that a question is about, given the lines of a file of names. A question with a name is about the keys of
-- all lines with this name, and there must be at least one such line.
abbrev pub AreKeys : List Named → Option Asked → Option (List PartyName) → Type 0
AreKeys lines None keys = keys ≡ None
AreKeys lines (Some (Key key)) keys = keys ≡ Some (key ∷ [])
AreKeys lines (Some (Name name)) keys =
    (keys ≡ Some (keys_with name lines)) × (0 < length (keys_with name lines))

-- The query that results from looking up the names of the question.
pub record IsQuery (lines : List Named) (asked : AskedQuery) (query : Query) : Type 0 where
  pub listener : AreKeys lines asked.listener query.listener
  pub talker : AreKeys lines asked.talker query.talker
  pub from : query.from ≡ asked.from
  pub until : query.until ≡ asked.until

-- The rule that results from looking up the names in it.
pub record IsRule (lines : List Named) (asked : AskedRule) (rule : Rule) : Type 0 where
  pub talker : AreKeys lines asked.talker rule.talker
  pub listener : AreKeys lines asked.listener rule.listener
