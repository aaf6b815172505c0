-- Names and rules: the line that names a termination, the keys of a name, and the list of rules.
use Rattle.std.proofs.Common.{◌≡◌, ◌∙◌, ◌+◌, ◌<◌, ◌≤◌, ℕ, Bool, true, false, cond, List, [], ◌∷◌, ◌++◌, Option, Some, Result, Ok, Err, is_err, is_ok, ap, drop, filter, get_or, length, map}
use Rattle.std.specs.Prelude.{find}
use Rattle.std.specs.List.{AllZip}
use Rattle.std.specs.Option.{option_map_or}
use Rattle.std.specs.Str.{bytes_eq}
use Rattle.std.proofs.lemmas.List.{at_drop_more, drop_all}
use Rattle.mg_words.specs.declared.peer.Peer.{Peer}
use Rattle.mg_heard.specs.declared.asked_rule.AskedRule.{AskedRule}
use Rattle.mg_heard.specs.declared.named.Named.{Named}
use Rattle.mg_heard.specs.declared.party_name.PartyName.{PartyName}
use Rattle.mg_heard.specs.declared.rule.Rule.{Rule}
use Rattle.mg_heard.specs.Asked.{IsRule}
use Rattle.mg_heard.specs.Names.{keys_with, name_of}
use Rattle.mg_heard.specs.Query.{is_named}

-- ## The name of a termination

abbrev name_found : Option Named → List ℕ
name_found line = option_map_or (λ x. x.name) line []

-- A line that doesn't apply to a termination doesn't affect its name.
pub not_called : (lines : List Named) (number : ℕ) (at : Option Peer) (i : ℕ) (d : Named) → i < length lines →
    is_named (get_or lines i d).key number at ≡ false →
    name_of (drop i lines) number at ≡ name_of (drop (i + 1) lines) number at
not_called lines number at i d lt apart =
    at_drop_more (λ rest. name_of rest number at) lines i d lt
    ∙ ap (λ (b : Bool). name_found (cond b (Some (get_or lines i d))
    (find (λ x. is_named x.key number at) (drop (i + 1) lines)))) apart

-- The first line that applies to a termination names it.
pub called : (lines : List Named) (number : ℕ) (at : Option Peer) (i : ℕ) (d : Named) → i < length lines →
    is_named (get_or lines i d).key number at ≡ true → name_of (drop i lines) number at ≡ (get_or lines i d).name
called lines number at i d lt this =
    at_drop_more (λ rest. name_of rest number at) lines i d lt
    ∙ ap (λ (b : Bool). name_found (cond b (Some (get_or lines i d))
    (find (λ x. is_named x.key number at) (drop (i + 1) lines)))) this

pub not_called_at_all : (lines : List Named) (number : ℕ) (at : Option Peer) (i : ℕ) → length lines ≤ i →
    name_of (drop i lines) number at ≡ []
not_called_at_all lines number at i all = ap (λ rest. name_of rest number at) (drop_all i lines all)

-- ## The keys of a name

abbrev kept : List ℕ → Named → List Named → Bool → List PartyName
kept name x rest b =
    map (λ y. y.key) (cond b (x ∷ filter (λ y. bytes_eq y.name name) rest) (filter (λ y. bytes_eq y.name name) rest))

-- A line with this name contributes its key.
pub has_name : (name : List ℕ) (lines : List Named) (i : ℕ) (d : Named) → i < length lines →
    bytes_eq (get_or lines i d).name name ≡ true →
    keys_with name (drop i lines) ≡ (get_or lines i d).key ∷ keys_with name (drop (i + 1) lines)
has_name name lines i d lt this =
    at_drop_more (keys_with name) lines i d lt ∙ ap (kept name (get_or lines i d) (drop (i + 1) lines)) this

-- A line with another name contributes no key.
pub has_another : (name : List ℕ) (lines : List Named) (i : ℕ) (d : Named) → i < length lines →
    bytes_eq (get_or lines i d).name name ≡ false →
    keys_with name (drop i lines) ≡ keys_with name (drop (i + 1) lines)
has_another name lines i d lt other =
    at_drop_more (keys_with name) lines i d lt ∙ ap (kept name (get_or lines i d) (drop (i + 1) lines)) other

pub no_more : (name : List ℕ) (lines : List Named) (i : ℕ) → length lines ≤ i → keys_with name (drop i lines) ≡ []
no_more name lines i all = ap (keys_with name) (drop_all i lines all)

-- ## Rules

-- If a rule is pushed without a fault, it is the last rule of the list.
pub pushed : {E : Type 0} (r : Result (Unit {0}) E) (old new : List Rule) (rule : Rule) →
    new ≡ cond (is_ok r) (old ++ rule ∷ []) old → is_err r ≡ false → new ≡ old ++ rule ∷ []
pushed (Ok done) old new rule e ok = e
pushed (Err error) old new rule e ok = absurd cc

pub rules_more : (lines : List Named) (asked : List AskedRule) (rules : List Rule) (one : AskedRule) (rule : Rule) →
    AllZip (IsRule lines) asked rules → IsRule lines one rule →
    AllZip (IsRule lines) (asked ++ one ∷ []) (rules ++ rule ∷ [])
rules_more lines [] [] one rule none is = (is, none)
rules_more lines [] (first ∷ rules) one rule none is = elim none [ ]
rules_more lines (asked ∷ others) [] one rule none is = elim none [ ]
rules_more lines (asked ∷ others) (first ∷ rules) one rule (h, rest) is =
    (h, rules_more lines others rules one rule rest is)
