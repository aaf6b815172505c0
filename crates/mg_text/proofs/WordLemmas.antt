-- The keywords of modes, associations and commands, by their long forms and case by case.
use Rattle.std.proofs.Common.{◌≡◌, ℕ, zero, suc, Bool, true, false, ◌||◌, ◌==◌, cond, List, [], ◌∷◌, length, take, drop, Option, Some, None, refl, sym, ap, subst, ◌∙◌, arith}
use Rattle.std.specs.Prelude.{find, codes}
use Rattle.std.specs.List.{list_any}
use Rattle.std.specs.Option.{option_map, option_map_or, option_and_then}
use Rattle.std.specs.Char.{to_ascii_lowercase}
use Rattle.std.specs.Str.{bytes_eq, str_eq_ignore_ascii_case, str_to_ascii_lowercase}
use Rattle.std.proofs.lemmas.Bool.{true≢false, eq-eqb}
use Rattle.std.proofs.lemmas.Bool.Decides.{nat_tests}
use Rattle.std.proofs.lemmas.Slice.Eq.{bytes_eq-Decides}
use Rattle.mg_words.specs.Cut.{after_prefix}
use Rattle.mg_words.specs.declared.association.Association.{Association}
use Rattle.mg_words.specs.declared.association.Association.TheVariants as associations
use Rattle.mg_words.specs.Association.{association_text}
use Rattle.mg_words.specs.declared.mode.Mode.{Mode}
use Rattle.mg_words.specs.declared.mode.Mode.TheVariants as modes
use Rattle.mg_words.specs.Mode.{mode_text}
use Rattle.mg_words.specs.declared.command_word.CommandWord.{CommandWord}
use Rattle.mg_words.specs.declared.command_word.CommandWord.TheVariants as commands
use Rattle.mg_words.specs.CommandWord.{command_text}
use Rattle.mg_text.specs.declared.keyword.Keyword.{Keyword}
use Rattle.mg_text.specs.declared.keyword.Keyword.TheVariants as keywords
use Rattle.mg_text.specs.declared.command_head.CommandHead.{CommandHead}
use Rattle.mg_scan.specs.Span.{text_of}
use Rattle.mg_text.specs.Keyword.{forms_of, keyword_of, long_word}
use Rattle.mg_text.specs.Words.{by_keyword}
use Rattle.mg_text.specs.Grammar.{IsWorded, prefix_of, word_after}
use Rattle.mg_text.specs.Production.{Production}
use Rattle.mg_text.specs.aids.Words.{association_named, mode_named, command_named, headed, prefixed, command_of}
use Rattle.mg_words.proofs.CutLemmas.{same_letters}
use Rattle.mg_text.proofs.KeywordLemmas.{found_passes, mark_in_lower, markless}
use Rattle.mg_scan.specs.declared.token.Token.{Token}

-- ## The values of keywords by their long forms

-- A keyword has the value x if and only if its long form is the text of x.
module _ {X : Type 0} (text : X → List ℕ) (all : List X) (named : Keyword → Option X)
    (found : (x : X) → find (λ y. bytes_eq (text x) (text y)) all ≡ Some x)
    (of_word : (k : Keyword) → find (λ y. bytes_eq (forms_of k).0 (text y)) all ≡ named k) where
  means : (o : Option Keyword) (x : X) → option_map (λ k. (forms_of k).0) o ≡ Some (text x) →
      option_and_then named o ≡ Some x
  means None x h = absurd cc
  means (Some k) x h =
      let long : (forms_of k).0 ≡ text x = cc h in
      sym (of_word k) ∙ ap (λ (t : List ℕ). find (λ y. bytes_eq t (text y)) all) long ∙ found x

  is_meant : (o : Option Keyword) (x : X) → option_and_then named o ≡ Some x →
      option_map (λ k. (forms_of k).0) o ≡ Some (text x)
  is_meant None x h = absurd cc
  is_meant (Some k) x h =
      let same = found_passes (λ y. bytes_eq (forms_of k).0 (text y)) all x (of_word k ∙ h) in
      ap Some ((bytes_eq-Decides (forms_of k).0 (text x)).0 same)

  pub worded_means : (source : List ℕ) (x : X) (ts rest : List Token) →
      IsWorded long_word source (text x) ts rest → IsWorded (by_keyword named) source x ts rest
  worded_means source x ts rest m = (m.0, means _ x m.1, m.2)

  pub worded_is_meant : (source : List ℕ) (x : X) (ts rest : List Token) →
      IsWorded (by_keyword named) source x ts rest → IsWorded long_word source (text x) ts rest
  worded_is_meant source x ts rest m = (m.0, is_meant _ x m.1, m.2)

-- ## Modes

all_modes : List Mode
all_modes = modes.SendOnly ∷ modes.ReceiveOnly ∷ modes.SendReceive ∷ modes.Inactive ∷ modes.Loopback ∷ []

mode_found : (x : Mode) → find (λ y. bytes_eq (mode_text x) (mode_text y)) all_modes ≡ Some x
unfolding all_modes mode_text
mode_found modes.SendOnly = refl
mode_found _ = refl

mode_of_word : (k : Keyword) → find (λ y. bytes_eq (forms_of k).0 (mode_text y)) all_modes ≡ mode_named k
unfolding all_modes mode_text forms_of
mode_of_word keywords.SendOnly = refl
mode_of_word _ = refl

pub mode_means : (source : List ℕ) (x : Mode) (ts rest : List Token) →
    IsWorded long_word source (mode_text x) ts rest → IsWorded (by_keyword mode_named) source x ts rest
mode_means = worded_means mode_text all_modes mode_named mode_found mode_of_word

pub mode_is_meant : (source : List ℕ) (x : Mode) (ts rest : List Token) →
    IsWorded (by_keyword mode_named) source x ts rest → IsWorded long_word source (mode_text x) ts rest
mode_is_meant = worded_is_meant mode_text all_modes mode_named mode_found mode_of_word

-- ## Associations

all_associations : List Association
all_associations = associations.Isolate ∷ associations.Oneway ∷ associations.Bothway ∷ []

association_found : (x : Association) →
    find (λ y. bytes_eq (association_text x) (association_text y)) all_associations ≡ Some x
unfolding all_associations association_text
association_found associations.Isolate = refl
association_found _ = refl

association_of_word : (k : Keyword) →
    find (λ y. bytes_eq (forms_of k).0 (association_text y)) all_associations ≡ association_named k
unfolding all_associations association_text forms_of
association_of_word keywords.Isolate = refl
association_of_word _ = refl

pub association_means : (source : List ℕ) (x : Association) (ts rest : List Token) →
    IsWorded long_word source (association_text x) ts rest → IsWorded (by_keyword association_named) source x ts rest
association_means =
    worded_means association_text all_associations association_named association_found association_of_word

pub association_is_meant : (source : List ℕ) (x : Association) (ts rest : List Token) →
    IsWorded (by_keyword association_named) source x ts rest → IsWorded long_word source (association_text x) ts rest
association_is_meant =
    worded_is_meant association_text all_associations association_named association_found association_of_word

-- ## Commands

all_commands : List CommandWord
all_commands =
    commands.Add ∷ commands.Modify ∷ commands.Move ∷ commands.Subtract ∷ commands.AuditValue ∷
    commands.AuditCapability ∷ commands.Notify ∷ commands.ServiceChange ∷ []

command_found : (x : CommandWord) → find (λ y. bytes_eq (command_text x) (command_text y)) all_commands ≡ Some x
unfolding all_commands command_text
command_found commands.Add = refl
command_found _ = refl

command_of_word : (k : Keyword) →
    find (λ y. bytes_eq (forms_of k).0 (command_text y)) all_commands ≡ command_named k
unfolding all_commands command_text forms_of
command_of_word keywords.Add = refl
command_of_word _ = refl

word_means : (o : Option Keyword) (x : CommandWord) →
    option_map (λ k. (forms_of k).0) o ≡ Some (command_text x) → option_and_then command_named o ≡ Some x
word_means = means command_text all_commands command_named command_found command_of_word

word_is_meant : (o : Option Keyword) (x : CommandWord) → option_and_then command_named o ≡ Some x →
    option_map (λ k. (forms_of k).0) o ≡ Some (command_text x)
word_is_meant = is_meant command_text all_commands command_named command_found command_of_word

-- ## No form has a dash

abbrev has_dash : List ℕ → Bool
has_dash text = list_any (λ b. b == 45) text

lower_dash : (b : ℕ) → (to_ascii_lowercase b == 45) ≡ (b == 45)
lower_dash b = grind (arith, nat_tests)

dash_in_lower : (text : List ℕ) → has_dash (str_to_ascii_lowercase text) ≡ has_dash text
dash_in_lower = mark_in_lower 45 lower_dash

long_dashless : (k : Keyword) → has_dash (forms_of k).0 ≡ false
unfolding forms_of
long_dashless keywords.Add = refl
long_dashless _ = refl

short_dashless : (k : Keyword) → has_dash (forms_of k).1 ≡ false
unfolding forms_of
short_dashless keywords.Add = refl
short_dashless _ = refl

dashless : (text : List ℕ) (k : Keyword) → keyword_of text ≡ Some k → has_dash text ≡ false
dashless text k e = markless 45 lower_dash text k e (long_dashless k) (short_dashless k)

-- A string with a dash is not a keyword.
no_keyword : (text : List ℕ) (o : Option Keyword) → keyword_of text ≡ o → has_dash text ≡ true → keyword_of text ≡ None
no_keyword text None e h = e
no_keyword text (Some k) e h = absurd (true≢false (sym h ∙ dashless text k e))

-- ## Prefixes of commands

-- If a prefix is split off a string, the string starts with that prefix, ignoring case, and continues with the rest.
front_is : (prefix text rest : List ℕ) → after_prefix prefix text ≡ Some rest →
    (str_to_ascii_lowercase (take (length prefix) text) ≡ str_to_ascii_lowercase prefix)
    × (drop (length prefix) text ≡ rest)
unfolding after_prefix
front_is prefix text rest h = by_test (str_eq_ignore_ascii_case (take (length prefix) text) prefix) refl h
  where
    by_test : (b : Bool) → str_eq_ignore_ascii_case (take (length prefix) text) prefix ≡ b →
        cond b (Some (drop (length prefix) text)) None ≡ Some rest →
        (str_to_ascii_lowercase (take (length prefix) text) ≡ str_to_ascii_lowercase prefix)
        × (drop (length prefix) text ≡ rest)
    by_test true is e = (same_letters (take (length prefix) text) prefix is, cc e)
    by_test false is e = absurd cc

or_kept : (a x y : Bool) → (x ≡ true → y ≡ true) → (a || x) ≡ true → (a || y) ≡ true
or_kept true x y f h = refl
or_kept false x y f h = f h

dash_in_front : (n : ℕ) (text : List ℕ) → has_dash (take n text) ≡ true → has_dash text ≡ true
dash_in_front zero text h = absurd cc
dash_in_front (suc n) [] h = absurd cc
dash_in_front (suc n) (b ∷ bs) h = or_kept (b == 45) (has_dash (take n bs)) (has_dash bs) (dash_in_front n bs) h

prefix_dash : (prefix text rest : List ℕ) → has_dash prefix ≡ true → after_prefix prefix text ≡ Some rest →
    has_dash text ≡ true
prefix_dash prefix text rest dash h =
    dash_in_front (length prefix) text (sym (dash_in_lower (take (length prefix) text)) ∙
    ap has_dash (front_is prefix text rest h).0 ∙ dash_in_lower prefix ∙ dash)

absent : (o : Option (List ℕ)) → ((r : List ℕ) → o ≡ Some r → ⊥) → o ≡ None
absent None h = refl
absent (Some r) h = absurd (h r refl)

first_or_zero : List ℕ → ℕ
first_or_zero [] = 0
first_or_zero (x ∷ xs) = x

-- Two prefixes of the same text start with the same letter, ignoring case.
begin_alike : (text : List ℕ) (m n a b : ℕ) (xs ys : List ℕ) →
    str_to_ascii_lowercase (take (suc m) text) ≡ a ∷ xs → str_to_ascii_lowercase (take (suc n) text) ≡ b ∷ ys → a ≡ b
unfolding first_or_zero
begin_alike [] m n a b xs ys p q = absurd cc
begin_alike (c ∷ cs) m n a b xs ys p q = sym (ap first_or_zero p) ∙ ap first_or_zero q

-- If a word starts with O-W-, the part after O- has a dash.
dash_after : (text : List ℕ) → str_to_ascii_lowercase (take 4 text) ≡ 111 ∷ 45 ∷ 119 ∷ 45 ∷ [] →
    has_dash (drop 2 text) ≡ true
dash_after [] h = absurd cc
dash_after (a ∷ []) h = absurd cc
dash_after (a ∷ b ∷ []) h = absurd cc
dash_after (a ∷ b ∷ c ∷ []) h = absurd cc
dash_after (a ∷ b ∷ c ∷ d ∷ rest) h =
    let lower : to_ascii_lowercase d ≡ 45 = cc h in
    let dash : (d == 45) ≡ true = sym (lower_dash d) ∙ eq-eqb (to_ascii_lowercase d) 45 lower in
    or_kept (c == 45) true ((d == 45) || has_dash rest) (λ _. rw dash refl) (true_after (c == 45))
  where
    true_after : (p : Bool) → (p || true) ≡ true
    true_after true = refl
    true_after false = refl

not_longer : (text rest : List ℕ) → after_prefix (codes "O-") text ≡ Some rest → has_dash rest ≡ false →
    after_prefix (codes "O-W-") text ≡ None
not_longer text rest h dashless =
    absent (after_prefix (codes "O-W-") text)
    (λ r e. true≢false (sym (dash_after text (front_is (codes "O-W-") text r e).0) ∙
    ap has_dash (front_is (codes "O-") text rest h).1 ∙ dashless))

not_optional : (prefix text rest : List ℕ) (n : ℕ) (others : List ℕ) → length prefix ≡ suc n →
    str_to_ascii_lowercase prefix ≡ 111 ∷ others → after_prefix (codes "W-") text ≡ Some rest →
    after_prefix prefix text ≡ None
not_optional prefix text rest n others len first h =
    absent (after_prefix prefix text) (λ r e.
    let front = ap (λ (m : ℕ). str_to_ascii_lowercase (take m text)) (sym len) ∙ (front_is prefix text r e).0 ∙ first in
    let same : 119 ≡ 111 =
    begin_alike text 1 n 119 111 (45 ∷ []) others (front_is (codes "W-") text rest h).0 front in
    omega (arith, same))

after_nothing : (text : List ℕ) → after_prefix [] text ≡ Some text
unfolding after_prefix
after_nothing [] = refl
after_nothing (b ∷ bs) = refl

-- ## Commands by prefix and keyword

abbrev head : CommandWord → Bool → Bool → CommandHead
head word optional wildcard = record { word = word; is_optional = optional; wants_wildcard = wildcard }

headed_is : (optional wildcard : Bool) (o : Option Keyword) (word : CommandWord) →
    option_and_then command_named o ≡ Some word →
    option_and_then (headed optional wildcard) o ≡ Some (head word optional wildcard)
headed_is optional wildcard None word h = absurd cc
headed_is optional wildcard (Some k) word h = ap (option_map (λ w. head w optional wildcard)) h

alone_is : (o : Option Keyword) (word : CommandWord) (other : Option CommandHead) →
    option_and_then command_named o ≡ Some word →
    option_map_or (headed false false) o other ≡ Some (head word false false)
alone_is None word other h = absurd cc
alone_is (Some k) word other h = ap (option_map (λ w. head w false false)) h

rest_dashless : (rest : List ℕ) (o : Option Keyword) (word : CommandWord) → keyword_of rest ≡ o →
    option_and_then command_named o ≡ Some word → has_dash rest ≡ false
rest_dashless rest None word e h = absurd cc
rest_dashless rest (Some k) word e h = dashless rest k e

module _ (text : List ℕ) (word : CommandWord) where
  both_prefixes : (r : Option (List ℕ)) → after_prefix (codes "O-W-") text ≡ r →
      option_and_then long_word r ≡ Some (command_text word) → command_of text ≡ Some (head word true true)
  unfolding command_of
  both_prefixes None e h = absurd cc
  both_prefixes (Some rest) e h =
      let none = no_keyword text (keyword_of text) refl (prefix_dash (codes "O-W-") text rest refl e) in
      rw (none, e) (headed_is true true (keyword_of rest) word (word_means (keyword_of rest) word h))

  optional_prefix : (r : Option (List ℕ)) → after_prefix (codes "O-") text ≡ r →
      option_and_then long_word r ≡ Some (command_text word) → command_of text ≡ Some (head word true false)
  unfolding command_of
  optional_prefix None e h = absurd cc
  optional_prefix (Some rest) e h =
      let none = no_keyword text (keyword_of text) refl (prefix_dash (codes "O-") text rest refl e) in
      let meant = word_means (keyword_of rest) word h in
      let longer = not_longer text rest e (rest_dashless rest (keyword_of rest) word refl meant) in
      rw (none, longer, e) (headed_is true false (keyword_of rest) word meant)

  wildcard_prefix : (r : Option (List ℕ)) → after_prefix (codes "W-") text ≡ r →
      option_and_then long_word r ≡ Some (command_text word) → command_of text ≡ Some (head word false true)
  unfolding command_of
  wildcard_prefix None e h = absurd cc
  wildcard_prefix (Some rest) e h =
      let none = no_keyword text (keyword_of text) refl (prefix_dash (codes "W-") text rest refl e) in
      let longer = not_optional (codes "O-W-") text rest 3 (45 ∷ 119 ∷ 45 ∷ []) refl refl e in
      let shorter = not_optional (codes "O-") text rest 1 (45 ∷ []) refl refl e in
      rw (none, longer, shorter, e)
      (headed_is false true (keyword_of rest) word (word_means (keyword_of rest) word h))

  no_prefix : long_word text ≡ Some (command_text word) → command_of text ≡ Some (head word false false)
  unfolding command_of
  no_prefix h = alone_is (keyword_of text) word _ (word_means (keyword_of text) word h)

  command_means : (optional wildcard : Bool) →
      word_after (prefix_of optional wildcard) text ≡ Some (command_text word) →
      command_of text ≡ Some (head word optional wildcard)
  command_means true true h = both_prefixes (after_prefix (codes "O-W-") text) refl h
  command_means true false h = optional_prefix (after_prefix (codes "O-") text) refl h
  command_means false true h = wildcard_prefix (after_prefix (codes "W-") text) refl h
  command_means false false h = no_prefix (sym (ap (option_and_then long_word) (after_nothing text)) ∙ h)

-- The text consists of the prefixes and a keyword of the command.
abbrev IsMeant : List ℕ → CommandHead → Type 0
IsMeant text h =
    word_after (prefix_of h.is_optional h.wants_wildcard) text ≡ Some (command_text h.word)

headed_parts : (optional wildcard : Bool) (o : Option CommandWord) (h : CommandHead) →
    option_map (λ w. head w optional wildcard) o ≡ Some h →
    (word : CommandWord) × (o ≡ Some word) × (head word optional wildcard ≡ h)
headed_parts optional wildcard None h e = absurd cc
headed_parts optional wildcard (Some word) h e = (word, refl, cc e)

meant_after : (text rest : List ℕ) (optional wildcard : Bool) (h : CommandHead) (o : Option Keyword) →
    keyword_of rest ≡ o → option_and_then (headed optional wildcard) o ≡ Some h →
    after_prefix (prefix_of optional wildcard) text ≡ Some rest → IsMeant text h
meant_after text rest optional wildcard h None is e after = absurd cc
meant_after text rest optional wildcard h (Some k) is e after =
    let parts = headed_parts optional wildcard (command_named k) h e in
    subst (IsMeant text) parts.2 (ap (option_and_then long_word) after ∙
    word_is_meant (keyword_of rest) parts.0 (ap (option_and_then command_named) is ∙ parts.1))

module _ (text : List ℕ) (h : CommandHead) where
  by_wildcard : (r : Option (List ℕ)) → after_prefix (codes "W-") text ≡ r → prefixed false true r None ≡ Some h →
      IsMeant text h
  by_wildcard None is e = absurd cc
  by_wildcard (Some rest) is e = meant_after text rest false true h (keyword_of rest) refl e is

  by_optional : (r : Option (List ℕ)) → after_prefix (codes "O-") text ≡ r →
      prefixed true false r (prefixed false true (after_prefix (codes "W-") text) None) ≡ Some h → IsMeant text h
  by_optional None is e = by_wildcard (after_prefix (codes "W-") text) refl e
  by_optional (Some rest) is e = meant_after text rest true false h (keyword_of rest) refl e is

  by_both : (r : Option (List ℕ)) → after_prefix (codes "O-W-") text ≡ r →
      prefixed true true r (prefixed true false (after_prefix (codes "O-") text)
      (prefixed false true (after_prefix (codes "W-") text) None)) ≡ Some h → IsMeant text h
  by_both None is e = by_optional (after_prefix (codes "O-") text) refl e
  by_both (Some rest) is e = meant_after text rest true true h (keyword_of rest) refl e is

  by_word : (o : Option Keyword) → keyword_of text ≡ o →
      option_map_or (headed false false) o (prefixed true true (after_prefix (codes "O-W-") text)
      (prefixed true false (after_prefix (codes "O-") text)
      (prefixed false true (after_prefix (codes "W-") text) None))) ≡ Some h → IsMeant text h
  by_word None is e = by_both (after_prefix (codes "O-W-") text) refl e
  by_word (Some k) is e = meant_after text text false false h (Some k) is e (after_nothing text)

  command_is_meant : command_of text ≡ Some h → IsMeant text h
  unfolding command_of
  command_is_meant e = by_word (keyword_of text) refl e

-- The text of the word consists of the prefixes and a keyword of the command.
abbrev pub IsCommandWord : List ℕ → CommandHead → Production
IsCommandWord source h =
    IsWorded (word_after (prefix_of h.is_optional h.wants_wildcard)) source (command_text h.word)

pub worded_head : (source : List ℕ) (h : CommandHead) (ts rest : List Token) →
    IsCommandWord source h ts rest → IsWorded command_of source h ts rest
worded_head source h ts rest m =
    (m.0, command_means (text_of source m.0) h.word h.is_optional h.wants_wildcard m.1, m.2)

pub head_worded : (source : List ℕ) (h : CommandHead) (ts rest : List Token) →
    IsWorded command_of source h ts rest → IsCommandWord source h ts rest
head_worded source h ts rest m = (m.0, command_is_meant (text_of source m.0) h m.1, m.2)
