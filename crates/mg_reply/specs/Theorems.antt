-- Properties of replies.
use Rattle.std.specs.Prelude.{◌≡◌, ℕ, Bool, true, ◌&&◌, List, [], ◌++◌}
use Rattle.std.specs.List.{list_all}
use Rattle.mg_reply.specs.declared.item.Item.{Item}
use Rattle.mg_reply.specs.declared.item.Item.TheVariants.{Triple, Command}
use Rattle.mg_words.specs.Term.{is_term}
use Rattle.mg_reply.specs.Written.{reply_text}

-- Whether the names in an item are valid termination names, as the types of the code ensure.
abbrev pub has_terms : Item → Bool
has_terms (Triple a b association) = is_term a && is_term b
has_terms (Command word term outcome) = is_term term
has_terms _ = true

-- No reply's text is a proper prefix of another reply's text, if the names in both are valid.
abbrev pub NoProperPrefix : Type 0
NoProperPrefix =
    (n m : ℕ) (xs ys : List Item) (rest : List ℕ)
    → list_all has_terms xs ≡ true → list_all has_terms ys ≡ true
    → reply_text m ys ≡ reply_text n xs ++ rest → rest ≡ []
