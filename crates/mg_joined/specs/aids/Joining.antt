-- Files that are read one after another.
use Rattle.std.specs.Prelude.{◌≡◌, ℕ, true, List, [], ◌∷◌, ◌++◌, Option, Some, None, map}
use Rattle.std.specs.Fmt.{option_append}
use Rattle.std.specs.Io.BufRead.{take_through}
use Rattle.std.specs.List.{AllZip}
use Rattle.mg_joined.specs.declared.later.Later.{Later}
use Rattle.mg_joined.specs.declared.source.Source.{Source}
use Rattle.mg_joined.specs.Joined.{are_following}
use Rattle.mg_joined.specs.aids.Reading.{IsBefore, IsOpened}

-- The texts of readers that are read one after another, if all are known.
abbrev pub all_left : List (Option (List ℕ)) → Option (List ℕ)
all_left [] = Some []
all_left (text ∷ texts) = option_append text (all_left texts)

-- A text in front of others, if all are known.
abbrev pub cons_known : Option (List ℕ) → Option (List (List ℕ)) → Option (List (List ℕ))
cons_known None texts = None
cons_known (Some text) None = None
cons_known (Some text) (Some texts) = Some (text ∷ texts)

-- The texts, if all are known.
abbrev pub all_known : List (Option (List ℕ)) → Option (List (List ℕ))
all_known [] = Some []
all_known (text ∷ texts) = cons_known text (all_known texts)

module _ {B : Type 0} (remaining : B → Option (List ℕ)) where
  -- What is left of the file that is being read, and of the files that follow it.
  abbrev pub left_of : Source B → List (Later B) → Option (List ℕ)
  left_of source later = option_append (remaining source.reader) (all_left (map (λ l. remaining l.source.reader) later))

  -- What is left behind a part of a line. It is known only if the files' texts are.
  abbrev pub script_left : Option (List (List ℕ)) → (line : List ℕ) → Source B → List (Later B) → Option (List ℕ)
  script_left None line source later = None
  script_left (Some texts) line source later = option_append (Some line) (left_of source later)

  -- A text with this title was read up to its line `# follows`.
  abbrev pub IsLater : (title text : List ℕ) → Later B → Type 0
  IsLater title text later = IsOpened title text (remaining later.source.reader) later.source.chain later.follows.items

  -- If the text of a file is known, it was read up to its line `# follows`.
  abbrev pub Opens : (title : List ℕ) → B → Later B → Type 0
  Opens title file later = (text : List ℕ) → remaining file ≡ Some text → IsLater title text later

  -- The texts so far follow one another, and the others are open.
  pub record IsJoining (texts : List (List ℕ)) (source : Source B) (later : List (Later B)) : Type 0 where
    pub before : List ℕ
    pub left : List ℕ
    pub others : List (List ℕ)
    pub rest_is : remaining source.reader ≡ Some left
    pub is_before : IsBefore before left source.chain
    pub opened : AllZip (IsLater (take_through 10 (before ++ left))) others later
    pub follow : are_following ((before ++ left) ∷ others) ≡ true → are_following texts ≡ true
