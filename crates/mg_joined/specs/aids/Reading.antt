-- Files that are read line by line.
use Rattle.std.specs.Prelude.{◌≡◌, ℕ, ◌<◌, Bool, true, false, List, [], ◌∷◌, ◌++◌, length, Option, Some, codes}
use Rattle.std.specs.Io.BufRead.{drop_through, take_through}
use Rattle.std.specs.Io.KnownBytes.{Consumes}
use Rattle.sha2.specs.declared.Sha256.{Sha256}
use Rattle.sha2.specs.Hashers.{Holds256}
use Rattle.mg_chain.specs.Seals.{is_whole, last_part}
use Rattle.mg_joined.specs.Joined.{behind, from_follows}

-- The lines `before` were read of a file, and the lines `left` weren't.
abbrev pub IsBefore : (before left : List ℕ) → Sha256 → Type 0
IsBefore before left chain =
    (0 < length left → is_whole before ≡ true) × Holds256 chain (last_part before)

-- The next line was read, or there was none.
pub record HasReadLine (before left : List ℕ) (some : Bool) (line : List ℕ) (rest : Option (List ℕ))
    (chain : Sha256) : Type 0 where
  pub line_is : line ≡ take_through 10 left
  pub rest_is : rest ≡ Some (drop_through 10 left)
  pub none : some ≡ false → left ≡ []
  pub is_before : IsBefore (before ++ line) (drop_through 10 left) chain

-- Lines were read, or there were none.
pub record HasReadLines (before left : List ℕ) (some : Bool) (lines : List ℕ) (rest : Option (List ℕ))
    (chain : Sha256) : Type 0 where
  pub after : List ℕ
  pub parts : left ≡ lines ++ after
  pub rest_is : rest ≡ Some after
  pub none : some ≡ false → left ≡ []
  pub is_before : IsBefore (before ++ lines) after chain

-- Whole lines were taken from what a reader has left, and appended to some bytes.
pub record HasTakenLines (old new : Option (List ℕ)) (before after : List ℕ) : Type 0 where
  pub lines : List ℕ
  pub appended : after ≡ before ++ lines
  pub whole : is_whole lines ≡ true
  pub consumed : Consumes old new lines

-- The first line was read, and is this title.
pub record IsTitled (title text : List ℕ) (rest : Option (List ℕ)) (chain : Sha256) : Type 0 where
  pub titled : take_through 10 text ≡ title
  pub rest_is : rest ≡ Some (drop_through 10 text)
  pub is_before : IsBefore title (drop_through 10 text) chain

-- More lines were read. None of them says which text the text follows.
pub record IsPassing (before left : List ℕ) (rest : Option (List ℕ)) (chain : Sha256) : Type 0 where
  pub passed : List ℕ
  pub after : List ℕ
  pub parts : left ≡ passed ++ after
  pub rest_is : rest ≡ Some after
  pub is_before : IsBefore (before ++ passed) after chain
  pub same : from_follows (10 ∷ left) ≡ from_follows (10 ∷ after)

-- Lines were read up to the first one that says which text the text follows. That line ends like this.
pub record HasPassed (before left : List ℕ) (rest : Option (List ℕ)) (chain : Sha256) (end : List ℕ)
    : Type 0 where
  pub passed : List ℕ
  pub after : List ℕ
  pub parts : left ≡ passed ++ after
  pub rest_is : rest ≡ Some after
  pub is_before : IsBefore (before ++ passed) after chain
  pub line_is : take_through 10 (from_follows (10 ∷ left)) ≡ codes "# follows " ++ end
  pub after_is : after ≡ drop_through 10 (from_follows (10 ∷ left))

-- A text with this title was read up to the line that says which text it follows. That line ends like this.
pub record IsOpened (title text : List ℕ) (rest : Option (List ℕ)) (chain : Sha256) (end : List ℕ)
    : Type 0 where
  pub before : List ℕ
  pub parts : text ≡ before ++ behind text
  pub rest_is : rest ≡ Some (behind text)
  pub is_before : IsBefore before (behind text) chain
  pub titled : take_through 10 text ≡ title
  pub line_is : take_through 10 (from_follows text) ≡ codes "# follows " ++ end
