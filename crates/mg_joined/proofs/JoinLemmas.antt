-- Reading files one after another.
use Rattle.std.proofs.Common.{◌≡◌, ◌∙◌, ℕ, suc, Bool, true, false, arith, eqb, ◌+◌, ◌-◌, ◌<◌, ◌≤◌, List, [], ◌∷◌, ◌++◌, Option, Some, None, IfSome, append-nil, ap, append_assoc, codes, drop, length, map, refl, min, slice_index_or, subst, sym, take}
use Rattle.std.proofs.Math.Seq.{take-append_seam}
use Rattle.std.proofs.Math.Logic.{∥∥₁_elim, ∥∥₁_map}
use Rattle.std.proofs.Props.{props}
use Rattle.std.proofs.lemmas.Bool.Decides.{nat_tests}
use Rattle.std.proofs.lemmas.List.{drop-drop, length-append}
use Rattle.std.proofs.lemmas.Slice.Eq.{bytes_eq-Decides}
use Rattle.std.proofs.lemmas.Slice.Zip.{all_zipped_more}
use Rattle.std.specs.Prelude.{◌&&◌, bytes_eq}
use Rattle.std.specs.Fmt.{option_append}
use Rattle.std.specs.Io.KnownBytes.{Consumes, Keeps}
use Rattle.std.specs.Io.BufRead.{drop_through, take_through}
use Rattle.std.specs.List.{AllZip, flat_map}
use Rattle.std.specs.Option.{option_map, option_map_or}
use Rattle.sha2.specs.Hashers.{Holds256}
use Rattle.mg_chain.specs.Seals.{last_part, seal_end}
use Rattle.mg_joined.specs.declared.later.Later.{Later}
use Rattle.mg_joined.specs.declared.source.Source.{Source}
use Rattle.mg_joined.specs.Joined.{are_following, behind, follows, from_follows, joined}
use Rattle.mg_joined.specs.aids.Joining.{IsJoining, IsLater, Opens, all_known, all_left, cons_known, left_of, script_left}
use Rattle.mg_joined.specs.aids.Reading.{HasReadLine, HasReadLines, IsBefore}
use Rattle.mg_joined.proofs.LaterLemmas.{front_and_rest, line_and_rest}

same_some : {A : Type 0} (a b : A) → Some a ≡ Some b → a ≡ b
same_some {A = A} a b h = ap (λ (o : Option A). option_map_or (λ x. x) o a) h

-- Both tests are passed.
both : (a b : Bool) → a ≡ true → b ≡ true → (a && b) ≡ true
both a b h k = rw (h, k) refl

same_bytes : (xs ys : List ℕ) → xs ≡ ys → bytes_eq xs ys ≡ true
same_bytes xs ys = (bytes_eq-Decides xs ys).1

-- A text with the same title and this line follows the one before it.
does_follow : (text next end : List ℕ) → take_through 10 next ≡ take_through 10 text →
    take_through 10 (from_follows next) ≡ codes "# follows " ++ end → end ≡ seal_end (last_part text) →
    follows text next ≡ true
does_follow text next end titled line_is is = both
    (bytes_eq (take_through 10 (from_follows next)) (codes "# follows " ++ seal_end (last_part text)))
    (bytes_eq (take_through 10 next) (take_through 10 text))
    (same_bytes (take_through 10 (from_follows next)) (codes "# follows " ++ seal_end (last_part text))
    (line_is ∙ ap (λ (l : List ℕ). codes "# follows " ++ l) is))
    (same_bytes (take_through 10 next) (take_through 10 text) titled)

-- If a text is empty, so is its end.
no_bytes : (xs ys : List ℕ) → xs ++ ys ≡ [] → ys ≡ []
no_bytes [] ys h = h
no_bytes (x ∷ xs) ys h = absurd (omega (arith, ap length h))

module _ {B : Type 0} (remaining : B → Option (List ℕ)) where
  -- What a struct's ghost field says.
  abbrev Joins : Option (List (List ℕ)) → Bool → Source B → List (Later B) → Type 0
  Joins texts is_broken source later =
      IfSome texts (λ known. is_broken ≡ false → IsJoining remaining known source later)

  -- Lines were read.
  abbrev Reads : (old new : Source B) → Bool → (lines : List ℕ) → Type 0
  Reads old new some lines = (before left : List ℕ) → remaining old.reader ≡ Some left →
      IsBefore before left old.chain → HasReadLines before left some lines (remaining new.reader) new.chain

  -- A line was read.
  abbrev ReadsLine : (old new : Source B) → Bool → (line : List ℕ) → Type 0
  ReadsLine old new some line = (before left : List ℕ) → remaining old.reader ≡ Some left →
      IsBefore before left old.chain → HasReadLine before left some line (remaining new.reader) new.chain

  joining_line : (texts : List (List ℕ)) (old new : Source B) (later : List (Later B)) (some : Bool) (line : List ℕ) →
      Reads old new some line → IsJoining remaining texts old later → IsJoining remaining texts new later
  joining_line texts old new later some line reads j =
      let h = reads j.before j.left j.rest_is j.is_before in
      let same : (j.before ++ line) ++ h.after ≡ j.before ++ j.left =
      append_assoc j.before line h.after ∙ ap (λ (l : List ℕ). j.before ++ l) (sym h.parts) in
      record {
        before = j.before ++ line;
        left = h.after;
        others = j.others;
        rest_is = h.rest_is;
        is_before = h.is_before;
        opened = subst (λ (l : List ℕ). AllZip (IsLater remaining (take_through 10 l)) j.others later) (sym same) j.opened;
        follow = subst (λ (l : List ℕ). are_following (l ∷ j.others) ≡ true → are_following texts ≡ true) (sym same) j.follow;
      }

  line_of : (texts : Option (List (List ℕ))) (is_broken : Bool) (old new : Source B) (later : List (Later B)) (some : Bool)
      (line : List ℕ) → Reads old new some line → Joins texts is_broken old later → Joins texts is_broken new later
  line_of None is_broken old new later some line reads h = tt
  line_of (Some texts) is_broken old new later some line reads h =
      λ whole. joining_line texts old new later some line reads (h whole)

  pub joins_line : (texts : Option (List (List ℕ))) (is_broken : Bool) (old new : Source B) (later : List (Later B))
      (some : Bool) (line : List ℕ) → Reads old new some line → ∥ Joins texts is_broken old later ∥₁ →
      ∥ Joins texts is_broken new later ∥₁
  joins_line texts is_broken old new later some line reads h =
      ∥∥₁_map h (line_of texts is_broken old new later some line reads)

  end_of : (texts : Option (List (List ℕ))) (is_broken : Bool) (old new : Source B) (later : List (Later B))
      (line : List ℕ) → is_broken ≡ false → Reads old new false line → Joins texts is_broken old later →
      IfSome texts (λ known. remaining new.reader ≡ Some [])
  end_of None is_broken old new later line whole reads h = tt
  end_of (Some texts) is_broken old new later line whole reads h =
      let j = h whole in
      let r = reads j.before j.left j.rest_is j.is_before in
      r.rest_is ∙ ap Some (no_bytes line r.after (sym r.parts ∙ r.none refl))

  -- At the end of a file, nothing is left.
  pub ends_file : (texts : Option (List (List ℕ))) (is_broken : Bool) (old new : Source B) (later : List (Later B))
      (line : List ℕ) → is_broken ≡ false → Reads old new false line → ∥ Joins texts is_broken old later ∥₁ →
      IfSome texts (λ known. remaining new.reader ≡ Some [])
  ends_file None is_broken old new later line whole reads h = tt
  ends_file (Some texts) is_broken old new later line whole reads h =
      ∥∥₁_elim h (hlevel props) (end_of (Some texts) is_broken old new later line whole reads)

  -- ## The next file

  opened_next : (texts : List (List ℕ)) (text : List ℕ) (next : Later B) (rest : List (Later B)) (others : List (List ℕ)) →
      next.follows.items ≡ seal_end (last_part text) →
      AllZip (IsLater remaining (take_through 10 text)) others (next ∷ rest) →
      (are_following (text ∷ others) ≡ true → are_following texts ≡ true) →
      IsJoining remaining texts next.source rest
  opened_next texts text next rest [] sealed opened follow = absurd opened
  opened_next texts text next rest (other ∷ others) sealed (o, opened) follow = record {
    before = o.before;
    left = behind other;
    others = others;
    rest_is = o.rest_is;
    is_before = o.is_before;
    opened = subst (λ (l : List ℕ). AllZip (IsLater remaining l) others rest)
        (sym o.titled ∙ ap (take_through 10) o.parts) opened;
    follow = λ more. follow (both (follows text other) (are_following (other ∷ others))
        (does_follow text other next.follows.items o.titled o.line_is sealed)
        (subst (λ (l : List ℕ). are_following (l ∷ others) ≡ true) (sym o.parts) more));
  }

  joining_next : (texts : List (List ℕ)) (source : Source B) (next : Later B) (rest : List (Later B)) (end : List ℕ) →
      remaining source.reader ≡ Some [] → ((part : List ℕ) → Holds256 source.chain part → end ≡ seal_end part) →
      next.follows.items ≡ end → IsJoining remaining texts source (next ∷ rest) →
      IsJoining remaining texts next.source rest
  joining_next texts source next rest end ended seals same j =
      let none : j.left ≡ [] = same_some j.left [] (sym j.rest_is ∙ ended) in
      let whole : j.before ++ j.left ≡ j.before = ap (λ (l : List ℕ). j.before ++ l) none ∙ append-nil j.before in
      opened_next texts (j.before ++ j.left) next rest j.others
      (same ∙ seals (last_part j.before) j.is_before.1 ∙ ap (λ (l : List ℕ). seal_end (last_part l)) (sym whole))
      j.opened j.follow

  next_of : (texts : Option (List (List ℕ))) (is_broken : Bool) (source : Source B) (next : Later B)
      (rest : List (Later B)) (end : List ℕ) → IfSome texts (λ known. remaining source.reader ≡ Some []) →
      ((part : List ℕ) → Holds256 source.chain part → end ≡ seal_end part) → next.follows.items ≡ end →
      Joins texts is_broken source (next ∷ rest) → Joins texts is_broken next.source rest
  next_of None is_broken source next rest end ended seals same h = tt
  next_of (Some texts) is_broken source next rest end ended seals same h =
      λ whole. joining_next texts source next rest end ended seals same (h whole)

  -- The next file follows.
  pub joins_next : (texts : Option (List (List ℕ))) (is_broken : Bool) (source : Source B) (next : Later B)
      (later rest : List (Later B)) (end : List ℕ) → later ≡ next ∷ rest →
      IfSome texts (λ known. remaining source.reader ≡ Some []) →
      ((part : List ℕ) → Holds256 source.chain part → end ≡ seal_end part) → next.follows.items ≡ end →
      ∥ Joins texts is_broken source later ∥₁ → ∥ Joins texts is_broken next.source rest ∥₁
  joins_next texts is_broken source next later rest end first ended seals same h =
      ∥∥₁_map h (λ (j : Joins texts is_broken source later).
      next_of texts is_broken source next rest end ended seals same
      (subst (λ (l : List (Later B)). Joins texts is_broken source l) first j))

  -- ## The end

  last_of : (texts : Option (List (List ℕ))) (is_broken : Bool) (source : Source B) → is_broken ≡ false →
      Joins texts is_broken source [] → IfSome texts (λ known. are_following known ≡ true)
  last_of None is_broken source whole h = tt
  last_of (Some texts) is_broken source whole h =
      let j = h whole in
      at (j.before ++ j.left) (take_through 10 (j.before ++ j.left)) j.others j.opened j.follow
    where
      at : (text title : List ℕ) (others : List (List ℕ)) → AllZip (IsLater remaining title) others [] →
          (are_following (text ∷ others) ≡ true → are_following texts ≡ true) → are_following texts ≡ true
      at text title [] opened follow = follow refl
      at text title (other ∷ others) opened follow = absurd opened

  -- Behind the last file, all texts follow one another.
  pub all_follow : (texts : Option (List (List ℕ))) (is_broken : Bool) (source : Source B) (later : List (Later B)) →
      is_broken ≡ false → later ≡ [] → ∥ Joins texts is_broken source later ∥₁ →
      IfSome texts (λ known. are_following known ≡ true)
  all_follow None is_broken source later whole none h = tt
  all_follow (Some texts) is_broken source later whole none h =
      ∥∥₁_elim h (hlevel props) (λ (j : Joins (Some texts) is_broken source later).
      last_of (Some texts) is_broken source whole
      (subst (λ (l : List (Later B)). Joins (Some texts) is_broken source l) none j))

  -- ## The beginning

  -- If the texts of the files are known, each file was read up to its line `# follows`.
  opened_all : (title : List ℕ) (files : List B) (later : List (Later B)) (others : List (List ℕ)) →
      all_known (map remaining files) ≡ Some others → AllZip (Opens remaining title) files later →
      AllZip (IsLater remaining title) others later
  opened_all title [] [] others known opened =
      subst (λ (l : List (List ℕ)). AllZip (IsLater remaining title) l []) (same_some [] others known) tt
  opened_all title [] (l ∷ later) others known opened = absurd opened
  opened_all title (file ∷ files) [] others known opened = absurd opened
  opened_all title (file ∷ files) (l ∷ later) others known (opens, opened) =
      at (remaining file) (all_known (map remaining files)) opens
      (λ (rest : List (List ℕ)) (is : all_known (map remaining files) ≡ Some rest). opened_all title files later rest is opened)
      known
    where
      at : (first : Option (List ℕ)) (more : Option (List (List ℕ))) →
          ((text : List ℕ) → first ≡ Some text → IsLater remaining title text l) →
          ((rest : List (List ℕ)) → more ≡ Some rest → AllZip (IsLater remaining title) rest later) →
          cons_known first more ≡ Some others → AllZip (IsLater remaining title) others (l ∷ later)
      at None more first_is rest_is is = absurd cc
      at (Some text) None first_is rest_is is = absurd cc
      at (Some text) (Some rest) first_is rest_is is =
          subst (λ (o : List (List ℕ)). AllZip (IsLater remaining title) o (l ∷ later))
          (same_some (text ∷ rest) others is) (first_is text refl, rest_is rest refl)

  -- What is left of open files.
  lefts : (title : List ℕ) (others : List (List ℕ)) (later : List (Later B)) →
      AllZip (IsLater remaining title) others later →
      all_left (map (λ (l : Later B). remaining l.source.reader) later) ≡ Some (flat_map behind others)
  lefts title [] [] opened = refl
  lefts title [] (l ∷ later) opened = absurd opened
  lefts title (other ∷ others) [] opened = absurd opened
  lefts title (other ∷ others) (l ∷ later) (o, opened) =
      ap (λ (x : Option (List ℕ)). option_append x (all_left (map (λ (n : Later B). remaining n.source.reader) later))) o.rest_is
      ∙ ap (λ (x : Option (List ℕ)). option_append (Some (behind other)) x) (lefts title others later opened)

  -- The files of these texts are open, and the script is theirs.
  abbrev Begins : (line : List ℕ) → Source B → List (Later B) → List (List ℕ) → Type 0
  Begins line source later texts = IsJoining remaining texts source later
      × (script_left remaining (Some texts) line source later ≡ Some (joined texts))

  starts : (text : List ℕ) (others : List (List ℕ)) (old new : Source B) (some : Bool) (line : List ℕ)
      (later : List (Later B)) → remaining old.reader ≡ Some text → IsBefore [] text old.chain → ReadsLine old new some line →
      AllZip (IsLater remaining line) others later → Begins line new later (text ∷ others)
  starts text others old new some line later known is_before reads opened =
      let h = reads [] text known is_before in
      let rest = drop_through 10 text in
      let tail = flat_map behind others in
      let whole : line ++ rest ≡ text = ap (λ (l : List ℕ). l ++ rest) h.line_is ∙ sym (line_and_rest text) in
      let titled : line ≡ take_through 10 (line ++ rest) = h.line_is ∙ ap (take_through 10) (sym whole) in (
        record {
          before = line;
          left = rest;
          others = others;
          rest_is = h.rest_is;
          is_before = h.is_before;
          opened = subst (λ (l : List ℕ). AllZip (IsLater remaining l) others later) titled opened;
          follow = subst (λ (l : List ℕ). are_following (l ∷ others) ≡ true → are_following (text ∷ others) ≡ true)
              (sym whole) (λ more. more);
        },
        ap (λ (x : Option (List ℕ)). option_append (Some line) (option_append x (all_left (map (λ (n : Later B). remaining n.source.reader) later)))) h.rest_is
            ∙ ap (λ (x : Option (List ℕ)). option_append (Some line) (option_append (Some rest) x)) (lefts line others later opened)
            ∙ ap Some (sym (append_assoc line rest tail) ∙ ap (λ (l : List ℕ). l ++ tail) whole),
      )

  -- The first line of the first file was read, and the other files are open.
  pub begins : (texts : Option (List (List ℕ))) (file : B) (files : List B) (old new : Source B) (some : Bool)
      (line : List ℕ) (later : List (Later B)) → texts ≡ all_known (remaining file ∷ map remaining files) →
      old.reader ≡ file → ((left : List ℕ) → IsBefore [] left old.chain) → ReadsLine old new some line →
      AllZip (Opens remaining line) files later → IfSome texts (Begins line new later)
  begins texts file files old new some line later is reader_is is_before reads opened =
      subst (λ (t : Option (List (List ℕ))). IfSome t (Begins line new later)) (sym is)
      (at (remaining file) (all_known (map remaining files)) refl refl)
    where
      at : (first : Option (List ℕ)) (more : Option (List (List ℕ))) → remaining file ≡ first →
          all_known (map remaining files) ≡ more → IfSome (cons_known first more) (Begins line new later)
      at None more first_is more_is = tt
      at (Some text) None first_is more_is = tt
      at (Some text) (Some others) first_is more_is =
          starts text others old new some line later (ap remaining reader_is ∙ first_is) (is_before text) reads
          (opened_all line files later others more_is opened)

  begun : (texts : Option (List (List ℕ))) (line : List ℕ) (source : Source B) (later : List (Later B)) →
      IfSome texts (Begins line source later) → Joins texts false source later
  begun None line source later h = tt
  begun (Some texts) line source later h = λ whole. h.0

  pub joins_first : (texts : Option (List (List ℕ))) (line : List ℕ) (source : Source B) (later : List (Later B)) →
      IfSome texts (Begins line source later) → ∥ Joins texts false source later ∥₁
  joins_first texts line source later h = ∣ begun texts line source later h ∣₁

  pub script_is : (texts : Option (List (List ℕ))) (line : List ℕ) (source : Source B) (later : List (Later B)) →
      IfSome texts (Begins line source later) →
      script_left remaining texts line source later ≡ option_map joined texts
  script_is None line source later h = refl
  script_is (Some texts) line source later h = h.1

-- One more file was opened.
pub opens_more : {B : Type 0} (R : B → Later B → Type 0) (files done rest : List B) (later : List (Later B)) (file : B)
    (opened : Later B) (more : List B) (news : List (Later B)) → rest ≡ file ∷ more → news ≡ later ++ opened ∷ [] →
    R file opened → (files ≡ done ++ rest) × AllZip R done later →
    (files ≡ (done ++ file ∷ []) ++ more) × AllZip R (done ++ file ∷ []) news
opens_more {B = B} R files done rest later file opened more news next pushed is (parts, all) = (
  parts ∙ ap (λ (l : List B). done ++ l) next ∙ sym (append_assoc done (file ∷ []) more),
  subst (λ (l : List (Later B)). AllZip R (done ++ file ∷ []) l) (sym pushed) (all_zipped_more R done later file opened all is),
)

-- All files were opened.
pub opens_all : {B : Type 0} (R : B → Later B → Type 0) (files done rest : List B) (later : List (Later B)) →
    rest ≡ [] → (files ≡ done ++ rest) × AllZip R done later → AllZip R files later
opens_all {B = B} R files done rest later none (parts, all) =
    subst (λ (l : List B). AllZip R l later)
    (sym (parts ∙ ap (λ (l : List B). done ++ l) none ∙ append-nil done)) all

-- The first of these items.
pub first_is : {A : Type 0} (front next : A) (items rest : List A) → front ≡ slice_index_or items 0 front →
    items ≡ next ∷ rest → front ≡ next
first_is {A = A} front next items rest at is = at ∙ ap (λ (l : List A). slice_index_or l 0 front) is

zero_is : (n : ℕ) → eqb n 0 ≡ true → n ≡ 0
zero_is n is = grind (arith, nat_tests, is)

not_zero : (n : ℕ) → suc n ≡ 0 → ⊥
not_zero n is = omega (arith, is)

-- There are no items.
pub no_items : {A : Type 0} (n : ℕ) (xs : List A) → n ≡ length xs → eqb n 0 ≡ true → xs ≡ []
no_items n [] long is = refl
no_items n (x ∷ xs) long is = absurd (not_zero (length xs) (sym long ∙ zero_is n is))

-- The front of a line was read.
reads_front : (old rest : Option (List ℕ)) (line front left : List ℕ) → line ≡ front ++ left →
    Keeps old (option_append (Some line) rest) → Consumes old (option_append (Some left) rest) front
reads_front None rest line front left parts kept = tt
reads_front (Some text) None line front left parts kept = absurd kept
reads_front (Some text) (Some rest) line front left parts kept =
    sym kept ∙ ap (λ (l : List ℕ). l ++ rest) parts ∙ append_assoc front left rest

-- The bytes that were copied are the front of what is left of a line.
pub copied_front : (n at : ℕ) (line copied rest : List ℕ) → length copied ≡ n → copied ≡ take n (drop at line) →
    drop at line ≡ take n (copied ++ rest) ++ drop (at + n) line
copied_front n at line copied rest long is =
    let taken : take n (copied ++ rest) ≡ take n (drop at line) =
    ap (λ (k : ℕ). take k (copied ++ rest)) (sym long) ∙ take-append_seam copied rest ∙ is in
    front_and_rest n (drop at line) ∙ ap (λ (l : List ℕ). l ++ drop n (drop at line)) (sym taken)
    ∙ ap (λ (l : List ℕ). take n (copied ++ rest) ++ l) (drop-drop n at line)

-- No byte was copied, although there was room.
pub used_up : (n at long : ℕ) (line copied rest : List ℕ) → n ≡ min long (length line - at) → at ≤ length line →
    length copied ≡ n → length rest ≡ long - n → n ≡ 0 → 0 < length (copied ++ rest) → at ≡ length line
used_up n at long line copied rest is within copies rests none room =
    omega (arith, is, within, copies, rests, none, room, length-append copied rest)

pub reads_known : {B : Type 0} (remaining : B → Option (List ℕ)) (texts : Option (List (List ℕ))) (old : Option (List ℕ))
    (line front left : List ℕ) (source : Source B) (later : List (Later B)) → line ≡ front ++ left →
    Keeps old (script_left remaining texts line source later) →
    Consumes old (script_left remaining texts left source later) front
reads_known remaining None None line front left source later parts kept = tt
reads_known remaining None (Some text) line front left source later parts kept = absurd kept
reads_known remaining (Some texts) old line front left source later parts kept =
    reads_front old (left_of remaining source later) line front left parts kept
