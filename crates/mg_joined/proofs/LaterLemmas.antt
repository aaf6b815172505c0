-- Reading a file up to the line that says which text it follows.
use Rattle.std.proofs.Common.{◌≡◌, ◌∙◌, ℕ, zero, suc, ◌-◌, Bool, true, false, cond, eqb, List, [], ◌∷◌, ◌++◌, Option, Some, ap, append-nil, append_assoc, codes, drop, length, refl, subst, sym, take}
use Rattle.std.specs.Prelude.{nat_eq, Err, IfOk, Ok, Result}
use Rattle.std.specs.Io.BufRead.{drop_through, take_through}
use Rattle.std.specs.List.{starts_with}
use Rattle.std.proofs.lemmas.List.{length-drop}
use Rattle.std.proofs.lemmas.Slice.Eq.{bytes_eq-Decides}
use Rattle.sha2.specs.declared.Sha256.{Sha256}
use Rattle.mg_joined.specs.Joined.{behind}
use Rattle.mg_joined.specs.aids.Reading.{HasPassed, HasReadLine, IsBefore, IsOpened, IsPassing, IsTitled}
use Rattle.mg_joined.proofs.FollowsLemmas.{finds, passes, walks}

pub line_and_rest : (text : List ℕ) → text ≡ take_through 10 text ++ drop_through 10 text
line_and_rest [] = refl
line_and_rest (b ∷ bs) = at (eqb b 10) (line_and_rest bs)
  where
    at : (is : Bool) → bs ≡ take_through 10 bs ++ drop_through 10 bs →
        b ∷ bs ≡ cond is (b ∷ []) (b ∷ take_through 10 bs) ++ cond is bs (drop_through 10 bs)
    at true later = refl
    at false later = ap (λ (l : List ℕ). b ∷ l) later

pub front_and_rest : (n : ℕ) (text : List ℕ) → text ≡ take n text ++ drop n text
front_and_rest zero text = refl
front_and_rest (suc n) [] = refl
front_and_rest (suc n) (b ∷ bs) = ap (λ (l : List ℕ). b ∷ l) (front_and_rest n bs)

all_taken : (text : List ℕ) → take (length text) text ≡ text
all_taken [] = refl
all_taken (b ∷ bs) = ap (λ (l : List ℕ). b ∷ l) (all_taken bs)

-- What a slice to the end of a text has.
pub slice_to_end : (n : ℕ) (text : List ℕ) → take (length text - n) (drop n text) ≡ drop n text
slice_to_end n text =
    ap (λ (k : ℕ). take k (drop n text)) (sym (length-drop n text)) ∙ all_taken (drop n text)

pub is_titled : (title text line slice : List ℕ) (some : Bool) (rest : Option (List ℕ)) (chain : Sha256) →
    HasReadLine [] text some line rest chain → slice ≡ line → slice ≡ title → IsTitled title text rest chain
is_titled title text line slice some rest chain h shown same =
    let is : line ≡ title = sym shown ∙ same in
    record {
      titled = sym h.line_is ∙ is;
      rest_is = h.rest_is;
      is_before = subst (λ (l : List ℕ). IsBefore l (drop_through 10 text) chain) is h.is_before;
    }

pub passes_none : (before left : List ℕ) (rest : Option (List ℕ)) (chain : Sha256) → rest ≡ Some left →
    IsBefore before left chain → IsPassing before left rest chain
passes_none before left rest chain known is_before = record {
  passed = [];
  after = left;
  parts = refl;
  rest_is = known;
  is_before = subst (λ (l : List ℕ). IsBefore l left chain) (sym (append-nil before)) is_before;
  same = refl;
}

pub passes_line : (before left line : List ℕ) (old rest : Option (List ℕ)) (chain new : Sha256) (some : Bool) →
    (p : IsPassing before left old chain) → HasReadLine (before ++ p.passed) p.after some line rest new →
    starts_with nat_eq line (codes "# follows ") ≡ false → IsPassing before left rest new
passes_line before left line old rest chain new some p h other =
    let next = drop_through 10 p.after in
    let parted : p.after ≡ line ++ next =
    line_and_rest p.after ∙ ap (λ (l : List ℕ). l ++ next) (sym h.line_is) in
    record {
      passed = p.passed ++ line;
      after = next;
      parts = p.parts ∙ ap (λ (l : List ℕ). p.passed ++ l) parted ∙ sym (append_assoc p.passed line next);
      rest_is = h.rest_is;
      is_before = subst (λ (l : List ℕ). IsBefore l next new) (append_assoc before p.passed line) h.is_before;
      same = p.same
          ∙ passes p.after (subst (λ (l : List ℕ). starts_with nat_eq l (codes "# follows ") ≡ false) h.line_is other);
    }

pub passes_to : (before left line end : List ℕ) (old rest : Option (List ℕ)) (chain new : Sha256) (some : Bool) →
    (p : IsPassing before left old chain) → HasReadLine (before ++ p.passed) p.after some line rest new →
    starts_with nat_eq line (codes "# follows ") ≡ true → end ≡ drop 10 line → HasPassed before left rest new end
passes_to before left line end old rest chain new some p h begins end_is =
    let next = drop_through 10 p.after in
    let parted : p.after ≡ line ++ next =
    line_and_rest p.after ∙ ap (λ (l : List ℕ). l ++ next) (sym h.line_is) in
    let found = p.same
    ∙ finds p.after (subst (λ (l : List ℕ). starts_with nat_eq l (codes "# follows ") ≡ true) h.line_is begins) in
    let words : codes "# follows " ≡ take 10 line = (bytes_eq-Decides (codes "# follows ") (take 10 line)).0 begins in
    record {
      passed = p.passed ++ line;
      after = next;
      parts = p.parts ∙ ap (λ (l : List ℕ). p.passed ++ l) parted ∙ sym (append_assoc p.passed line next);
      rest_is = h.rest_is;
      is_before = subst (λ (l : List ℕ). IsBefore l next new) (append_assoc before p.passed line) h.is_before;
      line_is = ap (take_through 10) found ∙ sym h.line_is ∙ front_and_rest 10 line
          ∙ ap (λ (l : List ℕ). l ++ drop 10 line) (sym words)
          ∙ ap (λ (l : List ℕ). codes "# follows " ++ l) (sym end_is);
      after_is = sym (ap (drop_through 10) found);
    }

-- A file was opened.
pub is_opened : (title text end : List ℕ) (middle rest : Option (List ℕ)) (first chain : Sha256) →
    (t : IsTitled title text middle first) → HasPassed title (drop_through 10 text) rest chain end →
    IsOpened title text rest chain end
is_opened title text end middle rest first chain t p =
    let left = drop_through 10 text in
    let walked = walks text in
    let behind_is : p.after ≡ behind text = p.after_is ∙ sym (ap (drop_through 10) walked) in
    record {
      before = title ++ p.passed;
      parts = line_and_rest text ∙ ap (λ (l : List ℕ). l ++ left) t.titled ∙ ap (λ (l : List ℕ). title ++ l) p.parts
          ∙ sym (append_assoc title p.passed p.after) ∙ ap (λ (l : List ℕ). (title ++ p.passed) ++ l) behind_is;
      rest_is = p.rest_is ∙ ap Some behind_is;
      is_before = subst (λ (l : List ℕ). IsBefore (title ++ p.passed) l chain) behind_is p.is_before;
      titled = t.titled;
      line_is = ap (take_through 10) walked ∙ p.line_is;
    }

pub if_ok_more : {A E : Type 0} (result : Result A E) (P Q : A → Type 0) → ((value : A) → P value → Q value) →
    IfOk result P → IfOk result Q
if_ok_more (Ok value) P Q more h = more value h
if_ok_more (Err error) P Q more h = tt
