-- Looking up a keyword among the keywords that have a form with the same first letter.
use Rattle.std.proofs.Common.{◌≡◌, ℕ, Bool, true, false, ◌||◌, ◌==◌, cond, List, [], ◌∷◌, length, get_or, ◌<◌, Some, None, refl, sym, ap, ◌∙◌, arith}
use Rattle.std.proofs.lemmas.Bool.{and_parts, true≢false}
use Rattle.std.proofs.lemmas.Bool.Decides.{nat_tests}
use Rattle.std.specs.Prelude.{find, filter}
use Rattle.std.specs.Char.{to_ascii_lowercase}
use Rattle.std.specs.List.{list_any}
use Rattle.std.specs.Str.{bytes_eq, str_eq_ignore_ascii_case, str_to_ascii_lowercase}
use Rattle.std.proofs.lemmas.Slice.Eq.{bytes_eq-Decides}
use Rattle.mg_words.proofs.CutLemmas.{same_letters}
use Rattle.mg_text.specs.declared.keyword.Keyword.{Keyword}
use Rattle.mg_text.specs.declared.keyword.Keyword.TheVariants.{Context}
use Rattle.mg_text.specs.Keyword.{forms_of, is_named, keywords, keyword_of}
use Rattle.mg_text.specs.Grammar.{has_slash}
use Rattle.mg_text.specs.aids.Keywords.{begins, can_begin, words_by}

-- If the filter accepts each element that passes the test, filtering a list does not change the element that a search
-- finds. This is the step for one element.
find_tests : {X : Type 0} (p : X → Bool) (x : X) (xs ys : List X) (a b : Bool) → (a ≡ true → b ≡ true) → p x ≡ a →
    find p ys ≡ find p xs → find p (cond b (x ∷ ys) ys) ≡ find p (x ∷ xs)
find_tests p x xs ys true true h e rest = rw e refl
find_tests p x xs ys true false h e rest = let k : false ≡ true = h refl in absurd cc
find_tests p x xs ys false true h e rest = rw e rest
find_tests p x xs ys false false h e rest = rw e rest

find_filter : {X : Type 0} (p q : X → Bool) → ((x : X) → p x ≡ true → q x ≡ true) → (xs : List X) →
    find p (filter q xs) ≡ find p xs
find_filter p q wider [] = refl
find_filter p q wider (x ∷ xs) = find_tests p x xs (filter q xs) (p x) (q x) (wider x) refl (find_filter p q wider xs)

begins_with : (b : ℕ) (bs form : List ℕ) → str_eq_ignore_ascii_case (b ∷ bs) form ≡ true →
    begins (to_ascii_lowercase b) form ≡ true
begins_with b bs [] h = absurd cc
begins_with b bs (c ∷ cs) h = (and_parts _ _ h).0

or_true : (a b x y : Bool) → (a ≡ true → x ≡ true) → (b ≡ true → y ≡ true) → (a || b) ≡ true → (x || y) ≡ true
or_true true b x y f g h = rw (f refl) refl
or_true false b true y f g h = refl
or_true false b false y f g h = g h

named_begins : (b : ℕ) (bs : List ℕ) (k : Keyword) → is_named (b ∷ bs) k ≡ true →
    can_begin (to_ascii_lowercase b) k ≡ true
unfolding is_named
named_begins b bs k h = or_true _ _ _ _
    (begins_with b bs (forms_of k).0) (begins_with b bs (forms_of k).1) h

pub by_letter : (text : List ℕ) → 0 < length text →
    find (is_named text) (words_by (to_ascii_lowercase (get_or text 0 0))) ≡ keyword_of text
unfolding words_by keyword_of
by_letter [] h = absurd (omega arith)
by_letter (b ∷ bs) h = find_filter (is_named (b ∷ bs)) (can_begin (to_ascii_lowercase b)) (named_begins b bs) keywords

pub no_letter : (text : List ℕ) → length text < 1 → keyword_of text ≡ None
unfolding keyword_of is_named forms_of
no_letter [] h = refl
no_letter (b ∷ bs) h = absurd (omega arith)

-- Equal strings are also equal ignoring case.
pub exact : (a b : List ℕ) → a ≡ b → str_eq_ignore_ascii_case a b ≡ true
exact a b e = rw e (same_itself (str_to_ascii_lowercase b))
  where
    same_itself : (xs : List ℕ) → bytes_eq xs xs ≡ true
    same_itself xs = (bytes_eq-Decides xs xs).1 refl

-- ## Keywords and the strings that spell them

pub found_passes : {X : Type 0} (p : X → Bool) (xs : List X) (x : X) → find p xs ≡ Some x → p x ≡ true
found_passes p [] x e = absurd cc
found_passes p (y ∷ ys) x e = by_test (p y) refl e (found_passes p ys x)
  where
    by_test : (b : Bool) → p y ≡ b → cond b (Some y) (find p ys) ≡ Some x → (find p ys ≡ Some x → p x ≡ true) →
        p x ≡ true
    by_test true is e others = let same : y ≡ x = cc e in rw (sym same) is
    by_test false is e others = others e

-- A string is a form of the keyword that it spells.
pub named_is : (text : List ℕ) (k : Keyword) → keyword_of text ≡ Some k → is_named text k ≡ true
unfolding keyword_of
named_is text k e = found_passes (is_named text) keywords k e

pub either : {A : Type 0} (p q : Bool) → (p ≡ true → A) → (q ≡ true → A) → (p || q) ≡ true → A
either true q f g e = f refl
either false q f g e = g e

-- A string that is a form of CONTEXT spells the keyword CONTEXT.
pub context_is : (text : List ℕ) → is_named text Context ≡ true → keyword_of text ≡ Some Context
unfolding keyword_of is_named forms_of
context_is text e =
    let forms = forms_of Context in
    either (str_eq_ignore_ascii_case text forms.0) (str_eq_ignore_ascii_case text forms.1)
    (λ long. let same = same_letters text forms.0 long in rw same (refl {a = Some Context}))
    (λ short. let same = same_letters text forms.1 short in rw same (refl {a = Some Context})) e

-- ## Marks in keywords

module _ (mark : ℕ) (is_no_letter : (b : ℕ) → (to_ascii_lowercase b == mark) ≡ (b == mark)) where
  pub mark_in_lower : (text : List ℕ) →
      list_any (λ b. b == mark) (str_to_ascii_lowercase text) ≡ list_any (λ b. b == mark) text
  mark_in_lower [] = refl
  mark_in_lower (b ∷ bs) = rw (is_no_letter b, mark_in_lower bs) refl

  same_mark : (a b : List ℕ) → str_eq_ignore_ascii_case a b ≡ true →
      list_any (λ c. c == mark) a ≡ list_any (λ c. c == mark) b
  same_mark a b e = sym (mark_in_lower a) ∙ ap (list_any (λ c. c == mark)) (same_letters a b e) ∙ mark_in_lower b

  -- If the forms of a keyword do not contain the mark, a string that spells the keyword does not contain it.
  pub markless : (text : List ℕ) (k : Keyword) → keyword_of text ≡ Some k →
      list_any (λ b. b == mark) (forms_of k).0 ≡ false → list_any (λ b. b == mark) (forms_of k).1 ≡ false →
      list_any (λ b. b == mark) text ≡ false
  unfolding is_named
  markless text k e long short =
      let forms = forms_of k in
      either (str_eq_ignore_ascii_case text forms.0) (str_eq_ignore_ascii_case text forms.1)
      (λ is. same_mark text forms.0 is ∙ long) (λ is. same_mark text forms.1 is ∙ short) (named_is text k e)

lower_slash : (b : ℕ) → (to_ascii_lowercase b == 47) ≡ (b == 47)
lower_slash b = grind (arith, nat_tests)

-- If the forms of a keyword contain no slash, a string with a slash does not spell the keyword.
pub no_slash : (text : List ℕ) (k : Keyword) → keyword_of text ≡ Some k → has_slash (forms_of k).0 ≡ false →
    has_slash (forms_of k).1 ≡ false → has_slash text ≡ true → ⊥
no_slash text k e long short slash = true≢false (sym slash ∙ markless 47 lower_slash text k e long short)
