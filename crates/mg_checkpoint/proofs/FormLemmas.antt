-- Prefix codes: ways to write values so that what is written, followed by any text, determines the value and that text.
use Rattle.std.proofs.Common.{◌≡◌, ℕ, Bool, true, false, ◌&&◌, List, [], ◌∷◌, ◌++◌, refl, sym, ap, subst, ◌∙◌, append_assoc}
use Rattle.std.proofs.lemmas.List.{append_cancel_left}
use Rattle.std.proofs.lemmas.Bool.{false≢true}
use Rattle.std.specs.List.{list_all, flat_map}
use Rattle.mg_checkpoint.specs.aids.Forms.{numeral, numbered, closing}
use Rattle.mg_checkpoint.proofs.NumeralLemmas.{is_digit, numeral_digits, numeral_injective}

-- What is written determines this much of the value.
pub record Tells {A : Type 0} (write : A → List ℕ) (same : A → A → Type 0) : Type 0 where
  pub parts : (a b : A) (x y : List ℕ) → write a ++ x ≡ write b ++ y → same a b × (x ≡ y)

abbrev pub IsCode : {A : Type 0} → (A → List ℕ) → Type 0
IsCode {A} write = Tells write (λ (a b : A). a ≡ b)

-- ## Combinations

pub both : {A : Type 0} {f g : A → List ℕ} {r s : A → A → Type 0} → Tells f r → Tells g s
    → Tells (λ a. f a ++ g a) (λ a b. r a b × s a b)
both {f = f} {g = g} first second = record {
  parts = λ a b x y e.
      let (one, rest) = first.parts a b (g a ++ x) (g b ++ y)
      (sym (append_assoc (f a) (g a) x) ∙ e ∙ append_assoc (f b) (g b) y) in
      let (two, end) = second.parts a b x y rest in
      ((one, two), end);
}

-- Fixed text in front.
pub after : {A : Type 0} {f : A → List ℕ} {r : A → A → Type 0} (text : List ℕ) → Tells f r → Tells (λ a. text ++ f a) r
after {f = f} text tells = record {
  parts = λ a b x y e. tells.parts a b x y (append_cancel_left text (f a ++ x) (f b ++ y)
      (sym (append_assoc text (f a) x) ∙ e ∙ append_assoc text (f b) y));
}

-- A part of the value.
pub part : {A B : Type 0} {f : A → List ℕ} {r : A → A → Type 0} (g : B → A) → Tells f r
    → Tells (λ b. f (g b)) (λ a b. r (g a) (g b))
part g tells = record { parts = λ a b x y e. tells.parts (g a) (g b) x y e }

pub mapped : {A : Type 0} {f : A → List ℕ} {r : A → A → Type 0} (s : A → A → Type 0) → ((a b : A) → r a b → s a b)
    → Tells f r → Tells f s
mapped s change tells = record {
  parts = λ a b x y e. let (one, rest) = tells.parts a b x y e in (change a b one, rest);
}

-- A value that can be read back from the front of a text.
pub by_reading : {A : Type 0} (f : A → List ℕ) (read : List ℕ → A) → ((a : A) (x : List ℕ) → read (f a ++ x) ≡ a)
    → IsCode f
by_reading f read back = record {
  parts = λ a b x y e.
      let same : a ≡ b = sym (back a x) ∙ ap read e ∙ back b y in
      (same, append_cancel_left (f b) x y (subst (λ v. f v ++ x ≡ f b ++ y) same e));
}

-- ## Text up to a byte of another kind

-- Whether a text begins with a byte of a kind.
abbrev pub starts : (ℕ → Bool) → List ℕ → Bool
starts kind [] = false
starts kind (b ∷ bs) = kind b

-- Texts that begin differently are different.
pub apart : {A : Type 0} (kind : ℕ → Bool) (x y : List ℕ) → x ≡ y → starts kind x ≡ true → starts kind y ≡ false → A
apart kind x y e one other = absurd (false≢true (sym other ∙ ap (starts kind) (sym e) ∙ one))

first_holds : (a b : Bool) → (a && b) ≡ true → a ≡ true
first_holds true b h = refl
first_holds false b h = h

rest_holds : (a b : Bool) → (a && b) ≡ true → b ≡ true
rest_holds true b h = h
rest_holds false b h = absurd (false≢true h)

other_kind : (kind : ℕ → Bool) (c : ℕ) (d p q : List ℕ) → list_all kind (c ∷ d) ≡ true → starts kind p ≡ false
    → p ≡ c ∷ q → ⊥
other_kind kind c d p q all stops e =
    false≢true (sym (subst (λ t. starts kind t ≡ false) e stops) ∙ first_holds (kind c) (list_all kind d) all)

pub split_at : (kind : ℕ → Bool) (d e p q : List ℕ) → list_all kind d ≡ true → list_all kind e ≡ true
    → starts kind p ≡ false → starts kind q ≡ false → d ++ p ≡ e ++ q → (d ≡ e) × (p ≡ q)
split_at kind [] [] p q _ _ _ _ same = (refl, same)
split_at kind [] (c ∷ e) p q ds es ps qs same = absurd (other_kind kind c e p (e ++ q) es ps same)
split_at kind (b ∷ d) [] p q ds es ps qs same = absurd (other_kind kind b d q (d ++ p) ds qs (sym same))
split_at kind (b ∷ d) (c ∷ e) p q ds es ps qs same =
    let head : b ≡ c = cc in
    let tail : d ++ p ≡ e ++ q = cc in
    let (one, rest) = split_at kind d e p q (rest_holds (kind b) (list_all kind d) ds)
    (rest_holds (kind c) (list_all kind e) es) ps qs tail in
    (cc, rest)

-- ## Numbers

pub number_then : (m n : ℕ) (p q : List ℕ) → starts is_digit p ≡ false → starts is_digit q ≡ false
    → numeral m ++ p ≡ numeral n ++ q → (m ≡ n) × (p ≡ q)
number_then m n p q ps qs e =
    let (same, rest) = split_at is_digit (numeral m) (numeral n) p q (numeral_digits m) (numeral_digits n) ps qs e in
    (numeral_injective m n same, rest)

pub number_and : (mark : List ℕ) → ((x : List ℕ) → starts is_digit (mark ++ x) ≡ false)
    → IsCode (λ n. numeral n ++ mark)
number_and mark stops = record {
  parts = λ m n x y e.
      let (same, rest) = number_then m n (mark ++ x) (mark ++ y) (stops x) (stops y)
      (sym (append_assoc (numeral m) mark x) ∙ e ∙ append_assoc (numeral n) mark y) in
      (same, append_cancel_left mark x y rest);
}

pub numbered_tells : (label : List ℕ) → IsCode (numbered label)
numbered_tells label = after label (number_and (32 ∷ []) (λ x. refl))

pub closing_tells : (label : List ℕ) → IsCode (closing label)
closing_tells label = after label (number_and (10 ∷ []) (λ x. refl))

-- ## Lists

pub stops_after : {A : Type 0} (f : A → List ℕ) (kind : ℕ → Bool)
    → ((a : A) (x : List ℕ) → starts kind (f a ++ x) ≡ false)
    → (xs : List A) (x : List ℕ) → starts kind x ≡ false → starts kind (flat_map f xs ++ x) ≡ false
stops_after f kind stops [] x h = h
stops_after f kind stops (a ∷ xs) x h =
    ap (starts kind) (append_assoc (f a) (flat_map f xs) x) ∙ stops a (flat_map f xs ++ x)

-- Elements that begin with bytes of the kind `opens`, up to a text that doesn't begin with such a byte. Bytes of the
-- kind `goes_on` could continue an element, so no element and no text after the last one may begin with such a byte.
pub many : {A : Type 0} (f : A → List ℕ) (opens goes_on : ℕ → Bool)
    → ((a b : A) (x y : List ℕ) → starts goes_on x ≡ false → starts goes_on y ≡ false → f a ++ x ≡ f b ++ y
    → (a ≡ b) × (x ≡ y))
    → ((a : A) (x : List ℕ) → starts opens (f a ++ x) ≡ true)
    → ((a : A) (x : List ℕ) → starts goes_on (f a ++ x) ≡ false)
    → (xs ys : List A) (x y : List ℕ) → starts opens x ≡ false → starts opens y ≡ false
    → starts goes_on x ≡ false → starts goes_on y ≡ false
    → flat_map f xs ++ x ≡ flat_map f ys ++ y → (xs ≡ ys) × (x ≡ y)
many f opens goes_on one begins ends [] [] x y xo yo xg yg e = (refl, e)
many f opens goes_on one begins ends [] (b ∷ ys) x y xo yo xg yg e =
    absurd (false≢true (sym xo ∙ ap (starts opens) (e ∙ append_assoc (f b) (flat_map f ys) y)
    ∙ begins b (flat_map f ys ++ y)))
many f opens goes_on one begins ends (a ∷ xs) [] x y xo yo xg yg e =
    absurd (false≢true (sym yo ∙ ap (starts opens) (sym e ∙ append_assoc (f a) (flat_map f xs) x)
    ∙ begins a (flat_map f xs ++ x)))
many f opens goes_on one begins ends (a ∷ xs) (b ∷ ys) x y xo yo xg yg e =
    let same = sym (append_assoc (f a) (flat_map f xs) x) ∙ e ∙ append_assoc (f b) (flat_map f ys) y in
    let (first, rest) = one a b (flat_map f xs ++ x) (flat_map f ys ++ y) (stops_after f goes_on ends xs x xg)
    (stops_after f goes_on ends ys y yg) same in
    let (others, end) = many f opens goes_on one begins ends xs ys x y xo yo xg yg rest in
    (cc, end)

pub never_starts : (x : List ℕ) → starts (λ _. false) x ≡ false
never_starts [] = refl
never_starts (b ∷ x) = refl

-- Elements up to a fixed text that begins differently.
pub list_and : {A : Type 0} {f : A → List ℕ} (opens : ℕ → Bool) (mark : List ℕ) → IsCode f
    → ((a : A) (x : List ℕ) → starts opens (f a ++ x) ≡ true)
    → ((x : List ℕ) → starts opens (mark ++ x) ≡ false) → IsCode (λ xs. flat_map f xs ++ mark)
list_and {f = f} opens mark one begins stops = record {
  parts = λ xs ys x y e.
      let same = sym (append_assoc (flat_map f xs) mark x) ∙ e ∙ append_assoc (flat_map f ys) mark y in
      let (all, rest) = many f opens (λ _. false) (λ a b p q _ _ h. one.parts a b p q h) begins
      (λ a z. never_starts (f a ++ z)) xs ys (mark ++ x) (mark ++ y) (stops x) (stops y)
      (never_starts (mark ++ x)) (never_starts (mark ++ y)) same in
      (all, append_cancel_left mark x y rest);
}
