-- Escaped bytes determine the bytes.
use Rattle.std.proofs.Common.{◌≡◌, ℕ, ◌==◌, eqb, eqb-true, Bool, true, false, cond, List, [], ◌∷◌, ◌++◌, codes, get_or, refl, sym}
use Rattle.std.specs.List.{flat_map}
use Rattle.std.specs.Prelude.{if◌then◌else◌}
use Rattle.mg_core.specs.Script.{escape_of, escaped}
use Rattle.mg_checkpoint.specs.aids.Forms.{word_escape}
use Rattle.mg_checkpoint.proofs.FormLemmas.{IsCode, by_reading, starts, list_and}

abbrev escaped_byte : ℕ → ℕ
escaped_byte b = if b == 110 then 10 else (if b == 114 then 13 else (if b == 115 then 32 else 92))

-- The byte that the front of a text with escapes denotes.
abbrev byte_at : List ℕ → ℕ
byte_at text = if get_or text 0 0 == 92 then escaped_byte (get_or text 1 0) else get_or text 0 0

escape_back : (b : ℕ) (x : List ℕ) (p q r : Bool) → eqb b 10 ≡ p → eqb b 13 ≡ q → eqb b 92 ≡ r
    → byte_at (cond p (codes "\\n") (cond q (codes "\\r") (cond r (codes "\\\\") (b ∷ []))) ++ x) ≡ b
escape_back b x true q r e f g = sym (eqb-true b 10 e)
escape_back b x false true r e f g = sym (eqb-true b 13 f)
escape_back b x false false true e f g = sym (eqb-true b 92 g)
escape_back b x false false false e f g = rw g refl

escape_tells : IsCode escape_of
escape_tells = by_reading escape_of byte_at (λ b x. escape_back b x (eqb b 10) (eqb b 13) (eqb b 92) refl refl refl)

word_back : (b : ℕ) (x : List ℕ) (p : Bool) → eqb b 32 ≡ p
    → byte_at (cond p (codes "\\s") (escape_of b) ++ x) ≡ b
word_back b x true e = sym (eqb-true b 32 e)
word_back b x false e = escape_back b x (eqb b 10) (eqb b 13) (eqb b 92) refl refl refl

word_tells : IsCode word_escape
word_tells = by_reading word_escape byte_at (λ b x. word_back b x (eqb b 32) refl)

-- Whether a byte can begin an escaped byte of text, and of a word.
abbrev in_text : ℕ → Bool
in_text b = if b == 10 then false else true

abbrev in_word : ℕ → Bool
in_word b = if b == 32 then false else true

escape_begins : (b : ℕ) (x : List ℕ) (p q r : Bool) → eqb b 10 ≡ p
    → starts in_text (cond p (codes "\\n") (cond q (codes "\\r") (cond r (codes "\\\\") (b ∷ []))) ++ x) ≡ true
escape_begins b x true q r e = refl
escape_begins b x false true r e = refl
escape_begins b x false false true e = refl
escape_begins b x false false false e = rw e refl

word_begins : (b : ℕ) (x : List ℕ) (o p q r : Bool) → eqb b 32 ≡ o
    → starts in_word (cond o (codes "\\s") (cond p (codes "\\n")
    (cond q (codes "\\r") (cond r (codes "\\\\") (b ∷ [])))) ++ x) ≡ true
word_begins b x true p q r e = refl
word_begins b x false true q r e = refl
word_begins b x false false true r e = refl
word_begins b x false false false true e = refl
word_begins b x false false false false e = rw e refl

pub sender_tells : IsCode (λ bs. flat_map word_escape bs ++ codes " ")
sender_tells = list_and in_word (codes " ") word_tells
    (λ b x. word_begins b x (eqb b 32) (eqb b 10) (eqb b 13) (eqb b 92) refl) (λ _. refl)

pub text_tells : IsCode (λ bs. escaped bs ++ codes "\n")
text_tells = list_and in_text (codes "\n") escape_tells
    (λ b x. escape_begins b x (eqb b 10) (eqb b 13) (eqb b 92) refl) (λ _. refl)
