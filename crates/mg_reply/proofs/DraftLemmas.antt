-- Appending parts to a draft one after another.
use Rattle.std.proofs.Common.{◌≡◌, ℕ, ◌+◌, ◌-◌, leb, Bool, true, false, cond, List, ◌++◌, length, Option, Some, None, refl, ap, ◌∙◌, append_assoc, length-append, arith}
use Rattle.std.proofs.lemmas.Bool.{lt-leb, leb-false}
use Rattle.mg_reply.specs.aids.Draft.{Drafted, limited, grown, drafted}

-- A reply with an appended part is limited like any text. Text that is too long remains too long when a part is
-- appended.
grown-limited : (x b : List ℕ) (fits : Bool) → leb (length x) 16000 ≡ fits →
    grown (cond fits (Some x) None) b ≡ limited (x ++ b)
grown-limited x b true e = refl
grown-limited x b false e =
    let more : leb (length (x ++ b)) 16000 ≡ false = lt-leb _ _ (omega (arith, leb-false _ _ e, length-append x b)) in
    rw more refl

grown-grown : (o : Option (List ℕ)) (a b : List ℕ) → grown (grown o a) b ≡ grown o (a ++ b)
grown-grown None a b = refl
grown-grown (Some x) a b = grown-limited (x ++ a) b (leb (length (x ++ a)) 16000) refl ∙ ap limited (append_assoc x a b)

pub drafted-drafted : (d : Drafted) (a b : List ℕ) → drafted (drafted d a) b ≡ drafted d (a ++ b)
unfolding drafted
drafted-drafted d a b = ap (λ (o : Option (List ℕ)). record { front = d.front; room = d.room; text = o })
    (grown-grown d.text a b)

-- Appending a and then b is the same as appending a ++ b.
pub then : (d e f : Drafted) (a b : List ℕ) → e ≡ drafted d a → f ≡ drafted e b → f ≡ drafted d (a ++ b)
then d e f a b first second = second ∙ ap (λ (x : Drafted). drafted x b) first ∙ drafted-drafted d a b

pub four_parts : (d e f g h : Drafted) (p q r s : List ℕ) → e ≡ drafted d p → f ≡ drafted e q → g ≡ drafted f r →
    h ≡ drafted g s → h ≡ drafted d (((p ++ q) ++ r) ++ s)
four_parts d e f g h p q r s one two three four =
    then d g h ((p ++ q) ++ r) s (then d f g (p ++ q) r (then d e f p q one two) three) four

pub ruleset joins = (drafted-drafted, append_assoc)
