-- Appending parts of text one after another, and the lengths of numbers.
use Rattle.std.proofs.Common.{◌≡◌, ℕ, ◌-◌, List, ◌++◌, length, ap, ◌∙◌, append_assoc, length-append, arith}
use Rattle.mg_bytes.specs.Bytes.{Written, appended}
use Rattle.mg_words.proofs.DecimalLemmas.{port_short}

pub appended-appended : (w : Written) (a b : List ℕ) → appended (appended w a) b ≡ appended w (a ++ b)
appended-appended w a b =
    let room : w.room - length a - length b ≡ w.room - length (a ++ b) = omega (arith, length-append a b) in
    λ i. record { text = append_assoc w.text a b i; room = room i }

-- Appending a and then b is the same as appending a ++ b.
pub after : (w n m : Written) (a b : List ℕ) → n ≡ appended w a → m ≡ appended n b → m ≡ appended w (a ++ b)
after w n m a b first second = second ∙ ap (λ (x : Written). appended x b) first ∙ appended-appended w a b

pub ruleset lengths = (port_short)
