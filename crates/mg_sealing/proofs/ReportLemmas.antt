-- Appending the parts of a report one by one gives the whole report.
use Rattle.std.proofs.Common.{◌≡◌, ℕ, List, [], ◌++◌, Option, ap, sym, subst, ◌∙◌, append_assoc, append-nil}
use Rattle.std.proofs.KnownBytes.{Appends-trans}
use Rattle.std.specs.Io.KnownBytes.{Appends}

pub joined : {X : Type 0} (a b c : List X) → (a ++ b) ++ c ≡ a ++ (b ++ c)
joined a b c = append_assoc a b c

pub five : {X : Type 0} (a b c d e l0 l1 l2 l3 l4 l5 : List X) → l0 ≡ [] → l1 ≡ l0 ++ a → l2 ≡ l1 ++ b
    → l3 ≡ l2 ++ c → l4 ≡ l3 ++ d → l5 ≡ l4 ++ e → l5 ≡ a ++ (b ++ (c ++ (d ++ e)))
five {X} a b c d e l0 l1 l2 l3 l4 l5 s0 s1 s2 s3 s4 s5 =
    let h1 : l1 ≡ a = s1 ∙ ap (λ (l : List X). l ++ a) s0 in
    let h2 : l2 ≡ a ++ b = s2 ∙ ap (λ (l : List X). l ++ b) h1 in
    let h3 : l3 ≡ a ++ (b ++ c) = s3 ∙ (ap (λ (l : List X). l ++ c) h2 ∙ append_assoc a b c) in
    let h4 : l4 ≡ a ++ (b ++ (c ++ d)) =
    s4 ∙ (ap (λ (l : List X). l ++ d) h3 ∙ (append_assoc a (b ++ c) d ∙ ap (λ (l : List X). a ++ l) (append_assoc b c d))) in
    s5 ∙ (ap (λ (l : List X). l ++ e) h4 ∙ (append_assoc a (b ++ (c ++ d)) e
    ∙ ap (λ (l : List X). a ++ l) (append_assoc b (c ++ d) e ∙ ap (λ (l : List X). b ++ l) (append_assoc c d e))))

-- ## Parts that are written one after another

pub two_written : (old mid new : Option (List ℕ)) (a b : List ℕ) → Appends old mid a → Appends mid new b
    → Appends old new (a ++ b)
two_written old mid new a b one more = Appends-trans old mid new a b one more

pub three_written : (old first second new : Option (List ℕ)) (a b c : List ℕ) → Appends old first a → Appends first second b
    → Appends second new c → Appends old new (a ++ (b ++ c))
three_written old first second new a b c one two last =
    Appends-trans old first new a (b ++ c) one (Appends-trans first second new b c two last)

pub nothing_more : (old new : Option (List ℕ)) (a : List ℕ) → Appends old new a → Appends old new (a ++ [])
nothing_more old new a written = subst (λ (l : List ℕ). Appends old new l) (sym (append-nil a)) written
