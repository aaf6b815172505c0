-- The line that says which text a text follows.
use Rattle.std.proofs.Common.{◌≡◌, ◌∙◌, ℕ, Bool, true, false, cond, eqb, List, [], ◌∷◌, ap, arith, codes, refl, sym}
use Rattle.std.specs.Prelude.{◌&&◌, nat_eq}
use Rattle.std.specs.Io.BufRead.{drop_through, take_through}
use Rattle.std.specs.List.{starts_with}
use Rattle.std.proofs.lemmas.Bool.Decides.{nat_tests}
use Rattle.mg_chain.proofs.SealLemmas.{has_feed}
use Rattle.mg_joined.specs.Joined.{from_follows}

same_byte : (b : ℕ) → eqb b 10 ≡ true → b ≡ 10
same_byte b is = grind (arith, nat_tests, is)

other_byte : (b : ℕ) → eqb b 10 ≡ false → nat_eq 10 b ≡ false
other_byte b is = grind (arith, nat_tests, is)

unlike_feed : (m b : ℕ) (rest : Bool) → cond (eqb m 10) true rest ≡ false → eqb b 10 ≡ true → nat_eq m b ≡ false
unlike_feed m b rest other feed = grind (arith, nat_tests, other, feed)

no_feed_tail : (m : ℕ) (ms : List ℕ) → has_feed (m ∷ ms) ≡ false → has_feed ms ≡ false
no_feed_tail m ms none = at (eqb m 10) none
  where
    at : (is : Bool) → cond is true (has_feed ms) ≡ false → has_feed ms ≡ false
    at true none = absurd cc
    at false none = none

-- The first line of a text isn't a line that says what the text follows.
pub walks : (text : List ℕ) → from_follows text ≡ from_follows (10 ∷ drop_through 10 text)
unfolding from_follows
walks [] = refl
walks (b ∷ bs) = at (eqb b 10) refl (walks bs)
  where
    at : (is : Bool) → eqb b 10 ≡ is → from_follows bs ≡ from_follows (10 ∷ drop_through 10 bs) →
        from_follows (b ∷ bs) ≡ from_follows (10 ∷ cond is bs (drop_through 10 bs))
    at true feed later = ap (λ (n : ℕ). from_follows (n ∷ bs)) (same_byte b feed)
    at false plain later =
        ap (λ (k : Bool). cond (k && starts_with nat_eq bs (codes "# follows ")) bs (from_follows bs)) (other_byte b plain)
        ∙ later

-- A text begins with some words if its first line does.
line_starts : (words text : List ℕ) → has_feed words ≡ false →
    starts_with nat_eq (take_through 10 text) words ≡ starts_with nat_eq text words
line_starts [] text plain = refl
line_starts (m ∷ ms) [] plain = refl
line_starts (m ∷ ms) (b ∷ bs) plain = at (eqb b 10) refl (line_starts ms bs (no_feed_tail m ms plain))
  where
    at : (is : Bool) → eqb b 10 ≡ is → starts_with nat_eq (take_through 10 bs) ms ≡ starts_with nat_eq bs ms →
        starts_with nat_eq (cond is (b ∷ []) (b ∷ take_through 10 bs)) (m ∷ ms) ≡ starts_with nat_eq (b ∷ bs) (m ∷ ms)
    at true feed later = rw (unlike_feed m b (has_feed ms) plain feed) refl
    at false other later = ap (λ (k : Bool). nat_eq m b && k) later

-- A line that doesn't say what the text follows is passed.
pub passes : (text : List ℕ) → starts_with nat_eq (take_through 10 text) (codes "# follows ") ≡ false →
    from_follows (10 ∷ text) ≡ from_follows (10 ∷ drop_through 10 text)
unfolding from_follows
passes text other =
    ap (λ (k : Bool). cond k text (from_follows text)) (sym (line_starts (codes "# follows ") text refl) ∙ other)
    ∙ walks text

-- The first line that does is found.
pub finds : (text : List ℕ) → starts_with nat_eq (take_through 10 text) (codes "# follows ") ≡ true →
    from_follows (10 ∷ text) ≡ text
unfolding from_follows
finds text some =
    ap (λ (k : Bool). cond k text (from_follows text)) (sym (line_starts (codes "# follows ") text refl) ∙ some)
