-- Skipping a group in a loop.
use Rattle.std.proofs.Common.{◌≡◌, ℕ, ◌+◌, ◌-◌, ◌<◌, ◌≤◌, true, false, List, length, get_or, drop, Ok, Err, refl, add-one, arith}
use Rattle.std.proofs.lemmas.List.{drop_more, drop_all}
use Rattle.std.proofs.lemmas.Bool.{ne_eqb}
use Rattle.mg_scan.specs.declared.kind.TokenKind.TheVariants.{Open, Close}
use Rattle.mg_scan.specs.declared.token.Token.{Token}
use Rattle.mg_text.specs.aids.Reading.{after_group}
use Rattle.mg_scan.specs.aids.Marks.{is_kind}

pub opens : (source : List ℕ) (ts : List Token) (i depth : ℕ) (d : Token) → i < length ts →
    is_kind (get_or ts i d).kind Open ≡ true →
    after_group source (depth + 1) (drop (i + 1) ts) ≡ after_group source depth (drop i ts)
unfolding after_group
opens source ts i depth d lt e = rw (drop_more ts i d lt, e, add-one depth) refl

pub closes : (source : List ℕ) (ts : List Token) (i depth : ℕ) (d : Token) → i < length ts →
    is_kind (get_or ts i d).kind Open ≡ false → is_kind (get_or ts i d).kind Close ≡ true → 0 < depth →
    after_group source (depth - 1) (drop (i + 1) ts) ≡ after_group source depth (drop i ts)
unfolding after_group
closes source ts i depth d lt e f positive = rw (drop_more ts i d lt, e, f, ne_eqb depth 0 (omega arith)) refl

pub ends : (source : List ℕ) (ts : List Token) (i : ℕ) (d : Token) → i < length ts →
    is_kind (get_or ts i d).kind Open ≡ false → is_kind (get_or ts i d).kind Close ≡ true →
    after_group source 0 (drop i ts) ≡ Ok (drop (i + 1) ts)
unfolding after_group
ends source ts i d lt e f = rw (drop_more ts i d lt, e, f) refl

pub passes : (source : List ℕ) (ts : List Token) (i depth : ℕ) (d : Token) → i < length ts →
    is_kind (get_or ts i d).kind Open ≡ false → is_kind (get_or ts i d).kind Close ≡ false →
    after_group source depth (drop (i + 1) ts) ≡ after_group source depth (drop i ts)
unfolding after_group
passes source ts i depth d lt e f = rw (drop_more ts i d lt, e, f) refl

pub runs_out : (source : List ℕ) (ts : List Token) (i depth : ℕ) → length ts ≤ i →
    after_group source depth (drop i ts) ≡ Err (length source)
unfolding after_group
runs_out source ts i depth le = rw (drop_all i ts le) refl

pub ruleset steps = (opens, closes, ends, passes, runs_out)
