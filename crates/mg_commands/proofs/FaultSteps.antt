-- One step of a walk over parts that compares each part with the parts before it.
use Rattle.std.proofs.Common.{◌≡◌, ℕ, ◌+◌, ◌<◌, ◌≤◌, List, [], ◌∷◌, length, get_or, take, drop, Option, Some, None, false, refl}
use Rattle.std.proofs.lemmas.List.{drop_more, drop_all, take_more}
use Rattle.std.specs.List.{list_any}
use Rattle.mg_scan.specs.declared.span.Span.{Span}
use Rattle.mg_words.specs.declared.error_number.ErrorNumber.{ErrorNumber}
use Rattle.mg_text.specs.declared.media.PropertyValue.{PropertyValue}
use Rattle.mg_text.specs.declared.media.ControlPart.{ControlPart}
use Rattle.mg_text.specs.declared.media.ControlPart.TheVariants as controls
use Rattle.mg_commands.specs.DescriptorFault.{same_control}
use Rattle.mg_commands.specs.Search.{first_after}
use Rattle.mg_commands.specs.Support.{is_jitter}
use Rattle.mg_commands.specs.aids.Levels.{is_single}

pub walk_next : {X : Type 0} (f : List X → X → Option ErrorNumber) (xs : List X) (i : ℕ) (d : X) → i < length xs →
    f (take i xs) (get_or xs i d) ≡ None → first_after f (take (i + 1) xs) (drop (i + 1) xs) ≡
    first_after f (take i xs) (drop i xs)
unfolding first_after
walk_next f xs i d lt e = rw (drop_more xs i d lt, take_more xs i d lt, e) refl

pub walk_found : {X : Type 0} (f : List X → X → Option ErrorNumber) (xs : List X) (i : ℕ) (d : X)
    (fault : ErrorNumber) → i < length xs → f (take i xs) (get_or xs i d) ≡ Some fault →
    first_after f (take i xs) (drop i xs) ≡ Some fault
unfolding first_after
walk_found f xs i d fault lt e = rw (drop_more xs i d lt, e) refl

pub walk_end : {X : Type 0} (f : List X → X → Option ErrorNumber) (xs : List X) (i : ℕ) → length xs ≤ i →
    first_after f (take i xs) (drop i xs) ≡ None
unfolding first_after
walk_end f xs i le = rw (drop_all i xs le) refl

-- A property that may be repeated never counts as a repetition.
pub same_as_none : (source : List ℕ) (a : Span) (v : Option PropertyValue) (y : ControlPart) →
    is_jitter source a ≡ false → same_control source (controls.Property a v) y ≡ false
same_as_none source a v (controls.Mode m) e = refl
same_as_none source a v (controls.ReservedValue on) e = refl
same_as_none source a v (controls.ReservedGroup on) e = refl
same_as_none source a v (controls.Property b w) e = rw e refl

pub others_stood : (source : List ℕ) (a : Span) (v : Option PropertyValue) (xs : List ControlPart) →
    is_jitter source a ≡ false → list_any (same_control source (controls.Property a v)) xs ≡ false
others_stood source a v [] e = refl
others_stood source a v (x ∷ xs) e = rw (same_as_none source a v x e, others_stood source a v xs e) refl

pub stood_of_others : (source : List ℕ) (x : ControlPart) (xs : List ControlPart) → is_single source x ≡ false →
    list_any (same_control source x) xs ≡ false
stood_of_others source (controls.Mode m) xs e = absurd (cc e)
stood_of_others source (controls.ReservedValue on) xs e = absurd (cc e)
stood_of_others source (controls.ReservedGroup on) xs e = absurd (cc e)
stood_of_others source (controls.Property a v) xs e = others_stood source a v xs e

pub ruleset walking = (walk_next, walk_found, walk_end)
