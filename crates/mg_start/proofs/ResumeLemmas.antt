-- Facts about results, and about a journal without a timeline.
use Rattle.std.proofs.Common.{◌≡◌, Option, Some, None, Result, Ok, Err, refl, IfOk, IfSome}
use Rattle.std.specs.Prelude.{IsNone}
use Rattle.std.specs.Option.{option_map_or}

none_is : {A : Type 0} (option : Option A) → IsNone option → option ≡ None
none_is None none = refl
none_is (Some a) none = absurd cc

-- If a journal has no timeline, there is none.
pub no_times : {A B : Type 0} (times : A → Option B) (journal : Option A) → IfSome journal (λ j. IsNone (times j))
    → option_map_or times journal None ≡ None
no_times times None none = refl
no_times times (Some j) none = none_is (times j) none

pub if_ok_three : {A E : Type 0} {P Q R S : A → Type 0} (result : Result A E) → ((a : A) → P a → Q a → R a → S a)
    → IfOk result P → IfOk result Q → IfOk result R → IfOk result S
if_ok_three (Ok a) f p q r = f a p q r
if_ok_three (Err e) f p q r = tt

pub if_ok_four : {A E : Type 0} {P Q R S T : A → Type 0} (result : Result A E)
    → ((a : A) → P a → Q a → R a → S a → T a)
    → IfOk result P → IfOk result Q → IfOk result R → IfOk result S → IfOk result T
if_ok_four (Ok a) f p q r s = f a p q r s
if_ok_four (Err e) f p q r s = tt
