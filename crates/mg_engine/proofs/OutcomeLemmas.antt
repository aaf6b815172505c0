-- The effect of a command on the records of terminations.
use Rattle.mg_engine.proofs.Common.{◌≡◌, ℕ, [], ◌∷◌, ◌++◌, Option, Some, None, Ok, refl, Record, Settings, Target, Registry, record_at, change, add_done, modify_done, move_done, subtract_done, entered_terminations, inserted, replaced, add, modify, move_to, subtract}
use Rattle.mg_rooms.specs.declared.place.EntryPlace.{EntryPlace}
use Rattle.mg_rooms.specs.aids.Entering.{entered_at}

entered_limits : (w : Registry) (place : EntryPlace) (n : ℕ) (made : Option ℕ) →
    (entered_at w place n made).limits ≡ w.limits
entered_limits w place n (Some room) = refl
entered_limits w place n None = refl

-- The new registry has one more termination, d.
pub record Adds (old new : Registry) (d : Record) : Type 0 where
  pub terminations : new.terminations ≡ old.terminations ++ d ∷ []
  pub limits : new.limits ≡ old.limits

-- The termination n has the new record d, with the same slot as before.
pub record Changes (old new : Registry) (n : ℕ) (d : Record) : Type 0 where
  pub was : Record
  pub there : record_at old n ≡ Some was
  pub slot : d.slot ≡ was.slot
  pub same : d.number ≡ was.number
  pub terminations : new.terminations ≡ change (λ x. x.number) d.number (λ _. Some d) old.terminations
  pub limits : new.limits ≡ old.limits

-- The termination d is removed from the registry.
pub record Removes (old new : Registry) (n : ℕ) (d : Record) : Type 0 where
  pub there : record_at old n ≡ Some d
  pub terminations : new.terminations ≡ change (λ x. x.number) d.number (λ _. None) old.terminations
  pub limits : new.limits ≡ old.limits

pub add_adds : (w : Registry) (target : Target) (settings : Settings) (new : Registry) (d : Record) →
    add w target settings ≡ Ok (new, d) → Adds w new d
add_adds w target settings new d e =
    let a = add_done w new target settings d e in
    rw a.is (record {
      terminations = entered_terminations (inserted w d) a.place d.number a.place.made;
      limits = entered_limits (inserted w d) a.place d.number a.place.made;
    })

-- The termination n has a new record and stays in its context.
abbrev pub Stays : Registry → Registry → ℕ → Record → Type 0
Stays w new n d = (a : Changes w new n d) × (d.context ≡ a.was.context)

pub modify_changes : (w : Registry) (target : Target) (n : ℕ) (settings : Settings) (new : Registry) (d : Record) →
    modify w target n settings ≡ Ok (new, d) → Stays w new n d
modify_changes w target n settings new d e =
    let a = modify_done w new target n settings d e in
    let has = a.has in
    rw a.is (
      record { was = a.old; there = a.was; slot = has.slot; same = has.number; terminations = refl; limits = refl },
      has.context,
    )

pub move_changes : (w : Registry) (target : Target) (n : ℕ) (settings : Settings) (new : Registry) (d : Record) →
    move_to w target n settings ≡ Ok (new, d) → Changes w new n d
move_changes w target n settings new d e =
    let a = move_done w new target n settings d e in
    rw a.is (record {
      was = a.old;
      there = a.was;
      slot = a.has.slot;
      same = a.has.number;
      terminations = entered_terminations (replaced w d) a.place d.number a.place.made;
      limits = entered_limits (replaced w d) a.place d.number a.place.made;
    })

pub subtract_removes : (w : Registry) (target : Target) (n : ℕ) (new : Registry) (d : Record) →
    subtract w target n ≡ Ok (new, d) → Removes w new n d
subtract_removes w target n new d e =
    let a = subtract_done w new target n d e in rw a.is (record { there = a.was; terminations = refl; limits = refl })
