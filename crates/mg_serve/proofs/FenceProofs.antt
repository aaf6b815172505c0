-- Behind a fence, a message with a number is not run if an earlier message with a higher number has been run since an
-- operator last set the fence.
use Rattle.std.proofs.Common.{◌≡◌, ℕ, ◌≤◌, max, true, List, [], ◌∷◌, ◌++◌, map, Option, Some, None, sym, ap, subst, ◌∙◌, arith, unwrap_or}
use Rattle.std.specs.Option.{option_map}
use Rattle.std.proofs.lemmas.Bool.{leb-true}
use Rattle.mg_core.specs.declared.event.Event.TheVariants as events
use Rattle.mg_core.specs.declared.parsed.Parsed.{Parsed}
use Rattle.mg_core.specs.Note.{Note, Comment}
use Rattle.mg_core.specs.Note as notes
use Rattle.mg_core.specs.Parsed.{ReadingsAreUnique}
use Rattle.mg_fence.specs.declared.fence.Fence.{Fence}
use Rattle.mg_fence.specs.Fence.{passes, raised_by}
use Rattle.mg_fence.specs.Number.{HasNumber, number_in}
use Rattle.mg_fence.specs.Reached.{Reaches, after_comment}
use Rattle.mg_serve.specs.declared.fencing.Fencing.{Fencing}
use Rattle.mg_serve.specs.Fenced.{IsFenced, after_message, reached_line}
use Rattle.mg_ports.specs.declared.call.Call.TheVariants.{Renew}
use Rattle.mg_serve.specs.FenceLaws.{NoLowerNumberIsRun, RenewalsSayTheNumber}
use Rattle.mg_serve.specs.Trace.{TraceEntry, Called, Happened, Printed, Noted, Stale, events_of_trace}

-- A message has at most one number.
one_number : ReadingsAreUnique → (bytes : List ℕ) (a b : Option ℕ) → HasNumber bytes a → HasNumber bytes b → a ≡ b
one_number unique bytes a b (p, reads, is) (q, too, same) =
    is ∙ ap (λ (r : Parsed). number_in bytes r) (unique bytes p q reads too) ∙ sym same

-- If a message with a number passes a fence that has reached at least `n`, the number of the message is at least `n`.
not_below : (n m : ℕ) (f : Fence) (bytes : List ℕ) (number : Option ℕ) → n ≤ f.reached →
    passes (Some f) bytes number ≡ true → number ≡ Some m → n ≤ m
not_below n m f bytes None least passed is = absurd cc
not_below n m f bytes (Some k) least passed is =
    let same : k ≡ m = cc in subst (λ (x : ℕ). n ≤ x) same (omega (arith, least, leb-true f.reached k passed))

-- If the first part of a list of notes reaches `mid`, the second part leads from `mid` to the number that the whole
-- list reaches.
reached_after : ReadingsAreUnique → (from mid last : ℕ) (p q : List Note) → Reaches from p mid → Reaches from (p ++ q) last →
    Reaches mid q last
reached_after unique from mid last [] q h k = subst (λ (m : ℕ). Reaches m q last) (sym h) k
reached_after unique from mid last (Comment line ∷ p) q h k =
    reached_after unique (after_comment from line) mid last p q h k
reached_after unique from mid last (notes.Happened (events.Control source bytes) ∷ p) q (n, has, h) (m, other, k) =
    reached_after unique (max from (unwrap_or n 0)) mid last p q h
    (subst (λ (o : Option ℕ). Reaches (max from (unwrap_or o 0)) (p ++ q) last) (one_number unique bytes m n other has) k)
reached_after unique from mid last (notes.Happened (events.Media port source bytes) ∷ p) q h k =
    reached_after unique from mid last p q h k
reached_after unique from mid last (notes.Happened events.Tick ∷ p) q h k = reached_after unique from mid last p q h k

-- The events of a trace, as notes of a journal.
abbrev noted : List TraceEntry → List Note
noted p = map notes.Happened (events_of_trace p)

-- The fence after the first part of a trace has the number that this part reaches.
fence_after : ReadingsAreUnique → (f : Fence) (fence end : Fencing) (p q : List TraceEntry) (last : ℕ) →
    fence.fence ≡ Some f → IsFenced fence (p ++ q) end → Reaches f.reached (noted p) last →
    (g : Fence) × (new : Fencing) × (new.fence ≡ Some g) × (last ≡ g.reached) × IsFenced new q end
fence_after unique f fence end [] q last is h k = (f, fence, is, k, h)
fence_after unique f fence end (Called call ∷ p) q last is (says, h) k = fence_after unique f fence end p q last is h k
fence_after unique f fence end (Happened (events.Control source bytes) ∷ p) q last is (n, has, passed, h) (m, other, k) =
    fence_after unique (raised_by n f) (after_message n fence) end p q last
    (ap (λ (o : Option Fence). option_map (raised_by n) o) is) h
    (subst (λ (o : Option ℕ). Reaches (max f.reached (unwrap_or o 0)) (noted p) last) (one_number unique bytes m n other has) k)
fence_after unique f fence end (Happened (events.Media port source bytes) ∷ p) q last is h k =
    fence_after unique f fence end p q last is h k
fence_after unique f fence end (Happened events.Tick ∷ p) q last is h k = fence_after unique f fence end p q last is h k
fence_after unique f fence end (Printed text ∷ p) q last is h k = fence_after unique f fence end p q last is h k
fence_after unique f fence end (Noted text ∷ p) q last is h k = fence_after unique f fence end p q last is h k
fence_after unique f fence end (Stale source bytes ∷ p) q last is (n, has, fails, h) k =
    fence_after unique f fence end p q last is h k

pub no_lower_number : ReadingsAreUnique → NoLowerNumberIsRun
no_lower_number unique fence start end earlier front rest source bytes last number held before fenced reached numbered =
    let since = reached_after unique 0 fence.reached last earlier (noted front) before reached in
    let (f, new, now, is, behind) =
    fence_after unique fence start end front (Happened (events.Control source bytes) ∷ rest) last held fenced since in
    let (n, has, passed, h) = behind in
    not_below last number f bytes n (omega (arith, is))
    (subst (λ (o : Option Fence). passes o bytes n ≡ true) now passed) (one_number unique bytes n (Some number) has numbered)

-- After the first part of a trace, the number reached is the one that this part reaches.
number_after : ReadingsAreUnique → (old end : Fencing) (p q : List TraceEntry) (last : ℕ) → IsFenced old (p ++ q) end →
    Reaches old.reached (noted p) last → (new : Fencing) × (last ≡ new.reached) × IsFenced new q end
number_after unique old end [] q last h k = (old, k, h)
number_after unique old end (Called call ∷ p) q last (says, h) k = number_after unique old end p q last h k
number_after unique old end (Happened (events.Control source bytes) ∷ p) q last (n, has, passed, h) (m, other, k) =
    number_after unique (after_message n old) end p q last h
    (subst (λ (o : Option ℕ). Reaches (max old.reached (unwrap_or o 0)) (noted p) last) (one_number unique bytes m n other has) k)
number_after unique old end (Happened (events.Media port source bytes) ∷ p) q last h k = number_after unique old end p q last h k
number_after unique old end (Happened events.Tick ∷ p) q last h k = number_after unique old end p q last h k
number_after unique old end (Printed text ∷ p) q last h k = number_after unique old end p q last h k
number_after unique old end (Noted text ∷ p) q last h k = number_after unique old end p q last h k
number_after unique old end (Stale source bytes ∷ p) q last (n, has, fails, h) k = number_after unique old end p q last h k

pub number_said : ReadingsAreUnique → RenewalsSayTheNumber
number_said unique start end earlier front rest text durability result last before fenced reached =
    let since = reached_after unique 0 start.reached last earlier (noted front) before reached in
    let (new, same, behind) =
    number_after unique start end front (Called (Renew text durability result) ∷ rest) last fenced since in
    let (says, others) = behind in
    subst (λ (n : ℕ). (front : List ℕ) × (text ≡ front ++ reached_line n)) (sym same) says
