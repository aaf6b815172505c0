-- The intervals of a list of moments, which come newest first.
use Rattle.std.proofs.Common.{◌≡◌, ℕ, ◌+◌, ◌<◌, ◌≤◌, suc, zero, not, Bool, true, false, cond, List, [], ◌∷◌, ◌++◌, length, map, replicate, Some, None, refl, sym, ap, subst, ◌∙◌, inl, inr, ◌⊎◌, arith}
use Rattle.std.specs.List.{filter}
use Rattle.std.proofs.lemmas.List.{append-nil}
use Rattle.std.proofs.lemmas.Bool.{cases_Bool, cases_lt, true≢false, not-true, not_from_false}
use Rattle.mg_heard.specs.declared.open_flow.OpenFlow.{OpenFlow}
use Rattle.mg_heard.specs.OpenFlow.{has}
use Rattle.mg_heard.specs.Intervals.{Interval, ended, ending, interval_of, lasting, newest, since}
use Rattle.mg_heard.proofs.Members.{In, in_left, in_right, in_cases, in_map, from_map, in_filter, from_filter}
use Rattle.mg_heard.proofs.SameLemmas.{in_from_has, has_from_in}

-- The flow is open in the moment with this number.
abbrev pub IsOpen : List (List OpenFlow) → ℕ → OpenFlow → Type 0
IsOpen [] k x = ⊥
IsOpen (flows ∷ older) k x = ((k ≡ length older) × In x flows) ⊎ IsOpen older k x

pub open_before : (past : List (List OpenFlow)) (k : ℕ) (x : OpenFlow) → IsOpen past k x → k < length past
open_before [] k x h = absurd h
open_before (flows ∷ older) k x (inl h) = let e = h.0 in omega arith
open_before (flows ∷ older) k x (inr h) = let below = open_before older k x h in omega arith

-- A flow that is open in an older moment is still open in it if the newest moment is removed.
pub open_older : (flows : List OpenFlow) (older : List (List OpenFlow)) (k : ℕ) (x : OpenFlow) → k < length older →
    IsOpen (flows ∷ older) k x → IsOpen older k x
open_older flows older k x below (inl h) = let e = h.0 in absurd (omega arith)
open_older flows older k x below (inr h) = h

pub open_newest : (flows : List OpenFlow) (older : List (List OpenFlow)) (x : OpenFlow) →
    IsOpen (flows ∷ older) (length older) x → In x flows
open_newest flows older x (inl h) = h.1
open_newest flows older x (inr h) = let below = open_before older (length older) x h in absurd (omega arith)

-- ## The beginning of an interval

-- The flow has been open since the tick `first`, and was not open before the preceding tick.
pub record IsSince (past : List (List OpenFlow)) (x : OpenFlow) (first : ℕ) : Type 0 where
  pub within : first ≤ length past
  pub open_since : (k : ℕ) → first ≤ k → k < length past → IsOpen past k x
  pub not_before : (k : ℕ) → k + 1 ≡ first → IsOpen past k x → ⊥

since_at : (flows : List OpenFlow) (older : List (List OpenFlow)) (x : OpenFlow) (b : Bool) → has flows x ≡ b →
    IsSince older x (since older x) → IsSince (flows ∷ older) x (cond b (since older x) (length older + 1))
since_at flows older x true e h = record {
  within = let w = h.within in omega arith;
  open_since = λ k from below. elim (cases_lt k (length older)) [
    | inl less ↦ inr (h.open_since k from less)
    | inr more ↦ inl (omega arith, in_from_has flows x e)
  ];
  not_before = λ k is opens. let w = h.within in
      h.not_before k is (open_older flows older k x (omega arith) opens);
}
since_at flows older x false e h = record {
  within = omega arith;
  open_since = λ k from below. absurd (omega arith);
  not_before = λ k is opens.
      let same : k ≡ length older = omega arith in
      let now = open_newest flows older x (subst (λ (n : ℕ). IsOpen (flows ∷ older) n x) same opens) in
      true≢false (sym (has_from_in flows x now) ∙ e);
}

pub is_since : (past : List (List OpenFlow)) (x : OpenFlow) → IsSince past x (since past x)
unfolding since
is_since [] x = record {
  within = omega arith;
  open_since = λ k from below. absurd (omega arith);
  not_before = λ k is opens. opens;
}
is_since (flows ∷ older) x = since_at flows older x (has flows x) refl (is_since older x)

-- A flow in the newest moment has been open since some moment in the past.
pub since_newest : (past : List (List OpenFlow)) (x : OpenFlow) → In x (newest past) → since past x < length past
unfolding since
since_newest [] x h = absurd h
since_newest (flows ∷ older) x h =
    let older_since = (is_since older x).within in
    let e = has_from_in flows x h in
    rw e (omega arith)

-- If a flow is also open in one more moment, the flow's beginning stays the same.
pub since_more : (flows : List OpenFlow) (older : List (List OpenFlow)) (x : OpenFlow) → has flows x ≡ true →
    since (flows ∷ older) x ≡ since older x
unfolding since
since_more flows older x e = rw e

pub since_anew : (flows : List OpenFlow) (older : List (List OpenFlow)) (x : OpenFlow) → has flows x ≡ false →
    since (flows ∷ older) x ≡ length older + 1
unfolding since
since_anew flows older x e = rw e

-- ## Intervals that have ended

pub record HasEnded (past : List (List OpenFlow)) (y : Interval) (end : ℕ) : Type 0 where
  pub ends : y.end ≡ Some end
  pub some : y.first < end
  pub within : end < length past
  pub open_since : (k : ℕ) → y.first ≤ k → k < end → IsOpen past k y.flow
  pub not_before : (k : ℕ) → k + 1 ≡ y.first → IsOpen past k y.flow → ⊥
  pub not_after : IsOpen past end y.flow → ⊥

ended_later : (flows : List OpenFlow) (older : List (List OpenFlow)) (y : Interval) (end : ℕ) → HasEnded older y end →
    HasEnded (flows ∷ older) y end
ended_later flows older y end h = record {
  ends = h.ends;
  some = h.some;
  within = let w = h.within in omega arith;
  open_since = λ k from below. inr (h.open_since k from below);
  not_before = λ k is opens.
      let w = h.within in
      let s = h.some in
      h.not_before k is (open_older flows older k y.flow (omega arith) opens);
  not_after = λ opens. h.not_after (open_older flows older end y.flow h.within opens);
}

ended_now : (flows : List OpenFlow) (older : List (List OpenFlow)) (x : OpenFlow) → In x (newest older) →
    has flows x ≡ false → HasEnded (flows ∷ older) (interval_of older (Some (length older)) x) (length older)
ended_now flows older x h e =
    let s = is_since older x in
    let less = since_newest older x h in
    record {
      ends = refl;
      some = less;
      within = omega arith;
      open_since = λ k from below. inr (s.open_since k from below);
      not_before = λ k is opens. s.not_before k is (open_older flows older k x (omega arith) opens);
      not_after = λ opens. true≢false (sym (has_from_in flows x (open_newest flows older x opens)) ∙ e);
    }

pub has_ended : (past : List (List OpenFlow)) (y : Interval) → In y (ended past) → (end : ℕ) × HasEnded past y end
unfolding ended
has_ended [] y h = absurd h
has_ended (flows ∷ older) y h = elim (in_cases y (ended older) (ending older flows) h) [
  | inl k ↦ let (end, is) = has_ended older y k in (end, ended_later flows older y end is)
  | inr k ↦ let (x, j, e) = from_map (interval_of older (Some (length older))) y
      (filter (λ x. not (has flows x)) (newest older)) k in
      let r = from_filter (λ x. not (has flows x)) x (newest older) j in (
        length older,
        subst (λ (z : Interval). HasEnded (flows ∷ older) z (length older)) (sym e)
            (ended_now flows older x r.0 (not-true (has flows x) r.1)),
      )
]

-- ## Each open flow is reported

-- An interval of this flow has ended and contains the tick `k`.
pub record IsToldEnded (past : List (List OpenFlow)) (k : ℕ) (x : OpenFlow) : Type 0 where
  pub y : Interval
  pub end : ℕ
  pub told : In y (ended past)
  pub flow : y.flow ≡ x
  pub ends : y.end ≡ Some end
  pub from : y.first ≤ k
  pub below : k < end

told_more : (flows : List OpenFlow) (older : List (List OpenFlow)) (k : ℕ) (x : OpenFlow) → IsToldEnded older k x →
    IsToldEnded (flows ∷ older) k x
unfolding ended
told_more flows older k x h = record {
  y = h.y;
  end = h.end;
  told = in_left h.y (ended older) (ending older flows) h.told;
  flow = h.flow;
  ends = h.ends;
  from = h.from;
  below = h.below;
}

told_ending : (flows : List OpenFlow) (older : List (List OpenFlow)) (k : ℕ) (x : OpenFlow) → In x (newest older) →
    since older x ≤ k → k < length older → has flows x ≡ false → IsToldEnded (flows ∷ older) k x
unfolding ended
told_ending flows older k x h from below e =
    let kept = in_filter (λ z. not (has flows z)) x (newest older) h (not_from_false (has flows x) e) in
    record {
      y = interval_of older (Some (length older)) x;
      end = length older;
      told = in_right (interval_of older (Some (length older)) x) (ended older) (ending older flows)
          (in_map (interval_of older (Some (length older))) x (filter (λ z. not (has flows z)) (newest older)) kept);
      flow = refl;
      ends = refl;
      from = from;
      below = below;
    }

abbrev pub IsTold : List (List OpenFlow) → ℕ → OpenFlow → Type 0
IsTold past k x = IsToldEnded past k x ⊎ (In x (newest past) × (since past x ≤ k))

told_next : (flows : List OpenFlow) (older : List (List OpenFlow)) (k : ℕ) (x : OpenFlow) → k < length older →
    IsTold older k x → IsTold (flows ∷ older) k x
told_next flows older k x below (inl h) = inl (told_more flows older k x h)
told_next flows older k x below (inr h) = elim (cases_Bool (has flows x)) [
  | inl e ↦ inr (in_from_has flows x e, let same = since_more flows older x e in let from = h.1 in omega arith)
  | inr e ↦ inl (told_ending flows older k x h.0 h.1 below e)
]

pub is_told : (past : List (List OpenFlow)) (k : ℕ) (x : OpenFlow) → IsOpen past k x → IsTold past k x
is_told [] k x h = absurd h
is_told (flows ∷ older) k x (inl h) = inr (
  h.1,
  let same = since_more flows older x (has_from_in flows x h.1) in
      let within = (is_since older x).within in
      let e = h.0 in
      omega arith,
)
is_told (flows ∷ older) k x (inr h) = told_next flows older k x (open_before older k x h) (is_told older k x h)

-- ## Equal moments

-- If all flows stay open, no interval ends.
none_ends : (some all : List OpenFlow) →
    ((x : OpenFlow) → In x some → has all x ≡ true) → filter (λ x. not (has all x)) some ≡ []
none_ends [] all h = refl
none_ends (x ∷ some) all h = rw (h x (inl refl)) (none_ends some all (λ y i. h y (inr i)))

same_ended : (flows : List OpenFlow) (past : List (List OpenFlow)) →
    ended (flows ∷ flows ∷ past) ≡ ended (flows ∷ past)
unfolding ended
same_ended flows past =
    ap (λ (l : List OpenFlow). ended (flows ∷ past) ++ map (interval_of (flows ∷ past) (Some (length (flows ∷ past)))) l)
    (none_ends flows flows (λ x i. has_from_in flows x i)) ∙ append-nil (ended (flows ∷ past))

all_last : (flows some : List OpenFlow) (past : List (List OpenFlow)) → ((x : OpenFlow) → In x some → In x flows) →
    map (interval_of (flows ∷ flows ∷ past) None) some ≡ map (interval_of (flows ∷ past) None) some
all_last flows [] past h = refl
all_last flows (x ∷ some) past h =
    let first = since_more flows (flows ∷ past) x (has_from_in flows x (h x (inl refl))) in
    λ i. record { flow = x; first = first i; end = None } ∷ all_last flows some past (λ y j. h y (inr j)) i

pub equal_moments_tell_nothing : (flows : List OpenFlow) (past : List (List OpenFlow)) (count : ℕ) →
    (ended (replicate count flows ++ (flows ∷ past)) ≡ ended (flows ∷ past))
    × (lasting (replicate count flows ++ (flows ∷ past)) ≡ lasting (flows ∷ past))
equal_moments_tell_nothing flows past zero = (refl, refl)
equal_moments_tell_nothing flows past (suc count) =
    let rest = equal_moments_tell_nothing flows past count in
    let one = again flows past count in
    (one.0 ∙ rest.0, one.1 ∙ rest.1)
  where
    again : (flows : List OpenFlow) (past : List (List OpenFlow)) (count : ℕ) →
        (ended (flows ∷ (replicate count flows ++ (flows ∷ past))) ≡ ended (replicate count flows ++ (flows ∷ past)))
        × (lasting (flows ∷ (replicate count flows ++ (flows ∷ past)))
        ≡ lasting (replicate count flows ++ (flows ∷ past)))
    again flows past zero = (same_ended flows past, all_last flows flows past (λ x i. i))
    again flows past (suc count) = (
      same_ended flows (replicate count flows ++ (flows ∷ past)),
      all_last flows flows (replicate count flows ++ (flows ∷ past)) (λ x i. i),
    )
