-- The stored intervals began at or before the next tick.
use Rattle.std.proofs.Common.{◌≡◌, ℕ, ◌+◌, Bool, true, false, cond, List, [], ◌∷◌, map, Option, Some, None, IfSome}
use Rattle.std.specs.Prelude.{find}
use Rattle.std.specs.List.{AllByRecursion}
use Rattle.std.specs.Option.{option_map, option_map_or}
use Rattle.std.proofs.lemmas.List.Elements.{All-filter, All-map, recursion_from_All}
use Rattle.mg_core.specs.Note.{Note}
use Rattle.mg_heard.specs.OpenFlow.{has, is_same}
use Rattle.mg_heard.specs.Times.{moment_after, tick_count}
use Rattle.mg_heard.specs.aids.Opening.{beginning_among, beginning_at, continued, without_flows}
use Rattle.mg_heard.specs.aids.Timing.{AreBegun, IsBefore}
use Rattle.mg_heard.specs.declared.moment.Moment.{Moment}
use Rattle.mg_heard.specs.declared.open_flow.OpenFlow.{OpenFlow}
use Rattle.mg_heard.specs.declared.open_interval.OpenInterval.{OpenInterval}
use Rattle.mg_heard.proofs.TimingLemmas.{before_more, before_next}

found_one : (P : Moment → Type 0) (b : Bool) (x : OpenInterval) (o : Option OpenInterval) → P x.first →
    IfSome (option_map (λ (x : OpenInterval). x.first) o) P →
    IfSome (option_map (λ (x : OpenInterval). x.first) (cond b (Some x) o)) P
found_one P true x o h k = h
found_one P false x o h k = k

found_among : (P : Moment → Type 0) (xs : List OpenInterval) (flow : OpenFlow) → AllByRecursion (λ x. P x.first) xs →
    IfSome (beginning_among xs flow) P
found_among P [] flow h = tt
found_among P (x ∷ xs) flow (first, others) =
    found_one P (is_same flow x.flow) x (find (λ x. is_same flow x.flow) xs) first (found_among P xs flow others)

first_at : (P : Moment → Type 0) (x : OpenInterval) (o : Option Moment) → P x.first → IfSome o P →
    P (option_map_or (λ first. record x { first = first }) o x).first
first_at P x None h k = h
first_at P x (Some first) h k = k

some_weaker : (P Q : Moment → Type 0) → ((m : Moment) → P m → Q m) → (o : Option Moment) → IfSome o P → IfSome o Q
some_weaker P Q more None h = tt
some_weaker P Q more (Some m) h = more m h

pub begun_continued : (older : List Note) (now : Moment) (earlier : List OpenInterval) (flows : List OpenFlow) →
    now ≡ moment_after older → AreBegun older (tick_count older) earlier →
    AreBegun older (tick_count older + 1) (map (continued earlier) (map (beginning_at now) flows))
begun_continued older now earlier flows is h =
    let P = IsBefore older (tick_count older) in
    let Q = IsBefore older (tick_count older + 1) in
    let each : (x : OpenFlow) → Q (continued earlier (beginning_at now x)).first = λ x.
    first_at Q (beginning_at now x) (beginning_among earlier x) (before_next older now is)
    (some_weaker P Q (before_more older) (beginning_among earlier x)
    (found_among P earlier x (recursion_from_All (λ y. P y.first) earlier h))) in
    All-map (λ x. Q x.first) (continued earlier) (map (beginning_at now) flows)
    (All-map (λ x. Q (continued earlier x).first) (beginning_at now) flows (λ k d less. each _))

pub begun_without : (older : List Note) (tick : ℕ) (flows : List OpenFlow) (xs : List OpenInterval) →
    AreBegun older tick xs → AreBegun older tick (without_flows flows xs)
begun_without older tick flows xs h =
    All-filter (λ x. Rattle.std.specs.Prelude.not (has flows x.flow)) (λ x. IsBefore older tick x.first) xs h
