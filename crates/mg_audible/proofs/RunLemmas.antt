-- Two gateways run events, the second one without the talker's speech.
use Rattle.std.proofs.Common.{◌≡◌, ℕ, ◌+◌, Bool, true, false, cond, List, [], ◌∷◌, ◌++◌, length, refl, sym, ap, subst, ◌∙◌, arith}
use Rattle.std.specs.Prelude.{count_by}
use Rattle.std.proofs.lemmas.List.Sums.{sum_by-cons}
use Rattle.mg_core.specs.declared.event.Event.{Event}
use Rattle.mg_core.specs.declared.event.Event.TheVariants.{Tick}
use Rattle.mg_core.specs.Counting.{is_tick}
use Rattle.mg_core.specs.Step.{Run, Sent}
use Rattle.mg_core.specs.World.{World}
use Rattle.mg_heard.specs.declared.open_flow.OpenFlow.{OpenFlow}
use Rattle.mg_audible.specs.Audible.{RunsWithout, audible_flows}
use Rattle.mg_heard.proofs.MomentLemmas.{OneOutcome}
use Rattle.mg_audible.specs.Without.{StepUnless, StepWithout, is_speech_of}

abbrev pub if_tick : Bool → List OpenFlow → List (List OpenFlow) → List (List OpenFlow)
if_tick b flows later = cond b (flows ∷ later) later

if_tick_append : (b : Bool) (flows : List OpenFlow) (xs ys : List (List OpenFlow)) →
    if_tick b flows xs ++ ys ≡ if_tick b flows (xs ++ ys)
if_tick_append true flows xs ys = refl
if_tick_append false flows xs ys = refl

-- ## One more event

pub run_more : (talker : ℕ) (a b v w next other : World) (events : List Event) (event : Event)
    (moments : List (List OpenFlow)) → RunsWithout talker a b events moments v w →
    StepWithout talker v w event next other → RunsWithout talker a b (events ++ event ∷ [])
    (moments ++ if_tick (is_tick event) (audible_flows talker v w) []) next other
run_more talker a b v w next other [] event moments (none, is, also) step = (
  next,
  other,
  [],
  subst (λ (x : World). StepWithout talker x b event next other) is
      (subst (λ (y : World). StepWithout talker v y event next other) also step),
  (refl, refl, refl),
  ap (λ (l : List (List OpenFlow)). l ++ if_tick (is_tick event) (audible_flows talker v w) []) none
      ∙ (λ i. if_tick (is_tick event) (audible_flows talker (is i) (also i)) []),
)
run_more talker a b v w next other (e ∷ es) event moments (n, m, later, first, run, is) step =
    let tail = if_tick (is_tick event) (audible_flows talker v w) [] in (
      n,
      m,
      later ++ tail,
      first,
      run_more talker n m v w next other es event later run step,
      ap (λ (l : List (List OpenFlow)). l ++ tail) is
          ∙ if_tick_append (is_tick e) (audible_flows talker a b) later tail,
    )

-- ## The tick after some events

pub record Split (talker : ℕ) (a b : World) (past : List Event) (moments : List (List OpenFlow)) : Type 0 where
  pub v : World
  pub w : World
  pub before : List (List OpenFlow)
  pub after : List (List OpenFlow)
  pub runs : RunsWithout talker a b past before v w
  pub is : moments ≡ before ++ audible_flows talker v w ∷ after
  pub count : length before ≡ count_by is_tick past

count_more : (e : Event) (es : List Event) (flows : List OpenFlow) (before : List (List OpenFlow)) (b : Bool) →
    is_tick e ≡ b → length before ≡ count_by is_tick es →
    length (if_tick b flows before) ≡ count_by is_tick (e ∷ es)
count_more e es flows before true t h =
    let n = sum_by-cons (λ (x : Event). cond (is_tick x) 1 0) e es ∙
    ap (λ (b : Bool). cond b 1 0 + count_by is_tick es) t in
    omega (arith, n, h)
count_more e es flows before false t h =
    let n = sum_by-cons (λ (x : Event). cond (is_tick x) 1 0) e es ∙
    ap (λ (b : Bool). cond b 1 0 + count_by is_tick es) t in
    omega (arith, n, h)

pub split : (talker : ℕ) (a b x y : World) (past later : List Event) (moments : List (List OpenFlow)) →
    RunsWithout talker a b (past ++ Tick ∷ later) moments x y → Split talker a b past moments
split talker a b x y [] later moments (n, m, rest, step, run, is) = record {
  v = a;
  w = b;
  before = [];
  after = rest;
  runs = (refl, refl, refl);
  is = is;
  count = refl;
}
split talker a b x y (e ∷ es) later moments (n, m, rest, step, run, is) =
    let s = split talker n m x y es later rest run in
    let flows = audible_flows talker a b in
    record {
      v = s.v;
      w = s.w;
      before = if_tick (is_tick e) flows s.before;
      after = s.after;
      runs = (n, m, s.before, step, s.runs, refl);
      is = is ∙ ap (if_tick (is_tick e) flows) s.is
          ∙ sym (if_tick_append (is_tick e) flows s.before (audible_flows talker s.v s.w ∷ s.after));
      count = count_more e es flows s.before (is_tick e) refl s.count;
    }

-- ## The first gateway

-- The first gateway receives all events.
pub first_run : (talker : ℕ) (a b v w : World) (events : List Event) (moments : List (List OpenFlow)) →
    RunsWithout talker a b events moments v w → (sent : List Sent) × Run a events sent v
first_run talker a b v w [] moments (none, is, also) = ([], (refl, is))
first_run talker a b v w (e ∷ es) moments (n, m, later, ((s, step), other), run, is) =
    let (rest, runs) = first_run talker n m v w es later run in (s ++ rest, (s, rest, n, step, runs, refl))

-- ## Events determine the last worlds of both gateways

unless_once : OneOutcome → (b : Bool) (w : World) (e : Event) (y z : World) → StepUnless b w e y →
    StepUnless b w e z → y ≡ z
unless_once one true w e y z is also = is ∙ sym also
unless_once one false w e y z (s, first) (t, second) = (one w e s t y z first second).1

step_once : OneOutcome → (talker : ℕ) (a b x y u z : World) (e : Event) → StepWithout talker a b e x y →
    StepWithout talker a b e u z → (x ≡ u) × (y ≡ z)
step_once one talker a b x y u z e ((s, first), other) ((t, second), also) = (
  (one a e s t x u first second).1,
  unless_once one (is_speech_of a.gateway talker e) b e y z other also,
)

pub runs_once : OneOutcome → (talker : ℕ) (a b v w x y : World) (events : List Event)
    (ms ns : List (List OpenFlow)) → RunsWithout talker a b events ms v w → RunsWithout talker a b events ns x y →
    (v ≡ x) × (w ≡ y)
runs_once one talker a b v w x y [] ms ns (none, is, also) (nothing, its, too) = (is ∙ sym its, also ∙ sym too)
runs_once one talker a b v w x y (e ∷ es) ms ns (n, m, l, step, run, i) (p, q, k, other, runs, j) =
    let (same, too) = step_once one talker a b n m p q e step other in
    runs_once one talker n m v w x y es l k run
    (subst (λ (z : World). RunsWithout talker z m es k x y) (sym same)
    (subst (λ (z : World). RunsWithout talker p z es k x y) (sym too) runs))
