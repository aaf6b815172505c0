-- The moments of a history.
use Rattle.std.proofs.Common.{◌≡◌, ℕ, ◌+◌, ◌<◌, ◌≤◌, suc, zero, Bool, true, false, cond, List, [], ◌∷◌, ◌++◌, length, get_or, map, refl, sym, ap, subst, ◌∙◌, inl, inr, arith}
use Rattle.std.specs.Prelude.{count_by, nat_lt, not, reverse}
use Rattle.std.proofs.lemmas.Bool.{cases_lt, ltb-true, true≢false}
use Rattle.std.proofs.lemmas.List.{get_or_default, reverse-append}
use Rattle.std.proofs.lemmas.List.Sums.{sum_by-cons}
use Rattle.mg_words.specs.Limits.{message_limit}
use Rattle.mg_words.specs.declared.peer.Peer.{Peer}
use Rattle.mg_rooms.specs.Consistent.{IsConsistent}
use Rattle.mg_core.specs.Answer.{answered}
use Rattle.mg_core.specs.Counting.{is_tick}
use Rattle.mg_core.specs.ExceptReceived.{AgreeExceptReceived, RtpChangesSpeechOnly, lasting}
use Rattle.mg_core.specs.Base.{IsBase}
use Rattle.mg_core.specs.Headline.{WorldsAreConsistent}
use Rattle.mg_core.specs.Step.{Packet, Run, Sent, Step, answer_to}
use Rattle.mg_core.specs.World.{World, packets_of, with_control, world_after_tick}
use Rattle.mg_core.specs.declared.event.Event.{Event}
use Rattle.mg_core.specs.declared.event.Event.TheVariants.{Control, Media, Tick}
use Rattle.mg_core.proofs.HeadlineLemmas.{one_event}
use Rattle.mg_core.proofs.ReceivedLemmas.{agrees_itself, oversized_agrees}
use Rattle.mg_core.proofs.RunLemmas.{run_both}
use Rattle.mg_heard.specs.Laws.{IsAtTick}
use Rattle.mg_heard.specs.aids.Changes.{OnlyControlChangesFlows, OnlyControlChangesTerminations}
use Rattle.mg_heard.specs.Moments.{AreMoments}
use Rattle.mg_heard.specs.OpenFlows.{open_flows}
use Rattle.mg_heard.specs.declared.open_flow.OpenFlow.{OpenFlow}
use Rattle.mg_heard.proofs.FlowLemmas.{flows_apart}
use Rattle.mg_heard.proofs.Members.{In, Pairs, in_cases}
use Rattle.mg_heard.proofs.OnceLemmas.{AreApart, AreDistinct}

abbrev pub OneOutcome : Type 0
OneOutcome = (w : World) (event : Event) (a b : List Sent) (x y : World) →
    Step w event a x → Step w event b y → (a ≡ b) × (x ≡ y)

abbrev pub if_tick : Bool → World → List (List OpenFlow) → List (List OpenFlow)
if_tick b w others = cond b (open_flows w.gateway ∷ others) others

-- ## The moment of a tick

-- The moment with this number has the open flows of this world.
pub record IsMoment (n : ℕ) (w : World) (moments : List (List OpenFlow)) : Type 0 where
  pub within : n < length moments
  pub is : get_or moments n [] ≡ open_flows w.gateway

now : (w : World) (others moments : List (List OpenFlow)) → moments ≡ open_flows w.gateway ∷ others → IsMoment 0 w moments
now w others moments e = subst (λ (l : List (List OpenFlow)). IsMoment 0 w l) (sym e)
    (record { within = omega arith; is = refl })

at_start : (w : World) (future : List Event) (moments : List (List OpenFlow)) → IsAtTick future →
    AreMoments w future moments → IsMoment 0 w moments
at_start w [] moments h e = now w [] moments e
at_start w (event ∷ later) moments h (sent, next, others, step, tail, e) =
    now w others moments (e ∙ ap (λ (b : Bool). if_tick b w others) h)

one_more : (event : Event) (events : List Event) (s w : World) (others moments : List (List OpenFlow)) (b : Bool) →
    is_tick event ≡ b → moments ≡ if_tick b s others → IsMoment (count_by is_tick events) w others →
    IsMoment (count_by is_tick (event ∷ events)) w moments
one_more event events s w others moments true t e h =
    let n = sum_by-cons (λ (x : Event). cond (is_tick x) 1 0) event events ∙
    ap (λ (b : Bool). cond b 1 0 + count_by is_tick events) t in
    let k : count_by is_tick (event ∷ events) ≡ suc (count_by is_tick events) = omega (arith, n) in
    let within = h.within in
    subst (λ (k : ℕ). IsMoment k w moments) (sym k) (subst (λ (l : List (List OpenFlow)). IsMoment (suc (count_by is_tick events)) w l)
    (sym e) (record { within = omega arith; is = h.is }))
one_more event events s w others moments false t e h =
    let n = sum_by-cons (λ (x : Event). cond (is_tick x) 1 0) event events ∙
    ap (λ (b : Bool). cond b 1 0 + count_by is_tick events) t in
    let k : count_by is_tick (event ∷ events) ≡ count_by is_tick events = omega (arith, n) in
    subst (λ (k : ℕ). IsMoment k w moments) (sym k)
    (subst (λ (l : List (List OpenFlow)). IsMoment (count_by is_tick events) w l) (sym e) h)

pub moment_of : OneOutcome → (s w : World) (past future : List Event) (sent : List Sent)
    (moments : List (List OpenFlow)) → Run s past sent w → IsAtTick future → AreMoments s (past ++ future) moments →
    IsMoment (count_by is_tick past) w moments
moment_of one s w [] future sent moments run tick are =
    subst (λ (v : World). IsMoment 0 v moments) (sym run.1) (at_start s future moments tick are)
moment_of one s w (e ∷ es) future sent moments (first, rest, next, step, run, is) tick (also, after, others, too, tail, its) =
    let same = (one s e first also next after step too).1 in
    one_more e es s w others moments (is_tick e) refl its (moment_of one next w es future rest others run tick
    (subst (λ (v : World). AreMoments v (es ++ future) others) (sym same) tail))

-- ## Events determine their moments

pub same_moments : OneOutcome → (w : World) (events : List Event) (a b : List (List OpenFlow)) →
    AreMoments w events a → AreMoments w events b → a ≡ b
same_moments one w [] a b h k = h ∙ sym k
same_moments one w (e ∷ es) a b (first, next, others, step, tail, is) (also, after, rest, too, end, its) =
    let same = (one w e first also next after step too).1 in
    let later = same_moments one after es others rest (subst (λ (v : World). AreMoments v es others) same tail) end in
    is ∙ ap (λ (l : List (List OpenFlow)). if_tick (is_tick e) w l) later ∙ sym its

-- ## No moment has a pair twice

abbrev AllApart : List (List OpenFlow) → Type 0
AllApart moments = (flows : List OpenFlow) → In flows moments → Pairs AreApart flows

moment_apart : (w : World) (others : List (List OpenFlow)) (b : Bool) → IsConsistent w.gateway.rooms → AllApart others →
    AllApart (if_tick b w others)
moment_apart w others false h k flows i = k flows i
moment_apart w others true h k flows (inl e) =
    subst (λ (l : List OpenFlow). Pairs AreApart l) (sym e) (flows_apart w.gateway h)
moment_apart w others true h k flows (inr i) = k flows i

pub moments_apart : WorldsAreConsistent → (base : World) → IsBase base → (before events : List Event)
    (sent : List Sent) (w : World) (moments : List (List OpenFlow)) → Run base before sent w →
    AreMoments w events moments → AllApart moments
moments_apart consistent base start before [] sent w moments run e =
    subst (λ (l : List (List OpenFlow)). AllApart l) (sym e)
    (moment_apart w [] true (consistent base before sent w start run) (λ flows i. absurd i))
moments_apart consistent base start before (event ∷ events) sent w moments run (first, next, others, step, tail, e) =
    let further = run_both base w next before (event ∷ []) sent first run (one_event w next event first step) in
    subst (λ (l : List (List OpenFlow)). AllApart l) (sym e)
    (moment_apart w others (is_tick event) (consistent base before sent w start run)
    (moments_apart consistent base start (before ++ event ∷ []) events (sent ++ first) next others further tail))

in_back : (x : List OpenFlow) (xs : List (List OpenFlow)) → In x (reverse xs) → In x xs
in_back x [] h = h
in_back x (y ∷ xs) h = elim (in_cases x (reverse xs) (y ∷ [])
    (subst (λ (l : List (List OpenFlow)). In x l) (reverse-append (y ∷ []) xs) h)) [
      | inl k ↦ inr (in_back x xs k)
      | inr k ↦ elim k [ inl e ↦ inl e | inr none ↦ absurd none ]
    ]

distinct : (past : List (List OpenFlow)) → AllApart past → AreDistinct past
distinct [] h = tt
distinct (flows ∷ older) h = (h flows (inl refl), distinct older (λ l i. h l (inr i)))

pub distinct_back : (moments : List (List OpenFlow)) → AllApart moments → AreDistinct (reverse moments)
distinct_back moments h = distinct (reverse moments) (λ l i. h l (in_back l moments i))

-- ## Moments of the lasting events

same_flows : (a b : World) → AgreeExceptReceived a b → open_flows a.gateway ≡ open_flows b.gateway
same_flows a b h = λ i. open_flows (record a.gateway { rooms = h.rooms i; edits = h.edits i })

abbrev SameMoments : (a b : World) (events : List Event) → Type 0
SameMoments a b events = (moments : List (List OpenFlow)) → AgreeExceptReceived a b → AreMoments a events moments →
    AreMoments b (lasting events) moments

-- A control datagram, which only the first world receives if it is oversized.
over_control : RtpChangesSpeechOnly → (a b : World) (source : Peer) (bytes : List ℕ) (events : List Event) →
    ((v w : World) → SameMoments v w events) → (is_big : Bool) → nat_lt message_limit (length bytes) ≡ is_big →
    (moments : List (List OpenFlow)) → AgreeExceptReceived a b → AreMoments a (Control source bytes ∷ events) moments →
    AreMoments b (cond (not is_big) (Control source bytes ∷ lasting events) (lasting events)) moments
over_control agree a b source bytes events more true big moments h (sent, next, others, step, tail, e) =
    let long = ltb-true message_limit (length bytes) big in
    subst (λ (l : List (List OpenFlow)). AreMoments b (lasting events) l) (sym e)
    (more next b others (oversized_agrees a b next source bytes sent long h step) tail)
over_control agree a b source bytes events more false big moments h (sent, next, others, step, tail, e) =
    let (answer, (reading, is, answers), sends) = step in
    let p = answered bytes reading (with_control b) in
    let too : Step b (Control source bytes) (answer_to source p.0) p.1 = (p.0, (reading, is, refl), refl) in
    let run = subst
    (λ (k : Bool). Run b (cond (not k) (Control source bytes ∷ []) []) (answer_to source p.0) p.1) (sym big)
    (one_event b p.1 (Control source bytes) (answer_to source p.0) too) in
    let same = agree a b next p.1 (Control source bytes ∷ []) sent (answer_to source p.0) h
    (one_event a next (Control source bytes) sent step) run in
    (answer_to source p.0, p.1, others, too, more next p.1 others same tail, e)

pub moments_without : RtpChangesSpeechOnly → (a b : World) (events : List Event) (moments : List (List OpenFlow)) →
    AgreeExceptReceived a b → AreMoments a events moments → AreMoments b (lasting events) moments
moments_without agree a b [] moments h e = e ∙ ap (λ (l : List OpenFlow). l ∷ []) (same_flows a b h)
moments_without agree a b (Control source bytes ∷ events) moments h are =
    over_control agree a b source bytes events (λ v w. moments_without agree v w events)
    (nat_lt message_limit (length bytes)) refl moments h are
moments_without agree a b (Media port source bytes ∷ events) moments h (sent, next, others, step, tail, e) =
    let same = agree a b next b (Media port source bytes ∷ []) sent [] h
    (one_event a next (Media port source bytes) sent step) (refl, refl) in
    subst (λ (l : List (List OpenFlow)). AreMoments b (lasting events) l) (sym e)
    (moments_without agree next b events others same tail)
moments_without agree a b (Tick ∷ events) moments h (sent, next, others, step, tail, e) =
    let too : Step b Tick (map Packet (packets_of b)) (world_after_tick b) = (refl, refl) in
    let same = agree a b next (world_after_tick b) (Tick ∷ []) sent (map Packet (packets_of b)) h
    (one_event a next Tick sent step) (one_event b (world_after_tick b) Tick (map Packet (packets_of b)) too) in (
      map Packet (packets_of b),
      world_after_tick b,
      others,
      too,
      moments_without agree next (world_after_tick b) events others same tail,
      e ∙ ap (λ (l : List OpenFlow). l ∷ others) (same_flows a b h),
    )

-- ## Events have moments

abbrev pub HasOutcome : Event → Type 0
HasOutcome event = (w : World) → (sent : List Sent) × (next : World) × Step w event sent next

abbrev pub HaveOutcomes : List Event → ℕ → Type 0
HaveOutcomes events n = (k : ℕ) (d : Event) → k < n → HasOutcome (get_or events k d)

pub outcomes_none : (events : List Event) → HaveOutcomes events 0
outcomes_none events k d below = absurd (omega arith)

pub outcomes_more : (events : List Event) (n : ℕ) (event : Event) → n < length events → event ≡ get_or events n event →
    HasOutcome event → HaveOutcomes events n → HaveOutcomes events (n + 1)
outcomes_more events n event within is h before k d below = elim (cases_lt k n) [
  | inl less ↦ before k d less
  | inr more ↦
      let last : n ≡ k = omega arith in
      subst (λ (k : ℕ). HasOutcome (get_or events k d)) last
      (subst HasOutcome (is ∙ get_or_default events n event d within) h)
]

pub some_moments : (events : List Event) (n : ℕ) → length events ≤ n → HaveOutcomes events n → (w : World) →
    (moments : List (List OpenFlow)) × AreMoments w events moments
some_moments [] n long h w = (open_flows w.gateway ∷ [], refl)
some_moments (event ∷ events) zero long h w = absurd (omega arith)
some_moments (event ∷ events) (suc n) long h w =
    let (sent, next, step) = h 0 event (omega arith) w in
    let (others, are) = some_moments events n (omega arith) (λ k d below. h (suc k) d (omega arith)) next in
    (if_tick (is_tick event) w others, (sent, next, others, step, are, refl))

-- ## Events other than control datagrams

pub only_control_changes_flows : RtpChangesSpeechOnly → OnlyControlChangesFlows
only_control_changes_flows agree w next (Control source bytes) sent none step = absurd (true≢false none)
only_control_changes_flows agree w next (Media port source bytes) sent none step =
    same_flows next w (agree w w next w (Media port source bytes ∷ []) sent [] (agrees_itself w)
    (one_event w next (Media port source bytes) sent step) (refl, refl))
only_control_changes_flows agree w next Tick sent none step = ap (λ (v : World). open_flows v.gateway) step.1

pub only_control_changes_terminations : RtpChangesSpeechOnly → OnlyControlChangesTerminations
only_control_changes_terminations agree w next (Control source bytes) sent none step = absurd (true≢false none)
only_control_changes_terminations agree w next (Media port source bytes) sent none step =
    (agree w w next w (Media port source bytes ∷ []) sent [] (agrees_itself w)
    (one_event w next (Media port source bytes) sent step) (refl, refl)).rooms
only_control_changes_terminations agree w next Tick sent none step = ap (λ (v : World). v.gateway.rooms) step.1
