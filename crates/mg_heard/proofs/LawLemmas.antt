-- The laws about the intervals of a history and its worlds.
use Rattle.std.proofs.Common.{◌≡◌, ℕ, true, List, [], refl, sym, ap, subst, ◌∙◌}
use Rattle.std.specs.Prelude.{count_by, reverse}
use Rattle.mg_engine.specs.Flow.{flow}
use Rattle.mg_core.specs.declared.event.Event.{Event}
use Rattle.mg_core.specs.Counting.{is_tick}
use Rattle.mg_core.specs.ExceptReceived.{RtpChangesSpeechOnly}
use Rattle.mg_core.specs.Headline.{WorldsAreConsistent}
use Rattle.mg_core.specs.World.{World}
use Rattle.mg_heard.specs.Intervals.{Interval, intervals}
use Rattle.mg_heard.specs.Laws.{AreIntervals, EventsDetermineIntervals, IntervalsTellTheTruth, IsToldAt, NoPairIsToldTwice, RtpChangesNoInterval, TellsTheFlow}
use Rattle.mg_heard.specs.Maximal.{IsOfPair, IsTellingOnce, LiesIn}
use Rattle.mg_heard.specs.Moments.{AreMoments}
use Rattle.mg_heard.specs.OpenFlows.{open_flow}
use Rattle.mg_heard.specs.declared.open_flow.OpenFlow.{OpenFlow}
use Rattle.mg_heard.proofs.FlowLemmas.{IsOpenIn, from_open, open_in}
use Rattle.mg_heard.proofs.MaximalLemmas.{open_at, told_at}
use Rattle.mg_heard.proofs.Members.{In, Pairs, all_from_pairs, any_from_in, in_from_any, in_from_at}
use Rattle.mg_heard.proofs.MomentLemmas.{IsMoment, OneOutcome, distinct_back, moment_of, moments_apart, moments_without, same_moments}
use Rattle.mg_heard.proofs.OnceLemmas.{intervals_once}

-- A flow whose interval contains a tick is open in the world before that tick.
open_in_world : (w : World) (moments : List (List OpenFlow)) (n : ℕ) (y : Interval) → IsMoment n w moments →
    In y (intervals (reverse moments)) → LiesIn n y → IsOpenIn w.gateway y.flow
open_in_world w moments n y is told lies = from_open w.gateway y.flow
    (subst (λ (l : List OpenFlow). In y.flow l) is.is (open_at moments n y told is.within lies))

told_in_world : (w : World) (moments : List (List OpenFlow)) (n talker listener : ℕ) → IsMoment n w moments →
    flow w.gateway talker listener ≡ true → IsToldAt n talker listener (intervals (reverse moments))
told_in_world w moments n talker listener is flows =
    let (y, told, e, lies) = told_at moments n (open_flow w.gateway listener talker)
    (subst (λ (l : List OpenFlow). In (open_flow w.gateway listener talker) l) (sym is.is)
    (open_in w.gateway talker listener flows)) in
    any_from_in (λ y. IsOfPair talker listener y × LiesIn n y) y (intervals (reverse moments)) told
    ((ap (λ (x : OpenFlow). x.talker) e, ap (λ (x : OpenFlow). x.listener) e), lies)

flow_from_told : (w : World) (moments : List (List OpenFlow)) (n talker listener : ℕ) → IsMoment n w moments →
    IsToldAt n talker listener (intervals (reverse moments)) → flow w.gateway talker listener ≡ true
flow_from_told w moments n talker listener is told =
    let (y, j, (pair, lies)) = in_from_any (λ y. IsOfPair talker listener y × LiesIn n y) (intervals (reverse moments)) told in
    ap (λ (t : ℕ). flow w.gateway t listener) (sym pair.0) ∙ ap (λ (l : ℕ). flow w.gateway y.flow.talker l) (sym pair.1)
    ∙ (open_in_world w moments n y is j lies).flows

pub intervals_tell_the_flow : OneOutcome → (base : World) (events : List Event) (ys : List Interval) →
    AreIntervals base events ys → TellsTheFlow base events ys
intervals_tell_the_flow one base events ys (moments, are, e) past future sent w talker listener split run tick =
    let n = count_by is_tick past in
    let is = moment_of one base w past future sent moments run tick
    (subst (λ (l : List Event). AreMoments base l moments) split are) in (
      λ flows. subst (λ (l : List Interval). IsToldAt n talker listener l) (sym e)
          (told_in_world w moments n talker listener is flows),
      λ told. flow_from_told w moments n talker listener is
          (subst (λ (l : List Interval). IsToldAt n talker listener l) e told),
    )

pub intervals_tell_the_truth : OneOutcome → IntervalsTellTheTruth
intervals_tell_the_truth one base past future sent w ys y (moments, are, e) run tick told lies =
    let is = moment_of one base w past future sent moments run tick are in
    (open_in_world w moments (count_by is_tick past) y is
    (subst (λ (l : List Interval). In y l) e (in_from_at y ys told)) lies).is

pub events_determine_intervals : OneOutcome → EventsDetermineIntervals
events_determine_intervals one base events xs ys (moments, are, e) (others, too, k) =
    e ∙ ap (λ (l : List (List OpenFlow)). intervals (reverse l))
    (same_moments one base events moments others are too) ∙ sym k

pub no_pair_is_told_twice : WorldsAreConsistent → NoPairIsToldTwice
no_pair_is_told_twice consistent base events ys start (moments, are, e) =
    let apart = moments_apart consistent base start [] events [] base moments (refl, refl) are in
    all_from_pairs IsTellingOnce ys (subst (λ (l : List Interval). Pairs IsTellingOnce l) (sym e)
    (intervals_once (reverse moments) (distinct_back moments apart)))

pub rtp_changes_no_interval : RtpChangesSpeechOnly → RtpChangesNoInterval
rtp_changes_no_interval agree a b events ys same (moments, are, e) =
    (moments, moments_without agree a b events moments same are, e)
