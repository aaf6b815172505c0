-- The intervals in which a talker is audible, and the ticks that they contain.
use Rattle.std.proofs.Common.{◌≡◌, ℕ, ◌<◌, eqb, not, ◌&&◌, ◌||◌, eqb-true, Bool, true, false, cond, List, [], ◌∷◌, ◌++◌, length, get_or, find, Option, Some, refl, sym, ap, subst, ◌∙◌, inl, inr, arith, length-append}
use Rattle.std.specs.Prelude.{count_by, filter, reverse, Contains}
use Rattle.std.specs.List.{AllByRecursion}
use Rattle.std.specs.Option.{option_map_or}
use Rattle.std.proofs.lemmas.Bool.{true≢false}
use Rattle.std.proofs.lemmas.Slice.Eq.{bytes_eq-Decides}
use Rattle.mg_rooms.specs.Limits.{slot_port}
use Rattle.mg_rooms.specs.Registry.{Registry, record_at}
use Rattle.mg_rooms.specs.aids.Sound.{IsSound}
use Rattle.mg_rooms.specs.declared.record.Record.{Record}
use Rattle.mg_rooms.proofs.SoundLemmas.{sound_if}
use Rattle.mg_engine.specs.Apart.{HearsNone}
use Rattle.mg_engine.specs.Flow.{flow}
use Rattle.mg_engine.specs.Gateway.{Gateway}
use Rattle.mg_engine.specs.Isolation.{hears_itself}
use Rattle.mg_engine.specs.declared.datagram.Datagram.{Datagram}
use Rattle.mg_core.specs.declared.event.Event.{Event}
use Rattle.mg_core.specs.declared.event.Event.TheVariants.{Tick}
use Rattle.mg_core.specs.Apart.{HearsNoneAt, UnheardChangesNothing, next_packets}
use Rattle.mg_core.specs.Counting.{is_tick}
use Rattle.mg_core.specs.Base.{IsBase}
use Rattle.mg_core.specs.Headline.{WorldsAreConsistent}
use Rattle.mg_core.specs.Step.{Run, Sent}
use Rattle.mg_core.specs.World.{World, packets_of}
use Rattle.mg_heard.specs.declared.open_flow.OpenFlow.{OpenFlow}
use Rattle.mg_heard.specs.Intervals.{Interval, intervals}
use Rattle.mg_heard.specs.Laws.{IsToldAt}
use Rattle.mg_heard.specs.Maximal.{IsOfPair, LiesIn}
use Rattle.mg_heard.specs.OpenFlows.{open_flow}
use Rattle.mg_heard.proofs.MaximalLemmas.{open_at, told_at}
use Rattle.mg_heard.proofs.Members.{In, any_from_in, at_from_in, from_filter, from_map, in_filter, in_from_any, in_from_at, in_map}
use Rattle.mg_heard.proofs.MomentLemmas.{OneOutcome}
use Rattle.mg_audible.specs.Audible.{AreAudible, RunsWithout, audible_flows, bytes_from, is_sent_other}
use Rattle.mg_audible.specs.Laws.{DifferencesAreSpeech, Differs, TellsDifferences, TellsSpeech, reaches}
use Rattle.mg_audible.proofs.AgreeLemmas.{alone, same_next}
use Rattle.mg_audible.proofs.RunLemmas.{first_run, runs_once, split}

-- ## Listeners that hear nothing of the talker

or_none : (a b : Bool) → (a || b) ≡ false → (a ≡ false) × (b ≡ false)
or_none true b e = absurd (true≢false e)
or_none false b e = (refl, e)

or_nil : (a : Bool) → (a || false) ≡ a
or_nil true = refl
or_nil false = refl

hears_none : (w : Gateway) (talker listener : ℕ) → reaches w talker listener ≡ false →
    HearsNone (alone talker) w listener
hears_none w talker listener e =
    let no = or_none (flow w talker listener) (eqb talker listener && hears_itself w listener) e in
    record {
      others = λ t h. ap (λ (n : ℕ). flow w n listener) (sym (eqb-true talker t (sym (or_nil (eqb talker t)) ∙ h))) ∙ no.0;
      own = ap (λ (b : Bool). b && hears_itself w listener) (or_nil (eqb talker listener)) ∙ no.1;
    }

found_by : (w : Registry) → IsSound w → (r : Record) → Contains w.terminations r → record_at w r.number ≡ Some r
found_by w sound r (k, within, is) =
    subst (λ (x : Record). record_at w x.number ≡ Some x) is (sound.by_number k r within)

-- No two terminations have the same port.
one_port : (w : Registry) → IsSound w → (r s : Record) → Contains w.terminations r → Contains w.terminations s →
    slot_port w.limits s.slot ≡ slot_port w.limits r.slot → s.number ≡ r.number
one_port w sound r s i j e =
    sound.one_slot s.number r.number s r (found_by w sound s j) (found_by w sound r i) (omega (arith, e))

all_in : (P : Record → Type 0) (rs : List Record) → ((r : Record) → In r rs → P r) → AllByRecursion P rs
all_in P [] h = tt
all_in P (r ∷ rs) h = (h r (inl refl), all_in P rs (λ x i. h x (inr i)))

none_at : (w : Gateway) (talker : ℕ) (r : Record) → IsSound w.rooms → Contains w.rooms.terminations r →
    reaches w talker r.number ≡ false → HearsNoneAt (alone talker) w (slot_port w.rooms.limits r.slot)
none_at w talker r sound among e =
    let port = slot_port w.rooms.limits r.slot in
    all_in (λ s. slot_port w.rooms.limits s.slot ≡ port → HearsNone (alone talker) w s.number) w.rooms.terminations
    (λ s i same. subst (λ (n : ℕ). HearsNone (alone talker) w n)
    (sym (one_port w.rooms sound r s among (at_from_in s w.rooms.terminations i) same))
    (hears_none w talker r.number e))

-- ## Packets to listeners that hear nothing of the talker

first_bytes : List Datagram → List ℕ
first_bytes [] = []
first_bytes (d ∷ ds) = d.bytes

first_at : (b : Bool) (d : Datagram) (o : Option Datagram) (ds : List Datagram) →
    option_map_or (λ d. d.bytes) o [] ≡ first_bytes ds →
    option_map_or (λ d. d.bytes) (cond b (Some d) o) [] ≡ first_bytes (cond b (d ∷ ds) ds)
unfolding first_bytes
first_at true d o ds h = refl
first_at false d o ds h = h

-- The bytes of the first packet from a port are those of the first packet among all packets from the port.
first_of : (port : ℕ) (packets : List Datagram) →
    bytes_from port packets ≡ first_bytes (filter (λ d. eqb d.from port) packets)
unfolding first_bytes
first_of port [] = refl
first_of port (d ∷ ds) = first_at (eqb d.from port) d (find (λ d. eqb d.from port) ds)
    (filter (λ d. eqb d.from port) ds) (first_of port ds)

same_bytes : (port : ℕ) (v w : World) → next_packets port v ≡ next_packets port w →
    bytes_from port (packets_of v) ≡ bytes_from port (packets_of w)
same_bytes port v w e = first_of port (packets_of v) ∙ ap first_bytes e ∙ sym (first_of port (packets_of w))

not_other : (v w : World) (r : Record) → next_packets (slot_port v.gateway.rooms.limits r.slot) v
    ≡ next_packets (slot_port v.gateway.rooms.limits r.slot) w → is_sent_other v w r ≡ false
not_other v w r e =
    let port = slot_port v.gateway.rooms.limits r.slot in
    let a = bytes_from port (packets_of v) in
    let b = bytes_from port (packets_of w) in
    ap not ((bytes_eq-Decides a b).1 (same_bytes port v w e))

-- ## Differences are speech

record DiffersBy (base : World) (talker listener : ℕ) (past : List Event) : Type 0 where
  moments : List (List OpenFlow)
  whole : World
  without : World
  runs : RunsWithout talker base base past moments whole without
  r : Record
  among : Contains whole.gateway.rooms.terminations r
  number : r.number ≡ listener
  other : is_sent_other whole without r ≡ true

opened : (base : World) (talker listener : ℕ) (past : List Event) → Differs base talker listener past →
    DiffersBy base talker listener past
opened base talker listener past (moments, whole, without, runs, (k, r, within, is, (number, other))) = record {
  moments = moments;
  whole = whole;
  without = without;
  runs = runs;
  r = r;
  among = (k, within, is);
  number = number;
  other = other;
}

reaches_first : WorldsAreConsistent → UnheardChangesNothing → (base : World) (talker listener : ℕ)
    (past : List Event) → IsBase base → (d : DiffersBy base talker listener past) → (b : Bool) →
    reaches d.whole.gateway talker d.r.number ≡ b → b ≡ true
reaches_first consistent unheard base talker listener past start d true e = refl
reaches_first consistent unheard base talker listener past start d false e =
    let v = d.whole in
    let (sent, run) = first_run talker base base v d.without past d.moments d.runs in
    let sound = sound_if v.gateway.rooms (consistent base past sent v start run) in
    let port = slot_port v.gateway.rooms.limits d.r.slot in
    let same = same_next unheard talker base v d.without past d.moments port d.runs
    (none_at v.gateway talker d.r sound d.among e) in
    absurd (true≢false (sym d.other ∙ not_other v d.without d.r same))

abbrev pub OneRun : Type 0
OneRun = (w : World) (events : List Event) (a b : List Sent) (x y : World) →
    Run w events a x → Run w events b y → (a ≡ b) × (x ≡ y)

pub differences_are_speech : OneRun → WorldsAreConsistent → UnheardChangesNothing → DifferencesAreSpeech
differences_are_speech one consistent unheard base talker listener past sent w start differs run =
    let d = opened base talker listener past differs in
    let (also, first) = first_run talker base base d.whole d.without past d.moments d.runs in
    let same = (one base past also sent d.whole w first run).1 in
    ap (λ (n : ℕ). reaches w.gateway talker n) (sym d.number)
    ∙ ap (λ (x : World). reaches x.gateway talker d.r.number) (sym same)
    ∙ reaches_first consistent unheard base talker listener past start d
    (reaches d.whole.gateway talker d.r.number) refl

-- ## Intervals

at_middle : (xs ys : List (List OpenFlow)) (y : List OpenFlow) → get_or (xs ++ y ∷ ys) (length xs) [] ≡ y
at_middle [] ys y = refl
at_middle (x ∷ xs) ys y = at_middle xs ys y

-- The worlds and the moment of the tick after the events in `past`.
record AtTick (talker : ℕ) (start : World) (past : List Event) (moments : List (List OpenFlow)) : Type 0 where
  v : World
  w : World
  before : List (List OpenFlow)
  runs : RunsWithout talker start start past before v w
  within : count_by is_tick past < length moments
  here : get_or moments (count_by is_tick past) [] ≡ audible_flows talker v w

at_tick : (talker : ℕ) (start last other : World) (past later : List Event) (moments : List (List OpenFlow)) →
    RunsWithout talker start start (past ++ Tick ∷ later) moments last other → AtTick talker start past moments
at_tick talker start last other past later moments runs =
    let s = split talker start start last other past later moments runs in
    let n = count_by is_tick past in
    let flows = audible_flows talker s.v s.w in
    let long = s.count in
    record {
      v = s.v;
      w = s.w;
      before = s.before;
      runs = s.runs;
      within = omega (arith, ap length s.is, length-append s.before (flows ∷ s.after), long);
      here = ap (λ (l : List (List OpenFlow)). get_or l n []) s.is
          ∙ ap (λ (k : ℕ). get_or (s.before ++ flows ∷ s.after) k []) (sym long)
          ∙ at_middle s.before s.after flows;
    }

-- If an interval contains the tick after `past`, the bytes of this tick differ.
told_differs : (base : World) (talker listener : ℕ) (past : List Event) (moments : List (List OpenFlow)) →
    AtTick talker base past moments →
    IsToldAt (count_by is_tick past) talker listener (intervals (reverse moments)) →
    Differs base talker listener past
told_differs base talker listener past moments t told =
    let n = count_by is_tick past in
    let ts = t.v.gateway.rooms.terminations in
    let (y, i, (pair, lies)) = in_from_any (λ y. IsOfPair talker listener y × LiesIn n y) (intervals (reverse moments))
    told in
    let among = subst (λ (l : List OpenFlow). In y.flow l) t.here (open_at moments n y i t.within lies) in
    let (r, j, k) = from_map (λ r. open_flow t.v.gateway r.number talker) y.flow (filter (is_sent_other t.v t.w) ts)
    among in
    let (one, sent) = from_filter (is_sent_other t.v t.w) r ts j in
    let (index, within, is) = at_from_in r ts one in
    (t.before, t.v, t.w, t.runs, (index, r, within, is, (sym (ap (λ (x : OpenFlow). x.listener) k) ∙ pair.1, sent)))

-- If the bytes of the tick after `past` differ, an interval contains this tick.
differs_told : OneOutcome → (base : World) (talker listener : ℕ) (past : List Event)
    (moments : List (List OpenFlow)) → AtTick talker base past moments →
    Differs base talker listener past →
    IsToldAt (count_by is_tick past) talker listener (intervals (reverse moments))
differs_told one base talker listener past moments t differs =
    let d = opened base talker listener past differs in
    let n = count_by is_tick past in
    let ts = t.v.gateway.rooms.terminations in
    let (same, too) = runs_once one talker base base d.whole d.without t.v t.w past d.moments t.before d.runs t.runs in
    let sent : is_sent_other t.v t.w d.r ≡ true =
    sym (λ j. is_sent_other (same j) (too j) d.r) ∙ d.other in
    let among : Contains ts d.r = subst (λ (x : World). Contains x.gateway.rooms.terminations d.r) same d.among in
    let x = open_flow t.v.gateway d.r.number talker in
    let i = in_map (λ r. open_flow t.v.gateway r.number talker) d.r (filter (is_sent_other t.v t.w) ts)
    (in_filter (is_sent_other t.v t.w) d.r ts (in_from_at d.r ts among) sent) in
    let (y, j, k, lies) = told_at moments n x (subst (λ (l : List OpenFlow). In x l) (sym t.here) i) in
    any_from_in (λ y. IsOfPair talker listener y × LiesIn n y) y (intervals (reverse moments)) j
    ((ap (λ (z : OpenFlow). z.talker) k, ap (λ (z : OpenFlow). z.listener) k ∙ d.number), lies)

pub tells_differences : OneOutcome → (base : World) (talker : ℕ) (events : List Event) (ys : List Interval) →
    AreAudible base talker events ys → TellsDifferences base talker events ys
tells_differences one base talker events ys (moments, last, other, runs, is) past later listener e =
    let n = count_by is_tick past in
    let t = at_tick talker base last other past later moments
    (subst (λ (l : List Event). RunsWithout talker base base l moments last other) e runs) in (
      λ told. told_differs base talker listener past moments t
          (subst (λ (l : List Interval). IsToldAt n talker listener l) is told),
      λ d. subst (λ (l : List Interval). IsToldAt n talker listener l) (sym is)
          (differs_told one base talker listener past moments t d),
    )

pub tells_speech : (base : World) (talker : ℕ) (events : List Event) (ys : List Interval) → DifferencesAreSpeech →
    IsBase base → TellsDifferences base talker events ys → TellsSpeech base talker events ys
tells_speech base talker events ys law start differ past later listener sent w e run told =
    law base talker listener past sent w start ((differ past later listener e).0 told) run
