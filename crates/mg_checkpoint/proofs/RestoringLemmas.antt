-- The worlds that a restored state represents.
use Rattle.std.proofs.Common.{◌≡◌, ℕ, ◌<◌, ◌≤◌, ◌+◌, ◌==◌, eqb, eq-eqb, List, [], ◌∷◌, map, find, Option, Some, refl, sym, ap, subst, ◌∙◌, arith, cond, Bool, true, false}
use Rattle.std.specs.List.{count_by}
use Rattle.mg_kept.specs.KeptReplies.{AreKept}
use Rattle.mg_playout.specs.Playout.{depth_of}
use Rattle.mg_rooms.specs.declared.record.Record.{Record}
use Rattle.mg_rooms.specs.Consistent.{IsConsistent}
use Rattle.mg_rooms.specs.Registry.{Registry}
use Rattle.mg_rooms.proofs.CountLemmas.{count-cons}
use Rattle.mg_engine.specs.declared.config.Config.{Config}
use Rattle.mg_engine.specs.Config.{limits_of}
use Rattle.mg_engine.specs.Gateway.{Gateway, TerminationMedia}
use Rattle.mg_engine.specs.Restored as engine
use Rattle.mg_engine.specs.aids.Quiet.{AgreeInCheckpoint, HaveDepths, IsQuiet}
use Rattle.mg_engine.specs.aids.Stands.{EngineState}
use Rattle.mg_engine.specs.aids.Stands as engine_stands
use Rattle.mg_core.specs.declared.counts.Counts.{Counts}
use Rattle.mg_core.specs.declared.state.CoreState.{CoreState}
use Rattle.mg_core.specs.Base.{IsStart}
use Rattle.mg_core.specs.World.{Tally, World, capped, counts_of, no_events}
use Rattle.mg_core.specs.aids.Stands.{StandsFor}
use Rattle.mg_core.specs.Base.{IsBase}
use Rattle.mg_checkpoint.specs.Checkpoint.{checkpoint_text, without_speech}
use Rattle.mg_checkpoint.specs.Said.{Said, said_of}
use Rattle.mg_checkpoint.specs.aids.Rebuilt.{IsRebuilt, RestoresWorlds, RepresentsBase}
use Rattle.mg_checkpoint.proofs.AgreementLemmas.{agree, have_depths}
use Rattle.mg_checkpoint.proofs.TextLemmas.{texts_determine_said}

-- ## Depths

counted_by : (p : Bool) (r : Record) (n k : ℕ) (o : Option Record) (x : Record) → (o ≡ Some x → 0 < k)
    → cond p (Some r) o ≡ Some x → 0 < cond p 1 0 + k
counted_by true r n k o x rest e = omega arith
counted_by false r n k o x rest e = omega (arith, rest e)

found_counts : (n : ℕ) (rs : List Record) (x : Record) → find (λ v. v.number == n) rs ≡ Some x
    → 0 < count_by (λ v. v.number == n) rs
found_counts n [] x e = absurd (cc)
found_counts n (r ∷ rs) x e =
    subst (λ k. 0 < k) (sym (count-cons (λ v. v.number == n) r rs))
    (counted_by (eqb r.number n) r n (count_by (λ v. v.number == n) rs) (find (λ v. v.number == n) rs) x
    (found_counts n rs x) e)

once : (p : Bool) (k : ℕ) → 0 < k → cond p 1 0 + k ≤ 1 → p ≡ false
once true k some few = absurd (omega (arith, some, few))
once false k some few = refl

-- No number occurs twice.
abbrev AreApart : List Record → Type 0
AreApart rs = (n : ℕ) → count_by (λ v. v.number == n) rs ≤ 1

-- The media and the record that a number finds have the same depth.
abbrev DepthsByNumber : List TerminationMedia → List Record → Type 0
DepthsByNumber ss rs = (n : ℕ) (r : Record) (s : TerminationMedia) → find (λ v. v.number == n) rs ≡ Some r
    → find (λ m. m.number == n) ss ≡ Some s → depth_of s.play ≡ r.depth

depths_left : (s : TerminationMedia) (ss : List TerminationMedia) (r : Record) (rs : List Record) → s.number ≡ r.number
    → AreApart (r ∷ rs) → DepthsByNumber (s ∷ ss) (r ∷ rs) → DepthsByNumber ss rs
depths_left s ss r rs number few depths n x y at of =
    let apart = once (eqb r.number n) (count_by (λ v. v.number == n) rs) (found_counts n rs x at)
    (subst (λ k. k ≤ 1) (count-cons (λ v. v.number == n) r rs) (few n)) in
    let found : find (λ v. v.number == n) (r ∷ rs) ≡ Some x = rw apart at in
    let apart_too : eqb s.number n ≡ false = subst (λ k. eqb k n ≡ false) (sym number) apart in
    let media : find (λ m. m.number == n) (s ∷ ss) ≡ Some y = rw apart_too of in
    depths n x y found media

fewer : (r : Record) (rs : List Record) → AreApart (r ∷ rs) → AreApart rs
fewer r rs few n = omega (arith, few n, count-cons (λ v. v.number == n) r rs)

depths_in_order : (ss : List TerminationMedia) (rs : List Record) → map (λ s. s.number) ss ≡ map (λ r. r.number) rs
    → AreApart rs → DepthsByNumber ss rs → map (λ s. depth_of s.play) ss ≡ map (λ r. r.depth) rs
depths_in_order [] [] numbers few depths = refl
depths_in_order [] (r ∷ rs) numbers few depths = absurd (cc)
depths_in_order (s ∷ ss) [] numbers few depths = absurd (cc)
depths_in_order (s ∷ ss) (r ∷ rs) numbers few depths =
    let number : s.number ≡ r.number = cc in
    let left : map (λ m. m.number) ss ≡ map (λ v. v.number) rs = cc in
    let found : find (λ v. v.number == r.number) (r ∷ rs) ≡ Some r = rw (eq-eqb r.number r.number refl) refl in
    let media : find (λ m. m.number == r.number) (s ∷ ss) ≡ Some s = rw (eq-eqb s.number r.number number) refl in
    let here : depth_of s.play ≡ r.depth = depths r.number r s found media in
    let rest : map (λ m. depth_of m.play) ss ≡ map (λ v. v.depth) rs
    = depths_in_order ss rs left (fewer r rs few) (depths_left s ss r rs number few depths) in
    cc

-- ## The base

abbrev tally_of : ℕ → ℕ → Tally
tally_of control ticks = record no_events { control = control; ticks = ticks }

abbrev base_with : Gateway → CoreState → World
base_with g state =
    record { gateway = g; replies = state.kept; tally = tally_of state.counts.control state.counts.ticks }

base_is_base : (given : Config) (state : CoreState) (g : Gateway) → IsRebuilt given state
    → engine_stands.StandsFor state.engine g → HaveDepths g → state.engine.rooms.limits ≡ limits_of state.engine.config
    → IsConsistent state.engine.rooms → AreKept state.kept → IsBase (base_with g state)
base_is_base given state g rebuilt stands depths limits consistent kept =
    let rooms : g.rooms ≡ state.engine.rooms = stands.rooms in
    let here : IsConsistent g.rooms = subst IsConsistent (sym rooms) consistent in
    let numbers : map (λ s. s.number) g.media ≡ map (λ r. r.number) g.rooms.terminations
    = stands.numbers ∙ ap (λ (k : Registry). map (λ r. r.number) k.terminations) (sym rooms) in
    record {
      config = subst IsStart (sym (stands.config ∙ rebuilt.config)) rebuilt.start;
      limits = ap (λ (k : Registry). k.limits) rooms ∙ limits ∙ ap limits_of (sym stands.config);
      rooms = here;
      numbers = numbers;
      depths = depths_in_order g.media g.rooms.terminations numbers here.terminations.one_number depths;
      replies = kept;
      results = refl;
    }

pub rebuilt_base : (given : Config) (state : CoreState) → IsRebuilt given state
    → (IsQuiet state.engine → (g : Gateway) × engine_stands.StandsFor state.engine g × HaveDepths g
    × (engine.without_speech g ≡ g))
    → state.engine.rooms.limits ≡ limits_of state.engine.config → IsConsistent state.engine.rooms → AreKept state.kept
    → RepresentsBase given state
rebuilt_base given state rebuilt represents limits consistent kept =
    let (g, stands, depths, silent) = represents rebuilt.quiet in (
      base_with g state,
      base_is_base given state g rebuilt stands depths limits consistent kept,
      ap (λ v. base_with v state) silent,
      stands.config ∙ rebuilt.config,
      record { gateway = stands; replies = refl; counts = rebuilt.counts },
    )

-- ## Every world of which the same is said

abbrev counts_with : ℕ → ℕ → Counts
counts_with control ticks = record (counts_of no_events) { control = control; ticks = ticks }

same_counts : (b w : World) → without_speech b ≡ b → said_of b ≡ said_of w
    → counts_of b.tally ≡ counts_of (without_speech w).tally
same_counts b w silent said =
    let control : capped b.tally.control ≡ capped w.tally.control = ap (λ (s : Said). s.control) said in
    let ticks : capped b.tally.ticks ≡ capped w.tally.ticks = ap (λ (s : Said). s.ticks) said in
    let same : counts_with (capped b.tally.control) (capped b.tally.ticks)
    ≡ counts_with (capped w.tally.control) (capped w.tally.ticks) = cc in
    sym (ap (λ (v : World). counts_of v.tally) silent) ∙ same

pub rebuilt_restores : (given : Config) (state : CoreState) → IsRebuilt given state
    → ((k : EngineState) (b w : Gateway) → IsQuiet k → engine_stands.StandsFor k b → AgreeInCheckpoint b w
    → HaveDepths w
    → engine_stands.StandsFor k (engine.without_speech w))
    → RestoresWorlds given state
rebuilt_restores given state rebuilt quiet b w bs ws b_given w_given silent said stands = record {
  gateway = quiet state.engine b.gateway w.gateway rebuilt.quiet stands.gateway
      (agree b w bs ws (b_given ∙ sym w_given) said) (have_depths w ws);
  replies = sym (ap (λ (s : Said). s.replies) said) ∙ stands.replies;
  counts = stands.counts ∙ same_counts b w silent said;
}

-- ## Restored from a text

-- The first two facts that `restore` ensures, for a state that saves the text that it was made from.
pub restored_by_text : (given : Config) (state kept : CoreState) (text saved : List ℕ) → RepresentsBase given state
    → RestoresWorlds given state → kept ≡ state → ((w : World) → StandsFor kept w → saved ≡ checkpoint_text w)
    → saved ≡ text
    → ((w : World) → IsBase w → w.gateway.config ≡ given → checkpoint_text w ≡ text → StandsFor kept (without_speech w))
    × ((b : World) × IsBase b × (b.gateway.config ≡ given) × (without_speech b ≡ b) × (checkpoint_text b ≡ text)
    × StandsFor kept b)
restored_by_text given state kept text saved (b, base, silent, config, stands) restores same saves is =
    let here : StandsFor kept b = subst (λ s. StandsFor s b) (sym same) stands in
    let said : checkpoint_text b ≡ text = sym (saves b here) ∙ is in (
      λ w is_base w_config says.
          let equal = texts_determine_said (said_of b) (said_of w) (said ∙ sym says) in
          subst (λ s. StandsFor s (without_speech w)) (sym same)
          (restores b w base is_base config w_config silent equal stands),
      (b, base, config, silent, said, here),
    )
