-- A gateway that began with a base has a base after any events.
use Rattle.std.proofs.Common.{◌≡◌, ℕ, ◌+◌, ◌≤◌, List, [], ◌∷◌, length, length-set, Option, Ok, refl, sym, ap, subst, ◌∙◌, arith}
use Rattle.std.specs.Prelude.{slice_index}
use Rattle.mg_rooms.specs.declared.record.Record.{Record}
use Rattle.mg_rooms.specs.declared.settings.Settings.{Settings}
use Rattle.mg_rooms.specs.declared.target.Target.{Target}
use Rattle.mg_rooms.specs.Consistent.{IsConsistent}
use Rattle.mg_rooms.specs.Outcome.{add, modify, move_to, subtract}
use Rattle.mg_rooms.specs.Registry.{Registry, members_at}
use Rattle.mg_kept.specs.aids.Changes.{KeptStayDistinct}
use Rattle.mg_engine.specs.declared.config.Config.{Config}
use Rattle.mg_engine.specs.declared.topology_triple.TopologyTriple.{TopologyTriple}
use Rattle.mg_engine.specs.Config.{IsValidConfig, limits_of}
use Rattle.mg_engine.specs.Gateway.{Gateway}
use Rattle.mg_engine.specs.Outcome as edits
use Rattle.mg_engine.specs.Triples.{check_triples, with_triples}
use Rattle.mg_engine.proofs.OrderLemmas.{done_is}
use Rattle.mg_engine.proofs.OutcomeLemmas.{add_adds, modify_changes, move_changes, subtract_removes}
use Rattle.mg_commands.proofs.KeepLemmas.{request_keeps}
use Rattle.mg_core.specs.declared.event.Event.{Event}
use Rattle.mg_core.specs.declared.event.Event.TheVariants.{Control, Media, Tick}
use Rattle.mg_core.specs.Base.{BasesStayBases, IsBase, IsStart, StartsAreBases}
use Rattle.mg_core.specs.Step.{Sent, Step}
use Rattle.mg_core.specs.World.{World, result_place, start_of, with_control}
use Rattle.mg_core.proofs.ConsistentLemmas.{answer_keeps}
use Rattle.mg_core.proofs.DepthLemmas.{bind_is, paired, same_depths, same_numbers, step_keeps}
use Rattle.mg_core.proofs.ReceivedLemmas.{ConsistentSteps, agrees_itself, control_tally, media_agrees}
use Rattle.mg_core.proofs.RetransmissionLemmas.{event_keeps}

-- ## A new gateway

pub starts_are_bases : ((config : Config) → IsValidConfig config → config.first_termination ≤ 4294967295 →
    IsConsistent (start_of config).gateway.rooms) → StartsAreBases
starts_are_bases starts config start = record {
  config = start;
  limits = refl;
  rooms = starts config start.0 (omega (arith, start.1));
  numbers = refl;
  depths = refl;
  replies = record { at_most = omega arith; distinct = λ i j d lt within. absurd (omega arith) };
  results = refl;
}

-- ## The configuration and the limits

-- The configuration and the limits are the same in both gateways.
record SameConfig (old new : Gateway) : Type 0 where
  config : new.config ≡ old.config
  limits : new.rooms.limits ≡ old.rooms.limits

module _ (old : Gateway) where
  abbrev Same : Gateway → Type 0
  Same g = SameConfig old g

  with_rooms : (w next : Gateway) → SameConfig old w → next.config ≡ w.config → next.rooms.limits ≡ w.rooms.limits →
      SameConfig old next
  with_rooms w next h config limits = record { config = config ∙ h.config; limits = limits ∙ h.limits }

  add_same : (w next : Gateway) (target : Target) (settings : Settings) (r : Record) → Same w →
      edits.add w target settings ≡ Ok (next, r) → Same next
  add_same w next target settings r h e =
      let (z, is, represents) = done_is (edits.added w settings) (add w.rooms target settings) next r e in
      with_rooms w next h (ap (λ (g : Gateway). g.config) represents)
      (ap (λ (g : Gateway). g.rooms.limits) represents ∙ (add_adds w.rooms target settings z r is).limits)

  modify_same : (w next : Gateway) (target : Target) (n : ℕ) (settings : Settings) (r : Record) → Same w →
      edits.modify w target n settings ≡ Ok (next, r) → Same next
  modify_same w next target n settings r h e =
      let (z, is, represents) = done_is (edits.modified w settings) (modify w.rooms target n settings) next r e in
      with_rooms w next h (ap (λ (g : Gateway). g.config) represents)
      (ap (λ (g : Gateway). g.rooms.limits) represents ∙ (modify_changes w.rooms target n settings z r is).0.limits)

  move_same : (w next : Gateway) (target : Target) (n : ℕ) (settings : Settings) (r : Record) → Same w →
      edits.move_to w target n settings ≡ Ok (next, r) → Same next
  move_same w next target n settings r h e =
      let (z, is, represents) = done_is (edits.moved w settings) (move_to w.rooms target n settings) next r e in
      with_rooms w next h (ap (λ (g : Gateway). g.config) represents)
      (ap (λ (g : Gateway). g.rooms.limits) represents ∙ (move_changes w.rooms target n settings z r is).limits)

  subtract_same : (w next : Gateway) (target : Target) (n : ℕ) (r : Record) → Same w →
      edits.subtract w target n ≡ Ok (next, r) → Same next
  subtract_same w next target n r h e =
      let (z, is, represents) = done_is (edits.subtracted w) (subtract w.rooms target n) next r e in
      with_rooms w next h (ap (λ (g : Gateway). g.config) represents)
      (ap (λ (g : Gateway). g.rooms.limits) represents ∙ (subtract_removes w.rooms target n z r is).limits)

  triples_same : (w next : Gateway) (target : Target) (xs : List TopologyTriple) (c : ℕ) → Same w →
      edits.apply_triples w target xs ≡ Ok (next, c) → Same next
  unfolding edits.apply_triples
  triples_same w next target xs c h e =
      let (there, _, checked) = bind_is (edits.existing_context w.rooms target) _ (next, c) e in
      let (u, _, done) = bind_is (check_triples (members_at w.rooms there) xs) _ (next, c) checked in
      let both : (record w { edits = with_triples (members_at w.rooms there) xs w.edits }, there) ≡ (next, c) = cc done in
      subst Same (ap (λ (p : Gateway × ℕ). p.0) both) (record { config = h.config; limits = h.limits })

step_config : (w next : World) (event : Event) (sent : List Sent) → Step w event sent next →
    SameConfig w.gateway next.gateway
step_config w next (Control source bytes) sent (answer, (reading, is, represents), reported) =
    subst (λ (v : World). SameConfig w.gateway v.gateway)
    (ap (λ (p : Option (List ℕ) × World). p.1) represents)
    (answer_keeps (Same w.gateway)
    (request_keeps (Same w.gateway) (add_same w.gateway) (modify_same w.gateway) (move_same w.gateway)
    (subtract_same w.gateway) (triples_same w.gateway))
    bytes reading (with_control w) (record { config = refl; limits = refl }))
step_config w next (Media port source bytes) sent step =
    let same = media_agrees w w next port source bytes sent (agrees_itself w) step in
    record { config = same.config; limits = ap (λ (z : Registry). z.limits) same.rooms }
step_config w next Tick sent (reported, is) = record {
  config = ap (λ (v : World). v.gateway.config) is;
  limits = ap (λ (v : World). v.gateway.rooms.limits) is;
}

-- ## The counts of outcomes

step_results : (w next : World) (event : Event) (sent : List Sent) → Step w event sent next →
    length next.tally.results ≡ length w.tally.results
step_results w next (Control source bytes) sent step =
    ap (λ t. length t.results) (control_tally w next source bytes sent step)
step_results w next (Media port source bytes) sent (taken, (g, takes, is), reported) =
    ap (λ (v : World). length v.tally.results) is
    ∙ length-set w.tally.results (result_place taken) (slice_index w.tally.results (result_place taken) + 1)
step_results w next Tick sent (reported, is) = ap (λ (v : World). length v.tally.results) is

-- ## Events

module _ (consistent : ConsistentSteps) (distinct : KeptStayDistinct) where
  step_stays : (w next : World) (event : Event) (sent : List Sent) → IsBase w → Step w event sent next → IsBase next
  step_stays w next event sent h step =
      let same = step_config w next event sent step in
      let old = paired w.gateway.media w.gateway.rooms.terminations h.numbers h.depths in
      let new = step_keeps consistent w event sent next h.rooms old step in
      record {
        config = subst IsStart (sym same.config) h.config;
        limits = same.limits ∙ h.limits ∙ ap limits_of (sym same.config);
        rooms = consistent w event sent next h.rooms step;
        numbers = same_numbers next.gateway.media next.gateway.rooms.terminations new;
        depths = same_depths next.gateway.media next.gateway.rooms.terminations new;
        replies = event_keeps distinct w next event sent step h.replies;
        results = step_results w next event sent step ∙ h.results;
      }

  pub bases_stay_bases : BasesStayBases
  bases_stay_bases base w [] sent h (none, is) =
      (subst IsBase (sym is) h, ap (λ (v : World). v.gateway.config) is)
  bases_stay_bases base w (event ∷ events) sent h (first, others, next, step, run, are) =
      let (is, same) = bases_stay_bases next w events others (step_stays base next event first h step) run in
      (is, same ∙ (step_config base next event first step).config)
