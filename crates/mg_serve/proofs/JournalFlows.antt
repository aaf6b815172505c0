-- A journal shows who could hear whom.
use Rattle.std.proofs.Common.{◌≡◌, ◌⊎◌, inl, inr, ℕ, zero, suc, ◌≤◌, List, [], ◌∷◌, ◌++◌, length, replicate, refl, sym, ap, subst, ◌∙◌, append_assoc, append-nil, arith}
use Rattle.mg_words.specs.declared.peer.Peer.{Peer}
use Rattle.mg_engine.specs.Flow.{flow}
use Rattle.mg_core.specs.declared.event.Event.{Event}
use Rattle.mg_core.specs.declared.event.Event.TheVariants.{Control, Tick}
use Rattle.mg_core.specs.ExceptReceived.{AgreeExceptReceived, RtpChangesSpeechOnly, lasting}
use Rattle.mg_core.specs.Step.{Run}
use Rattle.mg_core.specs.World.{World, world_after_tick, world_after_ticks}
use Rattle.mg_serve.specs.JournalLaws.{JournalsTellWhoHears, LosesTicks, ticks_lacking}
use Rattle.mg_serve.specs.Theorems.{SessionsAreRuns}
use Rattle.mg_serve.specs.Trace.{TraceEntry, events_of_trace}
use Rattle.mg_serve.proofs.JournalCrashes.{after_lost, front_run, split_run}
use Rattle.mg_serve.proofs.ReadBack.{OneOutcome}
use Rattle.mg_serve.proofs.Runs.{events_both}
use Rattle.mg_serve.proofs.JournalCuts.{Apart, apart}
use Rattle.mg_serve.proofs.JournalSteps.{front_ticks, quiet_both}

-- ## Flows

-- The same speech flows in two worlds.
abbrev HaveSameFlows : World → World → Type 0
HaveSameFlows a b = (talker listener : ℕ) → flow a.gateway talker listener ≡ flow b.gateway talker listener

agreeing_flows : (a b : World) → AgreeExceptReceived a b → HaveSameFlows a b
agreeing_flows a b h talker listener =
    λ i. flow (record a.gateway { rooms = h.rooms i; edits = h.edits i }) talker listener

-- Ticks do not change any flow.
ticked_flows : (n : ℕ) (w : World) → HaveSameFlows (world_after_ticks n w) w
ticked_flows zero w talker listener = refl
ticked_flows (suc n) w talker listener = ticked_flows n (world_after_tick w) talker listener

-- ## Events up to a moment

-- The events up to a moment are a prefix of the journal's events, except for lost ticks.
pub record KeepsFront (lacking : ℕ) (happened written : List Event) : Type 0 where
  pub first : List Event
  pub others : List Event
  pub parts : written ≡ first ++ others
  pub ticks : ℕ
  pub few : ticks ≤ lacking
  pub lost : happened ≡ first ++ replicate ticks Tick

-- The kept events are a prefix of the written ones.
front_of : (kept written : List Event) → (written ≡ kept)
    ⊎ ((source : Peer) × (bytes : List ℕ) × (written ≡ kept ++ Control source bytes ∷ []))
    → (end : List Event) × (written ≡ kept ++ end)
front_of kept written (inl is) = ([], is ∙ sym (append-nil kept))
front_of kept written (inr (source, bytes, is)) = (Control source bytes ∷ [], is)

keeps_as : (lacking : ℕ) (past later happened written end : List Event) (loses : LosesTicks lacking happened written)
    → written ≡ loses.kept ++ end → Apart past later loses.kept (replicate loses.ticks Tick)
    → KeepsFront lacking past written
keeps_as lacking past later happened written end loses is (inl (more, all, left)) =
    let only = front_ticks loses.ticks more later left in
    record {
      first = loses.kept;
      others = end;
      parts = is;
      ticks = length more;
      few = omega (arith, loses.few, only.1);
      lost = all ∙ ap (λ (l : List Event). loses.kept ++ l) only.0;
    }
keeps_as lacking past later happened written end loses is (inr (more, all, left)) = record {
  first = past;
  others = more ++ end;
  parts = is ∙ (ap (λ (l : List Event). l ++ end) all ∙ append_assoc past more end);
  ticks = 0;
  few = omega arith;
  lost = sym (append-nil past);
}

keeps_front : (lacking : ℕ) (past later : List TraceEntry) (written : List Event)
    → LosesTicks lacking (lasting (events_of_trace (past ++ later))) written
    → KeepsFront lacking (lasting (events_of_trace past)) written
keeps_front lacking past later written loses =
    let before = lasting (events_of_trace past) in
    let after = lasting (events_of_trace later) in
    let (end, is) = front_of loses.kept written loses.wrote in
    keeps_as lacking before after (lasting (events_of_trace (past ++ later))) written end loses is
    (apart before after loses.kept (replicate loses.ticks Tick) (sym (quiet_both past later) ∙ loses.lost))

-- ## A journal shows who could hear whom

same_flows : (a b c : World) → HaveSameFlows a b → HaveSameFlows b c → HaveSameFlows a c
same_flows a b c one other talker listener = one talker listener ∙ other talker listener

pub tells_who_hears : SessionsAreRuns → OneOutcome → RtpChangesSpeechOnly → JournalsTellWhoHears
tells_who_hears runs one law setup durability preface base w v told others past later rest journal moment before agree survives =
    let (a, now, whole) =
    front_run setup w moment.last (past ++ later) rest
    (runs setup moment.commands w moment.last ((past ++ later) ++ rest) moment.session) in
    let (sent, tail, then_world, run, more) =
    split_run w now (events_of_trace past) (events_of_trace later) a
    (subst (λ (l : List Event). Run w l a now) (events_both past later) whole) in
    let keeps = keeps_front (ticks_lacking survives.progress) past later survives.written survives.loses in
    record {
      then = then_world;
      sent = sent;
      run = run;
      first = keeps.first;
      others = keeps.others;
      parts = keeps.parts;
      ticks = keeps.ticks;
      few = keeps.few;
      lost = keeps.lost;
      flows = λ u all ran.
          let (s, t, mid, start, quiet) = split_run base u told keeps.first all ran in
          let same : mid ≡ v = (one base told s others mid v start before).1 in
          let mine : Run v keeps.first t u = subst (λ (x : World). Run x keeps.first t u) same quiet in
          same_flows then_world (world_after_ticks keeps.ticks u) u
          (agreeing_flows then_world (world_after_ticks keeps.ticks u)
          (after_lost law w v then_world u (events_of_trace past) keeps.first keeps.ticks sent t agree run mine keeps.lost))
          (ticked_flows keeps.ticks u);
    }
