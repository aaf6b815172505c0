-- The search through entries, one after another.
use Rattle.std.proofs.Common.{◌≡◌, ℕ, Bool, true, false, cond, List, [], ◌∷◌, ◌++◌, Option, Some, None, refl, sym, ap, subst, ◌∙◌}
use Rattle.std.specs.Prelude.{◌&&◌}
use Rattle.std.specs.Option.{option_or}
use Rattle.mg_core.specs.declared.state.CoreState.{CoreState}
use Rattle.mg_core.specs.Note.{Note}
use Rattle.mg_core.specs.Follow.{IsFollowed}
use Rattle.mg_core.specs.World.{World}
use Rattle.mg_dates.specs.declared.date.Date.{Date}
use Rattle.mg_heard.specs.declared.entry.Entry.{Entry}
use Rattle.mg_heard.specs.declared.entry.Entry.TheVariants as entries
use Rattle.mg_heard.specs.declared.extent.Extent.{Extent}
use Rattle.mg_heard.specs.declared.gap.Gap.{Gap}
use Rattle.mg_heard.specs.declared.instant.Instant.{Instant}
use Rattle.mg_heard.specs.declared.interval.Interval.{Interval}
use Rattle.mg_heard.specs.declared.query.Query.{Query}
use Rattle.mg_heard.specs.Query.{covers, selects}
use Rattle.mg_heard.specs.declared.verdict.Verdict.{Verdict}
use Rattle.mg_heard.specs.Told.{TellsAll}
use Rattle.mg_heard.specs.Verdict.{gap_at, heard_at, is_in_gap, is_within, verdict_at, verdict_of}
use Rattle.mg_heard.specs.aids.Finding.{HasFound}
use Rattle.mg_heard.proofs.KeptTickLemmas.{tells_weaker}

or_none : {A : Type 0} (o : Option A) → option_or o None ≡ o
or_none None = refl
or_none (Some x) = refl

or_or : {A : Type 0} (a b c : Option A) → option_or (option_or a b) c ≡ option_or a (option_or b c)
or_or None b c = refl
or_or (Some x) b c = refl

first_more : {A : Type 0} (b : Bool) (x : A) (all before more : Option A) → all ≡ option_or before more →
    cond b (Some x) all ≡ option_or (cond b (Some x) before) more
first_more true x all before more h = refl
first_more false x all before more h = h

heard_more : (query : Query) (time : Date) (xs : List Entry) (x : Entry) →
    heard_at query time (xs ++ x ∷ []) ≡ option_or (heard_at query time xs) (heard_at query time (x ∷ []))
heard_more query time [] x = refl
heard_more query time (entries.Interval y ∷ xs) x = first_more (selects query y && covers y time) y
    (heard_at query time (xs ++ x ∷ [])) (heard_at query time xs) (heard_at query time (x ∷ [])) (heard_more query time xs x)
heard_more query time (entries.Gap gap ∷ xs) x = heard_more query time xs x
heard_more query time (entries.Audible y ∷ xs) x = heard_more query time xs x

gap_more : (time : Date) (xs : List Entry) (x : Entry) →
    gap_at time (xs ++ x ∷ []) ≡ option_or (gap_at time xs) (gap_at time (x ∷ []))
gap_more time [] x = refl
gap_more time (entries.Interval y ∷ xs) x = gap_more time xs x
gap_more time (entries.Gap gap ∷ xs) x = first_more (is_in_gap gap time) gap
    (gap_at time (xs ++ x ∷ [])) (gap_at time xs) (gap_at time (x ∷ [])) (gap_more time xs x)
gap_more time (entries.Audible y ∷ xs) x = gap_more time xs x

-- After one more entry, `HasFound` still holds if the sink stores a match in this entry, unless it had found one
-- before.
found_more : (start old : Instant) (before : List Entry) (x : Entry) (heard : Option Interval) (gap : Option Gap) →
    heard ≡ option_or old.heard (heard_at old.query old.time (x ∷ [])) →
    gap ≡ option_or old.gap (gap_at old.time (x ∷ [])) → HasFound start old before →
    HasFound start (record old { heard = heard; gap = gap }) (before ++ x ∷ [])
found_more start old before x heard gap e k h =
    record {
      query = h.query;
      time = h.time;
      heard = e ∙ (λ i. option_or (h.heard i) (heard_at (h.query i) (h.time i) (x ∷ [])))
          ∙ or_or start.heard (heard_at start.query start.time before) (heard_at start.query start.time (x ∷ []))
          ∙ ap (option_or start.heard) (sym (heard_more start.query start.time before x));
      gap = k ∙ (λ i. option_or (h.gap i) (gap_at (h.time i) (x ∷ [])))
          ∙ or_or start.gap (gap_at start.time before) (gap_at start.time (x ∷ []))
          ∙ ap (option_or start.gap) (sym (gap_more start.time before x));
    }

pub found_interval : (start old new : Instant) (before : List Entry) (x : Interval) →
    new ≡ record old { heard = option_or old.heard (heard_at old.query old.time (entries.Interval x ∷ [])) } →
    HasFound start old before → HasFound start new (before ++ entries.Interval x ∷ [])
found_interval start old new before x e h = subst (λ (y : Instant). HasFound start y (before ++ entries.Interval x ∷ []))
    (sym e) (found_more start old before (entries.Interval x)
    (option_or old.heard (heard_at old.query old.time (entries.Interval x ∷ []))) old.gap refl (sym (or_none old.gap)) h)

pub found_gap : (start old new : Instant) (before : List Entry) (x : Gap) →
    new ≡ record old { gap = option_or old.gap (gap_at old.time (entries.Gap x ∷ [])) } →
    HasFound start old before → HasFound start new (before ++ entries.Gap x ∷ [])
found_gap start old new before x e h = subst (λ (y : Instant). HasFound start y (before ++ entries.Gap x ∷ []))
    (sym e) (found_more start old before (entries.Gap x) old.heard
    (option_or old.gap (gap_at old.time (entries.Gap x ∷ []))) (sym (or_none old.heard)) refl h)

-- `HasFound` still holds after an `Audible` entry, which answers no question about who could be heard.
pub found_audible : (start old : Instant) (before : List Entry) (x : Interval) → HasFound start old before →
    HasFound start old (before ++ entries.Audible x ∷ [])
found_audible start old before x h = found_more start old before (entries.Audible x) old.heard old.gap
    (sym (or_none old.heard)) (sym (or_none old.gap)) h

-- ## The sink's answer

pub found_none : (start : Instant) → HasFound start start []
found_none start = record {
  query = refl;
  time = refl;
  heard = sym (or_none start.heard);
  gap = sym (or_none start.gap);
}

-- A question for which nothing has been found yet.
abbrev asked : Query → Date → Instant
asked query time = record { query = query; time = time; heard = None; gap = None }

pub answers_found : (base : World) (input rest : Option (List ℕ)) (state : CoreState) (A : List Note → Type 0)
    (query : Query) (time : Date) (start now : Instant) (covered : Extent) (verdict : Verdict) → start ≡ asked query time →
    verdict ≡ verdict_of (is_within covered now.time) now.gap now.heard →
    IsFollowed base input rest state
    (λ notes. A notes × TellsAll base notes (λ extent xs. HasFound start now xs × (covered ≡ extent))) →
    IsFollowed base input rest state
    (λ notes. A notes × TellsAll base notes (λ extent xs. verdict ≡ verdict_at query time extent xs))
answers_found base input rest state A query time start now covered verdict is e h = record {
  script = h.script;
  read = h.read;
  notes = h.notes;
  are = h.are;
  run = h.run;
  follows = (
    h.follows.0,
    tells_weaker base h.notes (λ extent xs. HasFound start now xs × (covered ≡ extent))
        (λ extent xs. verdict ≡ verdict_at query time extent xs)
        (λ xs (told, covers).
        let found = subst (λ (s : Instant). HasFound s now xs) is told in
        e ∙ (λ i. verdict_of (is_within (covers i) (found.time i)) (found.gap i) (found.heard i))) h.follows.1,
  );
}
