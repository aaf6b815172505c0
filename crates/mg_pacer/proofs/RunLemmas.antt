-- The progress and the end of a run.
use Rattle.std.proofs.Common.{◌≡◌, ℕ, ◌+◌, ◌*◌, ◌<◌, ◌≤◌, true, false, nat_le, length, List, [], ◌∷◌, ◌++◌, Option, None, Some, Ok, Err, refl, sym, ap, subst, ◌∙◌, append_assoc, arith}
use Rattle.std.proofs.lemmas.List.{append-nil, length-append}
use Rattle.std.proofs.lemmas.Bool.Decides.{nat_tests}
use Rattle.std.specs.Io.KnownBytes.{Appends, Keeps}
use Rattle.mg_lines.specs.declared.write_failed.WriteFailed.{WriteFailed}
use Rattle.mg_lines.proofs.WriterLemmas.{appends_then, appends_keeps}
use Rattle.mg_pacer.specs.declared.fault.PaceFault.TheVariants as faults
use Rattle.mg_pacer.specs.declared.options.Options.{Options}
use Rattle.mg_pacer.specs.Pace.{Pace, Advances, Paces, Waits, start}
use Rattle.mg_clock.specs.Text.{text}
use Rattle.mg_pacer.specs.Text.{text_by}
use Rattle.mg_clock.specs.Ticks.{clock_seen}
use Rattle.mg_pacer.specs.Run.{Paced}
use Rattle.mg_pacer.specs.aids.Steps.{Turns}
use Rattle.mg_clock.proofs.TextLemmas.{text_none}

-- The progress of a run so far: each reading was followed by a wait.
pub record SoFar {E : Type 0} (options : Options) (count : ℕ) (r0 r1 w0 w1 old new : Option (List ℕ)) (e0 e1 : E)
    (p : Pace) : Type 0 where
  pub readings : List ℕ
  pub waits : List ℕ
  pub reports : Appends r0 r1 readings
  pub waited : Appends w0 w1 waits
  pub counts : length readings ≡ count
  pub even : length waits ≡ length readings
  pub paces : Paces (start options.polls) readings waits p
  pub wrote : Appends old new (text p.polls p.steps)
  pub below : p.steps ≤ options.ticks * p.polls
  pub silence : p.left ≡ 0 → e1 ≡ e0

-- One more reading, at which the run ends, continues `Paces`.
pub paces_last : (p : Pace) (ts ds : List ℕ) (t : ℕ) (q r : Pace) → length ds ≡ length ts → Paces p ts ds q →
    Advances q t r
    → Paces p (ts ++ t ∷ []) ds r
paces_last p [] [] t q r even is step = subst (λ (x : Pace). Advances x t r) is step
paces_last p [] (d ∷ ds) t q r even run step = absurd run
paces_last p (u ∷ ts) [] t q r even run step = absurd (omega (arith, even))
paces_last p (u ∷ []) (d ∷ ds) t q r even run step =
    (run.0, run.1, run.2, paces_last run.0 [] ds t q r (omega (arith, even)) run.3 step)
paces_last p (u ∷ v ∷ ts) (d ∷ ds) t q r even run step =
    (run.0, run.1, run.2, paces_last run.0 (v ∷ ts) ds t q r (omega (arith, even)) run.3 step)

-- One more reading and a wait after it continue `Paces`.
pub paces_more : (p : Pace) (ts ds : List ℕ) (t d : ℕ) (q r : Pace) → length ds ≡ length ts → Paces p ts ds q →
    Advances q t r → Waits r t d
    → Paces p (ts ++ t ∷ []) (ds ++ d ∷ []) r
paces_more p [] [] t d q r even is step wait = (r, subst (λ (x : Pace). Advances x t r) is step, wait, refl)
paces_more p [] (e ∷ ds) t d q r even run step wait = absurd run
paces_more p (u ∷ ts) [] t d q r even run step wait = absurd (omega (arith, even))
paces_more p (u ∷ []) (e ∷ ds) t d q r even run step wait =
    (run.0, run.1, run.2, paces_more run.0 [] ds t d q r (omega (arith, even)) run.3 step wait)
paces_more p (u ∷ v ∷ ts) (e ∷ ds) t d q r even run step wait =
    (run.0, run.1, run.2, paces_more run.0 (v ∷ ts) ds t d q r (omega (arith, even)) run.3 step wait)

length_more : (ts : List ℕ) (t : ℕ) → length (ts ++ t ∷ []) ≡ length ts + 1
length_more ts t = length-append ts (t ∷ [])

pub nothing_yet : (a : Option (List ℕ)) → Appends a a []
nothing_yet None = tt
nothing_yet (Some a) = sym (append-nil a)

pub so_far_start : {E : Type 0} (options : Options) (a b c : Option (List ℕ)) (e : E) → 0 < options.polls →
    SoFar options 0 a a b b c c e e (start options.polls)
so_far_start options a b c e some = record {
  readings = [];
  waits = [];
  reports = nothing_yet a;
  waited = nothing_yet b;
  counts = refl;
  even = refl;
  paces = refl;
  wrote = rw (text_none options.polls some) (nothing_yet c);
  below = omega arith;
  silence = λ none. refl;
}

not_yet : (wanted : ℕ) (q : Pace) → false ≡ nat_le (wanted * q.polls) q.steps → text_by wanted q ≡ text q.polls q.steps
not_yet wanted q is = rw (← is) refl

module _ {E : Type 0} (options : Options) (count t : ℕ) (r0 r1 r2 w0 w1 w2 o n m : Option (List ℕ)) (e0 e1 e2 : E)
    (p q : Pace)
    (s : SoFar options count r0 r1 w0 w1 o n e0 e1 p) (reported : Appends r1 r2 (t ∷ [])) (kept : Keeps w1 w2)
    (step : Advances p t q)
    (hush : q.left ≡ p.left → e2 ≡ e1) where
  silent_so_far : q.left ≡ 0 → e2 ≡ e0
  silent_so_far none = hush (omega (arith, none, step.more.1)) ∙ s.silence (omega (arith, none, step.more.1))

  -- If the run doesn't end at this reading, `SoFar` holds after the wait.
  pub so_far_more : (d : ℕ) (r3 w3 : Option (List ℕ)) → Turns options.ticks p q n m (Ok false) → Waits q t d →
      Keeps r2 r3 → Appends w2 w3 (d ∷ [])
      → SoFar options (count + 1) r0 r3 w0 w3 o m e0 e2 q
  so_far_more d r3 w3 turn wait still made = record {
    readings = s.readings ++ t ∷ [];
    waits = s.waits ++ d ∷ [];
    reports = appends_keeps r0 r2 r3 (s.readings ++ t ∷ []) (appends_then r0 r1 r2 s.readings (t ∷ []) s.reports reported)
        still;
    waited = appends_then w0 w2 w3 s.waits (d ∷ []) (appends_keeps w0 w1 w2 s.waits s.waited kept) made;
    counts = length_more s.readings t ∙ ap (λ (k : ℕ). k + 1) s.counts;
    even = length_more s.waits d ∙ (ap (λ (k : ℕ). k + 1) s.even ∙ sym (length_more s.readings t));
    paces = paces_more (start options.polls) s.readings s.waits t d p q s.even s.paces step wait;
    wrote = subst (λ (l : List ℕ). Appends o m l) (sym turn.1 ∙ not_yet options.ticks q turn.2.0)
        (appends_then o n m (text p.polls p.steps) turn.0 s.wrote turn.2.1);
    below = grind (arith, nat_tests, turn.2.0);
    silence = silent_so_far;
  }

  one_reading_more : length (s.readings ++ t ∷ []) ≡ length s.waits + 1
  one_reading_more = length_more s.readings t ∙ ap (λ (k : ℕ). k + 1) (sym s.even)

  -- If the run ends at this reading, it was paced.
  pub run_done : (failed : Type 0) (u : Unit {0}) → Turns options.ticks p q n m (Ok true) →
      Paced options failed (e2 ≡ e0) (clock_seen r0 w0) (clock_seen r2 w2) o m (Ok u)
  run_done failed u turn = record {
    readings = s.readings ++ t ∷ [];
    waits = s.waits;
    pace = q;
    reports = appends_then r0 r1 r2 s.readings (t ∷ []) s.reports reported;
    waited = appends_keeps w0 w1 w2 s.waits s.waited kept;
    paces = paces_last (start options.polls) s.readings s.waits t p q s.even s.paces step;
    ends = (
      one_reading_more,
      silent_so_far,
      grind (arith, nat_tests, turn.2.0),
      subst (λ (l : List ℕ). Appends o m l) (sym turn.1)
          (appends_then o n m (text p.polls p.steps) turn.0 s.wrote turn.2.1),
    );
  }

  -- If the output is closed at this reading, the run was paced.
  pub run_cut : (failed : Type 0) (e : WriteFailed) → Turns options.ticks p q n m (Err e) →
      Paced options failed (e2 ≡ e0) (clock_seen r0 w0) (clock_seen r2 w2) o m (Err faults.Closed)
  run_cut failed e turn = record {
    readings = s.readings ++ t ∷ [];
    waits = s.waits;
    pace = q;
    reports = appends_then r0 r1 r2 s.readings (t ∷ []) s.reports reported;
    waited = appends_keeps w0 w1 w2 s.waits s.waited kept;
    paces = paces_last (start options.polls) s.readings s.waits t p q s.even s.paces step;
    ends = (
      one_reading_more,
      silent_so_far,
      record {
        front = text p.polls p.steps ++ turn.2.front;
        rest = turn.2.rest;
        cut = turn.2.cut;
        parts = turn.1 ∙ ap (λ (l : List ℕ). text p.polls p.steps ++ l) turn.2.parts ∙
            sym (append_assoc (text p.polls p.steps) turn.2.front turn.2.rest);
        written = appends_then o n m (text p.polls p.steps) turn.2.front s.wrote turn.2.written;
      },
    );
  }
