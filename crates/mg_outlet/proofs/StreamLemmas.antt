-- The stream of an outlet: the bytes that the pipe took, and then the queue.
use Rattle.std.proofs.Common.{◌≡◌, ℕ, ◌+◌, ◌-◌, ◌^◌, ◌<◌, min, Bool, true, false, ◌&&◌, ◌||◌, nat_lt, List, [], ◌++◌, Option, Some, None, refl, sym, ap, subst, ◌∙◌, append_assoc, append-nil, arith}
use Rattle.std.specs.Prelude.{IfSome, if◌then◌else◌}
use Rattle.std.specs.Option.{option_map, option_map_or}
use Rattle.std.proofs.lemmas.Bool.Decides.{nat_tests}
use Rattle.mg_outlet.specs.Passing.{Continues, Passes, PipeCall, taken_in}
use Rattle.mg_outlet.specs.Outlet.{BeginsWithStream, IsFlushed, IsWritten, PassesOn, drops, dropped, ends, failure, overflow, pipe, queued, stream}
use Rattle.mg_outlet.specs.declared.outlet.Outlet.{Outlet}
use Rattle.mg_outlet.specs.declared.overflow.Overflow.{Overflow}
use Rattle.mg_outlet.specs.declared.overflow.Overflow.TheVariants.{End}
use Rattle.mg_outlet.proofs.PassingLemmas.{passes_taken, taken_both}

-- Moving bytes to the pipe leaves the stream unchanged. The stream then grows by the text that joins the queue.
stream_moves : (left : ℕ) (queue rest text : List ℕ) (calls : List PipeCall) (a b : Option (List PipeCall)) → Continues a b calls
    → Passes left queue rest calls
    → Continues (option_map (λ made. taken_in made ++ queue) a) (option_map (λ made. taken_in made ++ (rest ++ text)) b) text
stream_moves left queue rest text calls a None called passes = tt
stream_moves left queue rest text calls None (Some b) called passes = absurd called
stream_moves left queue rest text calls (Some a) (Some b) called passes =
    let moved : queue ≡ taken_in calls ++ rest = passes_taken left queue rest calls passes in
    ap (λ (l : List PipeCall). taken_in l ++ (rest ++ text)) called
    ∙ ap (λ (l : List ℕ). l ++ (rest ++ text)) (taken_both a calls)
    ∙ append_assoc (taken_in a) (taken_in calls) (rest ++ text)
    ∙ ap (λ (l : List ℕ). taken_in a ++ l) (sym (append_assoc (taken_in calls) rest text)
    ∙ ap (λ (l : List ℕ). l ++ text) (sym moved))
    ∙ sym (append_assoc (taken_in a) queue text)

-- If the stream was whole, it is still whole after text is appended.
begins_after : (all missing text : List ℕ) (a b : Option (List ℕ)) → Continues a b text
    → IfSome a (λ passed. all ≡ passed ++ missing) → missing ≡ [] → IfSome b (λ passed. all ++ text ≡ passed ++ [])
begins_after all missing text a None goes parts none = tt
begins_after all missing text None (Some b) goes parts none = absurd goes
begins_after all missing text (Some a) (Some b) goes parts none =
    ap (λ (l : List ℕ). l ++ text) (parts ∙ ap (λ (l : List ℕ). a ++ l) none ∙ append-nil a) ∙ sym goes
    ∙ sym (append-nil b)

begins_still : (all missing text : List ℕ) (a b : Option (List ℕ)) → Continues a b []
    → IfSome a (λ passed. all ≡ passed ++ missing) → IfSome b (λ passed. all ++ text ≡ passed ++ (missing ++ text))
begins_still all missing text a None goes parts = tt
begins_still all missing text None (Some b) goes parts = absurd goes
begins_still all missing text (Some a) (Some b) goes parts =
    ap (λ (l : List ℕ). l ++ text) (parts ∙ ap (λ (l : List ℕ). l ++ missing) (sym (goes ∙ append-nil a)))
    ∙ append_assoc b missing text

or_false : (a b : Bool) → (a || b) ≡ false → b ≡ false
or_false true b e = absurd (cc e)
or_false false b e = e

ended_true : (o : Overflow) (n : ℕ) → o ≡ End → 0 < n → (ends o && nat_lt 0 n) ≡ true
ended_true o n is some = rw is (grind (arith, nat_tests, some))

module _ {P : Type 0} (calls : P → Option (List PipeCall)) where
  -- The stream after some of the queue was passed on, and text joined the queue.
  grown : (most : ℕ) (rest text : List ℕ) (before after : Outlet P) → PassesOn calls most rest before after
      → queued after ≡ rest ++ text → Continues (stream calls before) (stream calls after) text
  grown most rest text before after passed queue =
      subst (λ (l : List ℕ). Continues (stream calls before) (option_map (λ made. taken_in made ++ l) (calls (pipe after))) text)
      (sym queue) (stream_moves (option_map_or (λ error. 0) (failure before) most) (queued before) rest text passed.made
      (calls (pipe before)) (calls (pipe after)) passed.called passed.passes)

  pub flush_keeps : (most : ℕ) (before after : Outlet P) → IsFlushed calls most before after
      → Continues (stream calls before) (stream calls after) []
  flush_keeps most before after flushed =
      grown most (queued after) [] before after flushed.passed (sym (append-nil (queued after)))

  written_grows : (text : List ℕ) (before after : Outlet P) (dropped : Bool) → (written : IsWritten calls text before after)
      → drops before written.rest text ≡ dropped
      → Continues (stream calls before) (stream calls after) (if dropped then [] else text)
  written_grows text before after true written is =
      grown _ written.rest [] before after written.passed (rw is at written.queue ∙ sym (append-nil written.rest))
  written_grows text before after false written is =
      grown _ written.rest text before after written.passed (rw is at written.queue)

  pub write_grows : (text : List ℕ) (before after : Outlet P) → (written : IsWritten calls text before after)
      → Continues (stream calls before) (stream calls after) (if drops before written.rest text then [] else text)
  write_grows text before after written = written_grows text before after (drops before written.rest text) written refl

  pub after_flush : (all : List ℕ) (most : ℕ) (before after : Outlet P) → IsFlushed calls most before after
      → BeginsWithStream calls all before → BeginsWithStream calls all after
  after_flush all most before after flushed begins = record {
    missing = begins.missing ++ [];
    parts = rw (append-nil all) at (begins_still all begins.missing [] (stream calls before) (stream calls after)
        (flush_keeps most before after flushed) begins.parts);
    whole = λ e. append-nil begins.missing ∙ begins.whole (rw (← flushed.passed.same_overflow, ← flushed.count) e);
  }

  written_as : (all text : List ℕ) (before after : Outlet P) (dropped : Bool)
      → (written : IsWritten calls text before after) → drops before written.rest text ≡ dropped
      → overflow before ≡ End → BeginsWithStream calls all before → BeginsWithStream calls (all ++ text) after
  written_as all text before after true written is end begins =
      let count : dropped after ≡ min (dropped before + 1) (2 ^ 64 - 1) = rw is at written.count in
      record {
        missing = begins.missing ++ text;
        parts = begins_still all begins.missing text (stream calls before) (stream calls after)
            (written_grows text before after true written is) begins.parts;
        whole = λ e. absurd (cc (
          e,
          ended_true (overflow after) (dropped after) (written.passed.same_overflow ∙ end)
              (omega (arith, count)),
        ));
      }
  written_as all text before after false written is ends begins = record {
    missing = [];
    parts = begins_after all begins.missing text (stream calls before) (stream calls after)
        (written_grows text before after false written is) begins.parts (begins.whole (or_false _ _ is));
    whole = λ e. refl;
  }

  pub after_write : (all text : List ℕ) (before after : Outlet P) → IsWritten calls text before after
      → overflow before ≡ End → BeginsWithStream calls all before → BeginsWithStream calls (all ++ text) after
  after_write all text before after written ends begins =
      written_as all text before after (drops before written.rest text) written refl ends begins
