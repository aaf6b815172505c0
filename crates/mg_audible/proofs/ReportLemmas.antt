-- From the entries that a sink received to the text that was written, and whether the script has RTP datagrams.
use Rattle.std.proofs.Common.{◌≡◌, ℕ, ◌+◌, ltb, lt-ltb, ◌||◌, Bool, true, false, cond, List, [], ◌∷◌, Option, refl, sym, ap, ◌∙◌, arith}
use Rattle.std.specs.Prelude.{count_by}
use Rattle.std.proofs.lemmas.Bool.Decides.{nat_tests}
use Rattle.std.proofs.lemmas.List.Sums.{sum_by-cons}
use Rattle.std.specs.List.{list_any}
use Rattle.mg_core.specs.Counting.{is_media}
use Rattle.mg_core.specs.Follow.{IsFollowed}
use Rattle.mg_core.specs.Note.{events_in}
use Rattle.mg_core.specs.World.{World, capped}
use Rattle.mg_core.specs.declared.event.Event.{Event}
use Rattle.mg_core.specs.declared.state.CoreState.{CoreState}
use Rattle.mg_heard.specs.declared.entry.Entry.{Entry}
use Rattle.mg_audible.specs.Told.{TellsAudible}

-- If `P` implies `Q`, a script that was followed with `P` was also followed with `Q`.
pub reported_all : (base : World) (talker : ℕ) (has_rtp : Bool) (input rest : Option (List ℕ))
    (P Q : List Entry → Type 0) → ((xs : List Entry) → P xs → Q xs) →
    ((state : CoreState) × IsFollowed base input rest state
    (λ notes. TellsAudible base talker notes P × (has_rtp ≡ list_any is_media (events_in notes)))) →
    (state : CoreState) × IsFollowed base input rest state
    (λ notes. TellsAudible base talker notes Q × (has_rtp ≡ list_any is_media (events_in notes)))
reported_all base talker has_rtp input rest P Q more (state, h) = (
  state,
  record {
    script = h.script;
    read = h.read;
    notes = h.notes;
    are = h.are;
    run = h.run;
    follows = (
      record {
        xs = h.follows.0.xs;
        no_others = h.follows.0.no_others;
        are = h.follows.0.are;
        differ = h.follows.0.differ;
        speech = h.follows.0.speech;
        gaps = h.follows.0.gaps;
        dated = h.follows.0.dated;
        told = more h.follows.0.xs h.follows.0.told;
      },
      h.follows.1,
    );
  },
)

-- ## RTP datagrams

any_more : (b rest : Bool) (n m : ℕ) → m ≡ cond b 1 0 + n → rest ≡ ltb 0 n → (b || rest) ≡ ltb 0 m
any_more true rest n m e h = sym (lt-ltb 0 m (omega (arith, e)))
any_more false rest n m e h = let same : n ≡ m = omega (arith, e) in h ∙ ap (ltb 0) same

any_counted : (events : List Event) → list_any is_media events ≡ ltb 0 (count_by is_media events)
any_counted [] = refl
any_counted (e ∷ es) = any_more (is_media e) (list_any is_media es) (count_by is_media es)
    (count_by is_media (e ∷ es)) (sum_by-cons (λ (x : Event). cond (is_media x) 1 0) e es) (any_counted es)

still_above : (n m : ℕ) → m ≡ capped n → ltb 0 m ≡ ltb 0 n
still_above n m is = grind (arith, nat_tests)

-- A capped count of RTP datagrams is above 0 if and only if there is such a datagram.
pub has_media : (events : List Event) (n counted : ℕ) → n ≡ count_by is_media events → counted ≡ capped n →
    ltb 0 counted ≡ list_any is_media events
has_media events n counted e is = still_above n counted is ∙ ap (ltb 0) e ∙ sym (any_counted events)
