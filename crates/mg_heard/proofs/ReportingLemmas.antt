-- From the entries that a sink received to the text that was written.
use Rattle.std.proofs.Common.{◌≡◌, ℕ, false, List, [], Option, Result, Ok, Err, OnOk, filter, is_err, refl, reverse, subst}
use Rattle.std.specs.Io.KnownBytes.{Appends}
use Rattle.std.proofs.KnownBytes.{Appends-nil, Appends-trans}
use Rattle.mg_core.specs.declared.state.CoreState.{CoreState}
use Rattle.mg_core.specs.Note.{Note}
use Rattle.mg_core.specs.Follow.{IsFollowed}
use Rattle.mg_core.specs.World.{World}
use Rattle.mg_heard.specs.declared.entry.Entry.{Entry}
use Rattle.mg_heard.specs.declared.extent.Extent.{Extent}
use Rattle.mg_heard.specs.declared.style.Style.{Style}
use Rattle.mg_heard.specs.declared.query.Query.{Query}
use Rattle.mg_heard.specs.Lines.{AreLines, head_of}
use Rattle.mg_heard.specs.Query.{selects_entry}
use Rattle.mg_heard.specs.Reported.{WritesReport}
use Rattle.mg_heard.specs.aids.Reporting.{HasReported, Reported}
use Rattle.mg_heard.specs.Times.{extent_of}
use Rattle.mg_heard.specs.Told.{TellsAll}
use Rattle.mg_heard.proofs.KeptTickLemmas.{tells_weaker}

-- If a call did not fail, its postcondition for success holds.
pub if_done : {X E : Type 0} (result : Result (Unit {0}) E) → is_err result ≡ false → OnOk result X → X
if_done (Ok done) ok x = x
if_done (Err error) ok x = absurd cc

-- Before the first entry, nothing has been reported.
pub reported_none : (start : Reported) → HasReported start start []
reported_none start = record {
  style = refl;
  query = refl;
  lines = ([], ([], tt, refl), Appends-nil start.written);
}

-- The head and the lines of the entries make up the report.
pub reported_whole : (style : Style) (query : Query) (old : Option (List ℕ)) (start now : Reported) (xs : List Entry) →
    start.style ≡ style → start.query ≡ query → Appends old start.written (head_of style.format) →
    HasReported start now xs → WritesReport style query old now.written xs
reported_whole style query old start now xs formed asked begins h =
    let (text, lines, wrote) = h.lines in (
      text,
      subst (λ (f : Style). AreLines f (filter (selects_entry query) xs) text) formed
          (subst (λ (q : Query). AreLines start.style (filter (selects_entry q) xs) text) asked lines),
      Appends-trans old start.written now.written (head_of style.format) text begins wrote,
    )

-- If `P` implies `Q`, a script that was followed with `P` was also followed with `Q`.
pub reported_all : (base : World) (input rest : Option (List ℕ)) (A : List Note → Type 0)
    (P Q : Extent → List Entry → Type 0) → ((extent : Extent) (xs : List Entry) → P extent xs → Q extent xs) →
    ((state : CoreState) × IsFollowed base input rest state (λ notes. A notes × TellsAll base notes P)) →
    (state : CoreState) × IsFollowed base input rest state (λ notes. A notes × TellsAll base notes Q)
reported_all base input rest A P Q more (state, h) = (
  state,
  record {
    script = h.script;
    read = h.read;
    notes = h.notes;
    are = h.are;
    run = h.run;
    follows = (h.follows.0, tells_weaker base h.notes P Q (more (extent_of (reverse h.notes))) h.follows.1);
  },
)
