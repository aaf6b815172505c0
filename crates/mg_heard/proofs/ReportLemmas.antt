-- Adding one more entry to a report.
use Rattle.std.proofs.Common.{◌≡◌, ℕ, Bool, true, false, cond, List, [], ◌∷◌, ◌++◌, Option, Result, Ok, Err, OnOk, filter, refl, sym, ap, subst, ◌∙◌}
use Rattle.std.specs.Io.KnownBytes.{Appends}
use Rattle.std.proofs.KnownBytes.{Appends-trans}
use Rattle.std.proofs.lemmas.List.{append-nil}
use Rattle.std.proofs.lemmas.List.Folds.{concat-append}
use Rattle.std.specs.List.{AllZip, concat}
use Rattle.mg_heard.specs.declared.entry.Entry.{Entry}
use Rattle.mg_heard.specs.declared.style.Style.{Style}
use Rattle.mg_heard.specs.declared.query.Query.{Query}
use Rattle.mg_heard.specs.Lines.{AreLines, IsLine}
use Rattle.mg_heard.specs.Query.{selects_entry}
use Rattle.mg_heard.specs.aids.Reporting.{HasReported, Reported}

lines_zipped : (style : Style) (xs : List Entry) (x : Entry) (lines : List (List ℕ)) (line : List ℕ) →
    AllZip (IsLine style) xs lines → IsLine style x line → AllZip (IsLine style) (xs ++ x ∷ []) (lines ++ line ∷ [])
lines_zipped style [] x [] line h is = (is, tt)
lines_zipped style [] x (first ∷ lines) line h is = absurd h
lines_zipped style (y ∷ xs) x [] line h is = absurd h
lines_zipped style (y ∷ xs) x (first ∷ lines) line h is = (h.0, lines_zipped style xs x lines line h.1 is)

-- Lines for some entries, followed by the line of one more entry, are lines for all of them.
lines_more : (style : Style) (xs : List Entry) (x : Entry) (text line : List ℕ) → AreLines style xs text →
    IsLine style x line → AreLines style (xs ++ x ∷ []) (text ++ line)
lines_more style xs x text line (lines, zipped, e) is = (
  lines ++ line ∷ [],
  lines_zipped style xs x lines line zipped is,
  ap (λ (l : List ℕ). l ++ line) e ∙ ap (λ (l : List ℕ). concat lines ++ l) (sym (append-nil line))
      ∙ sym (concat-append lines (line ∷ [])),
)

cond_first : (b : Bool) (y : Entry) (all before more : List Entry) → all ≡ before ++ more →
    cond b (y ∷ all) all ≡ cond b (y ∷ before) before ++ more
cond_first true y all before more h = ap (λ (l : List Entry). y ∷ l) h
cond_first false y all before more h = h

filter_more : (q : Entry → Bool) (xs : List Entry) (x : Entry) → filter q (xs ++ x ∷ []) ≡ filter q xs ++ filter q (x ∷ [])
filter_more q [] x = refl
filter_more q (y ∷ xs) x = cond_first (q y) y (filter q (xs ++ x ∷ [])) (filter q xs) (filter q (x ∷ [])) (filter_more q xs x)

only_one : (q : Entry → Bool) (x : Entry) (b : Bool) → q x ≡ b → filter q (x ∷ []) ≡ cond b (x ∷ []) []
only_one q x b e = ap (λ (b : Bool). cond b (x ∷ []) []) e

-- If the query selects an entry and its line is written, `HasReported` still holds with that entry.
pub reported_more : (start old : Reported) (before : List Entry) (x : Entry) (line : List ℕ) (new : Option (List ℕ)) →
    selects_entry old.query x ≡ true → IsLine old.style x line → Appends old.written new line →
    HasReported start old before → HasReported start (record old { written = new }) (before ++ x ∷ [])
reported_more start old before x line new asked is writes h =
    let (text, lines, wrote) = h.lines in
    let q = selects_entry start.query in
    let all = filter_more q before x ∙ ap (λ (l : List Entry). filter q before ++ l)
    (only_one q x true (ap (λ (y : Query). selects_entry y x) (sym h.query) ∙ asked)) in
    record {
      style = h.style;
      query = h.query;
      lines = (
        text ++ line,
        subst (λ (l : List Entry). AreLines start.style l (text ++ line)) (sym all)
            (lines_more start.style (filter q before) x text line lines
            (subst (λ (f : Style). IsLine f x line) h.style is)),
        Appends-trans start.written old.written new text line wrote writes,
      );
    }

-- If the query doesn't select an entry, `HasReported` still holds with that entry, although nothing is written.
pub reported_same : (start old : Reported) (before : List Entry) (x : Entry) → selects_entry old.query x ≡ false →
    HasReported start old before → HasReported start old (before ++ x ∷ [])
reported_same start old before x other h =
    let (text, lines, wrote) = h.lines in
    let q = selects_entry start.query in
    let all = filter_more q before x ∙ ap (λ (l : List Entry). filter q before ++ l)
    (only_one q x false (ap (λ (y : Query). selects_entry y x) (sym h.query) ∙ other))
    ∙ append-nil (filter q before) in
    record {
      style = h.style;
      query = h.query;
      lines = (text, subst (λ (l : List Entry). AreLines start.style l text) (sym all) lines, wrote);
    }

-- If the query selects an entry, `HasReported` still holds with that entry, unless the writer fails.
pub reported_more_on : {E : Type 0} (start old : Reported) (before : List Entry) (x : Entry) (new : Option (List ℕ))
    (result : Result (Unit {0}) E) → selects_entry old.query x ≡ true →
    OnOk result ((line : List ℕ) × IsLine old.style x line × Appends old.written new line) →
    HasReported start old before → OnOk result (HasReported start (record old { written = new }) (before ++ x ∷ []))
reported_more_on start old before x new (Ok done) asked (line, is, writes) h =
    reported_more start old before x line new asked is writes h
reported_more_on start old before x new (Err error) asked writes h = tt
