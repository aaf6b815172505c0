-- The lines about missing terminations.
use Rattle.std.proofs.Common.{◌≡◌, ◌∙◌, ◌+◌, ◌<◌, ◌≤◌, ◌++◌, ◌∷◌, [], ℕ, List, Option, Some, None, ap, arith, drop, get_or, length, min, refl, subst, sym, inl, inr}
use Rattle.std.proofs.lemmas.Bool.{cases_lt}
use Rattle.std.proofs.lemmas.List.{append-nil, append_assoc, at_drop_all, at_drop_more}
use Rattle.std.specs.Io.KnownBytes.{Appends}
use Rattle.mg_options.specs.Status.{UnlessFault}
use Rattle.mg_options.specs.declared.status.Status.{Status}
use Rattle.mg_heard.specs.declared.asked_rule.AskedRule.{AskedRule}
use Rattle.mg_heard.specs.declared.missing.Missing.{Missing}
use Rattle.mg_hearing.specs.Absence.{Receives, absence_line, absences}
use Rattle.mg_hearing.specs.aids.Absences.{all_absences}

appends_nothing : (known : Option (List ℕ)) → Appends known known []
appends_nothing None = tt
appends_nothing (Some xs) = sym (append-nil xs)

-- A writer that is unchanged has received nothing.
pub receives_nothing : {E : Type 0} (contents : E → Option (List ℕ)) (old new : E) → new ≡ old →
    Receives contents old new []
receives_nothing contents old new is =
    subst (λ e. Receives contents old e []) (sym is) (λ none. refl, appends_nothing (contents old))

pub receives_from : {E : Type 0} (contents : E → Option (List ℕ)) (old mid new : E) (text : List ℕ) → mid ≡ old →
    Receives contents mid new text → Receives contents old new text
receives_from contents old mid new text is h = subst (λ e. Receives contents e new text) is h

-- Unless the report of who is missing fails, what is true of the given status is true of the returned status.
pub reported : (Heard : Status → Type 0) (given status : Status) (says : Type 0) → (says → Heard given) →
    UnlessFault ((status ≡ given) × says) status → UnlessFault (Heard status) status
reported Heard given status says more (inl fault) = inl fault
reported Heard given status says more (inr (is, said)) = inr (subst Heard (sym is) (more said))

-- ## Lines for rules

none_missing : (name : List ℕ) (rules : List AskedRule) → all_absences name rules [] ≡ []
none_missing name [] = refl
none_missing name (rule ∷ rules) = refl

-- When no rule or no answer is left, no line is left.
pub absences_done : (name : List ℕ) (rules : List AskedRule) (missing : List Missing) (i : ℕ) →
    min (length rules) (length missing) ≤ i → all_absences name (drop i rules) (drop i missing) ≡ []
absences_done name rules missing i reached =
    elim (cases_lt i (length rules)) [
      | inl within ↦
          (let over : length missing ≤ i = omega (arith, reached, within) in
          at_drop_all (λ (l : List Missing). all_absences name (drop i rules) l) missing i over
          ∙ none_missing name (drop i rules))
      | inr over ↦ at_drop_all (λ (l : List AskedRule). all_absences name l (drop i missing)) rules i over
    ]

-- Writing the lines for one more rule moves them from the remaining lines to the text.
pub absences_more : (name : List ℕ) (rules : List AskedRule) (missing : List Missing) (i : ℕ) (r : AskedRule)
    (d : Missing) (before whole : List ℕ) → i < length rules → i < length missing → get_or rules i r ≡ r →
    before ++ all_absences name (drop i rules) (drop i missing) ≡ whole →
    ((before ++ absence_line name r.talker (get_or missing i d).talker)
    ++ absence_line name r.listener (get_or missing i d).listener)
    ++ all_absences name (drop (i + 1) rules) (drop (i + 1) missing) ≡ whole
absences_more name rules missing i r d before whole there within rule_is is =
    let m = get_or missing i d in
    let rest = all_absences name (drop (i + 1) rules) (drop (i + 1) missing) in
    let talker = absence_line name r.talker m.talker in
    let listener = absence_line name r.listener m.listener in
    ap (λ (l : List ℕ). l ++ rest) (append_assoc before talker listener)
    ∙ append_assoc before (talker ++ listener) rest
    ∙ ap (λ (l : List ℕ). before ++ l) (
    ap (λ (x : AskedRule). absences name x.talker x.listener m ++ rest) (sym rule_is)
    ∙ sym (
    at_drop_more (λ (l : List AskedRule). all_absences name l (drop i missing)) rules i r there
    ∙ at_drop_more (λ (l : List Missing). all_absences name (get_or rules i r ∷ drop (i + 1) rules) l) missing i d within
    )
    )
    ∙ is
