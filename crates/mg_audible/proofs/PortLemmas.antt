-- The search for the termination with a port.
use Rattle.std.proofs.Common.{◌≡◌, ℕ, ◌+◌, ◌<◌, ◌≤◌, Bool, true, false, cond, List, [], ◌∷◌, ◌++◌, find, get_or, take, drop, length, Option, Some, None, sym, ap, ◌∙◌}
use Rattle.std.specs.Option.{option_or}
use Rattle.std.proofs.lemmas.List.{drop_more, take-append-drop, take_all, take_more}
use Rattle.std.proofs.lemmas.List.Folds.{find-append}
use Rattle.mg_rooms.specs.declared.record.Record.{Record}

pub not_yet : (p : Record → Bool) (rs : List Record) (i : ℕ) (r : Record) → i < length rs → get_or rs i r ≡ r →
    p r ≡ false → find p (take i rs) ≡ None → find p (take (i + 1) rs) ≡ None
not_yet p rs i r there is misses h =
    ap (find p) (take_more rs i r there ∙ ap (λ (x : Record). take i rs ++ x ∷ []) is)
    ∙ find-append p (take i rs) (r ∷ []) ∙ ap (λ (o : Option Record). option_or o (find p (r ∷ []))) h
    ∙ ap (λ (b : Bool). cond b (Some r) None) misses

pub found_here : (p : Record → Bool) (rs : List Record) (i : ℕ) (r : Record) → i < length rs → get_or rs i r ≡ r →
    p r ≡ true → find p (take i rs) ≡ None → find p rs ≡ Some r
found_here p rs i r there is hits h =
    ap (find p) (sym (take-append-drop i rs)) ∙ find-append p (take i rs) (drop i rs)
    ∙ ap (λ (o : Option Record). option_or o (find p (drop i rs))) h
    ∙ ap (find p) (drop_more rs i r there ∙ ap (λ (x : Record). x ∷ drop (i + 1) rs) is)
    ∙ ap (λ (b : Bool). cond b (Some r) (find p (drop (i + 1) rs))) hits

pub not_there : (p : Record → Bool) (rs : List Record) (i : ℕ) → length rs ≤ i → find p (take i rs) ≡ None →
    find p rs ≡ None
not_there p rs i past h = sym (ap (find p) (take_all i rs past)) ∙ h
