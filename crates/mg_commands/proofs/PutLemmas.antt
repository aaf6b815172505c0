-- Putting items into a reply one after another.
use Rattle.std.proofs.Common.{◌≡◌, ℕ, arith, ◌+◌, ◌<◌, ◌≤◌, List, [], ◌∷◌, ◌++◌, length, map, get_or, drop, refl, sym, ap, ◌∙◌}
use Rattle.std.proofs.lemmas.List.{drop_more, drop_all, drop-map, get_or-map, length-map}
use Rattle.std.proofs.lemmas.Simd.{map-map}
use Rattle.mg_reply.specs.declared.item.Item.{Item}
use Rattle.mg_reply.specs.Reply.{Answered, after_put, after_all}
use Rattle.mg_engine.specs.Gateway.{Gateway}
use Rattle.mg_engine.specs.declared.seated_member.SeatedMember.{SeatedMember}
use Rattle.mg_commands.specs.ContextProperties.{audit_pair, audit_pairs}

pub after_all-append : (base : Answered) (xs ys : List Item) →
    after_all base (xs ++ ys) ≡ after_all (after_all base xs) ys
after_all-append base [] ys = refl
after_all-append base (x ∷ xs) ys = after_all-append (after_put base x) xs ys

-- Putting one more item extends the list of items in the reply.
pub put_next : (base before : Answered) (xs : List Item) (x : Item) → before ≡ after_all base xs →
    after_put before x ≡ after_all base (xs ++ x ∷ [])
put_next base before xs x h = ap (λ (r : Answered). after_put r x) h ∙ sym (after_all-append base xs (x ∷ []))

-- Putting more items extends the list of items in the reply.
pub put_more : (base before reported : Answered) (xs ys : List Item) → before ≡ after_all base xs →
    reported ≡ after_all before ys → reported ≡ after_all base (xs ++ ys)
put_more base before reported xs ys h put = put ∙ ap (λ (r : Answered). after_all r ys) h ∙
    sym (after_all-append base xs ys)

-- ## The loop over members

pub member_told : (w : Gateway) (xs : List ℕ) (i d : ℕ) (before reported whole : Answered) → i < length xs →
    reported ≡ after_all before (map (audit_pair w (get_or xs i d)) (drop (i + 1) xs)) →
    after_all before (audit_pairs w (drop i xs)) ≡ whole → after_all reported (audit_pairs w (drop (i + 1) xs)) ≡ whole
unfolding audit_pairs
member_told w xs i d before reported whole lt put h =
    let rest = audit_pairs w (drop (i + 1) xs) in
    let split = ap (λ (ys : List ℕ). after_all before (audit_pairs w ys)) (drop_more xs i d lt) in
    ap (λ (r : Answered). after_all r rest) put ∙
    sym (after_all-append before (map (audit_pair w (get_or xs i d)) (drop (i + 1) xs)) rest) ∙ sym split ∙ h

-- The numbers of the members.
abbrev pub numbers : List SeatedMember → List ℕ
numbers ms = map (λ m. m.number) ms

pub seated_told : (w : Gateway) (ms : List SeatedMember) (i : ℕ) (d : SeatedMember) (before reported whole : Answered) →
    i < length ms → reported ≡ after_all before (map (λ m. audit_pair w (get_or ms i d).number m.number)
    (drop (i + 1) ms)) → after_all before (audit_pairs w (drop i (numbers ms))) ≡ whole →
    after_all reported (audit_pairs w (drop (i + 1) (numbers ms))) ≡ whole
seated_told w ms i d before reported whole lt put h =
    let f : SeatedMember → ℕ = λ m. m.number in
    let first = get_or-map f ms i d 0 lt in
    let later = sym (map-map (audit_pair w (get_or ms i d).number) f (drop (i + 1) ms)) ∙
    ap (map (audit_pair w (get_or ms i d).number)) (sym (drop-map f (i + 1) ms)) in
    let same = later ∙ ap (λ (n : ℕ). map (audit_pair w n) (drop (i + 1) (numbers ms))) (sym first) in
    member_told w (numbers ms) i 0 before reported whole (omega (arith, lt, length-map ms f))
    (put ∙ ap (after_all before) same) h

pub members_told : (w : Gateway) (xs : List ℕ) (i : ℕ) (reported whole : Answered) → length xs ≤ i →
    after_all reported (audit_pairs w (drop i xs)) ≡ whole → reported ≡ whole
unfolding audit_pairs
members_told w xs i reported whole le h = sym (ap (λ (ys : List ℕ). after_all reported (audit_pairs w ys)) (drop_all i xs le))
    ∙ h
