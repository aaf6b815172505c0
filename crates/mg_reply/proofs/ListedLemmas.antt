-- Lists of parts with marks between them, and the items of a kind.
use Rattle.std.proofs.Common.{◌≡◌, ℕ, ◌+◌, ◌<◌, ◌≤◌, Bool, true, false, ◌&&◌, cond, List, [], ◌∷◌, ◌++◌, map, length, get_or, drop, refl, sym, ap, ◌∙◌, append_assoc, codes}
use Rattle.std.proofs.lemmas.List.{append-nil, drop_more, drop_all}
use Rattle.std.specs.List.{filter}
use Rattle.mg_reply.specs.declared.item.Item.{Item}
use Rattle.mg_reply.specs.declared.entry_kind.EntryKind.{EntryKind}
use Rattle.mg_reply.specs.aids.Draft.{Drafted, drafted}
use Rattle.mg_reply.specs.Listed.{listed, grouped}
use Rattle.mg_reply.specs.aids.Marks.{has_no_part, mark_of, closing}
use Rattle.mg_reply.specs.Entries.{is_of, item_text, texts_of, topology_entry}
use Rattle.mg_reply.proofs.DraftLemmas.{drafted-drafted}

pub listed-append : (xs ys : List (List ℕ)) →
    listed (codes ",") (xs ++ ys) ≡ listed (codes ",") xs ++ listed (codes ",") ys
unfolding listed
listed-append [] ys = refl
listed-append (x ∷ xs) ys =
    ap (λ t. codes "," ++ (x ++ t)) (listed-append xs ys)
    ∙ sym (append_assoc (codes ",") (x ++ listed (codes ",") xs) (listed (codes ",") ys) ∙
    ap (λ t. codes "," ++ t) (append_assoc x (listed (codes ",") xs) (listed (codes ",") ys)))

-- The opening mark precedes the next part only if there is no part before it.
pub listed-first-append : (opening : List ℕ) (first : Bool) (xs ys : List (List ℕ)) →
    listed (mark_of opening first) (xs ++ ys) ≡ listed (mark_of opening first) xs ++
    listed (mark_of opening (first && has_no_part xs)) ys
unfolding listed
listed-first-append opening true [] ys = refl
listed-first-append opening false [] ys = refl
listed-first-append opening true (x ∷ xs) ys =
    ap (λ t. opening ++ (x ++ t)) (listed-append xs ys)
    ∙ sym (append_assoc opening (x ++ listed (codes ",") xs) (listed (codes ",") ys) ∙
    ap (λ t. opening ++ t) (append_assoc x (listed (codes ",") xs) (listed (codes ",") ys)))
listed-first-append opening false (x ∷ xs) ys = listed-append (x ∷ xs) ys

pub listed-one : (mark x : List ℕ) → listed mark (x ∷ []) ≡ mark ++ x
unfolding listed
listed-one mark x = ap (λ t. mark ++ t) (append-nil x)

pub grouped-closing : (xs : List (List ℕ)) → grouped xs ≡ listed (codes "{") xs ++ closing (has_no_part xs)
unfolding listed
grouped-closing [] = refl
grouped-closing (x ∷ xs) = refl

pub has_no_part-append : (xs ys : List (List ℕ)) → has_no_part (xs ++ ys) ≡ (has_no_part xs && has_no_part ys)
has_no_part-append [] ys = refl
has_no_part-append (x ∷ xs) ys = refl

pub and_assoc : (a b c : Bool) → ((a && b) && c) ≡ (a && (b && c))
and_assoc true b c = refl
and_assoc false b c = refl

texts_by : (b : Bool) (x : Item) (xs : List Item) →
    map item_text (cond b (x ∷ xs) xs) ≡ map item_text (cond b (x ∷ []) []) ++ map item_text xs
texts_by true x xs = refl
texts_by false x xs = refl

-- The texts of a kind are the first item's text, if the item is of this kind, and then the texts of the other items.
pub texts_of-cons : (kind : EntryKind) (x : Item) (xs : List Item) →
    texts_of kind (x ∷ xs) ≡ texts_of kind (x ∷ []) ++ texts_of kind xs
texts_of-cons kind x xs = texts_by (is_of kind x) x (filter (is_of kind) xs)

-- An item of another kind is not written.
other_by : (mark : List ℕ) (x : Item) (b : Bool) → b ≡ false → listed mark (map item_text (cond b (x ∷ []) [])) ≡ []
unfolding listed
other_by mark x true h = absurd cc
other_by mark x false h = refl

pub one_other : (mark : List ℕ) (kind : EntryKind) (x : Item) → is_of kind x ≡ false →
    listed mark (texts_of kind (x ∷ [])) ≡ []
one_other mark kind x e = other_by mark x (is_of kind x) e

-- An item of this kind is written after the mark.
this_by : (mark : List ℕ) (x : Item) (b : Bool) → b ≡ true →
    listed mark (map item_text (cond b (x ∷ []) [])) ≡ mark ++ item_text x
this_by mark x true h = listed-one mark (item_text x)
this_by mark x false h = absurd cc

pub one_of : (mark : List ℕ) (kind : EntryKind) (x : Item) → is_of kind x ≡ true →
    listed mark (texts_of kind (x ∷ [])) ≡ mark ++ item_text x
one_of mark kind x e = this_by mark x (is_of kind x) e

-- The loop over the items writes the texts of a kind.
pub all_step : (d : Drafted) (opening : List ℕ) (first : Bool) (kind : EntryKind) (xs : List Item) (i : ℕ) (x : Item)
    → i < length xs → drafted (drafted d (listed (mark_of opening first) (texts_of kind (get_or xs i x ∷ []))))
    (listed (mark_of opening (first && has_no_part (texts_of kind (get_or xs i x ∷ []))))
    (texts_of kind (drop (i + 1) xs))) ≡ drafted d (listed (mark_of opening first) (texts_of kind (drop i xs)))
all_step d opening first kind xs i x lt =
    let one = texts_of kind (get_or xs i x ∷ []) in
    let rest = texts_of kind (drop (i + 1) xs) in
    drafted-drafted d (listed (mark_of opening first) one) (listed (mark_of opening (first && has_no_part one)) rest)
    ∙ ap (drafted d) (sym (listed-first-append opening first one rest) ∙
    ap (listed (mark_of opening first)) (sym (texts_of-cons kind (get_or xs i x) (drop (i + 1) xs)) ∙
    ap (texts_of kind) (sym (drop_more xs i x lt))))

pub first_step : (first : Bool) (kind : EntryKind) (xs : List Item) (i : ℕ) (x : Item) → i < length xs →
    ((first && has_no_part (texts_of kind (get_or xs i x ∷ []))) && has_no_part (texts_of kind (drop (i + 1) xs))) ≡
    (first && has_no_part (texts_of kind (drop i xs)))
first_step first kind xs i x lt =
    let one = texts_of kind (get_or xs i x ∷ []) in
    let rest = texts_of kind (drop (i + 1) xs) in
    and_assoc first (has_no_part one) (has_no_part rest)
    ∙ ap (λ b. first && b) (sym (has_no_part-append one rest) ∙
    ap has_no_part (sym (texts_of-cons kind (get_or xs i x) (drop (i + 1) xs)) ∙
    ap (texts_of kind) (sym (drop_more xs i x lt))))

pub all_end : (d : Drafted) (mark : List ℕ) (kind : EntryKind) (xs : List Item) (i : ℕ) → length xs ≤ i →
    drafted d (listed mark (texts_of kind (drop i xs))) ≡ drafted d []
unfolding listed
all_end d mark kind xs i le = rw (drop_all i xs le) refl

-- Writing the triples in braces writes the topology as the first entry.
pub topology_is : (xs : List (List ℕ)) → listed (codes "{Topology{") xs ++
    closing (has_no_part xs) ≡ listed (codes "{") (topology_entry xs)
unfolding listed
topology_is [] = refl
topology_is (x ∷ xs) = sym (listed-one (codes "{") (listed (codes "Topology{") (x ∷ xs) ++ codes "}"))

-- Writing the topology, the commands and the errors, with the braces around them, writes all entries.
pub entries_are : (xs ys zs : List (List ℕ)) →
    ((listed (codes "{") xs ++ listed (mark_of (codes "{") (has_no_part xs)) ys) ++
    listed (mark_of (codes "{") (has_no_part xs && has_no_part ys)) zs) ++
    closing ((has_no_part xs && has_no_part ys) && has_no_part zs) ≡ grouped (xs ++ (ys ++ zs))
entries_are xs ys zs =
    let both = has_no_part-append xs ys in
    ap (λ b. ((listed (codes "{") xs ++ listed (mark_of (codes "{") (has_no_part xs)) ys) ++
    listed (mark_of (codes "{") b) zs) ++ closing (b && has_no_part zs)) (sym both)
    ∙ ap (λ t. (t ++ listed (mark_of (codes "{") (has_no_part (xs ++ ys))) zs) ++
    closing (has_no_part (xs ++ ys) && has_no_part zs)) (sym (listed-first-append (codes "{") true xs ys))
    ∙ ap (λ t. t ++ closing (has_no_part (xs ++ ys) && has_no_part zs))
    (sym (listed-first-append (codes "{") true (xs ++ ys) zs))
    ∙ ap (λ b. listed (codes "{") ((xs ++ ys) ++ zs) ++ closing b) (sym (has_no_part-append (xs ++ ys) zs))
    ∙ sym (grouped-closing ((xs ++ ys) ++ zs))
    ∙ ap grouped (append_assoc xs ys zs)
