-- An edit or an RTP datagram elsewhere does not affect a context.
use Rattle.mg_engine.proofs.Common.{◌≡◌, ℕ, ℤ, pos, eqb, not, ◌&&◌, Bool, true, false, cond, List, [], ◌∷◌, Option, Some, None, Result, Ok, Err, refl, sym, ap, subst, ◌∙◌, IsSome, is_some, eq-eqb, ne_eqb, same_Some, talks, ErrorNumber, Header, Reading, Context, Record, Settings, Target, is_number, record_at, context_at, members_at, IsSound, Taken, TopologyTriple, Arrived, Takes, arrived, at_port, taken_at, frame_placed_at, taken_by, has, may_hear, Gateway, TerminationMedia, ContextEdit, Apply, Enter, media_of, new_media, frame_in, added, modified, moved, subtracted, existing_context, tuned, check_triples, with_triples, slice_index_or, Registry, total, part_of_total, find-change_other, find-push_other, listens, context_in, mode_or_inactive, check_triple, matched, names_others, bind_ok, false_from_ne_true, not-false, true≢false, get_or, list_any_at, sum_of-agree, arith, nat_tests, sum_of}
use Rattle.mg_rooms.specs.declared.target.Target.TheVariants.{Null, New, Number}
use Rattle.mg_rooms.specs.Outcome as commands
use Rattle.mg_rooms.specs.aids.Found.{members_of}
use Rattle.mg_engine.specs.declared.done.Done.{Done}
use Rattle.mg_engine.specs.declared.done.Done.TheVariants.{Termination, Topology}
use Rattle.mg_engine.specs.declared.edit.Edit.{Edit}
use Rattle.mg_engine.specs.declared.edit.Edit.TheVariants as edits
use Rattle.mg_engine.specs.declared.triple_term.TripleTerm.{TripleTerm}
use Rattle.mg_engine.specs.declared.triple_term.TripleTerm.TheVariants as terms
use Rattle.mg_engine.specs.Flow.{flow, hears}
use Rattle.mg_engine.specs.Unaffected.{IsUnaffected, IsEditElsewhere, IsPortElsewhere, is_member}
use Rattle.mg_engine.specs.Outcome.{add, modify, move_to, subtract, apply_triples, done_as, outcome}
use Rattle.mg_engine.proofs.ElsewhereLemmas.{Spares, add_spares, modify_spares, move_spares, subtract_spares}
use Rattle.mg_engine.proofs.OrderLemmas.{done_gives, other_media}

-- ## A context whose records and media are unchanged

-- These definitions say who hears whom, whose speech flows to whom, and what a member adds to a total. They use only
-- the records of the terminations, the last word on the pair, and the member's media.
abbrev share : Option Record → Option Record → ℕ → ℕ → Bool
share r q a b = is_some r && (is_some q && (eqb (context_in r) (context_in q) && not (eqb a b)))

abbrev flow_by : Option Record → Option Record → Bool → ℕ → ℕ → Bool
flow_by r q word a b = eqb (context_in r) (context_in q) && (not (eqb a b) &&
    (talks (mode_or_inactive r) && (listens (mode_or_inactive q) && word)))

abbrev part : Option Record → Option TerminationMedia → ℕ → ℤ
part r s i = cond (talks (mode_or_inactive r)) (slice_index_or (frame_in s) i (pos 0)) (pos 0)

sums_agree : (f g : ℕ → ℤ) (ns : List ℕ) → ((n : ℕ) → has ns n ≡ true → f n ≡ g n) → sum_of f ns ≡ sum_of g ns
sums_agree f g ns same = sum_of-agree f g ns (λ i d lt. let n = get_or ns i d in
    same n (list_any_at (λ m. eqb m n) ns i d lt (eq-eqb n n refl)))

module _ (w next : Gateway) (c : ℕ) (context : context_at next.rooms c ≡ context_at w.rooms c)
    (records : (n : ℕ) → is_member w c n ≡ true → record_at next.rooms n ≡ record_at w.rooms n)
    (media : (n : ℕ) → is_member w c n ≡ true → media_of next n ≡ media_of w n)
    (words : (a b : ℕ) → is_member w c a ≡ true → is_member w c b ≡ true →
    may_hear next.edits a b ≡ may_hear w.edits a b) where
  hears_same : (a b : ℕ) → is_member w c a ≡ true → is_member w c b ≡ true → hears next a b ≡ hears w a b
  hears_same a b one two = λ i. share (records a one i) (records b two i) a b && words a b one two i

  flows_same : (a b : ℕ) → is_member w c a ≡ true → is_member w c b ≡ true → flow next a b ≡ flow w a b
  flows_same a b one two = λ i. flow_by (records a one i) (records b two i) (words a b one two i) a b

  part_same : (i n : ℕ) → is_member w c n ≡ true → part_of_total next i n ≡ part_of_total w i n
  part_same i n there = λ j. part (records n there j) (media n there j) i

  total_same : (i : ℕ) → total next c i ≡ total w c i
  total_same i = ap (λ (o : Option Context). sum_of (part_of_total next i) (members_of o)) context
      ∙ sums_agree (part_of_total next i) (part_of_total w i) (members_at w.rooms c) (part_same i)

  alone : IsUnaffected w next c
  alone = assumption (hears_same, flows_same, total_same)

-- In a gateway that has not changed, each context is unaffected.
same_alone : (w : Gateway) (c : ℕ) → IsUnaffected w w c
same_alone w c = alone w w c refl (λ n there. refl) (λ n there. refl) (λ a b one two. refl)

-- ## Commands

-- A member differs from a termination that is not a member.
apart_from : (w : Gateway) (c n m : ℕ) → is_member w c n ≡ false → is_member w c m ≡ true → eqb n m ≡ false
apart_from w c n m out within = ne_eqb n m (λ same. true≢false (sym within ∙ ap (is_member w c) (sym same) ∙ out))

turned_from : (w : Gateway) (c n m : ℕ) → is_member w c n ≡ false → is_member w c m ≡ true → eqb m n ≡ false
turned_from w c n m out within = ne_eqb m n (λ same. true≢false (sym within ∙ ap (is_member w c) same ∙ out))

-- An Enter of a termination that is not a member does not change the last word on two members.
entry_elsewhere : (w : Gateway) (c n : ℕ) (es : List ContextEdit) → is_member w c n ≡ false → (a b : ℕ) →
    is_member w c a ≡ true → is_member w c b ≡ true → may_hear (Enter n ∷ es) a b ≡ may_hear es a b
entry_elsewhere w c n es out a b one two = rw (turned_from w c n a out one, turned_from w c n b out two) refl

module _ (w : Gateway) (z : Registry) (d : Record) (c : ℕ) (s : Spares w.rooms z c d.number) where
  kept : (n : ℕ) → is_member w c n ≡ true → record_at z n ≡ record_at w.rooms n
  kept n there = s.records n (apart_from w c d.number n s.apart there)

  tuned_elsewhere : (settings : Settings) (n : ℕ) → is_member w c n ≡ true →
      media_of (modified w settings z d) n ≡ media_of w n
  tuned_elsewhere settings n there =
      find-change_other (λ s. s.number) d.number n (λ s. Some (tuned settings s)) w.media (λ x at. refl)
      (apart_from w c d.number n s.apart there)

  added_alone : (settings : Settings) → IsUnaffected w (added w settings z d) c
  added_alone settings = alone w (added w settings z d) c s.context kept
      (λ n there. find-push_other (λ s. eqb s.number n) w.media (tuned settings (new_media d.number))
      (apart_from w c d.number n s.apart there)) (entry_elsewhere w c d.number w.edits s.apart)

  modified_alone : (settings : Settings) → IsUnaffected w (modified w settings z d) c
  modified_alone settings = alone w (modified w settings z d) c s.context kept (tuned_elsewhere settings)
      (λ a b one two. refl)

  moved_alone : (settings : Settings) → IsUnaffected w (moved w settings z d) c
  moved_alone settings = alone w (moved w settings z d) c s.context kept (tuned_elsewhere settings)
      (entry_elsewhere w c d.number w.edits s.apart)

  subtracted_alone : IsUnaffected w (subtracted w z d) c
  subtracted_alone = alone w (subtracted w z d) c s.context kept
      (λ n there. find-change_other (λ s. s.number) d.number n (λ _. None) w.media (λ x at. tt)
      (apart_from w c d.number n s.apart there)) (λ a b one two. refl)

-- ## Triples

-- A term that names only members does not match a termination that is not a member.
unmatched : (members : List ℕ) (term : TripleTerm) (a : ℕ) → names_others members term ≡ false →
    has members a ≡ false → has (matched members term) a ≡ false
unmatched members terms.Every a names out = out
unmatched members (terms.Number k) a names out =
    rw (ne_eqb k a (λ same. true≢false (sym (not-false (has members k) names) ∙ ap (has members) same ∙ out))) refl
unmatched members terms.Barred a names out = refl
unmatched members terms.Stranger a names out = refl

named_members : (members : List ℕ) (x : TopologyTriple) (u : Unit {0}) → check_triple members x ≡ Ok u →
    names_others members x.first ≡ false
named_members members x u e = grind (arith, nat_tests)

unsaid : (first second : List ℕ) (association : _) (es : List ContextEdit) (a b : ℕ) → has first a ≡ false →
    has first b ≡ false → may_hear (Apply first second association ∷ es) a b ≡ may_hear es a b
unsaid first second association es a b one two = rw (one, two) refl

-- Triples among the members do not change the last word on two terminations that are not members.
words_elsewhere : (members : List ℕ) (xs : List TopologyTriple) (es : List ContextEdit) (a b : ℕ) (u : Unit {0}) →
    check_triples members xs ≡ Ok u → has members a ≡ false → has members b ≡ false →
    may_hear (with_triples members xs es) a b ≡ may_hear es a b
words_elsewhere members [] es a b u e one two = refl
words_elsewhere members (x ∷ xs) es a b u e one two =
    let (v, here, rest) = bind_ok (check_triple members x) _ u e in
    let names = named_members members x v here in
    words_elsewhere members xs (Apply (matched members x.first) (matched members x.second) x.association ∷ es) a b u
    rest one two
    ∙ unsaid (matched members x.first) (matched members x.second) x.association es a b
    (unmatched members x.first a names one) (unmatched members x.first b names two)

-- A member of one context is not a member of another.
one_context : (w : Gateway) (c t n : ℕ) → IsSound w.rooms → eqb t c ≡ false → is_member w c n ≡ true →
    is_member w t n ≡ false
one_context w c t n h apart within = false_from_ne_true (is_member w t n) (λ e.
    let (r, found, here) = (h.members c n).0 within in
    let (q, also, too) = (h.members t n).0 e in
    let is = same_Some r q (sym found ∙ also) in
    true≢false (sym (eq-eqb t c (sym too ∙ ap (λ (x : Record). x.context) (sym is) ∙ here)) ∙ apart))

another_target : (w : Registry) (target : Target) (t c : ℕ) → existing_context w target ≡ Ok t →
    is_number target c ≡ false → eqb t c ≡ false
another_target w Null t c e apart = absurd (cc e)
another_target w New t c e apart = absurd (cc e)
another_target w (Number k) t c e apart =
    let (_, _, one) = bind_ok (commands.there w k) _ t e in
    let is : k ≡ t = cc in ap (λ (i : ℕ). eqb i c) (sym is) ∙ apart

pub triples_alone : (w next : Gateway) (target : Target) (xs : List TopologyTriple) (t c : ℕ) → IsSound w.rooms →
    apply_triples w target xs ≡ Ok (next, t) → is_number target c ≡ false → IsUnaffected w next c
unfolding apply_triples
triples_alone w next target xs t c h done apart =
    let (k, at, one) = bind_ok (existing_context w.rooms target) _ (next, t) done in
    let (u, checked, two) = bind_ok (check_triples (members_at w.rooms k) xs) _ (next, t) one in
    let after : Gateway = record w { edits = with_triples (members_at w.rooms k) xs w.edits } in
    let both : (after, k) ≡ (next, t) = cc two in
    let other = another_target w.rooms target k c at apart in
    let strangers = λ (n : ℕ) (there : is_member w c n ≡ true). one_context w c k n h other there in
    subst (λ (g : Gateway). IsUnaffected w g c) (ap (λ (p : Gateway × ℕ). p.0) both)
    (alone w after c refl (λ n there. refl) (λ n there. refl)
    (λ a b first second. words_elsewhere (members_at w.rooms k) xs w.edits a b u checked (strangers a first)
    (strangers b second)))

-- ## Edits

-- If an edit succeeded, the command that it requests succeeded too, and both result in the same gateway.
pub as_done : {A : Type 0} (f : A → Done) (o : Result (Gateway × A) ErrorNumber) (next : Gateway) (done : Done) →
    done_as f o ≡ Ok (next, done) → (x : A) × (o ≡ Ok (next, x))
as_done f (Ok p) next done e = (p.1, grind (arith, nat_tests))
as_done f (Err x) next done e = absurd (cc e)

pub edit_alone : (w next : Gateway) (edit : Edit) (done : Done) (c : ℕ) → IsSound w.rooms →
    outcome w edit ≡ Ok (next, done) → IsSome (context_at w.rooms c) → IsEditElsewhere w c edit → IsUnaffected w next c
edit_alone w next (edits.Add target settings) done c h e there apart =
    let (r, is) = as_done Termination (add w target settings) next done e in
    done_gives (λ g. IsUnaffected w g c) (added w settings) (commands.add w.rooms target settings) next r is
    (λ z one. added_alone w z r c (add_spares w.rooms target settings z r c h there apart one) settings)
edit_alone w next (edits.Modify target n settings) done c h e there (apart, out) =
    let (r, is) = as_done Termination (modify w target n settings) next done e in
    done_gives (λ g. IsUnaffected w g c) (modified w settings) (commands.modify w.rooms target n settings) next r is
    (λ z one. modified_alone w z r c (modify_spares w.rooms target n settings z r c out one) settings)
edit_alone w next (edits.Move target n settings) done c h e there (apart, out) =
    let (r, is) = as_done Termination (move_to w target n settings) next done e in
    done_gives (λ g. IsUnaffected w g c) (moved w settings) (commands.move_to w.rooms target n settings) next r is
    (λ z one. moved_alone w z r c (move_spares w.rooms target n settings z r c h there apart out one) settings)
edit_alone w next (edits.Subtract target n) done c h e there (apart, out) =
    let (r, is) = as_done Termination (subtract w target n) next done e in
    done_gives (λ g. IsUnaffected w g c) (subtracted w) (commands.subtract w.rooms target n) next r is
    (λ z one. subtracted_alone w z r c (subtract_spares w.rooms target n z r c h out one))
edit_alone w next (edits.Triples target xs) done c h e there apart =
    let (t, is) = as_done Topology (apply_triples w target xs.items) next done e in
    triples_alone w next target xs.items t c h is apart

-- ## RTP datagrams

placed_alone : (w : Gateway) (c n : ℕ) (p : Header × List ℤ) (o : Option TerminationMedia) → is_member w c n ≡ false →
    IsUnaffected w (frame_placed_at w n p o).0 c
placed_alone w c n p None out = same_alone w c
placed_alone w c n p (Some s) out = alone w (frame_placed_at w n p (Some s)).0 c refl (λ m there. refl)
    (λ m there. other_media w n m p (apart_from w c n m out there)) (λ a b one two. refl)

arrived_alone : (w : Gateway) (c n : ℕ) (x : Arrived) → is_member w c n ≡ false → IsUnaffected w (taken_at w n x).0 c
arrived_alone w c n (Ok p) out = placed_alone w c n p (media_of w n) out
arrived_alone w c n (Err cause) out = same_alone w c

taken_alone : (w : Gateway) (c : ℕ) (o : Option Record) (source : List ℕ) (reading : Reading) →
    ((r : Record) → o ≡ Some r → is_member w c r.number ≡ false) → IsUnaffected w (taken_by w o source reading).0 c
taken_alone w c None source reading out = same_alone w c
taken_alone w c (Some r) source reading out = arrived_alone w c r.number (arrived r source reading) (out r refl)

pub datagram_alone : (w next : Gateway) (port : ℕ) (source bytes : List ℕ) (result : Taken) (c : ℕ) →
    Takes w port source bytes next result → IsPortElsewhere w c port → IsUnaffected w next c
datagram_alone w next port source bytes result c (reading, is, represents) out =
    subst (λ (g : Gateway). IsUnaffected w g c) (ap (λ (p : Gateway × Taken). p.0) represents)
    (taken_alone w c (at_port w.rooms port) source reading out)
