-- How long a reply is kept.
use Rattle.std.proofs.Common.{◌≡◌, ℕ, zero, suc, ◌+◌, ◌-◌, ◌<◌, ◌≤◌, List, [], ◌∷◌, ◌++◌, Bool, true, false, cond, not, ◌&&◌, eqb, leb, Option, Some, None, length, drop, refl, sym, ap, ◌∙◌, arith, length-append, inl, inr, option_map, subst, length-drop}
use Rattle.std.proofs.lemmas.Bool.{cases_Bool, eqb-true, eq-eqb, and_parts, and_from}
use Rattle.std.proofs.lemmas.Bool.Decides.{nat_tests}
use Rattle.std.proofs.lemmas.List.Kept.{AllPairs-filter}
use Rattle.std.proofs.lemmas.List.Quantifiers.{all_pairs_push}
use Rattle.std.specs.List.{find, filter}
use Rattle.std.specs.Str.{str_eq_ignore_ascii_case}
use Rattle.mg_words.specs.Limits.{kept_limit}
use Rattle.mg_kept.specs.KeptReplies.{KeptReply, AreDistinct, AreKept, is_from, is_in_range, is_reply_to, kept_text, newer_than, with_reply, without_range}
use Rattle.mg_kept.specs.aids.Changes.{FewNewerStay, NewerRepliesEvict, LastIsNewest, UnnamedStay, DroppedStayDropped, KeptStayDistinct}
use Rattle.mg_words.proofs.CutLemmas.{same_letters, letters_same}
use Rattle.mg_kept.proofs.FindLemmas.{none_found, find_agree, same_sender, none_in_drop, find_before, same_in_filter, fails_at, rest_is_distinct, later_none}
use Rattle.mg_kept.proofs.KeepLemmas.{kept_is_last, oldest_is_dropped}

-- ## Searches in any list, with any test

module _ (p : KeptReply → Bool) where
  -- The replies after the first reply that passes the test, or none if no reply passes it.
  after : List KeptReply → List KeptReply
  after [] = []
  after (x ∷ xs) = cond (p x) xs (after xs)

  after-shorter : (xs : List KeptReply) → 0 < length (after xs) → length (after xs) + 1 ≤ length xs
  unfolding after
  after-shorter [] some = absurd (omega arith)
  after-shorter (x ∷ xs) some =
      elim (cases_Bool (p x)) [
        | inl e ↦ rw e (omega arith)
        | inr e ↦ let later : 0 < length (after xs) = rw e at some in rw e (omega (arith, after-shorter xs later))
      ]

  -- If a reply is found, `after` has fewer replies than the list.
  after-fewer : (xs : List KeptReply) (r : KeptReply) → find p xs ≡ Some r → length (after xs) + 1 ≤ length xs
  unfolding after
  after-fewer [] r h = absurd cc
  after-fewer (x ∷ xs) r h =
      elim (cases_Bool (p x)) [
        | inl e ↦ rw e (omega arith)
        | inr e ↦ let later : find p xs ≡ Some r = rw e at h in rw e (omega (arith, after-fewer xs r later))
      ]

  -- If only replies before the reply that is found are dropped, the search still finds it, and `after` is unchanged.
  find-drop : (xs : List KeptReply) (n : ℕ) (r : KeptReply) → find p xs ≡ Some r → n + length (after xs) + 1 ≤ length xs
      → (find p (drop n xs) ≡ Some r) × (after (drop n xs) ≡ after xs)
  unfolding after
  find-drop xs zero r h le = (h, refl)
  find-drop [] (suc n) r h le = absurd cc
  find-drop (x ∷ xs) (suc n) r h le =
      elim (cases_Bool (p x)) [
        | inl e ↦ let few : suc n + length xs + 1 ≤ length (x ∷ xs) = rw e at le in absurd (omega arith)
        | inr e ↦
            let later : find p xs ≡ Some r = rw e at h in
            let fewer : suc n + length (after xs) + 1 ≤ length (x ∷ xs) = rw e at le in
            rw e (find-drop xs n r later (omega arith))
      ]

  find-push : (xs : List KeptReply) (y r : KeptReply) → find p xs ≡ Some r → (find p (xs ++ y ∷ []) ≡ Some r) ×
      (after (xs ++ y ∷ []) ≡ after xs ++ y ∷ [])
  unfolding after
  find-push [] y r h = absurd cc
  find-push (x ∷ xs) y r h =
      elim (cases_Bool (p x)) [
        | inl e ↦ let found : Some x ≡ Some r = rw e at h in rw e (found, refl)
        | inr e ↦ let later : find p xs ≡ Some r = rw e at h in rw e (find-push xs y r later)
      ]

  after-last : (xs : List KeptReply) (y : KeptReply) → find p xs ≡ None → p y ≡ true → after (xs ++ y ∷ []) ≡ []
  unfolding after
  after-last [] y h e = rw e refl
  after-last (x ∷ xs) y h e =
      elim (cases_Bool (p x)) [
        | inl t ↦ let found : Some x ≡ None = rw t at h in absurd cc
        | inr f ↦ rw f (after-last xs y (later_none (p x) x (find p xs) h) e)
      ]

  -- A filtered list is at most as long as the original.
  filter-short : (q : KeptReply → Bool) (xs : List KeptReply) → length (filter q xs) ≤ length xs
  filter-short q [] = omega arith
  filter-short q (x ∷ xs) =
      elim (cases_Bool (q x)) [
        | inl e ↦ rw e (omega (arith, filter-short q xs))
        | inr e ↦ rw e (omega (arith, filter-short q xs))
      ]

  after-filter : (q : KeptReply → Bool) → ((r : KeptReply) → q r ≡ false → p r ≡ false) → (xs : List KeptReply) →
      length (after (filter q xs)) ≤ length (after xs)
  unfolding after
  after-filter q h [] = omega arith
  after-filter q h (x ∷ xs) =
      elim (cases_Bool (q x)) [
        | inl s ↦
            elim (cases_Bool (p x)) [
              | inl e ↦ rw (s, e) (filter-short q xs)
              | inr e ↦ rw (s, e) (after-filter q h xs)
            ]
        | inr g ↦ rw (g, h x g) (after-filter q h xs)
      ]

  none_in_any : (q : KeptReply → Bool) (xs : List KeptReply) → find p xs ≡ None → find p (filter q xs) ≡ None
  none_in_any q [] h = refl
  none_in_any q (x ∷ xs) h =
      let later : find p xs ≡ None = later_none (p x) x (find p xs) h in
      elim (cases_Bool (q x)) [
        | inl s ↦
            elim (cases_Bool (p x)) [
              | inl e ↦ let found : Some x ≡ None = rw e at h in absurd cc
              | inr e ↦ rw s (rw e (none_in_any q xs later))
            ]
        | inr g ↦ rw g (none_in_any q xs later)
      ]

newer_is_after : (replies : List KeptReply) (sender : List ℕ) (number : ℕ) →
    newer_than replies sender number ≡ after (is_reply_to sender number) replies
unfolding after
newer_is_after [] sender number = refl
newer_is_after (x ∷ xs) sender number = ap (λ (l : List KeptReply). cond (is_reply_to sender number x) xs l)
    (newer_is_after xs sender number)

some_of_map : (o : Option KeptReply) (text : List ℕ) → option_map (λ (reply : KeptReply). reply.text) o ≡ Some text →
    (r : KeptReply) × (o ≡ Some r) × (r.text ≡ text)
some_of_map None text h = absurd cc
some_of_map (Some r) text h = (r, refl, cc)

text_of_found : (replies : List KeptReply) (sender text : List ℕ) (number : ℕ) (r : KeptReply) →
    find (is_reply_to sender number) replies ≡ Some r → r.text ≡ text → kept_text replies sender number ≡ Some text
text_of_found replies sender text number r h is = rw (h, is) refl

-- The number of replies to drop when one more is kept.
goes : List KeptReply → ℕ
goes replies = length replies + 1 - kept_limit

-- ## After one more reply is kept

pub few_newer_stay : FewNewerStay
unfolding goes
few_newer_stay replies reply sender text number kept few =
    let p = is_reply_to sender number in
    let (r, found, is) = some_of_map (find p replies) text kept in
    let n = goes replies in
    let newer : length (newer_than replies sender number) ≡ length (after p replies) =
    ap length (newer_is_after replies sender number) in
    let low : n + length (after p replies) + 1 ≤ length replies = omega (arith, after-fewer p replies r found) in
    let left = find-drop p replies n r found low in
    let pushed = find-push p (drop n replies) reply r left.0 in
    let last : with_reply reply replies ≡ drop n replies ++ reply ∷ [] = kept_is_last reply replies in (
      text_of_found (with_reply reply replies) sender text number r (ap (find p) last ∙ pushed.0) is,
      ap length (newer_is_after (with_reply reply replies) sender number) ∙
          ap (λ (l : List KeptReply). length (after p l)) last
          ∙ ap length pushed.1 ∙ length-append (after p (drop n replies)) (reply ∷ []) ∙
          ap (λ (l : List KeptReply). length l + 1) left.1 ∙ sym (ap (λ (k : ℕ). k + 1) newer),
    )

pushes_out : (replies : List KeptReply) (reply : KeptReply) (sender : List ℕ) (number : ℕ) → AreKept replies →
    length (after (is_reply_to sender number) replies) + 1 ≡ kept_limit → is_reply_to sender number reply ≡ false →
    kept_text (with_reply reply replies) sender number ≡ None
unfolding after
pushes_out [] reply sender number kept many not_this = absurd (omega arith)
pushes_out (oldest ∷ rest) reply sender number kept many not_this =
    let few : length (oldest ∷ rest) ≤ kept_limit = kept.at_most in
    elim (cases_Bool (is_reply_to sender number oldest)) [
      | inl e ↦
          let whole : length rest + 1 ≡ kept_limit = rw e at many in
          let two = and_parts (eqb oldest.number number) (is_from sender oldest) e in
          let same : oldest.number ≡ number = eqb-true oldest.number number two.0 in
          subst (λ (k : ℕ). kept_text (with_reply reply (oldest ∷ rest)) sender k ≡ None) same
          (oldest_is_dropped oldest rest reply sender kept (omega arith) two.1
          (subst (λ (k : ℕ). is_reply_to sender k reply ≡ false) (sym same) not_this))
      | inr e ↦
          let fewer : length (after (is_reply_to sender number) rest) + 1 ≡ kept_limit = rw e at many in
          absurd (omega (arith, after-shorter (is_reply_to sender number) rest (omega arith)))
    ]

pub newer_replies_evict : NewerRepliesEvict
newer_replies_evict replies reply sender number kept many not_this =
    pushes_out replies reply sender number kept
    (sym (ap (λ (l : List KeptReply). length l + 1) (newer_is_after replies sender number)) ∙ many) not_this

pub last_is_newest : LastIsNewest
last_is_newest replies reply sender none from =
    let p = is_reply_to sender reply.number in
    let before : find p replies ≡ None =
    sym (find_agree (is_reply_to reply.sender reply.number) p (same_sender reply.sender sender reply.number from)
    replies)
    ∙ none_found replies reply.sender reply.number none in
    newer_is_after (with_reply reply replies) sender reply.number ∙ ap (after p) (kept_is_last reply replies)
    ∙ after-last p (drop (length replies + 1 - kept_limit) replies) reply
    (none_in_drop p (length replies + 1 - kept_limit) replies before)
    (and_from (eqb reply.number reply.number) (is_from sender reply) (eq-eqb reply.number reply.number refl) from)

-- ## After an acknowledgement

-- If an acknowledgement does not name a request, it does not drop the reply to that request.
not_dropped : (first last number other : ℕ) (from to same : Bool) →
    (leb first number && leb number last && same) ≡ false → (from ≡ true → to ≡ true → same ≡ true)
    → not (leb first other && leb other last && from) ≡ false → (eqb other number && to) ≡ false
not_dropped first last number other true true same out one h =
    let inside : (leb first number && leb number last && true) ≡ false = rw (one refl refl) at out in
    grind (arith, nat_tests)
not_dropped first last number other true false same out one h = grind (arith, nat_tests)
not_dropped first last number other false to same out one h = grind (arith, nat_tests)

one_name : (sender from : List ℕ) (r : KeptReply) → is_from from r ≡ true → is_from sender r ≡ true →
    str_eq_ignore_ascii_case sender from ≡ true
one_name sender from r f t = letters_same sender from
    (sym (same_letters r.sender sender t) ∙ same_letters r.sender from f)

pub unnamed_stay : UnnamedStay
unnamed_stay replies sender from number first last out =
    let p = is_reply_to sender number in
    let q = λ (r : KeptReply). not (is_in_range from first last r) in
    let dropped : (r : KeptReply) → q r ≡ false → p r ≡ false = λ r h.
    not_dropped first last number r.number (is_from from r) (is_from sender r) (str_eq_ignore_ascii_case sender from)
    out (one_name sender from r) h in (
      ap (option_map (λ (r : KeptReply). r.text)) (same_in_filter p q dropped replies),
      rw (newer_is_after replies sender number, newer_is_after (without_range from first last replies) sender number)
          (after-filter p q dropped replies),
    )

text_of_none : (replies : List KeptReply) (sender : List ℕ) (number : ℕ) →
    find (is_reply_to sender number) replies ≡ None → kept_text replies sender number ≡ None
text_of_none replies sender number h = ap (option_map (λ (r : KeptReply). r.text)) h

pub dropped_stay_dropped : DroppedStayDropped
dropped_stay_dropped replies sender number none =
    let p = is_reply_to sender number in
    let before : find p replies ≡ None = none_found replies sender number none in (
      λ reply not_this.
          let n = length replies + 1 - kept_limit in
          text_of_none (with_reply reply replies) sender number
          (ap (find p) (kept_is_last reply replies) ∙ find_before p (drop n replies) reply not_this ∙
          none_in_drop p n replies before),
      λ from first last. text_of_none (without_range from first last replies) sender number
          (none_in_any p (λ r. not (is_in_range from first last r)) replies before),
    )

-- ## Distinct replies

drop-distinct : (n : ℕ) (xs : List KeptReply) → AreDistinct xs → AreDistinct (drop n xs)
drop-distinct zero xs h = h
drop-distinct (suc n) [] h = h
drop-distinct (suc n) (x ∷ xs) h = drop-distinct n xs (rest_is_distinct (x ∷ xs) h)

pub kept_stay_distinct : KeptStayDistinct
kept_stay_distinct replies kept = (
  λ reply none.
      let n = length replies + 1 - kept_limit in
      let p = is_reply_to reply.sender reply.number in
      let last : with_reply reply replies ≡ drop n replies ++ reply ∷ [] = kept_is_last reply replies in
      let absent : find p (drop n replies) ≡ None =
      none_in_drop p n replies (none_found replies reply.sender reply.number none) in
      let count : length (drop n replies ++ reply ∷ []) ≡ length (drop n replies) + 1 =
      length-append (drop n replies) (reply ∷ []) in
      let left : length (drop n replies) ≡ length replies - n = length-drop n replies in
      record {
        at_most = rw last (omega (arith, count, left, kept.at_most));
        distinct = rw last (all_pairs_push (λ older newer. is_reply_to newer.sender newer.number older ≡ false)
            (drop n replies) reply (drop-distinct n replies kept.distinct)
            (λ k d lt. fails_at p (drop n replies) k d absent lt));
      },
  λ sender first last. record {
    at_most = omega (
      arith,
      kept.at_most,
      filter-short (λ r. true) (λ r. not (is_in_range sender first last r))
          replies,
    );
    distinct = AllPairs-filter (λ older newer. is_reply_to newer.sender newer.number older ≡ false)
        (λ reply. not (is_in_range sender first last reply)) replies kept.distinct;
  },
)
