-- Searches after one more reply is kept.
use Rattle.std.proofs.Common.{◌≡◌, ℕ, ◌+◌, ◌-◌, ◌≤◌, List, [], ◌∷◌, ◌++◌, true, false, eqb, None, length, drop, refl, sym, ap, ◌∙◌, option_map, All, arith, length-append}
use Rattle.std.proofs.lemmas.Bool.{false≢true, false_from_ne_true, eq-eqb, eqb-true, and_parts, and_from}
use Rattle.std.proofs.lemmas.List.{drop-append-le}
use Rattle.std.proofs.lemmas.List.Elements.{All-weaker}
use Rattle.std.specs.List.{find}
use Rattle.mg_words.specs.Limits.{kept_limit}
use Rattle.mg_kept.specs.KeptReplies.{KeptReply, is_from, is_reply_to, with_reply}
use Rattle.mg_kept.specs.Theorems.{KeptIsFound, CaseIsIgnored, OthersStay, OnlyOldestIsDropped, OldestIsDropped}
use Rattle.mg_words.proofs.CutLemmas.{same_letters, letters_same}
use Rattle.mg_kept.proofs.FindLemmas.{none_found, find_agree, same_sender, none_in_drop, find_before, find_last, none_from_all, first_differs}

-- The newly kept reply is the last in the list, even if the oldest was dropped.
pub kept_is_last : (reply : KeptReply) (replies : List KeptReply) →
    with_reply reply replies ≡ drop (length replies + 1 - kept_limit) replies ++ reply ∷ []
kept_is_last reply replies =
    let count : length (replies ++ reply ∷ []) ≡ length replies + 1 = length-append replies (reply ∷ []) in
    let low : length replies + 1 - kept_limit ≤ length replies = omega arith in
    rw (count, drop-append-le (length replies + 1 - kept_limit) replies (reply ∷ []) low) refl

pub kept_is_found : KeptIsFound
kept_is_found replies reply sender none from =
    let before : find (is_reply_to sender reply.number) replies ≡ None =
    sym (find_agree (is_reply_to reply.sender reply.number) (is_reply_to sender reply.number)
    (same_sender reply.sender sender reply.number from) replies)
    ∙ none_found replies reply.sender reply.number none in
    rw (
      kept_is_last reply replies,
      find_last (is_reply_to sender reply.number)
          (drop (length replies + 1 - kept_limit) replies) reply
          (none_in_drop (is_reply_to sender reply.number) (length replies + 1 - kept_limit) replies before)
          (and_from (eqb reply.number reply.number) _ (eq-eqb reply.number reply.number refl) from),
    ) refl

pub letters_are_one : CaseIsIgnored
letters_are_one replies sender same number one =
    ap (option_map (λ (r : KeptReply). r.text))
    (sym (find_agree (is_reply_to sender number) (is_reply_to same number) (same_sender sender same number one)
    replies))

pub others_stay : OthersStay
others_stay replies reply sender number room not_this =
    let none_goes : length replies + 1 - kept_limit ≡ 0 = omega arith in
    rw (kept_is_last reply replies, none_goes, find_before (is_reply_to sender number) replies reply not_this) refl

pub only_oldest_goes : OnlyOldestIsDropped
only_oldest_goes oldest rest reply sender number full not_oldest not_this =
    let one_goes : length (oldest ∷ rest) + 1 - kept_limit ≡ 1 = omega arith in
    rw (
      kept_is_last reply (oldest ∷ rest),
      one_goes,
      find_before (is_reply_to sender number) rest reply not_this,
      not_oldest,
    ) refl

-- If `oldest` does not answer the request of `later`, `later` does not answer the request of `oldest`.
differs : (sender : List ℕ) (oldest later : KeptReply) → is_from sender oldest ≡ true →
    is_reply_to later.sender later.number oldest ≡ false → is_reply_to sender oldest.number later ≡ false
differs sender oldest later from h = false_from_ne_true _ (λ t.
    let two = and_parts (eqb later.number oldest.number) (is_from sender later) t in
    let same : is_reply_to later.sender later.number oldest ≡ true =
    and_from (eqb oldest.number later.number) (is_from later.sender oldest) (eq-eqb _ _ (sym (eqb-true _ _ two.0)))
    (letters_same oldest.sender later.sender (same_letters oldest.sender sender from ∙
    sym (same_letters later.sender sender two.1))) in
    false≢true (sym h ∙ same))

pub oldest_is_dropped : OldestIsDropped
oldest_is_dropped oldest rest reply sender kept full from not_this =
    let one_goes : length (oldest ∷ rest) + 1 - kept_limit ≡ 1 = omega arith in
    let others : All (λ later. is_reply_to later.sender later.number oldest ≡ false) rest =
    first_differs (λ a b. is_reply_to b.sender b.number a ≡ false) oldest rest kept.distinct in
    let gone : find (is_reply_to sender oldest.number) rest ≡ None =
    none_from_all (is_reply_to sender oldest.number) rest
    (All-weaker (λ later. is_reply_to later.sender later.number oldest ≡ false)
    (λ later. is_reply_to sender oldest.number later ≡ false) (λ later h. differs sender oldest later from h) rest
    others) in
    rw (
      kept_is_last reply (oldest ∷ rest),
      one_goes,
      find_before (is_reply_to sender oldest.number) rest reply not_this,
      gone,
    ) refl
