-- The places in which kept replies are stored.
use Rattle.std.proofs.Common.{◌≡◌, ℕ, ◌+◌, ◌<◌, ◌≤◌, List, [], ◌∷◌, ◌++◌, false, not, None, length, take, drop, set, ◌∙◌, arith}
use Rattle.std.proofs.Math.ListN.{length-set}
use Rattle.std.proofs.lemmas.List.{length-take-le, take_more_set}
use Rattle.std.proofs.Math.Seq.{take-append_seam}
use Rattle.std.proofs.lemmas.List.Kept.{AllPairs-filter}
use Rattle.std.proofs.lemmas.List.Quantifiers.{all_pairs_push}
use Rattle.std.specs.List.{find}
use Rattle.mg_words.specs.Limits.{kept_limit}
use Rattle.mg_kept.specs.KeptReplies.{KeptReply, is_in_range, is_reply_to, kept_text, without_range}
use Rattle.mg_kept.specs.aids.Places.{AreFilledUpTo}
use Rattle.mg_kept.proofs.FindLemmas.{none_found, none_in_drop, fails_at}

-- If there is a free place, and no stored reply answers the same request, storing a new reply in the first free place
-- keeps the invariant.
pub one_more : (places : List KeptReply) (len n : ℕ) (old : List KeptReply) (reply : KeptReply) →
    AreFilledUpTo places len → take len places ≡ drop n old → length (take len places) < kept_limit →
    kept_text old reply.sender reply.number ≡ None → AreFilledUpTo (set places len reply) (len + 1)
one_more places len n old reply filled is room none =
    let within : len ≤ length places = omega arith in
    let count : length (take len places) ≡ len = length-take-le len places within in
    let short : len < length places = omega arith in
    let one : take (len + 1) (set places len reply) ≡ take len places ++ reply ∷ [] =
    take_more_set places len reply short in
    let absent : find (is_reply_to reply.sender reply.number) (take len places) ≡ None =
    rw is (none_in_drop (is_reply_to reply.sender reply.number) n old (none_found old reply.sender reply.number none))
    in
    record {
      many = length-set places len reply ∙ filled.many;
      within = omega arith;
      distinct = rw one (all_pairs_push (λ older newer. is_reply_to newer.sender newer.number older ≡ false)
          (take len places) reply filled.distinct
          (λ k d lt. fails_at (is_reply_to reply.sender reply.number) (take len places) k d absent lt));
    }

-- If a list of `n` entries is followed by more entries, the first `n` entries are that list.
pub written_back : (n : ℕ) (xs ys : List KeptReply) → length xs ≡ n → take n (xs ++ ys) ≡ xs
written_back n xs ys e = rw (← e) (take-append_seam xs ys)

-- If the remaining replies are moved to the front, the invariant of the places still holds.
pub some_stay : (places after : List KeptReply) (len stay : ℕ) (sender : List ℕ) (first last : ℕ) →
    AreFilledUpTo places len → length after ≡ length places → stay ≤ len →
    take stay after ≡ without_range sender first last (take len places) → AreFilledUpTo after stay
some_stay places after len stay sender first last filled many fewer front = record {
  many = many ∙ filled.many;
  within = omega (arith, filled.within);
  distinct = rw front (AllPairs-filter (λ older newer. is_reply_to newer.sender newer.number older ≡ false)
      (λ reply. not (is_in_range sender first last reply)) (take len places) filled.distinct);
}
