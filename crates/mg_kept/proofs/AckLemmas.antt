-- Searches for kept replies after an acknowledgement.
use Rattle.std.proofs.Common.{◌≡◌, ℕ, ◌<◌, ◌≤◌, List, Bool, true, false, not, ◌&&◌, eqb, leb, inl, inr, ◌⊎◌, refl, sym, ◌∙◌, arith}
use Rattle.std.proofs.lemmas.Bool.{false≢true, false_from_ne_true}
use Rattle.std.proofs.lemmas.Bool.Decides.{nat_tests}
use Rattle.std.specs.Str.{str_eq_ignore_ascii_case}
use Rattle.mg_kept.specs.KeptReplies.{KeptReply, is_from, is_reply_to, is_in_range}
use Rattle.mg_kept.specs.Theorems.{AcknowledgedIsDropped, OtherSendersStay, OtherNumbersStay}
use Rattle.mg_words.proofs.CutLemmas.{same_letters, letters_same}
use Rattle.mg_kept.proofs.FindLemmas.{none_in_filter, same_in_filter}

named_fails : (first last number other : ℕ) (from : Bool) → first ≤ number → number ≤ last →
    not (leb first other && leb other last && from) ≡ true → (eqb other number && from) ≡ false
named_fails first last number other true low high h = grind (arith, nat_tests)
named_fails first last number other false low high h = grind (arith, nat_tests)

pub acknowledged_is_dropped : AcknowledgedIsDropped
acknowledged_is_dropped replies sender same first last number one low high =
    rw (none_in_filter (is_reply_to same number) (λ r. not (is_in_range sender first last r))
    (λ r h. rw (same_letters same sender one) (named_fails first last number r.number (is_from sender r) low high h))
    replies) refl

other_fails : (first last number other : ℕ) (from to : Bool) → (from ≡ true → to ≡ false) →
    not (leb first other && leb other last && from) ≡ false → (eqb other number && to) ≡ false
other_fails first last number other true to e h = rw (e refl) (grind (arith, nat_tests))
other_fails first last number other false to e h = grind (arith, nat_tests)

differs : (sender other : List ℕ) (r : KeptReply) → str_eq_ignore_ascii_case other sender ≡ false →
    is_from sender r ≡ true → is_from other r ≡ false
differs sender other r differ from = false_from_ne_true _ (λ t.
    false≢true (sym differ ∙ letters_same other sender
    (sym (same_letters r.sender other t) ∙ same_letters r.sender sender from)))

pub other_senders_stay : OtherSendersStay
other_senders_stay replies sender other first last number differ =
    rw (same_in_filter (is_reply_to other number) (λ r. not (is_in_range sender first last r))
    (λ r h. other_fails first last number r.number (is_from sender r) (is_from other r)
    (differs sender other r differ) h) replies) refl

below_fails : (first last number other : ℕ) (from to : Bool) → (number < first) ⊎ (last < number) →
    not (leb first other && leb other last && from) ≡ false → (eqb other number && to) ≡ false
below_fails first last number other from to (inl out) h = grind (arith, nat_tests)
below_fails first last number other from to (inr out) h = grind (arith, nat_tests)

pub other_numbers_stay : OtherNumbersStay
other_numbers_stay replies sender other first last number out =
    rw (same_in_filter (is_reply_to other number) (λ r. not (is_in_range sender first last r))
    (λ r h. below_fails first last number r.number (is_from sender r) (is_from other r) out h) replies) refl
