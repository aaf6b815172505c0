use Rattle.mg_engine.proofs.Common.{◌≡◌, ℕ, List, ap, ◌∙◌, Reading, Taken, Gateway, SameArrivalKeepsAgreement, OneArrivalKeepsAgreement, IsPacketReading, taken}
use Rattle.mg_engine.proofs.ApartLemmas as apart
use Rattle.mg_engine.proofs.theorems.agreement_lasts.Goals as goal

same_arrival : ((list : List ℕ) (a b : Reading) → IsPacketReading list a → IsPacketReading list b → a ≡ b) →
    SameArrivalKeepsAgreement
same_arrival one some a b x y port source bytes t u h (first, is, represents) (second, too, comes) =
    let second_is = ap (λ (reading : Reading). (taken b port source reading).0) (one bytes first second is too) ∙
    ap (λ (p : Gateway × Taken). p.0) comes in
    rw (← ap (λ (p : Gateway × Taken). p.0) represents, ← second_is) (apart.taken_alike some a b port source first h)

one_arrival : OneArrivalKeepsAgreement
one_arrival some a b x port source bytes t h among (reading, is, represents) =
    rw (← ap (λ (p : Gateway × Taken). p.0) represents) (apart.taken_by_one some a b port source reading among h)

pub returns : goal.returns
returns c = record {
  edits = apart.edits_keep;
  media = same_arrival c.one_reading.ensures.at_most_one;
  one = one_arrival;
  turned = apart.is_mutual;
  tick = apart.ticks_keep;
  stats = apart.same_stats;
}
