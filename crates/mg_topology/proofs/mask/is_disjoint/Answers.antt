use Rattle.std.proofs.Common.{◌≡◌, bit_and, nat_eq, sym, ap, ◌∙◌}
use Rattle.mg_topology.specs.Mask.{is_disjoint}
use Rattle.mg_topology.proofs.MaskLemmas.{has_seat-and, same_mask, has_common_seat, is_disjoint-common}
use Rattle.mg_topology.proofs.mask.is_disjoint.Goals as goal

-- Sets are disjoint if and only if the mask `a & b` is 0.
tested : (c : goal.After-intersection) → nat_eq c.intersection.result 0 ≡ is_disjoint c.args.a c.args.b
unfolding is_disjoint
tested c =
    ap (λ n. nat_eq n 0)
    (same_mask c.intersection.result (bit_and c.args.a c.args.b)
    (λ s. c.intersection.ensures s ∙ sym (has_seat-and c.args.a c.args.b s)))

pub returns-clause-test : goal.returns-clause-test
returns-clause-test c = tested c

pub returns-clause-common : goal.returns-clause-common
returns-clause-common c = (
  λ e. has_common_seat c.args.a c.args.b (sym (tested c) ∙ e),
  λ h. tested c ∙
      is_disjoint-common c.args.a c.args.b h,
)
