-- How far the alternatives of a descriptor have been read.
use Rattle.std.specs.Prelude.{Bool, List, Option}
use Rattle.mg_sdp.specs.declared.offer.Offer.{Offer}
use Rattle.mg_sdp.specs.declared.alternative.Alternative.{Alternative}

-- The offers of the first eight complete alternatives, the alternative that is being read, and whether more than eight
-- are complete.
pub record Progress : Type 0 where
  pub offers : List (Option Offer)
  pub current : Option Alternative
  pub over : Bool
