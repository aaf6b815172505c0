use Rattle.std.proofs.Common.{◌≡◌}
use Rattle.mg_sdp.specs.aids.FieldsLeft.{fields_left}
use Rattle.mg_sdp.specs.Media.{first_law}
use Rattle.mg_sdp.proofs.media.first_law.Given as goal

abbrev pub invariant-loop-format : goal.invariant-loop-format
invariant-loop-format l = first_law (fields_left l.format-iterator) ≡ first_law (fields_left l.fn.formats)
