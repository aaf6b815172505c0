use Rattle.std.proofs.Common.{refl}
use Rattle.std.proofs.lemmas.Result.{on_ok_weaker}
use Rattle.mg_hearing.proofs.back.write_scale.Goals as goal

pub returns : goal.returns
returns g c =
    let written =
    rw (
      c.as_slice.ensures.value,
      c.in_ok-variables-2.ensures.value,
      c.as_slice-2.ensures.value,
      c.in_ok-ticks-2.ensures.value,
    ) at c.write_parts.ensures.value in
    record {
      value = on_ok_weaker c.write_parts.result (λ h. (
        _,
        record { scale = c.as_bytes.result.now; ticks = c.as_bytes-2.result.now; is = refl },
        h,
      )) written;
    }
