use Rattle.std.proofs.Common.{refl}
use Rattle.std.proofs.lemmas.Result.{on_ok_weaker}
use Rattle.mg_hearing.proofs.front.write_front.Goals as goal

pub returns : goal.returns
returns g c =
    let written =
    rw (
      c.as_slice-4.ensures.value,
      c.as_slice-5.ensures.value,
      c.in_ok-name-2.ensures.value,
      c.as_slice.ensures.value,
      c.in_ok-name.ensures.value,
      c.as_slice-6.ensures.value,
      c.in_ok-listener.ensures.value,
      c.as_slice-7.ensures.value,
      c.in_ok-talker.ensures.value,
      c.as_slice-8.ensures.value,
      c.in_ok-from.ensures.value,
      c.as_slice-9.ensures.value,
      c.in_ok-until.ensures.value,
    ) at c.write_parts.ensures.value in
    record {
      value = on_ok_weaker c.write_parts.result (λ h. (
        _,
        record { from = c.as_slice-2.result.now; until = c.as_slice-3.result.now; is = refl },
        h,
      )) written;
    }
