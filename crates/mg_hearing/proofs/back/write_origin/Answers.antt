use Rattle.std.proofs.Common.{refl}
use Rattle.std.proofs.lemmas.Result.{on_ok_weaker}
use Rattle.mg_hearing.proofs.back.write_origin.Goals as goal

pub returns : goal.returns
returns g c =
    let written =
    rw (
      c.as_slice-5.ensures.value,
      c.in_ok-name-2.ensures.value,
      c.as_slice.ensures.value,
      c.in_ok-name.ensures.value,
      c.as_slice-6.ensures.value,
      c.in_ok-size-2.ensures.value,
      c.as_slice-7.ensures.value,
      c.in_ok-digest.ensures.value,
      c.digits.ensures.value,
      c.as_slice-8.ensures.value,
      c.in_ok-covered.ensures.value,
      c.as_slice-9.ensures.value,
      c.in_ok-program-2.ensures.value,
      c.as_slice-10.ensures.value,
      c.in_ok-program_digest.ensures.value,
      c.as_slice-11.ensures.value,
      c.in_ok-options.ensures.value,
      c.as_slice-12.ensures.value,
      c.in_ok-last.ensures.value,
      c.as_slice-4.ensures.value,
      c.in_ok-last_words.ensures.value,
    ) at c.write_parts.ensures.value in
    record {
      value = on_ok_weaker c.write_parts.result (λ h. (
        _,
        record {
          size = c.as_bytes.result.now;
          covered = c.as_slice-2.result.now;
          program = c.as_bytes-2.result.now;
          program_digest = c.match-origin.program_digest.now;
          options = c.as_slice-3.result.now;
          is = refl;
        },
        h,
      )) written;
    }
