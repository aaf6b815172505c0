use Rattle.mg_sdp.proofs.WrittenLemmas.{parts_joined}
use Rattle.mg_sdp.proofs.writing.write_local.Goals as goal

pub returns : goal.returns
returns c = record {
  value = rw (
    c.push-6.ensures.value,
    c.push-5.ensures.value,
    c.push-4.ensures.value,
    c.push_number.ensures.value,
    c.push-3.ensures.value,
    c.push-2.ensures.value,
    c.push.ensures.value,
    c.new-out.ensures,
    c.as_slice.ensures.value,
    c.address_text.ensures.value,
    c.as_bytes.ensures.value,
    c.payload_type.ensures.value,
  )
      (parts_joined c.args.chosen.now);
}
