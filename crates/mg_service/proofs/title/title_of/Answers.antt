use Rattle.std.proofs.Common.{◌++◌, codes, decimal}
use Rattle.mg_words.specs.Address.{address_text}
use Rattle.mg_service.proofs.TitleLemmas.{joined}
use Rattle.mg_service.proofs.title.title_of.Goals as goal

pub returns : goal.returns
returns c = record {
  value = rw (
    c.push_number-8.ensures.value,
    c.push_number-7.ensures.value,
    c.push_number-6.ensures.value,
    c.push_number-5.ensures.value,
    c.push_number-4.ensures.value,
    c.push_number-3.ensures.value,
    c.push_number-2.ensures.value,
    c.push_number.ensures.value,
    c.push_address-2.ensures.value,
    c.push_address.ensures.value,
    c.push_text.ensures.value,
    c.new-title.ensures,
    c.from.ensures,
    c.from-2.ensures,
    c.from-3.ensures,
    c.from-4.ensures,
  ) (joined (codes "mg_bridge replay")
      (codes " --address=" ++ address_text c.args.config.now.address)
      (codes " --control-address=" ++ address_text c.args.config.now.control_address)
      (codes " --control-port=" ++ decimal c.args.config.now.control_port)
      (codes " --base-port=" ++ decimal c.args.config.now.base_port)
      (codes " --slots=" ++ decimal c.args.config.now.slots)
      (codes " --first-termination=" ++ decimal c.args.config.now.first_termination)
      (codes " --first-context=" ++ decimal c.args.config.now.first_context)
      (codes " --ssrc=" ++ decimal c.args.config.now.ssrc)
      (codes " --sequence=" ++ decimal c.args.config.now.sequence)
      (codes " --timestamp=" ++ decimal c.args.config.now.timestamp));
}
