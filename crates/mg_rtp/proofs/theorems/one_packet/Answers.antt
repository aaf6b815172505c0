use Rattle.mg_rtp.proofs.Once.{packet_once}
use Rattle.mg_rtp.proofs.theorems.one_packet.Goals as goal

pub returns : goal.returns
returns c = record { at_most_one = packet_once }
