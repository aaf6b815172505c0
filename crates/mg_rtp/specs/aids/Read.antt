-- The result of `read` as a reading.
use Rattle.std.specs.Prelude.{Result, Ok, Err}
use Rattle.mg_rtp.specs.declared.packet.Packet.{Packet}
use Rattle.mg_rtp.specs.declared.rtp_fault.RtpFault.{RtpFault}
use Rattle.mg_rtp.specs.Reading.{Reading}

-- The header and payload of a packet, or the fault.
abbrev pub reading_of : Result Packet RtpFault → Reading
reading_of (Ok packet) = Ok (packet.header, packet.payload.now)
reading_of (Err fault) = Err fault
