-- The result of reading a datagram: a packet or a fault.
use Rattle.std.specs.Prelude.{ℕ, List, Result, Ok, Err}
use Rattle.mg_rtp.specs.declared.header.Header.{Header}
use Rattle.mg_rtp.specs.declared.rtp_fault.RtpFault.{RtpFault}
use Rattle.mg_rtp.specs.Packet.{IsPacket}
use Rattle.mg_rtp.specs.RtpFault.{IsFault}

-- A header and a payload, or a fault.
abbrev pub Reading : Type 0
Reading = Result (Header × List ℕ) RtpFault

abbrev pub IsPacketReading : List ℕ → Reading → Type 0
IsPacketReading bytes (Ok p) = IsPacket bytes p.0 p.1
IsPacketReading bytes (Err fault) = IsFault bytes fault
