-- The postconditions of `read` follow from `IsOutcome`, which each of its exits proves.
use Rattle.std.proofs.Common.{◌≡◌, ℕ, List, Result, Ok, Err, sym, ap, subst}
use Rattle.std.specs.Prelude.{◌↔◌, MatchResult, IfOk, IsOkAnd}
use Rattle.mg_rtp.specs.declared.header.Header.{Header}
use Rattle.mg_rtp.specs.declared.packet.Packet.{Packet}
use Rattle.mg_rtp.specs.declared.rtp_fault.RtpFault.{RtpFault}
use Rattle.mg_rtp.specs.Packet.{IsPacket}
use Rattle.mg_rtp.specs.RtpFault.{IsFault}
use Rattle.mg_rtp.proofs.Once.{packet_once, fault_once, no_fault}

-- The result is a packet and the bytes are that packet, or it is a fault and the bytes have that fault.
abbrev pub IsOutcome : List ℕ → Result Packet RtpFault → Type 0
IsOutcome bytes r = MatchResult r (λ packet. IsPacket bytes packet.header packet.payload.now)
    (λ fault. IsFault bytes fault)

-- A fault is a correct outcome if the bytes have that fault.
pub err_outcome : (bytes : List ℕ) (r : Result Packet RtpFault) (fault : RtpFault) → r ≡ Err fault →
    IsFault bytes fault → IsOutcome bytes r
err_outcome bytes r fault e h = subst (IsOutcome bytes) (sym e) h

-- If a packet is returned, the bytes are that packet.
pub found_packet : (bytes : List ℕ) (r : Result Packet RtpFault) → IsOutcome bytes r →
    IfOk r (λ packet. IsPacket bytes packet.header packet.payload.now)
found_packet bytes (Ok packet) a = a
found_packet bytes (Err fault) a = tt

-- If the bytes are a packet, that packet is returned.
pub only_packet : (bytes : List ℕ) (r : Result Packet RtpFault) → IsOutcome bytes r → (h : Header) (p : List ℕ) →
    IsPacket bytes h p → IsOkAnd r (λ packet. (packet.header ≡ h) × (packet.payload.now ≡ p))
only_packet bytes (Ok packet) a h p b = packet_once bytes packet.header h packet.payload.now p a b
only_packet bytes (Err fault) a h p b = absurd (no_fault bytes h p fault b a)

-- A fault is returned if and only if the bytes have that fault.
pub only_fault : (bytes : List ℕ) (r : Result Packet RtpFault) → IsOutcome bytes r → (fault : RtpFault) →
    (r ≡ Err fault) ↔ IsFault bytes fault
only_fault bytes (Ok packet) a fault = (
  λ e. absurd cc,
  λ b. absurd (no_fault bytes packet.header packet.payload.now fault a b),
)
only_fault bytes (Err other) a fault = (
  λ e. let same : other ≡ fault = cc in
      subst (IsFault bytes) same a,
  λ b. ap (λ (x : RtpFault). Err x) (fault_once bytes other fault a b),
)
