use Rattle.std.proofs.Common.{◌≡◌, ℕ, List, Ok, Err, ap, ◌∙◌}
use Rattle.mg_rtp.specs.declared.header.Header.{Header}
use Rattle.mg_rtp.specs.declared.rtp_fault.RtpFault.{RtpFault}
use Rattle.mg_rtp.specs.Reading.{Reading, IsPacketReading}
use Rattle.mg_rtp.specs.aids.Read.{reading_of}
use Rattle.mg_rtp.proofs.Once.{packet_once, fault_once, is_reading, no_fault}
use Rattle.mg_rtp.proofs.theorems.one_reading.Goals as goal

abbrev packet : Header → List ℕ → Reading
packet h p = Ok (h, p)

same_reading : (bytes : List ℕ) (a b : Reading) → IsPacketReading bytes a → IsPacketReading bytes b → a ≡ b
same_reading bytes (Ok p) (Ok q) h k =
    let same = packet_once bytes p.0 q.0 p.1 q.1 h k in
    ap (λ (x : Header). packet x p.1) same.0 ∙ ap (λ (x : List ℕ). packet q.0 x) same.1
same_reading bytes (Ok p) (Err f) h k = absurd (no_fault bytes p.0 p.1 f h k)
same_reading bytes (Err f) (Ok p) h k = absurd (no_fault bytes p.0 p.1 f k h)
same_reading bytes (Err f) (Err g) h k = ap (λ (x : RtpFault). Err x) (fault_once bytes f g h k)

pub returns : goal.returns
returns c = record {
  some =
      (reading_of c.read.result, is_reading c.args.bytes.now c.read.result c.read.ensures.found c.read.ensures.fault);
  at_most_one = same_reading;
}
