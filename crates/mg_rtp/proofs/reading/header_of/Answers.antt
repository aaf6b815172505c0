use Rattle.std.proofs.Common.{get_or, arith}
use Rattle.mg_rtp.proofs.Parts.{IsBytes, twelve, bytes_at_2, bytes_at_4, second_of}
use Rattle.mg_rtp.proofs.reading.header_of.Goals as goal

pub returns-clause-fields : goal.returns-clause-fields
returns-clause-fields c =
    let head = c.args.head.now in
    let fits : IsBytes head = λ i. omega (arith, c.type_inv.head i) in
    let cells = twelve head c.requires in
    let second = second_of (get_or head 1 0) (fits 1) in
    let sequence = bytes_at_2 head 2 c.read_u16.result fits c.read_u16.ensures in
    let timestamp = bytes_at_4 head 4 c.read_u32.result fits c.read_u32.ensures in
    let ssrc = bytes_at_4 head 8 c.read_u32-2.result fits c.read_u32-2.ensures in
    cc
