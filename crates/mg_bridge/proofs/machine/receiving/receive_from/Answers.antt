use Rattle.std.proofs.Common.{◌≤◌, length}
use Rattle.std.proofs.lemmas.Result.{IfOk-weaker}
use Rattle.io.specs.Counts.{IsPrefixLen}
use Rattle.mg_bridge.proofs.machine.receiving.receive_from.Goals as goal

pub returns : goal.returns
returns c =
    let room = length c.recv_from.new.buf in
    record {
      within = c.datagram_of.ensures.within room
          (IfOk-weaker c.recv_from.result (λ received. IsPrefixLen received.0 c.recv_from.new.buf) (λ received. received.0 ≤ room)
          (λ received fits. fits.0) c.recv_from.ensures);
    }
