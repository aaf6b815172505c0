use Rattle.mg_fence.proofs.ReachedLemmas.{reaches_media, reaches_message}
use Rattle.mg_fence.proofs.fence_reader.FenceReaderFollower.datagram.Goals as goal

pub returns-in-Control-clause-value : goal.returns-in-Control-clause-value
returns-in-Control-clause-value c start base notes h run =
    rw c.in-Control.is (reaches_message c.pass_message.result notes c.in-Control.field-0 c.in-Control.bytes
    c.args.self.now.reached c.pass_message.new.self.reached h (rw c.as_slice.ensures.value at c.pass_message.ensures.value))

pub returns-in-Media-clause-value : goal.returns-in-Media-clause-value
returns-in-Media-clause-value c start base notes h run =
    rw c.in-Media.is (reaches_media notes c.in-Media.field-0 c.in-Media.field-1 c.in-Media.field-2
    c.args.self.now.reached h)
