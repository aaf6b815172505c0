use Rattle.mg_serve.proofs.Steps.{media_steps}
use Rattle.mg_serve.proofs.server.Server.take_media.Goals as goal

pub returns-clause-value : goal.returns-clause-value
returns-clause-value g c w stands =
    let (next, takes, after) = c.media-taken.ensures.taken w stands in (
      next,
      media_steps c.args.setup.now c.args.socket c.media_port-port.result c.args.source c.args.bytes.now w next
          c.media-taken.result c.requires.first c.media_port-port.ensures.value takes,
      after,
    )
