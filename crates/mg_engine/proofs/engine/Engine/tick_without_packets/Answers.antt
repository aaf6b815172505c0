use Rattle.mg_engine.proofs.Common.{all_played}
use Rattle.mg_engine.proofs.engine.Engine.tick_without_packets.Goals as goal

pub returns-clause-concealed : goal.returns-clause-concealed
returns-clause-concealed c w h = c.play_all-concealed.ensures.concealed w h

pub returns-clause-after : goal.returns-clause-after
returns-clause-after c w h = c.end_all.ensures.after (all_played w) (c.play_all-concealed.ensures.after w h)
