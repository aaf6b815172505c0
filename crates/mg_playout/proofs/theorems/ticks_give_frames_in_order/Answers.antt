use Rattle.mg_playout.proofs.TickLemmas.{given_after-running, given_after-waiting, given_after-started}
use Rattle.mg_playout.proofs.TickLemmas.{frame_from_packet-given_at}
use Rattle.mg_playout.proofs.theorems.ticks_give_frames_in_order.Goals as goal

pub returns-clause-run : goal.returns-clause-run
returns-clause-run c = given_after-running

pub returns-clause-early : goal.returns-clause-early
returns-clause-early c = given_after-waiting

pub returns-clause-wait : goal.returns-clause-wait
returns-clause-wait c = given_after-started

pub returns-clause-frames : goal.returns-clause-frames
returns-clause-frames c = frame_from_packet-given_at
