use Rattle.mg_serve.proofs.ReadBack.{read_back, cut_read_back, replayed}
use Rattle.mg_serve.proofs.theorems.recordings_are_the_session.Goals as goal

pub returns : goal.returns
returns c = record {
  read = read_back c.recordings_are_read.ensures.theorem;
  cut = cut_read_back c.recordings_are_read.ensures.cut;
  replay = replayed c.recordings_are_read.ensures.theorem c.outcomes_are_unique.ensures.events;
}
