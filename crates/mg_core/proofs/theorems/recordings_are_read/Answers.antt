use Rattle.mg_core.proofs.RecordingLemmas as recording
use Rattle.mg_core.proofs.theorems.recordings_are_read.Goals as goal

pub returns : goal.returns
returns c = record { theorem = recording.recordings_are_read; cut = recording.cut_recordings_are_read }
