-- Checkpoints: texts from which a gateway goes on.
use Rattle.std.specs.Prelude.{◌≡◌, ℕ, List}
use Rattle.mg_engine.specs.Restored as engine
use Rattle.mg_core.specs.ExceptReceived.{AgreeExceptReceived}
use Rattle.mg_core.specs.World.{World, no_events}
use Rattle.mg_checkpoint.specs.Said.{Said, said_of}
use Rattle.mg_checkpoint.specs.aids.Text.{text_of}

abbrev pub checkpoint_text : World → List ℕ
checkpoint_text w = text_of (said_of w)

-- If the texts of two checkpoints are equal, they say the same. So a reader need not know how lines are written.
abbrev pub TextsDetermineSaid : Type 0
TextsDetermineSaid = (a b : Said) → text_of a ≡ text_of b → a ≡ b

-- The world as if no RTP datagram had arrived: the terminations have received nothing, and only control datagrams and
-- ticks are counted.
abbrev pub without_speech : World → World
without_speech w = record w {
  gateway = engine.without_speech w.gateway;
  tally = record no_events { control = w.tally.control; ticks = w.tally.ticks };
}

-- A world and what a checkpoint restores of it agree except for what was received. So they still agree in this way
-- after the same control datagrams and ticks (`RtpChangesSpeechOnly`).
abbrev pub CheckpointsLoseSpeechOnly : Type 0
CheckpointsLoseSpeechOnly = (w : World) → AgreeExceptReceived w (without_speech w)
