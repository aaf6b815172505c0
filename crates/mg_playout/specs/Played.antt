-- The sound that a play list plays in a tick (not from a standard).
use Rattle.std.specs.Prelude.{ℤ, Bool, true, false, List, map, Option, Some, None}
use Rattle.mg_g711.specs.Frame.{halved}
use Rattle.mg_playout.specs.declared.played.Played.{Played}
use Rattle.mg_playout.specs.declared.played.Played.TheVariants.{Silence, Frame, Concealed}

-- What is played, given the frame that is due and the last frame. A missing frame is replaced by the last frame, halved
-- and rounded toward zero, or by silence if there is no last frame.
abbrev pub given : Option (List ℤ) → Option (List ℤ) → Played
given (Some frame) last = Frame frame
given None (Some last) = Concealed (map halved last)
given None None = Silence

-- The frame that is heard, or `None` for silence.
abbrev pub sound_of : Played → Option (List ℤ)
sound_of Silence = None
sound_of (Frame frame) = Some frame
sound_of (Concealed frame) = Some frame

-- The frame that is played, if it was received in a packet, and otherwise `None`.
abbrev pub frame_from_packet : Played → Option (List ℤ)
frame_from_packet Silence = None
frame_from_packet (Frame frame) = Some frame
frame_from_packet (Concealed frame) = None

abbrev pub is_concealed : Played → Bool
is_concealed Silence = false
is_concealed (Frame frame) = false
is_concealed (Concealed frame) = true
