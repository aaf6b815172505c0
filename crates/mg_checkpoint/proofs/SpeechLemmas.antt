-- What a checkpoint leaves out.
use Rattle.std.proofs.Common.{◌≡◌, List, [], ◌∷◌, map, refl, ap}
use Rattle.mg_engine.specs.Apart.{without_arrivals}
use Rattle.mg_engine.specs.Gateway.{TerminationMedia}
use Rattle.mg_engine.specs.Restored.{media_without_speech}
use Rattle.mg_checkpoint.specs.Checkpoint.{CheckpointsLoseSpeechOnly}

same_arrivals : (ms : List TerminationMedia)
    → map without_arrivals ms ≡ map without_arrivals (map media_without_speech ms)
same_arrivals [] = refl
same_arrivals (m ∷ ms) = ap (λ rest. without_arrivals m ∷ rest) (same_arrivals ms)

pub lose_speech_only : CheckpointsLoseSpeechOnly
lose_speech_only w = record {
  config = refl;
  rooms = refl;
  edits = refl;
  media = same_arrivals w.gateway.media;
  replies = refl;
  ticks = refl;
}
