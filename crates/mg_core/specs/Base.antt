-- The worlds with which a gateway may begin: a new gateway's world, and any other world that meets the same invariants.
use Rattle.std.specs.Prelude.{◌≡◌, ℕ, ◌<◌, ◌^◌, List, length, map}
use Rattle.mg_kept.specs.KeptReplies.{AreKept}
use Rattle.mg_playout.specs.Playout.{depth_of}
use Rattle.mg_rooms.specs.Consistent.{IsConsistent}
use Rattle.mg_engine.specs.declared.config.Config.{Config}
use Rattle.mg_engine.specs.Config.{IsValidConfig, limits_of}
use Rattle.mg_engine.specs.Gateway.{numbers_of}
use Rattle.mg_core.specs.declared.event.Event.{Event}
use Rattle.mg_core.specs.Step.{Sent, Run}
use Rattle.mg_core.specs.World.{World, start_of}

-- A gateway can start with this configuration, and its first termination number fits in 32 bits.
abbrev pub IsStart : Config → Type 0
IsStart config = IsValidConfig config × (config.first_termination < 2 ^ 32)

-- The depths of the play lists.
abbrev pub depths_in : World → List ℕ
depths_in w = map (λ s. depth_of s.play) w.gateway.media

-- A gateway may begin with this world. Its terminations and contexts are consistent, within the limits of a valid
-- configuration. Each termination has media, in order of number, and its play list has the depth in its record. There
-- are at most 32 kept replies, and no two answer the same request. Each outcome of an RTP datagram has a count.
pub record IsBase (w : World) : Type 0 where
  pub config : IsStart w.gateway.config
  pub limits : w.gateway.rooms.limits ≡ limits_of w.gateway.config
  pub rooms : IsConsistent w.gateway.rooms
  pub numbers : map (λ s. s.number) w.gateway.media ≡ numbers_of w.gateway
  pub depths : depths_in w ≡ map (λ r. r.depth) w.gateway.rooms.terminations
  pub replies : AreKept w.replies
  pub results : length w.tally.results ≡ 11

-- A new gateway's world is a base.
abbrev pub StartsAreBases : Type 0
StartsAreBases = (config : Config) → IsStart config → IsBase (start_of config)

-- After any sequence of events, the world of a gateway that began with a base is a base with the same configuration.
abbrev pub BasesStayBases : Type 0
BasesStayBases =
    (base w : World) (events : List Event) (sent : List Sent)
    → IsBase base → Run base events sent w → IsBase w × (w.gateway.config ≡ base.gateway.config)
