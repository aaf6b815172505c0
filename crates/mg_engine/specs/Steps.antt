-- Single steps of a termination's media.
use Rattle.std.specs.Prelude.{ℕ, ◌+◌, ◌-◌, ◌^◌, min, Option, Some, None}
use Rattle.mg_playout.specs.Playout.{PlayList, with_depth}
use Rattle.mg_rooms.specs.Settings.{depth_after}
use Rattle.mg_words.specs.declared.stats.Stats.{Stats}

-- The play list after a command, which sets the depth if the command specifies a depth.
abbrev pub play_after : Option ℕ → PlayList → PlayList
play_after None play = play
play_after (Some depth) play = with_depth play (depth_after (Some depth) depth)

-- A counter after an increase. A counter that reaches its maximum stays there.
abbrev pub counted_up : ℕ → ℕ → ℕ
counted_up more n = min (n + more) (2 ^ 64 - 1)

-- The counters after a packet with 160 octets of payload is received.
abbrev pub received : Stats → Stats
received s = record s { pr = counted_up 1 s.pr; or_ = counted_up 160 s.or_ }

-- The counters after a packet is sent.
abbrev pub transmitted : Stats → Stats
transmitted s = record s { ps = counted_up 1 s.ps; os = counted_up 160 s.os }
