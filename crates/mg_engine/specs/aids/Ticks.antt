-- Ticks, one after another.
use Rattle.std.specs.Prelude.{ℕ, zero, suc, ◌+◌}
use Rattle.std.specs.Fn.{iterate}
use Rattle.mg_engine.specs.Gateway.{Gateway}
use Rattle.mg_engine.specs.Tick.{after_tick, concealed_in_tick}

abbrev pub after_ticks : ℕ → Gateway → Gateway
after_ticks count w = iterate after_tick count w

-- The number of missing frames that this many ticks conceal.
abbrev pub concealed_in_ticks : ℕ → Gateway → ℕ
concealed_in_ticks zero w = 0
concealed_in_ticks (suc count) w =
    concealed_in_tick w + concealed_in_ticks count (after_tick w)
