-- The total of a context in this tick, and the mix that each listener is sent. Totals are not saturated, and a mix is
-- saturated once. This is the project's own rule.
use Rattle.std.specs.Prelude.{ℕ, ℤ, pos, Bool, true, false, List, map, ◌&&◌, nat_lt}
use Rattle.std.specs.Prelude.{Option, Some, None, is_some, slice_index_or, if◌then◌else◌}
use Rattle.std.specs.List.{range_with_len}
use Rattle.mg_words.specs.declared.mode.Mode.{Mode}
use Rattle.mg_words.specs.declared.mode.Mode.TheVariants.{Loopback}
use Rattle.mg_words.specs.Mode.{talks}
use Rattle.mg_rooms.specs.Registry.{context_at, members_at}
use Rattle.mg_sums.specs.Samples.{sum_of, nearest_sample}
use Rattle.mg_engine.specs.Gateway.{Gateway, frame_of, mode_of, numbers_of}
use Rattle.mg_engine.specs.Flow.{flow}

-- Sample i of the frame that this tick plays.
abbrev pub played_sample : Gateway → ℕ → ℕ → ℤ
played_sample w n i = slice_index_or (frame_of w n) i (pos 0)

-- The number that a member adds to its context's total: its sample if it talks, and otherwise 0.
abbrev pub part_of_total : Gateway → ℕ → ℕ → ℤ
part_of_total w i n = if talks (mode_of w n) then played_sample w n i else pos 0

-- The sum of sample i over all talkers of a context, without saturation.
abbrev pub total : Gateway → ℕ → ℕ → ℤ
total w c i = sum_of (part_of_total w i) (members_at w.rooms c)

-- The sum of sample i over all talkers of a context, or `None` if the context does not exist or i is not below 160.
abbrev pub total_at : Gateway → ℕ → ℕ → Option ℤ
total_at w c i = if is_some (context_at w.rooms c) && nat_lt i 160 then Some (total w c i) else None

-- The number that a talker adds to a listener's mix: its sample if its speech flows to the listener, and otherwise 0.
abbrev pub part_of_mix : Gateway → ℕ → ℕ → ℕ → ℤ
part_of_mix w listener i talker = if flow w talker listener then played_sample w talker i else pos 0

-- The sum of sample i over all talkers whose speech flows to the listener, without saturation.
abbrev pub heard : Gateway → ℕ → ℕ → ℤ
heard w listener i = sum_of (part_of_mix w listener i) (numbers_of w)

abbrev pub is_loopback : Mode → Bool
is_loopback Loopback = true
is_loopback _ = false

-- Sample i of the mix that a termination is sent. In Loopback it is the termination's own sample. Otherwise it is the
-- sum over all talkers whose speech flows to the termination, saturated once.
abbrev pub mix : Gateway → ℕ → ℕ → ℤ
mix w n i = if is_loopback (mode_of w n) then played_sample w n i else nearest_sample (heard w n i)

abbrev pub mixed : Gateway → ℕ → List ℤ
mixed w n = map (mix w n) (range_with_len 0 160)
