-- The counters of a termination (RFC 3525, annexes E.11.4 and E.12.4).
use Rattle.mg_words.specs.declared.stats.Stats.{Stats}

-- The counters of a new termination, all 0.
abbrev pub no_packets : Stats
no_packets = record { ps = 0; pr = 0; os = 0; or_ = 0 }
