use Rattle.std.proofs.Common.{◌≡◌, ◌-◌, ◌≤◌, false, length, drop}
use Rattle.mg_scan.specs.Tokens.{content_len}
use Rattle.mg_scan.proofs.BraceLemmas.{moved}
use Rattle.mg_scan.proofs.octets.content_len.Given as goal

abbrev pub invariant-loop-n : goal.invariant-loop-n
invariant-loop-n l = record {
  in_range : l.from ≤ length l.bytes;
  same : moved l.from (content_len false (drop l.from l.bytes)) ≡ content_len false l.bytes;
}

abbrev pub decreases-loop-n : goal.decreases-loop-n
decreases-loop-n l = length l.bytes - l.from
