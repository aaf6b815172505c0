-- The search for an interval and a gap among the entries of a script.
use Rattle.std.specs.Prelude.{◌≡◌, List}
use Rattle.std.specs.Option.{option_or}
use Rattle.mg_heard.specs.declared.entry.Entry.{Entry}
use Rattle.mg_heard.specs.declared.instant.Instant.{Instant}
use Rattle.mg_heard.specs.Verdict.{gap_at, heard_at}

-- After these entries, the sink still has the same question. It has also found the first matching interval and the
-- first matching gap, if there are any, unless it had found one before.
pub record HasFound (start now : Instant) (xs : List Entry) : Type 0 where
  pub query : now.query ≡ start.query
  pub time : now.time ≡ start.time
  pub heard : now.heard ≡ option_or start.heard (heard_at start.query start.time xs)
  pub gap : now.gap ≡ option_or start.gap (gap_at start.time xs)
