use Rattle.std.proofs.Common.{length}
use Rattle.mg_journal.proofs.AppendLemmas.{all_left}
use Rattle.mg_journal.proofs.writing.put_lines.Goals as goal

pub returns-in-Err-synced : goal.returns-in-Err-synced
returns-in-Err-synced g c = record {
  value = (
    length c.args.lines.now,
    all_left (g.F.JournalFile.file c.args.file.now) (g.F.JournalFile.file c.write_whole.new.file)
        (g.F.JournalFile.file c.sync-synced.new.self) c.args.lines.now c.in_default.ensures.value c.in-Err-synced.ensures.value,
  );
}
