use Rattle.std.proofs.Common.{length, ap, ◌∙◌, arith}
use Rattle.std.proofs.lemmas.List.{take_rest, length-drop}
use Rattle.mg_journal.proofs.AppendLemmas.{front_more}
use Rattle.mg_journal.proofs.writing.write_whole.Goals as goal
use Rattle.mg_journal.proofs.writing.write_whole.Goals.{in-Ok, in-Err}

pub loop-preserved : goal.loop-preserved
loop-preserved g c =
    let text = c.args.text.now in
    let rest = take_rest text c.loop.at in
    elim c.match-write.branch [
      | in-Ok w ↦ record {
        within = omega (
          arith,
          w.at-is,
          w.in-Ok.ensures.value.0,
          ap length rest,
          length-drop c.loop.at text,
          c.loop.invariant.within,
        );
        written = rw w.at-is (front_more (g.F.JournalFile.file c.args.file.now) (g.F.JournalFile.file c.loop.file)
            (g.F.JournalFile.file c.write.new.self) text c.loop.at w.in-Ok.n c.loop.invariant.written
            (rw rest at w.in-Ok.ensures.value.1));
      }
      | in-Err w ↦ record {
        within = rw w.at-is c.loop.invariant.within;
        written = rw w.at-is (w.in-Err.ensures.value ∙ c.loop.invariant.written);
      }
    ]
