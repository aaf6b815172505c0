use Rattle.std.proofs.Common.{[], ◌∷◌, codes}
use Rattle.mg_serve.specs.Trace.{Noted, Printed}
use Rattle.mg_serve.proofs.Printing.{prints_both}
use Rattle.mg_serve.proofs.printer.Printer.open.Goals as goal

pub returns-in-Some : goal.returns-in-Some
returns-in-Some g c = record {
  value = rw c.in-Some.is (prints_both c.args.self.now c.note.new.self c.print-in-Some.new.self
      (g.W.Write.contents c.args.writer.now) (g.W.Write.contents c.note.new.writer)
      (g.W.Write.contents c.print-in-Some.new.writer) (Noted c.in-Some.text.now ∷ []) (Printed (codes "ready") ∷ [])
      c.note.ensures.value c.print-in-Some.ensures.value);
}
