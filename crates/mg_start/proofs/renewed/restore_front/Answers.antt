use Rattle.std.proofs.Common.{◌∙◌}
use Rattle.mg_start.proofs.RenewedLemmas.{restored}
use Rattle.mg_start.proofs.renewed.restore_front.Goals as goal

pub returns-in-Ok : goal.returns-in-Ok
returns-in-Ok g c = record {
  restored = restored c.args.config (g.R.Read.remaining c.args.reader.now) (g.R.Read.remaining c.read_title.new.reader)
      (g.R.Read.remaining c.read_checkpoint.new.reader) c.as_slice.result.now c.as_slice-2.result.now
      c.in_ok-text.text.items c.in-Ok.core.state (c.as_slice.ensures.value ∙ c.title_line_of.ensures.value)
      c.as_slice-2.ensures.value c.in_ok-read_title.ensures.read c.in_ok-text.ensures.read c.in-Ok.ensures.base;
}
