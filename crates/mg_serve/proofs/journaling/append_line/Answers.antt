use Rattle.std.proofs.Common.{◌∙◌}
use Rattle.mg_serve.proofs.Appending.{ticks_feed}
use Rattle.mg_serve.proofs.journaling.append_line.Goals as goal

pub append-requires : goal.append-requires
append-requires g c =
    let lines = c.as_slice.ensures.value ∙ c.ticks_line.ensures.value in
    record { line_feed = rw lines (ticks_feed c.args.ticks) }
