use Rattle.std.proofs.Common.{reverse, sym, ap, ◌∙◌}
use Rattle.mg_core.specs.Note.{Happened}
use Rattle.mg_dates.specs.Times.{timeline_of}
use Rattle.mg_dates.proofs.TimeLemmas.{back_one, timeline_datagram}
use Rattle.mg_dates.proofs.timeline.TimelineFollower.datagram.Goals as goal

pub returns-clause-value : goal.returns-clause-value
returns-clause-value c start base notes is run =
    let event = c.args._event.now in
    is ∙ timeline_datagram (reverse notes) event c.requires.datagram
    ∙ sym (ap timeline_of (back_one notes (Happened event)))
