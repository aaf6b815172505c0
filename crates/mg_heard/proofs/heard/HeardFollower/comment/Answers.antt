use Rattle.std.proofs.Common.{reverse, sym, ◌∙◌}
use Rattle.mg_heard.proofs.KeptTickLemmas.{heard_comment, heard_gap_on}
use Rattle.mg_heard.proofs.heard.HeardFollower.comment.Goals as goal

pub returns-in-Ok-None-clause-value : goal.returns-in-Ok-None-clause-value
returns-in-Ok-None-clause-value g c start base notes h =
    let old = c.args.self.now in
    let (none, is) = c.in-Ok-None.ensures.value (reverse notes) h.clock_is in
    heard_comment base notes c.args.line.now old.clock c.pass_comment.new.self old.is_changed old.open
    (g.S.Sink.told start.sink old.sink) c.pass_comment.ensures.ticks (sym c.in-Ok-None.field-0-is ∙ none) is h

pub returns-in-Ok-Some-clause-value : goal.returns-in-Ok-Some-clause-value
returns-in-Ok-Some-clause-value g c start base notes h =
    let old = c.args.self.now in
    let (some, is) = c.in-Ok-Some.ensures.value (reverse notes) h.clock_is in
    heard_gap_on base notes c.args.line.now c.in-Ok-Some.gap old.clock c.pass_comment.new.self old.is_changed old.open
    (g.S.Sink.told start.sink old.sink) (g.S.Sink.told start.sink c.tell_gap.new.sink) c.tell_gap.result
    c.pass_comment.ensures.ticks (sym c.in-Ok-Some.field-0-is ∙ some) is (c.tell_gap.ensures.value start.sink) h
