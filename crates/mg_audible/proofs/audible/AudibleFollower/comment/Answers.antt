use Rattle.std.proofs.Common.{reverse, sym, ◌∙◌}
use Rattle.std.proofs.lemmas.Result.{on_ok_weaker}
use Rattle.mg_audible.proofs.KeepLemmas.{timed_comment_none, timed_gap_on}
use Rattle.mg_audible.proofs.audible.AudibleFollower.comment.Goals as goal

pub returns-in-Ok-None-clause-value : goal.returns-in-Ok-None-clause-value
returns-in-Ok-None-clause-value g c start base notes h =
    let old = c.args.self.now in
    let (none, is) = c.in-Ok-None.ensures.value (reverse notes) h.1.clock_is in (
      h.0,
      timed_comment_none base start.pair.talker notes c.args.line.now old.pair.whole.state old.pair.without.state
          old.clock c.pass_comment.new.self old.open (g.S.Sink.told start.sink old.sink)
          c.pass_comment.ensures.ticks (sym c.in-Ok-None.field-0-is ∙ none) is h.1,
    )

pub returns-in-Ok-Some-clause-value : goal.returns-in-Ok-Some-clause-value
returns-in-Ok-Some-clause-value g c start base notes h =
    let old = c.args.self.now in
    let pair = old.pair in
    let (some, is) = c.in-Ok-Some.ensures.value (reverse notes) h.1.clock_is in
    on_ok_weaker c.tell_gap.result (λ all. (h.0, all))
    (timed_gap_on base start.pair.talker notes c.args.line.now c.in-Ok-Some.gap pair.whole.state pair.without.state
    old.clock c.pass_comment.new.self old.open (g.S.Sink.told start.sink old.sink)
    (g.S.Sink.told start.sink c.tell_gap.new.sink) c.tell_gap.result c.pass_comment.ensures.ticks (sym c.in-Ok-Some.field-0-is ∙ some) is
    (c.tell_gap.ensures.value start.sink) h.1)
