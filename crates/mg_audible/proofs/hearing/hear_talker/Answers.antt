use Rattle.std.proofs.Common.{ℕ, [], refl, sym, subst, ◌∙◌}
use Rattle.mg_audible.specs.Told.{TellsAudible}
use Rattle.mg_audible.specs.aids.Keeping.{KeepsTimed}
use Rattle.mg_audible.proofs.hearing.hear_talker.Goals as goal

pub returns-in_ok-finish-in-Ok : goal.returns-in_ok-finish-in-Ok
returns-in_ok-finish-in-Ok g c = record {
  told = λ base stand is none told.
      let talker = c.args.talker in
      let first = c.in_ok-audible.audible in
      let last = c.resume_from.new.follower in
      let out = c.in_ok-finish-in-Ok.field-0 in
      let begun = c.in_ok-audible.ensures in
      let h = c.in-Ok.ensures.followed base stand.script (
        refl,
        subst (λ (n : ℕ). KeepsTimed base n [] first.pair.whole.state
            first.pair.without.state first.clock first.open (g.S.Sink.told first.sink first.sink))
            (sym begun.talker)
            (begun.start base (record { whole = stand.whole; without = stand.without }) told),
      ) in (
        c.in-Ok.core.state,
        record {
          script = h.script;
          read = h.read;
          notes = h.notes;
          are = h.are;
          run = h.run;
          follows = (
            subst (λ (s : g.row.S.Denot). TellsAudible base talker h.notes (g.S.Sink.told s out)) begun.sink
                (subst (λ (n : ℕ). TellsAudible base n h.notes (g.S.Sink.told first.sink out))
                (h.follows.0 ∙ begun.talker) (c.in_ok-finish-in-Ok.ensures.value first.sink base h.notes is
                (subst (λ (n : ℕ). KeepsTimed base n h.notes last.pair.whole.state last.pair.without.state
                last.clock last.open (g.S.Sink.told first.sink last.sink)) (sym h.follows.0) h.follows.1))),
            c.has_rtp-has_rtp.ensures.value base h.notes is none h.run,
          );
        },
      );
}
