use Rattle.std.proofs.Common.{◌++◌, ◌∷◌, [], sym, subst}
use Rattle.mg_heard.specs.declared.entry.Entry.{Entry}
use Rattle.mg_heard.specs.aids.Finding.{HasFound}
use Rattle.mg_heard.proofs.FindingLemmas.{found_audible, found_gap, found_interval}
use Rattle.mg_heard.proofs.instant.InstantSink.tell.Goals as goal

pub returns-in-Interval : goal.returns-in-Interval
returns-in-Interval c =
    let new = c.take_interval.new.self in
    record {
      value = λ start before h. subst (λ (y : Entry). HasFound start new (before ++ y ∷ [])) (sym c.in-Interval.is)
          (found_interval start c.args.self.now new before c.in-Interval.interval c.take_interval.ensures.value h);
    }

pub returns-in-Gap : goal.returns-in-Gap
returns-in-Gap c =
    let new = c.take_gap.new.self in
    record {
      value = λ start before h. subst (λ (y : Entry). HasFound start new (before ++ y ∷ [])) (sym c.in-Gap.is)
          (found_gap start c.args.self.now new before c.in-Gap.gap c.take_gap.ensures.value h);
    }

pub returns-in-Audible : goal.returns-in-Audible
returns-in-Audible c =
    let self = c.args.self.now in
    record {
      value = λ start before h. subst (λ (y : Entry). HasFound start self (before ++ y ∷ [])) (sym c.in-Audible.is)
          (found_audible start self before c.in-Audible.field-0 h);
    }
