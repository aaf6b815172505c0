use Rattle.std.proofs.Common.{inl, inr}
use Rattle.clap.specs.Words.{kind_of}
use Rattle.mg_options.proofs.EndLemmas.{done_is_small, told_is_small}
use Rattle.mg_options.specs.declared.status.Status.TheVariants.{Done}
use Rattle.mg_pacer.proofs.ProgramLemmas.{run_is_small}
use Rattle.mg_pacer.proofs.entry.program.Goals.{in-Ok, in-Err+in-Some-1, in-Err+in-None-1}
use Rattle.mg_pacer.proofs.entry.program.Goals as goal

pub returns-clause-status : goal.returns-clause-status
returns-clause-status g c = rw c.code.ensures.value (elim c.match-requested_options.branch [
  | in-Ok w ↦ rw w.status-is (run_is_small w.run-status.ensures.value.outcome _ w.run-status.ensures.value.is)
  | in-Err+in-Some-1 w ↦ rw w.status-is
      (told_is_small (kind_of w.in-Err.error) Done _ _ _ done_is_small w.report_error-status.ensures.reported)
  | in-Err+in-None-1 w ↦ rw w.status-is
      (told_is_small (kind_of w.in-Err.error) Done _ _ _ done_is_small w.report_error-status.ensures.reported)
])

pub returns-clause-ends : goal.returns-clause-ends
returns-clause-ends g c =
    record {
      status = c.match-requested_options.status;
      reported = c.code.ensures.value;
      ends = elim c.match-requested_options.branch [
        | in-Ok w ↦ rw (w.status-is, w.watch-is, w.output-is, w.errors-is, w.in-Ok.ensures.requested)
            (inl w.run-status.ensures.value)
        | in-Err+in-Some-1 w ↦ rw (w.status-is, w.output-is, w.errors-is) (inr (record {
          kind = kind_of w.in-Err.error;
          refused = w.in-Err.ensures.refused;
          is_left = w.watch-is;
          reported = w.report_error-status.ensures.reported;
          quiet = w.report_error-status.ensures.quiet;
        }))
        | in-Err+in-None-1 w ↦ rw (w.status-is, w.output-is, w.errors-is) (inr (record {
          kind = kind_of w.in-Err.error;
          refused = w.in-Err.ensures.refused;
          is_left = w.watch-is;
          reported = w.report_error-status.ensures.reported;
          quiet = w.report_error-status.ensures.quiet;
        }))
      ];
    }
