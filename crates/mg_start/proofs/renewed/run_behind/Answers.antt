use Rattle.std.proofs.Common.{◌≡◌, ◌∙◌, ap}
use Rattle.std.specs.Io.Buffered.{reader_remaining}
use Rattle.mg_start.proofs.RenewedLemmas.{buffers_nothing, resumes_behind}
use Rattle.mg_start.proofs.StartLemmas.{new_times}
use Rattle.mg_start.proofs.renewed.run_behind.Goals as goal

pub returns-in-Ok-resume_from : goal.returns-in-Ok-resume_from
returns-in-Ok-resume_from g c =
    let restored = c.in_ok-restored.ensures.restored in
    let same : reader_remaining (λ r. g.R.Read.remaining r.now) c.in-Ok.buffered ≡ g.R.Read.remaining c.args.journal.now =
    buffers_nothing (λ r. g.R.Read.remaining r.now) c.in-Ok.buffered c.in-Ok.ensures.capacity c.in-Ok.ensures.empty
    ∙ ap (λ r. g.R.Read.remaining r.now) c.in-Ok.ensures.inner in
    record {
      resumed = resumes_behind (g.R.Read.remaining c.args.journal.now) _ _ _ c.args.config _ c.in-Ok-resume_from.core.state
          c.resume_from.new.follower.timeline c.resume_from.new.follower.fence.reached restored same c.requires.lines
          (c.in-Ok-resume_from.ensures.resumed restored.base restored.stands)
          (c.in-Ok-resume_from.ensures.followed restored.base restored.stands
          (c.requires.times ∙ new_times, c.requires.reached));
    }
