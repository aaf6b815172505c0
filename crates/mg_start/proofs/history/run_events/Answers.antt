use Rattle.std.proofs.Common.{inl, refl, ◌∙◌}
use Rattle.mg_core.specs.World.{start_of}
use Rattle.mg_journal.specs.aids.Opened.{text_in}
use Rattle.mg_start.proofs.StartLemmas.{new_times, resumes_from}
use Rattle.mg_start.proofs.history.run_events.Goals as goal

pub returns-in-Ok-clause-resumed : goal.returns-in-Ok-clause-resumed
returns-in-Ok-clause-resumed g c =
    let text = text_in c.args.opening.file in
    resumes_from text text _ c.args.config (start_of c.args.config) c.in-Ok.core.state c.resume.new.follower.timeline
    c.resume.new.follower.fence.reached c.requires.lines (inl (refl, refl))
    (rw (c.new-reading.ensures.opening, c.requires.front) at c.in-Ok.ensures.resumed)
    (rw (c.new-reading.ensures.opening, c.requires.front) at
    (c.in-Ok.ensures.followed (c.new-reader.ensures.times ∙ new_times, c.new-reader.ensures.reached)))
