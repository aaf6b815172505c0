use Rattle.std.proofs.Common.{◌≡◌, [], ◌∷◌, ◌∙◌, Some, None, ap}
use Rattle.std.proofs.lemmas.Result.{err_from_is_err_and}
use Rattle.mg_core.specs.Note.{Happened}
use Rattle.mg_core.specs.Script.{event_of}
use Rattle.mg_core.specs.aids.Resuming.{Adds, HasFollowed, KeepsUp, LinesResumed}
use Rattle.mg_core.proofs.LineLemmas.{an_event_or_none}
use Rattle.mg_core.proofs.ResumeLemmas.{comment_followed, line_resumed, resumes_err}
use Rattle.mg_core.proofs.line_resumer.LineResumer.take_plain.Goals as goal

pub returns-in_err-take_event-in-Ok-Some-clause-value : goal.returns-in_err-take_event-in-Ok-Some-clause-value
returns-in_err-take_event-in-Ok-Some-clause-value g c =
    let p = err_from_is_err_and c.from_residual-in_err-take_event-in-Ok-Some.result c.from_residual-in_err-take_event-in-Ok-Some.ensures.1 in
    let line = c.args.line.now in
    let number = c.args.number in
    let old = c.args.self.now in
    let new = c.take_event.new.self in
    rw (p.1, p.2) (λ start base.
    let follows = g.F.Follower.follows in
    let Old = KeepsUp base old.core.state old.ticks (HasFollowed follows start c.args.follower.now base) in
    let New = KeepsUp base new.core.state new.ticks (HasFollowed follows start c.take_event.new.follower base) in
    resumes_err g.F.Follower.may_stop (Adds Old New (Happened c.in-Ok-Some.event ∷ []))
    (LinesResumed Old New (line ∷ [])) (λ k. ⊥) (λ k. (k ≡ number) × (event_of line ≡ None))
    c.in_err-take_event-in-Ok-Some.field-0.0 (λ k bad. absurd bad)
    (c.in_err-take_event-in-Ok-Some.ensures.value start base))

pub returns-in_ok-comment-in-Ok-None-clause-value : goal.returns-in_ok-comment-in-Ok-None-clause-value
returns-in_ok-comment-in-Ok-None-clause-value g c start base =
    let follows = g.F.Follower.follows in
    let is : event_of c.args.line.now ≡ Some None = c.in-Ok-None.ensures ∙
    ap an_event_or_none c.in-Ok-None.field-0-is in
    let old = c.args.self.now in
    let new = c.run_ticks.new.self in
    let Old = HasFollowed follows start c.args.follower.now base in
    let New = HasFollowed follows start c.comment.new.self base in
    line_resumed (KeepsUp base old.core.state old.ticks Old) (KeepsUp base new.core.state new.ticks New)
    c.args.line.now None is
    (comment_followed base old.core.state new.core.state old.ticks new.ticks Old
    (HasFollowed follows start c.run_ticks.new.follower base) New c.args.line.now
    (λ notes h. c.in_ok-run_ticks-in-Ok-None.ensures.value start base notes h)
    c.in_ok-run_ticks-in-Ok-None.ensures.ticks
    (λ notes followed ready. c.in_ok-comment-in-Ok-None.ensures.value start base notes (followed ready)))

pub returns-in_ok-take_event-in-Ok-Some-clause-value : goal.returns-in_ok-take_event-in-Ok-Some-clause-value
returns-in_ok-take_event-in-Ok-Some-clause-value g c start base =
    let follows = g.F.Follower.follows in
    let is : event_of c.args.line.now ≡ Some (Some c.in-Ok-Some.event) = c.in-Ok-Some.ensures ∙
    ap an_event_or_none c.in-Ok-Some.field-0-is in
    let old = c.args.self.now in
    let new = c.take_event.new.self in
    line_resumed (KeepsUp base old.core.state old.ticks (HasFollowed follows start c.args.follower.now base))
    (KeepsUp base new.core.state new.ticks (HasFollowed follows start c.take_event.new.follower base))
    c.args.line.now (Some c.in-Ok-Some.event) is (c.in_ok-take_event-in-Ok-Some.ensures.value start base)
