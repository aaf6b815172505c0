use Rattle.std.proofs.Common.{◌≡◌, ◌∙◌, [], subst, sym, ap}
use Rattle.mg_core.specs.declared.event.Event.{Event}
use Rattle.mg_core.specs.declared.event.Event.TheVariants.{Control, Media}
use Rattle.mg_core.specs.Headline.{ExtendsHistory}
use Rattle.mg_core.specs.Step.{answer_to, reported}
use Rattle.mg_core.specs.aids.Resuming.{HasFollowed}
use Rattle.mg_core.proofs.ResumeLemmas.{datagram_followed}
use Rattle.mg_core.proofs.line_resumer.LineResumer.take_event.Goals as goal

pub returns-in_ok-datagram-in-Media-clause-value : goal.returns-in_ok-datagram-in-Media-clause-value
returns-in_ok-datagram-in-Media-clause-value g c start base =
    let follows = g.F.Follower.follows in
    let event = Media c.in-Media.port c.in-Media.source c.as_slice.result.now in
    let is : c.args.event.now ≡ event = c.in-Media.is
    ∙ ap (Media c.in-Media.port c.in-Media.source) (sym c.as_slice.ensures.value) in
    let mid = c.run_ticks.new.self.core.state in
    let new = c.media.new.self.state in
    datagram_followed base c.args.self.now.core.state mid new c.args.self.now.ticks c.run_ticks.new.self.ticks
    (HasFollowed follows start c.args.follower.now base) (HasFollowed follows start c.run_ticks.new.follower base)
    (HasFollowed follows start c.datagram.new.self base) c.args.event.now []
    (λ notes h. c.in_ok-run_ticks-in-Media.ensures.value start base notes h)
    (subst (λ (e : Event). ExtendsHistory mid new e []) (sym is) c.media.ensures.headline)
    c.in_ok-run_ticks-in-Media.ensures.ticks
    (λ notes followed run ready. c.in_ok-datagram-in-Media.ensures.value start base notes (followed ready) run)

pub returns-in_ok-datagram-in-Control-clause-value : goal.returns-in_ok-datagram-in-Control-clause-value
returns-in_ok-datagram-in-Control-clause-value g c start base =
    let follows = g.F.Follower.follows in
    let event = Control c.in-Control.source c.as_slice-in-Control.result.now in
    let is : c.args.event.now ≡ event = c.in-Control.is
    ∙ ap (Control c.in-Control.source) (sym c.as_slice-in-Control.ensures.value) in
    let mid = c.run_ticks-in-Control.new.self.core.state in
    let new = c.control.new.self.state in
    let sent = answer_to c.in-Control.source (reported c.in_ok-control-in-Control.field-0 c.control.new.self.answer) in
    datagram_followed base c.args.self.now.core.state mid new c.args.self.now.ticks
    c.run_ticks-in-Control.new.self.ticks (HasFollowed follows start c.args.follower.now base)
    (HasFollowed follows start c.run_ticks-in-Control.new.follower base)
    (HasFollowed follows start c.datagram-in-Control.new.self base) c.args.event.now sent
    (λ notes h. c.in_ok-run_ticks-in-Control.ensures.value start base notes h)
    (subst (λ (e : Event). ExtendsHistory mid new e sent) (sym is) c.in_ok-control-in-Control.ensures.headline)
    c.in_ok-run_ticks-in-Control.ensures.ticks
    (λ notes followed run ready. c.in_ok-datagram-in-Control.ensures.value start base notes (followed ready) run)
