use Rattle.std.proofs.Common.{◌∙◌, Ok, sym, ap}
use Rattle.std.proofs.lemmas.Result.{err_from_is_err_and}
use Rattle.mg_core.specs.aids.CoreView.{CoreView}
use Rattle.mg_core.specs.declared.event.Event.TheVariants.{Control, Media, Tick}
use Rattle.mg_rooms.proofs.SoundLemmas.{sound_if}
use Rattle.mg_core.proofs.LineLemmas.{changed_steps, cut_steps, quiet_steps, silent_steps}
use Rattle.mg_core.proofs.QuietLemmas.{media_keeps_quiet, tick_keeps_quiet}
use Rattle.mg_core.proofs.line_runner.LineRunner.take_event.Goals as goal

pub returns-in_err-take_control-in-Control : goal.returns-in_err-take_control-in-Control
returns-in_err-take_control-in-Control g c =
    let p = err_from_is_err_and c.from_residual.result c.from_residual.ensures.1 in
    let is = c.in-Control.is ∙ ap (Control c.in-Control.source) (sym c.as_slice-in-Control.ensures.value) in
    rw (is, p.1, p.2) (record {
      value = cut_steps (Control c.in-Control.source c.as_slice-in-Control.result.now) c.args.self.now.core.state
          c.take_control.new.self.core.state c.args.self.now.watched c.take_control.new.self.watched
          c.args.self.now.sent c.take_control.new.self.sent
          (g.W.Write.contents c.args.writer.now) (g.W.Write.contents c.take_control.new.writer)
          c.in_err-take_control-in-Control.field-0.0
          c.in_err-take_control-in-Control.ensures.value;
    })

pub returns-in-Tick : goal.returns-in-Tick
returns-in-Tick g c = rw c.in-Tick.is (record {
  value = quiet_steps Tick c.args.self.now.core.state c.take_tick.new.self.core.state c.args.self.now.watched
      c.take_tick.new.self.watched c.args.self.now.sent c.take_tick.new.self.sent
      (g.W.Write.contents c.args.writer.now) (g.W.Write.contents c.take_tick.new.writer) c.take_tick.result
      tick_keeps_quiet (sound_if _ c.assert_invariant.ensures.consistent) c.take_tick.ensures.watched c.take_tick.ensures.value;
})

pub returns-in-Media : goal.returns-in-Media
returns-in-Media g c = rw c.in-Media.is (record {
  value = quiet_steps (Media c.in-Media.port c.in-Media.source c.in-Media.bytes) c.args.self.now.core.state
      c.take_media.new.self.core.state c.args.self.now.watched c.take_media.new.self.watched
      c.args.self.now.sent c.take_media.new.self.sent
      (g.W.Write.contents c.args.writer.now) (g.W.Write.contents c.args.writer.now) (Ok tt)
      (media_keeps_quiet c.in-Media.port c.in-Media.source c.in-Media.bytes) (sound_if _ c.assert_invariant.ensures.consistent)
      c.take_media.ensures.watched
      (silent_steps (Media c.in-Media.port c.in-Media.source c.in-Media.bytes) c.args.self.now.core.state
      c.take_media.new.self.core.state c.args.self.now.sent c.take_media.new.self.sent
      (g.W.Write.contents c.args.writer.now) c.take_media.ensures.sent
      (rw c.as_slice.ensures.value at c.take_media.ensures.value));
})

pub returns-in_ok-take_control-in-Control : goal.returns-in_ok-take_control-in-Control
returns-in_ok-take_control-in-Control g c = rw c.in-Control.is (record {
  value = changed_steps (Control c.in-Control.source c.in-Control.bytes) c.args.self.now.core.state
      c.take_control.new.self.core.state c.show_changes.new.self.core.state c.args.self.now.watched
      c.take_control.new.self.watched c.show_changes.new.self.watched
      c.args.self.now.sent c.take_control.new.self.sent c.show_changes.new.self.sent
      (g.W.Write.contents c.args.writer.now) (g.W.Write.contents c.take_control.new.writer)
      (g.W.Write.contents c.show_changes.new.writer) c.show_changes.result
      c.in_ok-take_control-in-Control.ensures.watched
      (ap (λ (x : CoreView). x.state) c.show_changes.ensures.core) c.show_changes.ensures.sent
      (rw c.as_slice-in-Control.ensures.value at c.in_ok-take_control-in-Control.ensures.value)
      c.show_changes.ensures.value;
})
