use Rattle.std.proofs.Common.{◌≡◌, false, is_err, sym, ◌∙◌}
use Rattle.mg_journal.specs.declared.durability.Durability.TheVariants.{Written, Synced}
use Rattle.mg_journal.specs.Journal.{appended}
use Rattle.mg_journal.specs.aids.Opened.{text_in}
use Rattle.mg_service.specs.Title.{title_line}
use Rattle.mg_start.specs.Journal.{start_lines}
use Rattle.mg_start.proofs.BeginLemmas.{has_begun, was_done}
use Rattle.mg_start.proofs.LogLemmas.{first_quiet, logs_done}
use Rattle.mg_start.proofs.found_journal.FoundJournal.begin.Goals as goal

pub returns-in-Ok-new-clause-passed : goal.returns-in-Ok-new-clause-passed
returns-in-Ok-new-clause-passed g c =
    let missed = c.missed-missed.result in
    let config = c.args.gateway.now.config in
    let first = c.in-Ok.journal in
    let (millis, grows, is) = c.missed-missed.ensures.value in
    let before = g.E.Host.Tells.calls c.missed-missed.new.host in
    let after = g.E.Host.Tells.calls c.append_first.new.host in
    let ok : is_err c.append_first.result ≡ false = sym c.is_err.ensures.value ∙ c.if-is_err.false in
    let begun = has_begun c.args.self.timeline c.is_new-is_new.result config missed c.args.gateway.now.service.now.fence_from (text_in c.args.self.opening.file) first
    c.in-Ok-new.dated before after c.is_new-is_new.ensures.value c.in-Ok.ensures.works c.in-Ok.ensures.text
    (λ new. c.in-Ok-new.ensures.value ∙ was_done c.append_first.result (c.append_first.new.journal ≡ appended (start_lines missed c.args.gateway.now.service.now.fence_from) Written (appended (title_line config) Synced first)) ok (c.append_first.ensures.new new))
    (λ new. logs_done before after _ c.append_first.result ok (c.append_first.ensures.new_logged new))
    (λ old. c.in-Ok-new.ensures.value ∙ was_done c.append_first.result (c.append_first.new.journal ≡ appended (start_lines missed c.args.gateway.now.service.now.fence_from) Written first) ok (c.append_first.ensures.old old))
    (λ old. logs_done before after _ c.append_first.result ok (c.append_first.ensures.old_logged old)) in
    (missed, millis, before, is, grows, c.skip.ensures.next, begun.0, begun.1)

pub returns-in-Err-new-clause-passed : goal.returns-in-Err-new-clause-passed
returns-in-Err-new-clause-passed g c = (
  c.missed-missed.result,
  c.missed-missed.ensures.value.0,
  g.E.Host.Tells.calls c.missed-missed.new.host,
  c.missed-missed.ensures.value.2,
  c.missed-missed.ensures.value.1,
  c.skip.ensures.next,
  tt,
  first_quiet (g.E.Host.Tells.calls c.missed-missed.new.host) (g.E.Host.Tells.calls c.append_first.new.host) c.is_new-is_new.result _ _
      c.append_first.result c.append_first.ensures.new_logged c.append_first.ensures.old_logged,
)
