use Rattle.std.proofs.Common.{ℕ, List, Option, Some, [], subst, sym}
use Rattle.std.specs.Option.{option_map_or}
use Rattle.mg_journal.specs.Journal.{no_journal}
use Rattle.mg_journal.specs.aids.Opened.{text_in}
use Rattle.mg_engine.specs.declared.config.Config.{Config}
use Rattle.mg_service.specs.declared.service.Service.{Service}
use Rattle.mg_host.specs.HostCalls.{Grows}
use Rattle.mg_start.specs.aids.Starting.{CanStart}
use Rattle.mg_program.specs.Serve.{binds_of}
use Rattle.mg_program.proofs.live.live_prepared.Goals as goal

pub returns-in-Ok-clause-value : goal.returns-in-Ok-clause-value
returns-in-Ok-clause-value g c =
    let text : Option (List ℕ) = option_map_or (λ j. text_in j.opening.file) c.args.prepared.journal (Some []) in
    let found = g.E.Host.Tells.calls c.args.outside.host in
    let ready = c.in-Ok.ready in
    let gateway = ready.gateway in
    let (bound, binds, can) = c.in-Ok.ensures.start in
    let starts : CanStart gateway.service.now.journal text gateway.service.now.fence_from gateway.config
    gateway.core.state gateway.reached (option_map_or (λ j. j) ready.journal no_journal) bound
    (g.E.Host.Tells.calls c.make_ready.new.host) =
    subst (λ (service : Service). CanStart service.journal text service.fence_from gateway.config gateway.core.state
    gateway.reached (option_map_or (λ j. j) ready.journal no_journal) bound (g.E.Host.Tells.calls c.make_ready.new.host))
    (sym c.in-Ok.ensures.service) can in
    let grows : Grows found bound (binds_of gateway.config gateway.service.now.bind_addresses) =
    subst (λ (service : Service). Grows found bound (binds_of gateway.config service.bind_addresses))
    (sym c.in-Ok.ensures.service)
    (subst (λ (config : Config). Grows found bound (binds_of config c.args.service.now.bind_addresses))
    (sym c.in-Ok.ensures.config) binds) in
    rw (c.in-Ok.ensures.config, c.in-Ok.ensures.service) at (c.live_ready.ensures.value text found bound starts grows)
