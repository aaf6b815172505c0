use Rattle.std.proofs.Common.{inl, inr, Err, refl, sym, subst, Option, List}
use Rattle.std.specs.Option.{option_map_or}
use Rattle.mg_journal.specs.Journal.{no_journal}
use Rattle.mg_host.specs.declared.host_call.HostCall.{HostCall}
use Rattle.mg_start.specs.aids.Starting.{CanStart}
use Rattle.mg_program.proofs.PortLemmas.{fails_anyhow, not_started}
use Rattle.mg_program.proofs.live.live_ready.Goals as goal

pub returns-in-Err-clause-value : goal.returns-in-Err-clause-value
returns-in-Err-clause-value g c = λ text found bound can binds. inr (
  fails_anyhow c.args.ready.gateway.config c.watch_fault-status.result c.watch_fault-status.ensures.ends,
  not_started c.args.ready.gateway.service.now.journal text can.started.script c.args.ready.gateway.service.now.bind_addresses c.args.ready.gateway.config can.started.missed
      c.args.ready.gateway.service.now.fence_from found bound (g.E.Host.Tells.calls c.args.outside.host) (g.E.Host.Tells.calls c.watch.new.self) binds
      can.started.begins c.watch.ensures.same,
  refl,
)

pub returns-in-Err-monitor-clause-value : goal.returns-in-Err-monitor-clause-value
returns-in-Err-monitor-clause-value g c = λ text found bound can binds. inr (
  tt,
  not_started c.args.ready.gateway.service.now.journal text can.started.script c.args.ready.gateway.service.now.bind_addresses c.args.ready.gateway.config can.started.missed
      c.args.ready.gateway.service.now.fence_from found bound (g.E.Host.Tells.calls c.args.outside.host) (g.E.Host.Tells.calls c.watch.new.self) binds
      can.started.begins c.watch.ensures.same,
  refl,
)

pub returns-clause-value : goal.returns-clause-value
returns-clause-value g c = λ text found bound can binds. inl (
  Err c.live_on_sockets.result.1,
  bound,
  c.status_after-status.ensures.value,
  binds,
  c.live_on_sockets.ensures.value text bound (subst (λ (x : Option (List HostCall)).
      CanStart c.args.ready.gateway.service.now.journal text c.args.ready.gateway.service.now.fence_from c.args.ready.gateway.config
      c.args.ready.gateway.core.state c.args.ready.gateway.reached
      (option_map_or (λ j. j) c.args.ready.journal no_journal) bound x) (sym c.watch.ensures.same) can),
)
