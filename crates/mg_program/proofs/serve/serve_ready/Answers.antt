use Rattle.std.proofs.Common.{inl, inr, refl}
use Rattle.mg_program.proofs.PortLemmas.{not_started}
use Rattle.mg_program.proofs.serve.serve_ready.Goals as goal

pub returns-in-Err-clause-value : goal.returns-in-Err-clause-value
returns-in-Err-clause-value g c = λ text found bound can binds. inr (
  tt,
  not_started c.args.ready.gateway.service.now.journal text can.started.script c.args.ready.gateway.service.now.bind_addresses c.args.ready.gateway.config can.started.missed
      c.args.ready.gateway.service.now.fence_from found bound (g.E.Host.Tells.calls c.args.outside.host) (g.E.Host.Tells.calls c.args.outside.host) binds
      can.started.begins refl,
  (refl, refl),
)

pub returns-clause-value : goal.returns-clause-value
returns-clause-value g c = λ text found bound can binds. inl (
  c.serve_on_sockets.result.1,
  bound,
  c.status_after-status.ensures.value,
  binds,
  c.serve_on_sockets.ensures.value text bound can,
)
