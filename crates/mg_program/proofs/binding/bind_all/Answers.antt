use Rattle.std.proofs.Common.{◌∙◌}
use Rattle.mg_program.proofs.PortLemmas.{all_bound}
use Rattle.mg_program.proofs.binding.bind_all.Goals as goal

pub returns-clause-bound : goal.returns-clause-bound
returns-clause-bound g c =
    all_bound c.args.config.now c.copied.result c.args.addresses.now (g.H.Tells.calls c.args.host.now)
    (g.H.Tells.calls c.bind_first.new.host) (g.H.Tells.calls c.bind_others.new.host) c.bind_others.result
    (c.copied.ensures ∙ c.first.ensures.value) c.in_default.ensures.bound
    (rw c.others.ensures.value at c.bind_others.ensures.bound)
