use Rattle.mg_hearing.proofs.starting.start_gateways.Goals as goal

pub returns-clause-started : goal.returns-clause-started
returns-clause-started c = λ base begins. record {
  script = c.in_ok-start_core.ensures.started base begins;
  whole = c.in_ok-start_core-2.ensures.started base begins;
  without = c.in_ok-start_core-3.ensures.started base begins;
}
