use Rattle.mg_hearing.proofs.audibility.print_audible.Goals as goal

pub returns : goal.returns
returns g c =
    let (base, begins) = c.in_ok-gateways.ensures.base in
    let (is_base, none) = c.in_ok-gateways.ensures.sound base begins in
    let told = c.in_ok-has_rtp.ensures.report base (c.in_ok-gateways.ensures.started base begins) is_base none in
    record { value = (base, begins, told.0, told.1) }
