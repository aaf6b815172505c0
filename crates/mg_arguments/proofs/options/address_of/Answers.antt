use Rattle.std.proofs.Common.{◌∙◌}
use Rattle.clap.specs.Words.{found_of, rows_of}
use Rattle.clap.proofs.WalkLemmas.{first_value-rows}
use Rattle.mg_service.specs.Address.{own_address}
use Rattle.mg_arguments.proofs.InvocationLemmas.{unwritten, value_fails, value_is}
use Rattle.mg_arguments.proofs.options.address_of.Goals as goal

pub returns-in-Ok : goal.returns-in-Ok
returns-in-Ok c =
    let found = found_of c.args.matches.now in
    record {
      value = value_is own_address c.args.name.now (rows_of found) c.in-Some.text.now c.in-Ok.address
          (c.in-Some.ensures ∙ first_value-rows found c.args.name.now) c.in-Ok.ensures.value;
    }

pub returns-in-Err : goal.returns-in-Err
returns-in-Err c =
    let found = found_of c.args.matches.now in
    record {
      value = value_fails own_address c.args.name.now (rows_of found) c.in-Some.text.now c.in-Err.fault
          (c.in-Some.ensures ∙ first_value-rows found c.args.name.now) c.in-Err.ensures.value;
    }

pub returns-in-None : goal.returns-in-None
returns-in-None c =
    let found = found_of c.args.matches.now in
    record { value = unwritten own_address c.args.name.now (rows_of found) (c.in-None.ensures ∙ first_value-rows found c.args.name.now) }
