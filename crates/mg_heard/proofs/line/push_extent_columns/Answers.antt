use Rattle.std.proofs.Common.{ap, ◌∙◌}
use Rattle.mg_bytes.specs.Bytes.{appended}
use Rattle.mg_bytes.proofs.AppendedLemmas.{after}
use Rattle.mg_heard.specs.aids.Shapes.{time_column}
use Rattle.mg_heard.proofs.line.push_extent_columns.Goals as goal

pub returns-clause-value : goal.returns-clause-value
returns-clause-value c =
    after c.args.out.now c.push_number.new.out c.push_optional_time-2.new.out _ _ c.push_number.ensures.value
    (after c.push_number.new.out c.push.new.self c.push_optional_time-2.new.out _ _ c.push.ensures.value
    (after c.push.new.self c.push_optional_tick.new.out c.push_optional_time-2.new.out _ _ c.push_optional_tick.ensures.value
    (after c.push_optional_tick.new.out c.push-2.new.self c.push_optional_time-2.new.out _ _ c.push-2.ensures.value
    (after c.push-2.new.self c.push_optional_time.new.out c.push_optional_time-2.new.out _ _ c.push_optional_time.ensures.value
    (after c.push_optional_time.new.out c.push-3.new.self c.push_optional_time-2.new.out _ _ c.push-3.ensures.value
    (c.push_optional_time-2.ensures.value
    ∙ ap (λ d. appended c.push-3.new.self (time_column c.args.until.now d)) c.date_of_end.ensures.value))))))
