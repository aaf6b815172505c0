use Rattle.std.proofs.Common.{ap, ◌∙◌}
use Rattle.mg_bytes.specs.Bytes.{appended}
use Rattle.mg_bytes.proofs.AppendedLemmas.{after}
use Rattle.mg_heard.specs.aids.Shapes.{time_member}
use Rattle.mg_heard.proofs.line.push_extent_members.Goals as goal

pub returns-clause-value : goal.returns-clause-value
returns-clause-value c =
    after c.args.out.now c.push.new.self c.push_time_value-2.new.out _ _ c.push.ensures.value
    (after c.push.new.self c.push_number.new.out c.push_time_value-2.new.out _ _ c.push_number.ensures.value
    (after c.push_number.new.out c.push-2.new.self c.push_time_value-2.new.out _ _ c.push-2.ensures.value
    (after c.push-2.new.self c.push_tick_value.new.out c.push_time_value-2.new.out _ _ c.push_tick_value.ensures.value
    (after c.push_tick_value.new.out c.push-3.new.self c.push_time_value-2.new.out _ _ c.push-3.ensures.value
    (after c.push-3.new.self c.push_time_value.new.out c.push_time_value-2.new.out _ _ c.push_time_value.ensures.value
    (after c.push_time_value.new.out c.push-4.new.self c.push_time_value-2.new.out _ _ c.push-4.ensures.value
    (c.push_time_value-2.ensures.value
    ∙ ap (λ d. appended c.push-4.new.self (time_member c.args.until.now d)) c.date_of_end.ensures.value)))))))
