use Rattle.mg_engine.proofs.Common.{◌*◌, ◌%◌, ◌^◌, length, ap, ◌∙◌, arith, sum_by, SumsState, all_played, sending_work, Registry, tick_work}
use Rattle.mg_engine.proofs.TickLemmas.{played_old}
use Rattle.mg_engine.proofs.WorkLemmas.{rises_twice}
use Rattle.mg_engine.proofs.engine.Engine.tick.Goals as goal

pub returns-clause-concealed : goal.returns-clause-concealed
returns-clause-concealed c w h = c.play_all-concealed.ensures.concealed w h

pub returns-clause-sent : goal.returns-clause-sent
returns-clause-sent c w h = c.send_all.ensures.sent (all_played w) (played_old w)
    (c.play_all-concealed.ensures.after w h)

pub returns-clause-after : goal.returns-clause-after
returns-clause-after c w h = c.end_all.ensures.after (all_played w)
    (c.send_all.ensures.after (all_played w) (c.play_all-concealed.ensures.after w h))

pub returns-clause-work : goal.returns-clause-work
returns-clause-work c w h =
    let old = c.args.self.now in
    let many = ap (λ (x : Registry). length x.terminations) h.rooms in
    let sent = c.send_all.ensures.work (all_played w) (c.play_all-concealed.ensures.after w h) in
    let both = rises_twice (2 * length old.rooms.terminations) (sum_by (sending_work w) w.rooms.terminations)
    (tick_work w) old.sums.work c.play_all-concealed.new.self.sums.work c.send_all.new.self.sums.work
    (omega (arith, many)) c.play_all-concealed.ensures.work sent in
    (both.0, both.1, ap (λ (s : SumsState). s.work % 2 ^ 32) c.end_all.ensures.sums ∙ both.2)
