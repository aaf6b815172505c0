use Rattle.std.proofs.Common.{List, map, refl, ap, sym, subst, ◌∙◌}
use Rattle.mg_heard.specs.aids.Opening.{IsRising, continued, flows_of, without_flows}
use Rattle.mg_heard.specs.declared.open_flow.OpenFlow.{OpenFlow}
use Rattle.mg_heard.proofs.AdvanceLemmas.{new_flows, new_rising}
use Rattle.mg_heard.proofs.listener_row.ListenerRow.advance.Goals as goal

pub returns : goal.returns
returns c =
    let r = c.args.earlier.now in
    let filled = c.start.ensures.row in
    let up = subst IsRising (sym filled) c.requires.new in
    let row = c.continue_from.ensures.value up c.requires.old ∙ ap (map (continued r.row)) filled in
    let risen = subst IsRising (sym row) (new_rising r.row _ c.requires.new) in
    record {
      listener = c.start.ensures.listener;
      row = row;
      earlier = refl;
      ended = c.remove_continued.ensures.value c.requires.old risen
          ∙ ap (λ (fs : List OpenFlow). without_flows fs r.row) (ap flows_of row ∙ new_flows r.row c.args.now _);
    }
