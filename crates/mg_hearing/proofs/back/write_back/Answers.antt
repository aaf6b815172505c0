use Rattle.std.proofs.KnownBytes.{Appends-trans}
use Rattle.std.proofs.lemmas.Result.{on_ok_weaker}
use Rattle.mg_hearing.proofs.back.write_back.Goals as goal

pub returns : goal.returns
returns g c =
    let held = g.W.Write.contents in
    let (scale, scaled, first) = c.in_ok-write_scale.ensures.value in
    record {
      value = on_ok_weaker c.write_origin.result (λ h. (
        scale,
        h.0,
        scaled,
        h.1,
        Appends-trans (held c.args.output.now) (held c.write_scale.new.output) (held c.write_origin.new.output) scale h.0
            first h.2,
      )) c.write_origin.ensures.value;
    }
