use Rattle.mg_engine.proofs.Common.{sym, ◌∙◌, refl, Triple, members_at, IsMatched, true≢false}
use Rattle.mg_engine.proofs.TripleLemmas.{overlaps_are, not_barred}
use Rattle.mg_engine.proofs.triples.triple_of.Goals as goal

pub returns-then-overlaps : goal.returns-then-overlaps
returns-then-overlaps c =
    let w = c.args.rooms.now in
    let x = c.args.triple.now in
    let members = members_at w c.args.at.context in
    let y : Triple = record {
      first = c.in-Some.first;
      second = c.in-Some-seats_of.second;
      association = x.association;
    } in
    let same = overlaps_are w c.args.at.context members x y c.overlaps.ensures.common (record {
      association = refl;
      first = c.in-Some.ensures.some.1;
      second = c.in-Some-seats_of.ensures.some.1;
    }) in
    record {
      value = not_barred members x (sym c.is_barred.ensures.value ∙ c.if-is_barred.false)
          (sym c.is_barred-else-is_barred.ensures.value ∙ c.if-is_barred-2.false) c.in-Some.ensures.some.0
          c.in-Some-seats_of.ensures.some.0 _ (same ∙ sym c.overlaps.ensures.value ∙ c.if-overlaps.true);
    }

pub returns : goal.returns
returns c =
    let w = c.args.rooms.now in
    let x = c.args.triple.now in
    let members = members_at w c.args.at.context in
    let y : Triple = record {
      first = c.in-Some.first;
      second = c.in-Some-seats_of.second;
      association = x.association;
    } in
    let is : IsMatched w c.args.at.context members x y = record {
      association = refl;
      first = c.in-Some.ensures.some.1;
      second = c.in-Some-seats_of.ensures.some.1;
    } in
    let same = overlaps_are w c.args.at.context members x y c.overlaps.ensures.common is in
    record {
      value = (
        not_barred members x (sym c.is_barred.ensures.value ∙ c.if-is_barred.false)
            (sym c.is_barred-else-is_barred.ensures.value ∙ c.if-is_barred-2.false) c.in-Some.ensures.some.0
            c.in-Some-seats_of.ensures.some.0 _ (same ∙ sym c.overlaps.ensures.value ∙ c.if-overlaps.false),
        is,
        λ some. true≢false (sym (c.overlaps.ensures.common.1 some) ∙ sym c.overlaps.ensures.value ∙ c.if-overlaps.false),
      );
    }
