use Rattle.std.proofs.Common.{◌≡◌, ◌<◌, ◌∷◌, length, ap, ◌∙◌, rules}
use Rattle.std.proofs.lemmas.List.{nil_from_length}
use Rattle.mg_sdp.specs.Fields.{fields_of}
use Rattle.mg_sdp.proofs.FieldLemmas.{no_field, field_step, fields_none}
use Rattle.mg_sdp.proofs.fields.FieldsIterator.next.Goals as goal

pub returns-then-is_empty-clause-steps : goal.returns-then-is_empty-clause-steps
returns-then-is_empty-clause-steps c =
    let empty : length c.split_at.result.1.now ≡ 0 = search rules in (
      no_field c.args.self.now.rest.now _ c.blanks_len.result c.blanks_len.ensures.value c.split_at.ensures.back empty,
      ap fields_of (nil_from_length _ empty) ∙ fields_none,
    )

pub returns : goal.returns
returns c =
    let some : 0 < length c.split_at.result.1.now = search rules in
    let step : fields_of c.args.self.now.rest.now ≡ c.split_at-2.result.0.now ∷ fields_of c.split_at-2.result.1.now =
    field_step c.args.self.now.rest.now c.split_at.result.1.now c.split_at-2.result.0.now c.split_at-2.result.1.now
    c.blanks_len.result c.field_len.result c.blanks_len.ensures.value c.split_at.ensures.back some
    c.field_len.ensures.value c.split_at-2.ensures.front c.split_at-2.ensures.back in
    let shorter = ap length step in
    record { steps = step; goes = search rules }
