-- The fields that remain in an iterator.
use Rattle.std.specs.Prelude.{ℕ, List}
use Rattle.mg_sdp.specs.declared.fields.Fields.{Fields}
use Rattle.mg_sdp.specs.Fields.{fields_of}

abbrev pub fields_left : Fields → List (List ℕ)
fields_left it = fields_of it.rest.now
