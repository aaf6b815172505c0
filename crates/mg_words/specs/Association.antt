-- Associations of a topology (RFC 3525, section 7.1.18).
use Rattle.std.specs.Prelude.{ℕ, List, codes}
use Rattle.mg_words.specs.declared.association.Association.{Association}
use Rattle.mg_words.specs.declared.association.Association.TheVariants.{Isolate, Oneway, Bothway}

-- The keyword in its long form.
unfoldable pub association_text : Association → List ℕ
association_text Isolate = codes "Isolate"
association_text Oneway = codes "Oneway"
association_text Bothway = codes "Bothway"
