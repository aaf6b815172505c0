-- The topology among an action's properties. If the properties are proper, the topology is small.
use Rattle.std.proofs.Common.{◌≡◌, ℕ, ◌+◌, ◌<◌, ◌≤◌, nat_le, true, List, [], ◌∷◌, length, get_or, drop, Option, Some, None, refl, sym, ap, ◌∙◌, arith}
use Rattle.std.specs.List.{list_all}
use Rattle.std.specs.Option.{unwrap_or, option_or}
use Rattle.std.proofs.lemmas.Bool.{and_parts, leb-true}
use Rattle.std.proofs.lemmas.List.{drop_more, drop_all}
use Rattle.mg_engine.specs.aids.Triples.{triple_limit}
use Rattle.mg_text.specs.declared.context_property.ContextProperty.{ContextProperty}
use Rattle.mg_text.specs.declared.context_property.ContextProperty.TheVariants as properties
use Rattle.mg_text.specs.declared.context_property.NamedTriple.{NamedTriple}
use Rattle.mg_text.specs.Proper.{triple_is_proper, property_is_proper}
use Rattle.mg_commands.specs.ContextProperties.{triples_in}
use Rattle.mg_commands.specs.Search.{first_of}

-- ## A search by an index

module _ {X A : Type 0} (f : X → Option A) (xs : List X) (i : ℕ) where
  pub not_here : (d : X) (w : Option A) → i < length xs → f (get_or xs i d) ≡ None → first_of f (drop i xs) ≡ w →
      first_of f (drop (i + 1) xs) ≡ w
  unfolding first_of
  not_here d w lt none h = sym (ap (first_of f) (drop_more xs i d lt) ∙
      ap (λ (o : Option A). option_or o (first_of f (drop (i + 1) xs))) none) ∙ h

  pub found_here : (d : X) (w : Option A) (y : A) → i < length xs → f (get_or xs i d) ≡ Some y →
      first_of f (drop i xs) ≡ w → Some y ≡ w
  unfolding first_of
  found_here d w y lt some h = sym (ap (first_of f) (drop_more xs i d lt) ∙
      ap (λ (o : Option A). option_or o (first_of f (drop (i + 1) xs))) some) ∙ h

  pub nowhere : (w : Option A) → length xs ≤ i → first_of f (drop i xs) ≡ w → None ≡ w
  unfolding first_of
  nowhere w le h = sym (ap (first_of f) (drop_all i xs le)) ∙ h

-- ## Few triples

pub few_triples : (source : List ℕ) (ps : List ContextProperty) → list_all (property_is_proper source) ps ≡ true →
    length (unwrap_or (first_of triples_in ps) []) ≤ triple_limit
unfolding first_of
few_triples source [] h = omega arith
few_triples source (properties.Topology xs ∷ ps) h =
    let first = (and_parts (property_is_proper source (properties.Topology xs))
    (list_all (property_is_proper source) ps) h).0 in
    leb-true (length xs) 1200 (and_parts (nat_le (length xs) 1200) (list_all (triple_is_proper source) xs) first).0
few_triples source (properties.ContextAudit ws ∷ ps) h = few_triples source ps h
few_triples source (properties.Priority word ∷ ps) h = few_triples source ps h
few_triples source (properties.Emergency word ∷ ps) h = few_triples source ps h

-- ## Properties other than a topology

pub no_triples : (p : ContextProperty) → ((xs : List NamedTriple) → ¬ p ≡ properties.Topology xs) → triples_in p ≡ None
no_triples (properties.Topology xs) h = absurd (h xs refl)
no_triples (properties.ContextAudit ws) h = refl
no_triples (properties.Priority word) h = refl
no_triples (properties.Emergency word) h = refl
