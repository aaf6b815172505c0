-- Parsing the parts of an action in a loop.
use Rattle.std.proofs.Common.{◌≡◌, ℕ, suc, ◌-◌, ◌+◌, ◌≤◌, ◌<◌, true, false, List, [], ◌∷◌, ◌++◌, Some, None, Result, Ok, Err, refl, sym, ap, ◌∙◌, append_assoc, arith}
use Rattle.std.proofs.lemmas.List.{append-nil}
use Rattle.mg_scan.specs.declared.kind.TokenKind.TheVariants.{Close, Comma}
use Rattle.mg_scan.specs.declared.token.Token.{Token}
use Rattle.mg_text.specs.declared.fault.ReadFault.{ReadFault}
use Rattle.mg_text.specs.declared.fault.ReadFault.TheVariants.{NoMemory, Syntax, Version, TooMany}
use Rattle.mg_text.specs.declared.actions.ActionParts.{ActionParts}
use Rattle.mg_text.specs.declared.context_property.ContextProperty.{ContextProperty}
use Rattle.mg_text.specs.declared.command.Command.{Command}
use Rattle.mg_words.specs.ResultSteps.{◌>>=◌}
use Rattle.mg_text.specs.aids.Reading.{Fails, mark_at, items_at, place_of_rest}
use Rattle.mg_scan.specs.aids.Marks.{after_mark}
use Rattle.mg_text.specs.aids.Commands.{command_at}
use Rattle.mg_text.specs.aids.Requests.{begins_property, property_at, parts_at, with_property}

abbrev pub parts_of : List ContextProperty → List Command → ActionParts
parts_of properties commands = record { properties = properties; commands = commands }

-- The properties of `front`, followed by the parts that are parsed from the remaining tokens.
abbrev pub with_front : List ContextProperty → Result (ActionParts × List Token) ℕ → Result (ActionParts × List Token) ℕ
with_front front read = read >>= λ x. Ok (parts_of (front ++ x.0.properties) x.0.commands, x.1)

regroup : (front : List ContextProperty) (x : ContextProperty) (read : Result (ActionParts × List Token) ℕ) →
    with_front front (read >>= λ parts. Ok (with_property x parts.0, parts.1)) ≡ with_front (front ++ x ∷ []) read
regroup front x (Ok parts) = ap (λ (all : List ContextProperty). Ok (parts_of all parts.0.commands, parts.1))
    (simp append_assoc)
regroup front x (Err e) = refl

module _ (source : List ℕ) (front : List ContextProperty) (count i : ℕ) (ts : List Token)
    (total : Result (ActionParts × List Token) ℕ) (so_far : with_front front (parts_at source (count - i) ts) ≡ total)
  where
    pub continues : (x : ContextProperty) (after next : List Token) → i < count → begins_property source ts ≡ true →
        property_at source ts ≡ Ok (x, after) → after_mark Comma after ≡ Some next →
        with_front (front ++ x ∷ []) (parts_at source (count - (i + 1)) next) ≡ total
    unfolding parts_at
    continues x after next lt b h comma =
        let k : count - i ≡ suc (count - (i + 1)) = omega arith in
        let one : with_front front (parts_at source (count - i) ts) ≡
        with_front (front ++ x ∷ []) (parts_at source (count - (i + 1)) next) =
        rw (k, b, h, comma) (regroup front x (parts_at source (count - (i + 1)) next)) in
        sym one ∙ so_far

    pub is_done : (x : ContextProperty) (after rest : List Token) → i < count → begins_property source ts ≡ true →
        property_at source ts ≡ Ok (x, after) → after_mark Comma after ≡ None → mark_at source Close after ≡ Ok rest →
        total ≡ Ok (parts_of (front ++ x ∷ []) [], rest)
    unfolding parts_at
    is_done x after rest lt b h no_comma close =
        let k : count - i ≡ suc (count - (i + 1)) = omega arith in
        let one : with_front front (parts_at source (count - i) ts) ≡ Ok (parts_of (front ++ x ∷ []) [], rest) =
        rw (k, b, h, no_comma, close) refl in
        sym so_far ∙ one

    pub is_open : (x : ContextProperty) (after : List Token) (e : ReadFault) → i < count →
        begins_property source ts ≡ true → property_at source ts ≡ Ok (x, after) → after_mark Comma after ≡ None →
        Fails e (mark_at source Close after) → Fails e total
    unfolding parts_at
    is_open x after NoMemory lt b h no_comma close = tt
    is_open x after (Version n) lt b h no_comma close = absurd close
    is_open x after TooMany lt b h no_comma close = absurd close
    is_open x after (Syntax place) lt b h no_comma close =
        let k : count - i ≡ suc (count - (i + 1)) = omega arith in
        let one : with_front front (parts_at source (count - i) ts) ≡ Err place = rw (k, b, h, no_comma, close) refl in
        sym so_far ∙ one

    pub ends : (e : ReadFault) → i < count → begins_property source ts ≡ true → Fails e (property_at source ts) →
        Fails e total
    unfolding parts_at
    ends NoMemory lt b h = tt
    ends (Version n) lt b h = absurd h
    ends TooMany lt b h = absurd h
    ends (Syntax place) lt b h =
        let k : count - i ≡ suc (count - (i + 1)) = omega arith in
        let one : with_front front (parts_at source (count - i) ts) ≡ Err place = rw (k, b, h) refl in
        sym so_far ∙ one

    pub commands_end : (e : ReadFault) → i < count → begins_property source ts ≡ false →
        Fails e (items_at source (command_at source) ts) → Fails e total
    unfolding parts_at
    commands_end NoMemory lt b h = tt
    commands_end (Version n) lt b h = absurd h
    commands_end TooMany lt b h = absurd h
    commands_end (Syntax place) lt b h =
        let k : count - i ≡ suc (count - (i + 1)) = omega arith in
        let one : with_front front (parts_at source (count - i) ts) ≡ Err place = rw (k, b, h) refl in
        sym so_far ∙ one

    pub commands_follow : (xs : List Command) (rest : List Token) → i < count → begins_property source ts ≡ false →
        items_at source (command_at source) ts ≡ Ok (xs, rest) → total ≡ Ok (parts_of front xs, rest)
    unfolding parts_at
    commands_follow xs rest lt b h =
        let k : count - i ≡ suc (count - (i + 1)) = omega arith in
        let one : with_front front (parts_at source (count - i) ts) ≡ Ok (parts_of (front ++ []) xs, rest) =
        rw (k, b, h) refl in
        sym so_far ∙ one ∙ ap (λ (all : List ContextProperty). Ok (parts_of all xs, rest)) (append-nil front)

    pub runs_out : count ≤ i → total ≡ Err (place_of_rest source ts)
    unfolding parts_at
    runs_out le =
        let k : count - i ≡ 0 = omega arith in
        let one : with_front front (parts_at source (count - i) ts) ≡ Err (place_of_rest source ts) = rw k refl in
        sym so_far ∙ one
