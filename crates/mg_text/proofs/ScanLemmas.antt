-- The tokens that a source consists of.
use Rattle.std.proofs.Common.{◌≡◌, ℕ, ◌-◌, ◌≤◌, List, [], ◌∷◌, ◌++◌, length, drop, Option, Some, None, refl, sym, ap, subst, ◌∙◌, arith, length-drop, length-take}
use Rattle.mg_scan.specs.declared.token.Token.{Token}
use Rattle.mg_scan.specs.declared.span.Span.{Span}
use Rattle.mg_scan.specs.declared.kind.TokenKind.{TokenKind}
use Rattle.mg_scan.specs.declared.fault.ScanFault.{ScanFault}
use Rattle.mg_scan.specs.Scanner.{Scanning, rest_of}
use Rattle.mg_scan.specs.Tokens.{first_token, token_and_rest, TokenAndRest, closing_len, names_octets}
use Rattle.mg_scan.specs.Scanner.{IsNext}
use Rattle.mg_scan.specs.Span.{text_of}
use Rattle.mg_text.specs.Message.{Reaches, AreTokens, scanning_of}
use Rattle.mg_text.specs.aids.Parts.{ending}

-- Scanning one more token extends the list of tokens.
pub Reaches-push : (ts : List Token) (old mid new : Scanning) (t : Token) → Reaches old ts mid →
    new.source ≡ mid.source → IsNext mid t new → Reaches old (ts ++ t ∷ []) new
Reaches-push [] old mid new t way same gives = (
  new,
  same ∙ ap (λ (s : Scanning). s.source) (sym way),
  subst (λ (s : Scanning). IsNext s t new) (sym way) gives,
  refl,
)
Reaches-push (x ∷ ts) old mid new t way same gives =
    (way.0, way.1, way.2, Reaches-push ts way.0 mid new t way.3 same gives)

abbrev read_as : TokenKind → List ℕ → List ℕ → TokenAndRest
read_as kind text rest = record { piece = record { kind = kind; text = text }; rest = rest }

taken_is : (k l : TokenKind) (x y r s : List ℕ) → token_and_rest k x r ≡ token_and_rest l y s →
    read_as k x r ≡ read_as l y s
taken_is k l x y r s e = cc

never : (f : Option ScanFault) (k : TokenKind) (x r : List ℕ) → ending f ≡ token_and_rest k x r → ⊥
never None k x r e = cc
never (Some f) k x r e = cc

length_text : (source : List ℕ) (span : Span) → span.start ≤ span.end → span.end ≤ length source →
    length (text_of source span) ≡ span.end - span.start
length_text source span le within = omega (
  arith,
  length-take (span.end - span.start) (drop span.start source),
  length-drop span.start source,
)

length_rest : (s : Scanning) (source : List ℕ) → s.source ≡ source → length (rest_of s) ≡ length source - s.at
length_rest s source e = length-drop s.at s.source ∙ ap (λ (l : List ℕ). length l - s.at) e

-- The scanner has at most one next token and at most one next position.
IsNext-same : (old a b : Scanning) (t u : Token) → a.source ≡ old.source → b.source ≡ old.source → IsNext old t a →
    IsNext old u b → (t ≡ u) × (a ≡ b)
IsNext-same old a b t u ea eb g h =
    let e = taken_is _ _ _ _ _ _ (sym g.is ∙ h.is) in
    let kind : t.kind ≡ u.kind = ap (λ (x : TokenAndRest). x.piece.kind) e in
    let text = ap (λ (x : TokenAndRest). length x.piece.text) e in
    let rest = ap (λ (x : TokenAndRest). length x.rest) e in
    let at : a.at ≡ b.at = omega (
      arith,
      g.within,
      h.within,
      rest,
      length_rest a old.source ea,
      length_rest b old.source eb,
    ) in
    let end : t.span.end ≡ u.span.end = omega (arith, g.end, h.end, ap closing_len kind, at) in
    let start : t.span.start ≡ u.span.start =
    omega (
      arith,
      g.end,
      h.end,
      g.within,
      h.within,
      g.span,
      h.span,
      text,
      end,
      length_text old.source t.span g.span (omega (arith, g.end, g.within)),
      length_text old.source u.span h.span (omega (arith, h.end, h.within)),
    ) in
    let token : t ≡ u = λ i. record { kind = kind i; span = record { start = start i; end = end i } } in
    let named : a.named ≡ b.named = g.named ∙
    ap (λ (x : Token). names_octets x.kind (text_of old.source x.span)) token ∙ sym h.named in
    (token, λ i. record { source = (ea ∙ sym eb) i; at = at i; named = named i })

same_ending : (f g : Option ScanFault) → ending f ≡ ending g → f ≡ g
same_ending None None e = refl
same_ending None (Some g) e = absurd cc
same_ending (Some f) None e = absurd cc
same_ending (Some f) (Some g) e = cc

one_way : (ts us : List Token) (old x y : Scanning) (f g : Option ScanFault) → Reaches old ts x →
    first_token x.named (rest_of x) ≡ ending f → Reaches old us y → first_token y.named (rest_of y) ≡ ending g →
    (ts ≡ us) × (f ≡ g)
one_way [] [] old x y f g way end way' end' =
    (refl, same_ending f g (sym end ∙ ap (λ (s : Scanning). first_token s.named (rest_of s)) (sym way ∙ way') ∙ end'))
one_way [] (u ∷ us) old x y f g way end way' end' =
    absurd (never f u.kind _ _ (sym end ∙ ap (λ (s : Scanning). first_token s.named (rest_of s)) (sym way) ∙ way'.2.is))
one_way (t ∷ ts) [] old x y f g way end way' end' =
    absurd (never g t.kind _ _ (sym end' ∙ ap (λ (s : Scanning). first_token s.named (rest_of s)) (sym way') ∙
    way.2.is))
one_way (t ∷ ts) (u ∷ us) old x y f g way end way' end' =
    let same = IsNext-same old way.0 way'.0 t u way.1 way'.1 way.2 way'.2 in
    let others = one_way ts us way.0 x y f g way.3 end (subst (λ (s : Scanning). Reaches s us y) (sym same.1) way'.3)
    end' in
    (λ i. same.0 i ∷ others.0 i, others.1)

pub one_scan : (source : List ℕ) (ts us : List Token) (f g : Option ScanFault) → AreTokens source ts f →
    AreTokens source us g → (ts ≡ us) × (f ≡ g)
one_scan source ts us f g h k = one_way ts us (scanning_of source) h.last k.last f g h.way h.end k.way k.end
