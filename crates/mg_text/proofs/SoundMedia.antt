-- If the parser accepts a Media descriptor, the descriptor is in the grammar.
use Rattle.std.proofs.Common.{◌≡◌, ℕ, List, [], ◌∷◌, Option, Some, Ok, refl, inl, inr, subst}
use Rattle.mg_scan.specs.declared.kind.TokenKind.{TokenKind}
use Rattle.mg_scan.specs.declared.kind.TokenKind.TheVariants.{Word, Open, Equals, Quoted, Octets}
use Rattle.mg_scan.specs.declared.span.Span.{Span}
use Rattle.mg_scan.specs.declared.token.Token.{Token}
use Rattle.mg_scan.specs.Span.{text_of}
use Rattle.mg_words.specs.Numbers.{number_of}
use Rattle.mg_text.specs.declared.keyword.Keyword.{Keyword}
use Rattle.mg_text.specs.declared.keyword.Keyword.TheVariants as keywords
use Rattle.mg_text.specs.declared.media.PropertyValue.{PropertyValue}
use Rattle.mg_text.specs.declared.media.ControlPart.{ControlPart}
use Rattle.mg_text.specs.declared.media.ControlPart.TheVariants as controls
use Rattle.mg_text.specs.declared.media.StreamPart.{StreamPart}
use Rattle.mg_text.specs.declared.media.MediaPart.{MediaPart}
use Rattle.mg_text.specs.declared.media.MediaPart.TheVariants as parts
use Rattle.mg_text.specs.Keyword.{keyword_of}
use Rattle.mg_text.specs.Words.{by_keyword, switch_of}
use Rattle.mg_text.specs.aids.Words.{mode_named}
use Rattle.mg_words.specs.ResultSteps.{◌>>=◌}
use Rattle.mg_text.specs.aids.Reading.{mark_at, span_at, word_at, meaning_at, keyword_at, number_at}
use Rattle.mg_scan.specs.aids.Marks.{after_mark}
use Rattle.mg_text.specs.aids.Reading.{after_group, filled_at, braced_at, place_of_rest}
use Rattle.mg_text.specs.aids.Media.{value_kinded, value_at, optional_value_at, switched_at, mode_part_at, package_part_at, control_named, control_at, stream_named, stream_part_at, numbered_at, media_named, media_part_at}
use Rattle.mg_text.specs.Grammar.{IsSpan, IsWord, IsWorded, IsOptionalAssigned, IsValue, has_slash, IsControlPart, IsStreamPart, IsMediaPart}
use Rattle.mg_scan.proofs.JoinLemmas.{chosen}
use Rattle.mg_text.proofs.Sound.{bind_ok, ok_is, mark_found, after_found, if_some_ok, token_is, span_found, word_found, worded_found, group_found, filled_found, braced_found, IsSpelled}
use Rattle.mg_text.proofs.WordLemmas.{mode_is_meant}

value_kinded_found : (source : List ℕ) (k : TokenKind) (w : Span) (t : Token) (ts : List Token)
    (x : PropertyValue × List Token) → t.kind ≡ k → t.span ≡ w → value_kinded source k w ts ≡ Ok x →
    IsValue x.0 (t ∷ ts) x.1
value_kinded_found source Word w t ts x kind span e =
    subst (IsSpelled IsValue (t ∷ ts)) (ok_is _ x e)
    (subst (λ (v : Span). IsSpan Word v (t ∷ ts) ts) span (token_is Word t ts ts kind refl))
value_kinded_found source Quoted w t ts x kind span e =
    subst (IsSpelled IsValue (t ∷ ts)) (ok_is _ x e)
    (subst (λ (v : Span). IsSpan Quoted v (t ∷ ts) ts) span (token_is Quoted t ts ts kind refl))
value_kinded_found source Open w t ts x kind span e =
    let rest = bind_ok (after_group source 0 ts) _ x e in
    let g = group_found source 0 ts rest.0 rest.1 in
    subst (IsSpelled IsValue (t ∷ ts)) (ok_is _ x rest.2)
    (ts, (t.span, token_is Open t ts ts kind refl), (g.0, g.1, g.2))
value_kinded_found source _ w t ts x kind span e = absurd cc

value_found : (source : List ℕ) (ts : List Token) (x : PropertyValue × List Token) → value_at source ts ≡ Ok x →
    IsValue x.0 ts x.1
unfolding value_at
value_found source [] x e = absurd cc
value_found source (t ∷ ts) x e = value_kinded_found source t.kind t.span t ts x refl refl e

optional_value_found : (source : List ℕ) (ts : List Token) (x : Option PropertyValue × List Token) →
    optional_value_at source ts ≡ Ok x → IsOptionalAssigned IsValue x.0 ts x.1
unfolding optional_value_at
optional_value_found source ts x e =
    elim (if_some_ok (after_mark Equals ts) _ _ x e) [
      | inl some ↦
          let value = bind_ok (value_at source some.0) _ x some.2 in
          subst (IsSpelled (IsOptionalAssigned IsValue) ts) (ok_is _ x value.2)
          (some.0, after_found Equals ts some.0 some.1, value_found source some.0 value.0 value.1)
      | inr none ↦ subst (IsSpelled (IsOptionalAssigned IsValue) ts) (ok_is _ x none.1) refl
    ]

mode_found : (source : List ℕ) (ts a : List Token) (x : ControlPart × List Token) →
    IsWorded keyword_of source keywords.Mode ts a → mode_part_at source a ≡ Ok x → IsControlPart source x.0 ts x.1
unfolding mode_part_at
mode_found source ts a x name e =
    let b = bind_ok (mark_at source Equals a) _ x e in
    let mode = bind_ok (meaning_at (by_keyword mode_named) source b.0) _ x b.2 in
    subst (IsSpelled (IsControlPart source) ts) (ok_is _ x mode.2) (
      a,
      name,
      (
        b.0,
        mark_found source Equals a b.0 b.1,
        mode_is_meant source mode.0.0 b.0 mode.0.1
            (worded_found (by_keyword mode_named) source b.0 mode.0 mode.1),
      ),
    )

value_part_found : (source : List ℕ) (ts a : List Token) (x : ControlPart × List Token) →
    IsWorded keyword_of source keywords.ReservedValue ts a → switched_at source controls.ReservedValue a ≡ Ok x →
    IsControlPart source x.0 ts x.1
unfolding switched_at
value_part_found source ts a x name e =
    let b = bind_ok (mark_at source Equals a) _ x e in
    let on = bind_ok (meaning_at switch_of source b.0) _ x b.2 in
    subst (IsSpelled (IsControlPart source) ts) (ok_is _ x on.2)
    (a, name, (b.0, mark_found source Equals a b.0 b.1, worded_found switch_of source b.0 on.0 on.1))

group_part_found : (source : List ℕ) (ts a : List Token) (x : ControlPart × List Token) →
    IsWorded keyword_of source keywords.ReservedGroup ts a → switched_at source controls.ReservedGroup a ≡ Ok x →
    IsControlPart source x.0 ts x.1
unfolding switched_at
group_part_found source ts a x name e =
    let b = bind_ok (mark_at source Equals a) _ x e in
    let on = bind_ok (meaning_at switch_of source b.0) _ x b.2 in
    subst (IsSpelled (IsControlPart source) ts) (ok_is _ x on.2)
    (a, name, (b.0, mark_found source Equals a b.0 b.1, worded_found switch_of source b.0 on.0 on.1))

package_found : (source : List ℕ) (ts a : List Token) (w : Span) (x : ControlPart × List Token) → IsWord w ts a →
    package_part_at source w a ≡ Ok x → IsControlPart source x.0 ts x.1
unfolding package_part_at
package_found source ts a w x name e =
    elim (chosen (has_slash (text_of source w)) _ _ _ e) [
      | inl slash ↦
          let value = bind_ok (optional_value_at source a) _ x slash.1 in
          subst (IsSpelled (IsControlPart source) ts) (ok_is _ x value.2)
          (a, (slash.0, name), optional_value_found source a value.0 value.1)
      | inr none ↦ absurd (cc none.1)
    ]

control_named_found : (source : List ℕ) (k : Option Keyword) (w : Span) (ts a : List Token)
    (x : ControlPart × List Token) → keyword_of (text_of source w) ≡ k → IsWord w ts a →
    control_named source k w a ≡ Ok x → IsControlPart source x.0 ts x.1
control_named_found source (Some keywords.Mode) w ts a x is name e =
    mode_found source ts a x (w, is, name) e
control_named_found source (Some keywords.ReservedValue) w ts a x is name e =
    value_part_found source ts a x (w, is, name) e
control_named_found source (Some keywords.ReservedGroup) w ts a x is name e =
    group_part_found source ts a x (w, is, name) e
control_named_found source _ w ts a x is name e = package_found source ts a w x name e

control_found : (source : List ℕ) (ts : List Token) (x : ControlPart × List Token) → control_at source ts ≡ Ok x →
    IsControlPart source x.0 ts x.1
unfolding control_at
control_found source ts x e =
    let w = bind_ok (word_at source ts) _ x e in
    control_named_found source (keyword_of (text_of source w.0.0)) w.0.0 ts w.0.1 x refl
    (word_found source ts w.0 w.1) w.2

stream_named_found : (source : List ℕ) (k : Keyword) (place : ℕ) (ts a : List Token) (x : StreamPart × List Token) →
    IsWorded keyword_of source k ts a → stream_named source k place a ≡ Ok x → IsStreamPart source x.0 ts x.1
stream_named_found source keywords.Local place ts a x name e =
    let text = bind_ok (span_at source Octets a) _ x e in
    subst (IsSpelled (IsStreamPart source) ts) (ok_is _ x text.2)
    (a, name, span_found source Octets a text.0 text.1)
stream_named_found source keywords.Remote place ts a x name e =
    let text = bind_ok (span_at source Octets a) _ x e in
    subst (IsSpelled (IsStreamPart source) ts) (ok_is _ x text.2)
    (a, name, span_found source Octets a text.0 text.1)
stream_named_found source keywords.LocalControl place ts a x name e =
    let xs = bind_ok (braced_at source _ a) _ x e in
    subst (IsSpelled (IsStreamPart source) ts) (ok_is _ x xs.2)
    (a, name, braced_found source (control_at source) (IsControlPart source) (control_found source) a xs.0 xs.1)
stream_named_found source _ place ts a x name e = absurd cc

pub stream_part_found : (source : List ℕ) (ts : List Token) (x : StreamPart × List Token) →
    stream_part_at source ts ≡ Ok x → IsStreamPart source x.0 ts x.1
unfolding stream_part_at
stream_part_found source ts x e =
    let name = bind_ok (keyword_at source ts) _ x e in
    stream_named_found source name.0.0 (place_of_rest source ts) ts name.0.1 x
    (worded_found keyword_of source ts name.0 name.1) name.2

numbered_found : (source : List ℕ) (ts a : List Token) (x : MediaPart × List Token) →
    IsWorded keyword_of source keywords.Stream ts a → numbered_at source a ≡ Ok x → IsMediaPart source x.0 ts x.1
unfolding numbered_at
numbered_found source ts a x name e =
    let b = bind_ok (mark_at source Equals a) _ x e in
    let d = bind_ok (number_at source b.0) _ x b.2 in
    let xs = bind_ok (braced_at source (stream_part_at source) d.0.1) _ x d.2 in
    subst (IsSpelled (IsMediaPart source) ts) (ok_is _ x xs.2) (
      a,
      name,
      (
        b.0,
        mark_found source Equals a b.0 b.1,
        (
          d.0.1,
          worded_found number_of source b.0 d.0 d.1,
          braced_found source (stream_part_at source) (IsStreamPart source) (stream_part_found source) d.0.1 xs.0
              xs.1,
        ),
      ),
    )

a_part_found : (source : List ℕ) (ts : List Token) (x : MediaPart × List Token) →
    (stream_part_at source ts >>= λ part. Ok (parts.Part part.0, part.1)) ≡ Ok x → IsMediaPart source x.0 ts x.1
a_part_found source ts x e =
    let part = bind_ok (stream_part_at source ts) _ x e in
    subst (IsSpelled (IsMediaPart source) ts) (ok_is _ x part.2) (stream_part_found source ts part.0 part.1)

media_named_found : (source : List ℕ) (k : Keyword) (ts a : List Token) (x : MediaPart × List Token) →
    IsWorded keyword_of source k ts a → media_named source k ts a ≡ Ok x → IsMediaPart source x.0 ts x.1
media_named_found source keywords.Stream ts a x name e = numbered_found source ts a x name e
media_named_found source keywords.TerminationState ts a x name e =
    let content = bind_ok (filled_at source a) _ x e in
    subst (IsSpelled (IsMediaPart source) ts) (ok_is _ x content.2)
    (a, name, filled_found source a content.0 content.1)
media_named_found source _ ts a x name e = a_part_found source ts x e

pub media_part_found : (source : List ℕ) (ts : List Token) (x : MediaPart × List Token) →
    media_part_at source ts ≡ Ok x → IsMediaPart source x.0 ts x.1
unfolding media_part_at
media_part_found source ts x e =
    let name = bind_ok (keyword_at source ts) _ x e in
    media_named_found source name.0.0 ts name.0.1 x (worded_found keyword_of source ts name.0 name.1) name.2
