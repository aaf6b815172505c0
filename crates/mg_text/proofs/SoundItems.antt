-- If the parser accepts properties, actions, items or a message, they are in the grammar.
use Rattle.std.proofs.Common.{◌≡◌, ℕ, zero, suc, eqb, List, [], ◌∷◌, length, Option, Ok, refl, inl, inr, ◌⊎◌, sym, ap, subst, ◌∙◌}
use Rattle.std.proofs.lemmas.Bool.{eqb-true}
use Rattle.std.proofs.lemmas.List.{nil_from_length}
use Rattle.mg_scan.specs.declared.kind.TokenKind.TheVariants.{Open, Close, Comma, Equals}
use Rattle.mg_scan.specs.declared.span.Span.{Span}
use Rattle.mg_scan.specs.declared.token.Token.{Token}
use Rattle.mg_scan.specs.Span.{text_of}
use Rattle.mg_words.specs.Numbers.{number_of}
use Rattle.mg_text.specs.declared.keyword.Keyword.{Keyword}
use Rattle.mg_text.specs.declared.keyword.Keyword.TheVariants as keywords
use Rattle.mg_text.specs.declared.context_property.NamedTriple.{NamedTriple}
use Rattle.mg_text.specs.declared.context_property.ContextProperty.{ContextProperty}
use Rattle.mg_text.specs.declared.command.Command.{Command}
use Rattle.mg_text.specs.declared.actions.ActionParts.{ActionParts}
use Rattle.mg_text.specs.declared.request.Action.{Action}
use Rattle.mg_text.specs.declared.body.Body.{Body}
use Rattle.mg_text.specs.declared.body.MessageItem.{MessageItem}
use Rattle.mg_text.specs.declared.message.Message.{Message}
use Rattle.mg_text.specs.Keyword.{keyword_of}
use Rattle.mg_words.specs.ContextId.{context_id_of}
use Rattle.mg_text.specs.Words.{by_keyword, context_word_named, range_of}
use Rattle.mg_text.specs.aids.Words.{association_named}
use Rattle.mg_text.specs.Head.{version_in_head}
use Rattle.mg_text.specs.Sender.{is_sender}
use Rattle.mg_words.specs.ResultSteps.{◌>>=◌}
use Rattle.mg_text.specs.aids.Reading.{mark_at, word_at, named_at, meaning_at, keyword_at, number_at}
use Rattle.mg_scan.specs.aids.Marks.{after_mark}
use Rattle.mg_text.specs.aids.Reading.{context_id_at, term_at, group_at, items_at, braced_at, place_of_rest}
use Rattle.mg_text.specs.aids.Commands.{command_at}
use Rattle.mg_text.specs.aids.Requests.{triple_at, priority_at, emergency_at, property_named, property_at, begins_property, parts_at, action_at, request_at, ranges_at, answer_at, item_named, item_at, kept_before, sequence_at, error_at, body_named, body_at}
use Rattle.mg_text.specs.aids.Text.{sender_at, text_at}
use Rattle.mg_text.specs.Grammar.{IsMark, IsWordThat, IsWorded, IsGroup, IsCommand, IsTriple, IsContextProperty, IsParts, IsAction, IsItem, IsSequence, body_of, IsBody, IsText}
use Rattle.mg_text.specs.aids.Parts.{kept}
use Rattle.mg_scan.proofs.JoinLemmas.{chosen}
use Rattle.mg_text.proofs.Sound.{bind_ok, guard_ok, ok_is, mark_found, after_found, if_some_ok, word_found, named_found, worded_found, term_found, group_at_found, items_found, braced_found, IsSpelled}
use Rattle.mg_text.proofs.SoundCommands.{command_found}
use Rattle.mg_text.proofs.KeywordLemmas.{context_is}
use Rattle.mg_text.proofs.WordLemmas.{association_is_meant}

triple_found : (source : List ℕ) (ts : List Token) (x : NamedTriple × List Token) → triple_at source ts ≡ Ok x →
    IsTriple source x.0 ts x.1
unfolding triple_at
triple_found source ts x e =
    let first = bind_ok (term_at source ts) _ x e in
    let b = bind_ok (mark_at source Comma first.0.1) _ x first.2 in
    let second = bind_ok (term_at source b.0) _ x b.2 in
    let f = bind_ok (mark_at source Comma second.0.1) _ x second.2 in
    let association = bind_ok (meaning_at (by_keyword association_named) source f.0) _ x f.2 in
    subst (IsSpelled (IsTriple source) ts) (ok_is _ x association.2) (
      first.0.1,
      term_found source ts first.0 first.1,
      (
        b.0,
        mark_found source Comma first.0.1 b.0 b.1,
        (
          second.0.1,
          term_found source b.0 second.0 second.1,
          (
            f.0,
            mark_found source Comma second.0.1 f.0 f.1,
            association_is_meant source association.0.0 f.0 association.0.1
                (worded_found (by_keyword association_named) source f.0 association.0 association.1),
          ),
        ),
      ),
    )

priority_found : (source : List ℕ) (ts a : List Token) (x : ContextProperty × List Token) →
    IsWorded keyword_of source keywords.Priority ts a → priority_at source a ≡ Ok x →
    IsContextProperty source x.0 ts x.1
unfolding priority_at
priority_found source ts a x name e =
    let b = bind_ok (mark_at source Equals a) _ x e in
    let word = bind_ok (word_at source b.0) _ x b.2 in
    subst (IsSpelled (IsContextProperty source) ts) (ok_is _ x word.2)
    (a, name, (b.0, mark_found source Equals a b.0 b.1, word_found source b.0 word.0 word.1))

emergency_found : (source : List ℕ) (ts a : List Token) (x : ContextProperty × List Token) →
    IsWorded keyword_of source keywords.Emergency ts a → emergency_at source a ≡ Ok x →
    IsContextProperty source x.0 ts x.1
unfolding emergency_at
emergency_found source ts a x name e =
    elim (if_some_ok (after_mark Equals a) _ _ x e) [
      | inl some ↦
          let word = bind_ok (word_at source some.0) _ x some.2 in
          subst (IsSpelled (IsContextProperty source) ts) (ok_is _ x word.2)
          (a, name, (some.0, after_found Equals a some.0 some.1, word_found source some.0 word.0 word.1))
      | inr none ↦ subst (IsSpelled (IsContextProperty source) ts) (ok_is _ x none.1)
          (a, name, refl)
    ]

property_named_found : (source : List ℕ) (k : Keyword) (place : ℕ) (ts a : List Token)
    (x : ContextProperty × List Token) → IsWorded keyword_of source k ts a → property_named source k place a ≡ Ok x →
    IsContextProperty source x.0 ts x.1
property_named_found source keywords.Topology place ts a x name e =
    let xs = bind_ok (braced_at source _ a) _ x e in
    subst (IsSpelled (IsContextProperty source) ts) (ok_is _ x xs.2)
    (a, name, braced_found source (triple_at source) (IsTriple source) (triple_found source) a xs.0 xs.1)
property_named_found source keywords.ContextAudit place ts a x name e =
    let xs = bind_ok (braced_at source _ a) _ x e in
    subst (IsSpelled (IsContextProperty source) ts) (ok_is _ x xs.2) (
      a,
      name,
      braced_found source (meaning_at (by_keyword context_word_named) source)
          (IsWorded (by_keyword context_word_named) source) (worded_found (by_keyword context_word_named) source)
          a xs.0 xs.1,
    )
property_named_found source keywords.Priority place ts a x name e = priority_found source ts a x name e
property_named_found source keywords.Emergency place ts a x name e = emergency_found source ts a x name e
property_named_found source _ place ts a x name e = absurd cc

property_found : (source : List ℕ) (ts : List Token) (x : ContextProperty × List Token) →
    property_at source ts ≡ Ok x → IsContextProperty source x.0 ts x.1
unfolding property_at
property_found source ts x e =
    let name = bind_ok (keyword_at source ts) _ x e in
    property_named_found source name.0.0 (place_of_rest source ts) ts name.0.1 x
    (worded_found keyword_of source ts name.0 name.1) name.2

abbrev ArePartsOf : List ℕ → ActionParts → List Token → List Token → Type 0
ArePartsOf source x ts rest = IsParts source x.properties x.commands ts rest

more_parts : (source : List ℕ) (p : ContextProperty) (ps : List ContextProperty) (xs : List Command)
    (ts a b rest : List Token) → IsContextProperty source p ts a → IsMark Comma a b → IsParts source ps xs b rest →
    IsParts source (p ∷ ps) xs ts rest
more_parts source p [] [] ts a b rest h comma parts = absurd parts
more_parts source p [] (x ∷ xs) ts a b rest h comma parts = (a, h, (b, comma, parts))
more_parts source p (q ∷ qs) xs ts a b rest h comma parts = (a, h, (b, comma, parts))

parts_found : (source : List ℕ) (n : ℕ) (ts : List Token) (x : ActionParts × List Token) →
    parts_at source n ts ≡ Ok x → ArePartsOf source x.0 ts x.1
unfolding parts_at
parts_found source zero ts x e = absurd cc
parts_found source (suc n) ts x e =
    elim (chosen (begins_property source ts) _ _ _ e) [
      | inl property ↦
          let first = bind_ok (property_at source ts) _ x property.1 in
          let p = property_found source ts first.0 first.1 in
          elim (if_some_ok (after_mark Comma first.0.1) _ _ x first.2) [
            | inl more ↦
                let others = bind_ok (parts_at source n more.0) _ x more.2 in
                subst (IsSpelled (ArePartsOf source) ts) (ok_is _ x others.2)
                (more_parts source first.0.0 others.0.0.properties others.0.0.commands ts first.0.1 more.0
                others.0.1 p (after_found Comma first.0.1 more.0 more.1)
                (parts_found source n more.0 others.0 others.1))
            | inr last ↦
                let close = bind_ok (mark_at source Close first.0.1) _ x last.1 in
                subst (IsSpelled (ArePartsOf source) ts) (ok_is _ x close.2)
                (first.0.1, p, mark_found source Close first.0.1 close.0 close.1)
          ]
      | inr command ↦
          let xs = bind_ok (items_at source (command_at source) ts) _ x command.1 in
          subst (IsSpelled (ArePartsOf source) ts) (ok_is _ x xs.2)
          (items_found source (command_at source) (IsCommand source) (command_found source) ts xs.0 xs.1)
    ]

context_found : (source : List ℕ) (ts rest : List Token) → named_at source keywords.Context ts ≡ Ok rest →
    IsWorded keyword_of source keywords.Context ts rest
context_found source ts rest e = let name = named_found source keywords.Context ts rest e in
    (name.0, context_is (text_of source name.0) name.1, name.2)

action_found : (source : List ℕ) (ts : List Token) (x : Action × List Token) → action_at source ts ≡ Ok x →
    IsAction source x.0 ts x.1
unfolding action_at
action_found source ts x e =
    let a = bind_ok (named_at source keywords.Context ts) _ x e in
    let b = bind_ok (mark_at source Equals a.0) _ x a.2 in
    let d = bind_ok (context_id_at source b.0) _ x b.2 in
    let f = bind_ok (mark_at source Open d.0.1) _ x d.2 in
    let parts = bind_ok (parts_at source (length f.0) f.0) _ x f.2 in
    subst (IsSpelled (IsAction source) ts) (ok_is _ x parts.2) (
      a.0,
      context_found source ts a.0 a.1,
      (
        b.0,
        mark_found source Equals a.0 b.0 b.1,
        (
          d.0.1,
          worded_found context_id_of source b.0 d.0 d.1,
          (
            f.0,
            mark_found source Open d.0.1 f.0 f.1,
            parts_found source (length f.0) f.0 parts.0 parts.1,
          ),
        ),
      ),
    )

request_found : (source : List ℕ) (ts a : List Token) (x : Option MessageItem × List Token) →
    IsWorded keyword_of source keywords.Transaction ts a → request_at source a ≡ Ok x → IsItem source x.0 ts x.1
unfolding request_at
request_found source ts a x name e =
    let b = bind_ok (mark_at source Equals a) _ x e in
    let d = bind_ok (number_at source b.0) _ x b.2 in
    let xs = bind_ok (braced_at source (action_at source) d.0.1) _ x d.2 in
    subst (IsSpelled (IsItem source) ts) (ok_is _ x xs.2) (
      a,
      name,
      (
        b.0,
        mark_found source Equals a b.0 b.1,
        (
          d.0.1,
          worded_found number_of source b.0 d.0 d.1,
          braced_found source (action_at source) (IsAction source) (action_found source) d.0.1 xs.0 xs.1,
        ),
      ),
    )

ranges_found : (source : List ℕ) (ts a : List Token) (x : Option MessageItem × List Token) →
    IsWorded keyword_of source keywords.TransactionResponseAck ts a → ranges_at source a ≡ Ok x →
    IsItem source x.0 ts x.1
unfolding ranges_at
ranges_found source ts a x name e =
    let xs = bind_ok (braced_at source (meaning_at range_of source) a) _ x e in
    subst (IsSpelled (IsItem source) ts) (ok_is _ x xs.2) (
      a,
      name,
      braced_found source (meaning_at range_of source) (IsWorded range_of source)
          (worded_found range_of source) a xs.0 xs.1,
    )

answer_found : (source : List ℕ) (ts a : List Token) (x : Option MessageItem × List Token) →
    IsWorded keyword_of source keywords.Reply ts a ⊎ IsWorded keyword_of source keywords.Pending ts a →
    answer_at source a ≡ Ok x → IsItem source x.0 ts x.1
unfolding answer_at
answer_found source ts a x name e =
    let b = bind_ok (mark_at source Equals a) _ x e in
    let d = bind_ok (number_at source b.0) _ x b.2 in
    let g = bind_ok (group_at source d.0.1) _ x d.2 in
    subst (IsSpelled (IsItem source) ts) (ok_is _ x g.2) (
      a,
      name,
      (
        b.0,
        mark_found source Equals a b.0 b.1,
        (d.0.1, (d.0.0, worded_found number_of source b.0 d.0 d.1), group_at_found source d.0.1 g.0 g.1),
      ),
    )

item_named_found : (source : List ℕ) (k : Keyword) (place : ℕ) (ts a : List Token)
    (x : Option MessageItem × List Token) → IsWorded keyword_of source k ts a → item_named source k place a ≡ Ok x →
    IsItem source x.0 ts x.1
item_named_found source keywords.Transaction place ts a x name e = request_found source ts a x name e
item_named_found source keywords.TransactionResponseAck place ts a x name e = ranges_found source ts a x name e
item_named_found source keywords.Reply place ts a x name e = answer_found source ts a x (inl name) e
item_named_found source keywords.Pending place ts a x name e = answer_found source ts a x (inr name) e
item_named_found source _ place ts a x name e = absurd cc

item_found : (source : List ℕ) (ts : List Token) (x : Option MessageItem × List Token) → item_at source ts ≡ Ok x →
    IsItem source x.0 ts x.1
unfolding item_at
item_found source ts x e =
    let name = bind_ok (keyword_at source ts) _ x e in
    item_named_found source name.0.0 (place_of_rest source ts) ts name.0.1 x
    (worded_found keyword_of source ts name.0 name.1) name.2

-- The tokens are a sequence of items, of which these are kept.
abbrev AreKept : List ℕ → List MessageItem → List Token → Type 0
AreKept source xs ts = (items : List (Option MessageItem)) × IsSequence source items ts [] × (xs ≡ kept items)

before : (source : List ℕ) (x : Option MessageItem) (xs : List MessageItem) (ts a : List Token) →
    IsItem source x ts a → AreKept source xs a → AreKept source (kept_before x xs) ts
before source x xs ts a h more = (x ∷ more.0, longer more.0 more.1, ap (kept_before x) more.2)
  where
    longer : (items : List (Option MessageItem)) → IsSequence source items a [] → IsSequence source (x ∷ items) ts []
    longer [] h = absurd h
    longer (y ∷ ys) others = (a, h, others)

sequence_found : (source : List ℕ) (n : ℕ) (ts : List Token) (xs : List MessageItem) →
    sequence_at source n ts ≡ Ok xs → AreKept source xs ts
unfolding sequence_at
sequence_found source zero ts xs e = absurd cc
sequence_found source (suc n) ts xs e =
    let first = bind_ok (item_at source ts) _ xs e in
    let p = item_found source ts first.0 first.1 in
    elim (chosen (eqb (length first.0.1) 0) _ _ _ first.2) [
      | inl last ↦
          let whole = subst (λ (r : List Token). IsItem source first.0.0 ts r)
          (nil_from_length first.0.1 (eqb-true _ _ last.0)) p in
          subst (λ (y : List MessageItem). AreKept source y ts) (ok_is _ xs last.1) (first.0.0 ∷ [], whole, refl)
      | inr more ↦
          let others = bind_ok (sequence_at source n first.0.1) _ xs more.1 in
          subst (λ (y : List MessageItem). AreKept source y ts) (ok_is _ xs others.2)
          (before source first.0.0 others.0 ts first.0.1 p (sequence_found source n first.0.1 others.0 others.1))
    ]

items_of_found : (source : List ℕ) (ts : List Token) (x : Body) →
    (sequence_at source (length ts) ts >>= λ xs. Ok (body_of xs)) ≡ Ok x → IsBody source x ts []
items_of_found source ts x e =
    let xs = bind_ok (sequence_at source (length ts) ts) _ x e in
    let are = sequence_found source (length ts) ts xs.0 xs.1 in
    inr (are.0, sym (ok_is _ x xs.2) ∙ ap body_of are.2, are.1)

error_found : (source : List ℕ) (ts a : List Token) (x : Body) → IsWorded keyword_of source keywords.Error ts a →
    error_at source a ≡ Ok x → IsBody source x ts []
unfolding error_at
error_found source ts a x name e =
    let b = bind_ok (mark_at source Equals a) _ x e in
    let d = bind_ok (word_at source b.0) _ x b.2 in
    let g = bind_ok (group_at source d.0.1) _ x d.2 in
    let end = guard_ok (eqb (length g.0) 0) (place_of_rest source g.0) _ x g.2 in
    let group = subst (IsGroup d.0.1) (nil_from_length g.0 (eqb-true _ _ end.0))
    (group_at_found source d.0.1 g.0 g.1) in
    inl (
      sym end.1,
      (
        a,
        name,
        (b.0, mark_found source Equals a b.0 b.1, (d.0.1, (d.0.0, word_found source b.0 d.0 d.1), group)),
      ),
    )

body_named_found : (source : List ℕ) (k : Keyword) (ts a : List Token) (x : Body) →
    IsWorded keyword_of source k ts a → body_named source k ts a ≡ Ok x → IsBody source x ts []
body_named_found source keywords.Error ts a x name e = error_found source ts a x name e
body_named_found source _ ts a x name e = items_of_found source ts x e

body_found : (source : List ℕ) (ts : List Token) (x : Body) → body_at source ts ≡ Ok x → IsBody source x ts []
unfolding body_at
body_found source ts x e =
    let name = bind_ok (keyword_at source ts) _ x e in
    body_named_found source name.0.0 ts name.0.1 x (worded_found keyword_of source ts name.0 name.1) name.2

sender_found : (source : List ℕ) (ts : List Token) (x : Span × List Token) → sender_at source ts ≡ Ok x →
    IsWordThat is_sender source x.0 ts x.1
unfolding sender_at
sender_found source ts x e =
    let w = bind_ok (word_at source ts) _ x e in
    let g = guard_ok (is_sender (text_of source w.0.0)) w.0.0.start w.0 x w.2 in
    subst (IsSpelled (IsWordThat is_sender source) ts) g.1 (g.0, word_found source ts w.0 w.1)

-- If the parser accepts the tokens after the head, the tokens are a message.
pub text_found : (source : List ℕ) (ts a : List Token) (m : Message) → IsWorded version_in_head source 1 ts a →
    text_at source a ≡ Ok m → IsText source m ts
unfolding text_at
text_found source ts a m head e =
    let s = bind_ok (sender_at source a) _ m e in
    let b = bind_ok (body_at source s.0.1) _ m s.2 in
    subst (λ (y : Message). IsText source y ts) (ok_is _ m b.2)
    (a, head, (s.0.1, sender_found source a s.0 s.1, body_found source s.0.1 b.0 b.1))
