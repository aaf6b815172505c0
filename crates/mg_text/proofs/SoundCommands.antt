-- If the parser accepts a command or a descriptor, it is in the grammar.
use Rattle.std.proofs.Common.{◌≡◌, ℕ, Bool, true, false, List, Ok, refl, inl, inr, subst}
use Rattle.mg_scan.specs.declared.kind.TokenKind.TheVariants.{Word, Open, Close, Equals}
use Rattle.mg_scan.specs.declared.token.Token.{Token}
use Rattle.mg_text.specs.declared.keyword.Keyword.{Keyword}
use Rattle.mg_text.specs.declared.keyword.Keyword.TheVariants as keywords
use Rattle.mg_text.specs.declared.descriptor.AuditWord.{AuditWord}
use Rattle.mg_text.specs.declared.descriptor.OtherWord.{OtherWord}
use Rattle.mg_text.specs.declared.descriptor.OtherWord.TheVariants as others
use Rattle.mg_text.specs.declared.descriptor.Descriptor.{Descriptor}
use Rattle.mg_words.specs.declared.command_word.CommandWord.{CommandWord}
use Rattle.mg_words.specs.declared.command_word.CommandWord.TheVariants as commands
use Rattle.mg_text.specs.declared.command.Command.{Command}
use Rattle.mg_text.specs.Keyword.{keyword_of}
use Rattle.mg_text.specs.Words.{by_keyword, audit_word_named}
use Rattle.mg_text.specs.aids.Words.{command_of}
use Rattle.mg_text.specs.aids.Reading.{mark_at, word_at, meaning_at, keyword_at, term_at, filled_at}
use Rattle.mg_scan.specs.aids.Marks.{after_mark}
use Rattle.mg_text.specs.aids.Reading.{braced_at, place_of_rest}
use Rattle.mg_text.specs.aids.Media.{media_part_at}
use Rattle.mg_text.specs.aids.Commands.{audit_words_at, assigned_at, content_at, other_at, descriptor_named, descriptor_at, audit_named, audit_at, optional_audit_at, skipped_at, descriptors_at, command_at}
use Rattle.mg_text.specs.Production.{Production, ◌▹◌, ◌or◌}
use Rattle.mg_text.specs.Grammar.{IsMark, IsWorded, IsAnyBraced, IsGroup, IsContent, IsOptionalGroup, IsOtherContent, keyword_for, IsMediaPart, IsAudit, IsDescriptor, IsOptionalAudit, IsSkipped, IsDescribed, IsCommand}
use Rattle.mg_text.proofs.Sound.{bind_ok, ok_is, mark_found, after_found, if_some_ok, word_found, worded_found, term_found, group_found, filled_found, braced_found, any_braced_found, optional_braced_found, IsSpelled}
use Rattle.mg_text.proofs.SoundMedia.{media_part_found}
use Rattle.mg_text.proofs.WordLemmas.{head_worded}

audit_words_found : (source : List ℕ) (ts : List Token) (x : List AuditWord × List Token) →
    audit_words_at source ts ≡ Ok x → IsAnyBraced (IsWorded (by_keyword audit_word_named) source) x.0 ts x.1
audit_words_found source ts x e = any_braced_found source (meaning_at (by_keyword audit_word_named) source)
    (IsWorded (by_keyword audit_word_named) source) (worded_found (by_keyword audit_word_named) source) ts x e

abbrev pub IsAssignedContent : Production
IsAssignedContent = IsGroup or IsMark Word ▹ IsOptionalGroup

assigned_found : (source : List ℕ) (ts a rest : List Token) → IsMark Equals ts a → assigned_at source a ≡ Ok rest →
    IsAssignedContent a rest
unfolding assigned_at
assigned_found source ts a rest equals e =
    elim (if_some_ok (after_mark Open a) _ _ rest e) [
      | inl some ↦
          let g = group_found source 0 some.0 rest some.2 in
          inl (some.0, after_found Open a some.0 some.1, (g.0, g.1, g.2))
      | inr none ↦
          let word = bind_ok (word_at source a) _ rest none.1 in
          let group = bind_ok (filled_at source word.0.1) _ rest word.2 in
          let after = filled_found source word.0.1 group.0 group.1 in
          inr (
            word.0.1,
            (word.0.0, word_found source a word.0 word.1),
            (group.0.0, subst (λ (r : List Token). IsContent group.0.0 word.0.1 r) (ok_is _ rest group.2) after),
          )
    ]

plain_content : (b : Bool) (ts rest : List Token) → IsContent b ts rest → IsOtherContent b ts rest
plain_content true ts rest h = inl h
plain_content false ts rest h = h

content_found : (source : List ℕ) (ts : List Token) (x : Bool × List Token) → content_at source ts ≡ Ok x →
    IsOtherContent x.0 ts x.1
unfolding content_at
content_found source ts x e =
    elim (if_some_ok (after_mark Equals ts) _ _ x e) [
      | inl some ↦
          let rest = bind_ok (assigned_at source some.0) _ x some.2 in
          let equals = after_found Equals ts some.0 some.1 in
          subst (IsSpelled IsOtherContent ts) (ok_is _ x rest.2)
          (inr (some.0, equals, assigned_found source ts some.0 rest.0 equals rest.1))
      | inr none ↦ plain_content x.0 ts x.1 (filled_found source ts x none.1)
    ]

other_found : (source : List ℕ) (word : OtherWord) (ts a : List Token) (x : Descriptor × List Token) →
    IsWorded keyword_of source (keyword_for word) ts a → other_at source word a ≡ Ok x → IsDescriptor source x.0 ts x.1
unfolding other_at
other_found source word ts a x name e =
    let content = bind_ok (content_at source a) _ x e in
    subst (IsSpelled (IsDescriptor source) ts) (ok_is _ x content.2)
    (a, name, content_found source a content.0 content.1)

descriptor_named_found : (source : List ℕ) (k : Keyword) (place : ℕ) (ts a : List Token) (x : Descriptor × List Token)
    → IsWorded keyword_of source k ts a → descriptor_named source k place a ≡ Ok x → IsDescriptor source x.0 ts x.1
descriptor_named_found source keywords.Media place ts a x name e =
    let xs = bind_ok (braced_at source _ a) _ x e in
    subst (IsSpelled (IsDescriptor source) ts) (ok_is _ x xs.2)
    (a, name, braced_found source (media_part_at source) (IsMediaPart source) (media_part_found source) a xs.0 xs.1)
descriptor_named_found source keywords.Audit place ts a x name e =
    let words = bind_ok (audit_words_at source a) _ x e in
    subst (IsSpelled (IsDescriptor source) ts) (ok_is _ x words.2)
    (a, name, audit_words_found source a words.0 words.1)
descriptor_named_found source keywords.Signals place ts a x name e = other_found source others.Signals ts a x name e
descriptor_named_found source keywords.Events place ts a x name e = other_found source others.Events ts a x name e
descriptor_named_found source keywords.Modem place ts a x name e = other_found source others.Modem ts a x name e
descriptor_named_found source keywords.Mux place ts a x name e = other_found source others.Mux ts a x name e
descriptor_named_found source keywords.DigitMap place ts a x name e = other_found source others.DigitMap ts a x name e
descriptor_named_found source keywords.EventBuffer place ts a x name e =
    other_found source others.EventBuffer ts a x name e
descriptor_named_found source _ place ts a x name e = absurd cc

descriptor_found : (source : List ℕ) (ts : List Token) (x : Descriptor × List Token) →
    descriptor_at source ts ≡ Ok x → IsDescriptor source x.0 ts x.1
unfolding descriptor_at
descriptor_found source ts x e =
    let name = bind_ok (keyword_at source ts) _ x e in
    descriptor_named_found source name.0.0 (place_of_rest source ts) ts name.0.1 x
    (worded_found keyword_of source ts name.0 name.1) name.2

audit_named_found : (source : List ℕ) (k : Keyword) (place : ℕ) (ts a : List Token) (x : List AuditWord × List Token)
    → IsWorded keyword_of source k ts a → audit_named source k place a ≡ Ok x → IsAudit source x.0 ts x.1
audit_named_found source keywords.Audit place ts a x name e =
    (a, name, audit_words_found source a x e)
audit_named_found source _ place ts a x name e = absurd cc

audit_found : (source : List ℕ) (ts : List Token) (x : List AuditWord × List Token) → audit_at source ts ≡ Ok x →
    IsAudit source x.0 ts x.1
unfolding audit_at
audit_found source ts x e =
    let name = bind_ok (keyword_at source ts) _ x e in
    audit_named_found source name.0.0 (place_of_rest source ts) ts name.0.1 x
    (worded_found keyword_of source ts name.0 name.1) name.2

optional_audit_found : (source : List ℕ) (ts : List Token) (x : List Descriptor × List Token) →
    optional_audit_at source ts ≡ Ok x → IsOptionalAudit source x.0 ts x.1
unfolding optional_audit_at
optional_audit_found source ts x e =
    elim (if_some_ok (after_mark Open ts) _ _ x e) [
      | inl some ↦
          let words = bind_ok (audit_at source some.0) _ x some.2 in
          let close = bind_ok (mark_at source Close words.0.1) _ x words.2 in
          subst (IsSpelled (IsOptionalAudit source) ts) (ok_is _ x close.2) (
            some.0,
            after_found Open ts some.0 some.1,
            (
              words.0.1,
              audit_found source some.0 words.0 words.1,
              mark_found source Close words.0.1 close.0 close.1,
            ),
          )
      | inr none ↦ subst (IsSpelled (IsOptionalAudit source) ts) (ok_is _ x none.1) refl
    ]

skipped_found : (source : List ℕ) (ts : List Token) (x : List Descriptor × List Token) → skipped_at source ts ≡ Ok x →
    IsSkipped x.0 ts x.1
unfolding skipped_at
skipped_found source ts x e =
    let group = bind_ok (filled_at source ts) _ x e in
    subst (IsSpelled IsSkipped ts) (ok_is _ x group.2) (refl, (group.0.0, filled_found source ts group.0 group.1))

described_found : (source : List ℕ) (word : CommandWord) (ts : List Token) (x : List Descriptor × List Token) →
    descriptors_at source word ts ≡ Ok x → IsDescribed source word x.0 ts x.1
described_found source commands.Add ts x e =
    optional_braced_found source (descriptor_at source) (IsDescriptor source) (descriptor_found source) ts x e
described_found source commands.Modify ts x e =
    optional_braced_found source (descriptor_at source) (IsDescriptor source) (descriptor_found source) ts x e
described_found source commands.Move ts x e =
    optional_braced_found source (descriptor_at source) (IsDescriptor source) (descriptor_found source) ts x e
described_found source commands.Subtract ts x e = optional_audit_found source ts x e
described_found source commands.AuditValue ts x e = optional_audit_found source ts x e
described_found source commands.AuditCapability ts x e = skipped_found source ts x e
described_found source commands.Notify ts x e = skipped_found source ts x e
described_found source commands.ServiceChange ts x e = skipped_found source ts x e

pub command_found : (source : List ℕ) (ts : List Token) (x : Command × List Token) → command_at source ts ≡ Ok x →
    IsCommand source x.0 ts x.1
unfolding command_at
command_found source ts x e =
    let head = bind_ok (meaning_at command_of source ts) _ x e in
    let b = bind_ok (mark_at source Equals head.0.1) _ x head.2 in
    let term = bind_ok (term_at source b.0) _ x b.2 in
    let items = bind_ok (descriptors_at source head.0.0.word term.0.1) _ x term.2 in
    subst (IsSpelled (IsCommand source) ts) (ok_is _ x items.2) (
      head.0.1,
      head_worded source head.0.0 ts head.0.1 (worded_found command_of source ts head.0 head.1),
      (
        b.0,
        mark_found source Equals head.0.1 b.0 b.1,
        (
          term.0.1,
          term_found source b.0 term.0 term.1,
          described_found source head.0.0.word term.0.1 items.0 items.1,
        ),
      ),
    )
