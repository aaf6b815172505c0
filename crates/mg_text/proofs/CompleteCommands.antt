-- The parser accepts the commands and descriptors that are in the grammar.
use Rattle.std.proofs.Common.{◌≡◌, ℕ, Bool, true, false, List, [], ◌∷◌, None, Ok, refl, inl, inr, ◌∙◌}
use Rattle.mg_scan.specs.declared.kind.TokenKind.TheVariants.{Word, Open, Close, Equals}
use Rattle.mg_scan.specs.declared.token.Token.{Token}
use Rattle.mg_text.specs.declared.keyword.Keyword.TheVariants as keywords
use Rattle.mg_text.specs.declared.descriptor.AuditWord.{AuditWord}
use Rattle.mg_text.specs.declared.descriptor.OtherWord.{OtherWord}
use Rattle.mg_text.specs.declared.descriptor.OtherWord.TheVariants as others
use Rattle.mg_text.specs.declared.descriptor.Descriptor.{Descriptor}
use Rattle.mg_text.specs.declared.descriptor.Descriptor.TheVariants as descriptors
use Rattle.mg_words.specs.declared.command_word.CommandWord.{CommandWord}
use Rattle.mg_words.specs.declared.command_word.CommandWord.TheVariants as commands
use Rattle.mg_text.specs.declared.command.Command.{Command}
use Rattle.mg_text.specs.Keyword.{keyword_of}
use Rattle.mg_text.specs.Words.{by_keyword, audit_word_named}
use Rattle.mg_text.specs.aids.Words.{command_of}
use Rattle.mg_text.specs.aids.Reading.{meaning_at}
use Rattle.mg_scan.specs.aids.Marks.{after_mark}
use Rattle.mg_text.specs.aids.Media.{media_part_at}
use Rattle.mg_text.specs.aids.Commands.{audit_words_at, assigned_at, content_at, other_at, descriptor_named, descriptor_at, audit_at, optional_audit_at, skipped_at, descriptors_at, command_at}
use Rattle.mg_text.specs.Production.{◌▹◌}
use Rattle.mg_text.specs.Grammar.{IsMark, IsWorded, IsAnyBraced, IsContent, IsOtherContent, keyword_for, IsMediaPart, IsAudit, IsDescriptor, IsOptionalAudit, IsSkipped, IsDescribed, IsCommand}
use Rattle.mg_text.specs.aids.Words.{head_of}
use Rattle.mg_text.proofs.Complete.{Stops, mark_read, after_read, after_other, word_read, span_other, worded_read, inside_read, term_read, filled_read, braced_read, optional_braced_read, any_braced_read, each_word_read, each_word_begins}
use Rattle.mg_text.proofs.SoundCommands.{IsAssignedContent}
use Rattle.mg_text.proofs.CompleteMedia.{media_part_read}
use Rattle.mg_text.proofs.Shorter.{by_count, each_word_shorter, media_part_shorter, descriptor_shorter}
use Rattle.mg_text.proofs.WordLemmas.{worded_head}

audit_words_read : (source : List ℕ) (xs : List AuditWord) (ts rest : List Token) →
    IsAnyBraced (IsWorded (by_keyword audit_word_named) source) xs ts rest → audit_words_at source ts ≡ Ok (xs, rest)
audit_words_read source xs ts rest m = any_braced_read source (meaning_at (by_keyword audit_word_named) source)
    (IsWorded (by_keyword audit_word_named) source) (each_word_read (by_keyword audit_word_named) source)
    (each_word_shorter by_count (by_keyword audit_word_named) source)
    (each_word_begins (by_keyword audit_word_named) source) xs ts rest m

assigned_read : (source : List ℕ) (ts rest : List Token) → after_mark Open rest ≡ None →
    IsAssignedContent ts rest → assigned_at source ts ≡ Ok rest
unfolding assigned_at
assigned_read source ts rest stops (inl m) = rw (after_read Open ts m.0 m.1, inside_read source ts rest m) refl
assigned_read source ts rest stops (inr m) =
    rw (
      span_other Word Open m.1.0 ts m.0 refl m.1.1,
      word_read source m.1.0 ts m.0 m.1.1,
      filled_read source m.2.0 m.0 rest stops m.2.1,
    ) refl

-- If the tokens after an optional group do not start with an equals sign, neither do the tokens from the group on.
no_equals : (b : Bool) (ts rest : List Token) → after_mark Equals rest ≡ None → IsContent b ts rest →
    after_mark Equals ts ≡ None
no_equals true ts rest stops m = after_other Open Equals ts m.0.0 refl m.0.1
no_equals false ts rest stops (inl none) = rw none stops
no_equals false ts rest stops (inr empty) = after_other Open Equals ts empty.0 refl empty.1

plain_content_read : (source : List ℕ) (b : Bool) (ts rest : List Token) → Stops rest → IsContent b ts rest →
    content_at source ts ≡ Ok (b, rest)
unfolding content_at
plain_content_read source b ts rest stops m =
    rw (no_equals b ts rest stops.equals m, filled_read source b ts rest stops.«open» m) refl

content_read : (source : List ℕ) (b : Bool) (ts rest : List Token) → Stops rest → IsOtherContent b ts rest →
    content_at source ts ≡ Ok (b, rest)
unfolding content_at
content_read source false ts rest stops m = plain_content_read source false ts rest stops m
content_read source true ts rest stops (inl m) = plain_content_read source true ts rest stops m
content_read source true ts rest stops (inr m) =
    rw (after_read Equals ts m.0 m.1, assigned_read source m.0 rest stops.«open» m.2) refl

other_named : (source : List ℕ) (word : OtherWord) (place : ℕ) (ts : List Token) →
    descriptor_named source (keyword_for word) place ts ≡ other_at source word ts
other_named source others.Signals place ts = refl
other_named source others.Events place ts = refl
other_named source others.Modem place ts = refl
other_named source others.Mux place ts = refl
other_named source others.DigitMap place ts = refl
other_named source others.EventBuffer place ts = refl

descriptor_read : (source : List ℕ) (ts : List Token) (x : Descriptor) (rest : List Token) → Stops rest →
    IsDescriptor source x ts rest → descriptor_at source ts ≡ Ok (x, rest)
unfolding descriptor_at other_at
descriptor_read source ts (descriptors.Media xs) rest stops m =
    rw (
      worded_read keyword_of source keywords.Media ts m.0 m.1,
      braced_read source (media_part_at source) (IsMediaPart source) (media_part_read source)
          (media_part_shorter by_count source) xs m.0 rest m.2,
    ) refl
descriptor_read source ts (descriptors.Audit xs) rest stops m =
    rw (worded_read keyword_of source keywords.Audit ts m.0 m.1, audit_words_read source xs m.0 rest m.2) refl
descriptor_read source ts (descriptors.Other word b) rest stops m =
    rw (worded_read keyword_of source (keyword_for word) ts m.0 m.1)
    (other_named source word _ m.0 ∙ (rw (content_read source b m.0 rest stops m.2) refl))

audit_read : (source : List ℕ) (xs : List AuditWord) (ts rest : List Token) → IsAudit source xs ts rest →
    audit_at source ts ≡ Ok (xs, rest)
unfolding audit_at
audit_read source xs ts rest m = rw (
  worded_read keyword_of source keywords.Audit ts m.0 m.1,
  audit_words_read source xs m.0 rest m.2,
) refl

audit_braced_read : (source : List ℕ) (xs : List AuditWord) (ts rest : List Token) →
    (IsMark Open ▹ IsAudit source xs ▹ IsMark Close) ts rest →
    optional_audit_at source ts ≡ Ok (descriptors.Audit xs ∷ [], rest)
unfolding optional_audit_at
audit_braced_read source xs ts rest m = rw (
  after_read Open ts m.0 m.1,
  audit_read source xs m.0 m.2.0 m.2.1,
  mark_read source Close m.2.0 rest m.2.2,
) refl

optional_audit_read : (source : List ℕ) (xs : List Descriptor) (ts rest : List Token) → after_mark Open rest ≡ None →
    IsOptionalAudit source xs ts rest → optional_audit_at source ts ≡ Ok (xs, rest)
unfolding optional_audit_at
optional_audit_read source [] ts rest stops m = rw (m, stops) refl
optional_audit_read source (descriptors.Audit xs ∷ []) ts rest stops m = audit_braced_read source xs ts rest m
optional_audit_read source _ ts rest stops m = absurd m

skipped_read : (source : List ℕ) (xs : List Descriptor) (ts rest : List Token) → after_mark Open rest ≡ None →
    IsSkipped xs ts rest → skipped_at source ts ≡ Ok (xs, rest)
unfolding skipped_at
skipped_read source xs ts rest stops m = rw (filled_read source m.1.0 ts rest stops m.1.1, m.0) refl

described_read : (source : List ℕ) (word : CommandWord) (xs : List Descriptor) (ts rest : List Token) →
    after_mark Open rest ≡ None → IsDescribed source word xs ts rest → descriptors_at source word ts ≡ Ok (xs, rest)
described_read source commands.Add xs ts rest stops m =
    optional_braced_read source (descriptor_at source) (IsDescriptor source) (descriptor_read source)
    (descriptor_shorter by_count source) xs ts rest stops m
described_read source commands.Modify xs ts rest stops m =
    optional_braced_read source (descriptor_at source) (IsDescriptor source) (descriptor_read source)
    (descriptor_shorter by_count source) xs ts rest stops m
described_read source commands.Move xs ts rest stops m =
    optional_braced_read source (descriptor_at source) (IsDescriptor source) (descriptor_read source)
    (descriptor_shorter by_count source) xs ts rest stops m
described_read source commands.Subtract xs ts rest stops m = optional_audit_read source xs ts rest stops m
described_read source commands.AuditValue xs ts rest stops m = optional_audit_read source xs ts rest stops m
described_read source commands.AuditCapability xs ts rest stops m = skipped_read source xs ts rest stops m
described_read source commands.Notify xs ts rest stops m = skipped_read source xs ts rest stops m
described_read source commands.ServiceChange xs ts rest stops m = skipped_read source xs ts rest stops m

pub command_read : (source : List ℕ) (ts : List Token) (x : Command) (rest : List Token) → Stops rest →
    IsCommand source x ts rest → command_at source ts ≡ Ok (x, rest)
unfolding command_at
command_read source ts x rest stops m =
    rw (
      worded_read command_of source (head_of x) ts m.0 (worded_head source (head_of x) ts m.0 m.1),
      mark_read source Equals m.0 m.2.0 m.2.1,
      term_read source x.term m.2.0 m.2.2.0 m.2.2.1,
      described_read source x.word x.descriptors m.2.2.0 rest stops.«open»
          m.2.2.2,
    ) refl
