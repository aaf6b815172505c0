-- The answers of a gateway to control datagrams.
use Rattle.std.proofs.Common.{◌≡◌, ℕ, ◌+◌, ◌<◌, ◌≤◌, List, length, Option, Some, Result, Err, refl, inl, inr, sym, ap, subst, ◌∙◌, append_assoc, length-append, arith}
use Rattle.std.proofs.lemmas.Bool.{cases_lt}
use Rattle.mg_text.proofs.ReadLemmas.{IsAnswered}
use Rattle.mg_text.specs.declared.message.Message as text
use Rattle.mg_text.specs.declared.fault.ReadFault.{ReadFault}
use Rattle.mg_text.specs.declared.fault.ReadFault.TheVariants.{NoMemory, Syntax, Version, TooMany}
use Rattle.mg_text.specs.Message.{IsTree, IsTooMany, HasOtherVersion}
use Rattle.mg_text.specs.MessageReading.{MessageReading, IsMessageReading}
use Rattle.mg_text.specs.MessageReading as readings
use Rattle.mg_words.specs.declared.error_number.ErrorNumber.{ErrorNumber}
use Rattle.mg_words.specs.declared.error_number.ErrorNumber.TheVariants as numbers
use Rattle.mg_bytes.specs.Bytes.{Written, appended}
use Rattle.mg_core.specs.declared.parsed.Parsed.{Parsed}
use Rattle.mg_core.specs.declared.parsed.Parsed.TheVariants.{Message, Refused}
use Rattle.mg_core.specs.Answer.{answered, refused}
use Rattle.mg_core.specs.Parsed.{IsReadingOf, ReadingsAreUnique}
use Rattle.mg_core.specs.World.{World}
use Rattle.mg_core.specs.aids.Steps.{refusal_of}

-- After every write that fits in the room, the remaining room and the length of the text so far add up to the same
-- total.
pub appended-total : (w : Written) (a : List ℕ) → length a ≤ w.room →
    (appended w a).room + length (appended w a).text ≡ w.room + length w.text
appended-total w a le = omega (arith, length-append w.text a)

pub ruleset totals = (appended-total, length-append, append_assoc)

abbrev read_fault : ReadFault → Result text.Message ReadFault
read_fault f = Err f

abbrev error_some : ErrorNumber → Option ErrorNumber
error_some e = Some e

error_is : (a e : ErrorNumber) → error_some a ≡ error_some e → a ≡ e
error_is a e h = cc h

syntax_no_long : (place : ℕ) → read_fault (Syntax place) ≡ read_fault TooMany → ⊥
syntax_no_long place h = cc h

short_is : (n : ℕ) → (8192 < n → ⊥) → n ≤ 8192
short_is n no_more = elim (cases_lt 8192 n) [ inl lt ↦ absurd (no_more lt) | inr le ↦ le ]

neither : (place : ℕ) (want : Result text.Message ReadFault) → (want ≡ Err (Syntax place) → ⊥) →
    IsAnswered (Err (Syntax place)) want → ⊥
neither place want apart (inl h) = cc h
neither place want apart (inr h) = apart (sym h)

-- The bytes are answered with this error, in any world.
abbrev pub Refuses : List ℕ → ErrorNumber → Type 0
Refuses bytes e = (w : World) → (reading : MessageReading) × IsMessageReading bytes reading ×
    (answered bytes reading w ≡ refused e w)

-- If parsing fails with a fault other than lack of memory, the bytes are read as the error of that fault.
pub is_refused : (bytes : List ℕ) (f : ReadFault) (e : ErrorNumber) → refusal_of f ≡ Some e
    → (8192 < length bytes → read_fault f ≡ read_fault TooMany)
    → (read_fault f ≡ read_fault TooMany → IsTooMany bytes)
    → ((n : ℕ) → HasOtherVersion bytes n → IsAnswered (Err f) (Err (Version n)))
    → ((n : ℕ) → read_fault f ≡ read_fault (Version n) → HasOtherVersion bytes n)
    → ((place : ℕ) → read_fault f ≡ read_fault (Syntax place) → (m : text.Message) → IsTree bytes m → ⊥)
    → IsReadingOf bytes (Refused e)
is_refused bytes (Syntax place) e is long long_only version version_only syntax =
    subst (λ (x : ErrorNumber). IsReadingOf bytes (Refused x)) (error_is numbers.Syntax e is) (record {
      short = short_is (length bytes) (λ lt. syntax_no_long place (long lt));
      no_version = λ n h. neither place (Err (Version n)) (λ q. cc q) (version n h);
      no_tree = syntax place refl;
    })
is_refused bytes (Version n) e is long long_only version version_only syntax =
    subst (λ (x : ErrorNumber). IsReadingOf bytes (Refused x)) (error_is numbers.Version e is) (n, version_only n refl)
is_refused bytes TooMany e is long long_only version version_only syntax =
    subst (λ (x : ErrorNumber). IsReadingOf bytes (Refused x)) (error_is numbers.NotServed e is) (long_only refl)
is_refused bytes NoMemory e is long long_only version version_only syntax = absurd (cc is)

-- ## Readings

abbrev parsed_of : MessageReading → Parsed
parsed_of (readings.Read m) = Message m
parsed_of readings.TooMany = Refused numbers.NotServed
parsed_of (readings.OtherVersion n) = Refused numbers.Version
parsed_of readings.NoMessage = Refused numbers.Syntax

-- If the reading of the bytes is an error, they are answered with that error.
pub refuses : (bytes : List ℕ) (e : ErrorNumber) → IsReadingOf bytes (Refused e) → Refuses bytes e
refuses bytes numbers.Syntax h w = (readings.NoMessage, h, refl)
refuses bytes numbers.Version (n, h) w = (readings.OtherVersion n, h, refl)
refuses bytes numbers.NotServed h w = (readings.TooMany, h, refl)
refuses bytes _ h w = absurd h

-- For each reading of the bytes that has the type `Parsed`, there is one that has the type `MessageReading`.
reads_as : (bytes : List ℕ) (p : Parsed) → IsReadingOf bytes p →
    (reading : MessageReading) × IsMessageReading bytes reading × (p ≡ parsed_of reading)
reads_as bytes (Message m) h = (readings.Read m, h.0, refl)
reads_as bytes (Refused numbers.Syntax) h = (readings.NoMessage, h, refl)
reads_as bytes (Refused numbers.Version) (n, h) = (readings.OtherVersion n, h, refl)
reads_as bytes (Refused numbers.NotServed) h = (readings.TooMany, h, refl)
reads_as bytes (Refused _) h = absurd h

pub readings_are_unique : ((bytes : List ℕ) (a b : MessageReading) → IsMessageReading bytes a →
    IsMessageReading bytes b → a ≡ b) → ReadingsAreUnique
readings_are_unique one bytes a b h k =
    let (r, is, a_is) = reads_as bytes a h in
    let (q, too, b_is) = reads_as bytes b k in
    a_is ∙ ap parsed_of (one bytes r q is too) ∙ sym b_is
