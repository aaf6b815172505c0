-- The hash of the bytes that a reader has read.
use Rattle.std.proofs.Common.{◌≡◌, ℕ, Bool, true, false, cond, List, [], ◌∷◌, ◌++◌, length, length-append, take, Option, Some, None, IfSome, ap, ◌∙◌, sym, subst, arith}
use Rattle.std.proofs.KnownBytes.{Consumes-kept, Consumes-trans}
use Rattle.std.proofs.Math.Logic.{∥∥₁_elim, ∥∥₁_map}
use Rattle.std.proofs.Math.Seq.{take-append_seam}
use Rattle.std.proofs.Props.{props}
use Rattle.std.proofs.lemmas.List.{append-nil}
use Rattle.std.specs.Io.KnownBytes.{Consumes, IsAtEnd, Keeps}
use Rattle.sha2.specs.declared.Sha256.{Sha256}
use Rattle.sha2.specs.Hashers.{Holds256}
use Rattle.std.specs.Fmt.{option_append}
use Rattle.hex.specs.Hex.{encode_lower}
use Rattle.sha2.specs.Sha256.{sha256}
use Rattle.mg_chain.specs.Seals.{seal_end}
use Rattle.mg_hearing.specs.Page.{IsDigest}
use Rattle.mg_hearing.specs.aids.Hashing.{IsHashed}

abbrev Front : (text rest : Option (List ℕ)) → Sha256 → Type 0
Front text rest hasher = (front : List ℕ) × Consumes text rest front × Holds256 hasher front

pub hashed_more : (text old new : Option (List ℕ)) (before after : Sha256) (bytes : List ℕ) → Consumes old new bytes →
    ((part : List ℕ) → Holds256 before part → Holds256 after (part ++ bytes)) → IsHashed text old before →
    IsHashed text new after
hashed_more text old new before after bytes read more h = ∥∥₁_map h (λ (f : Front text old before).
    (f.0 ++ bytes, Consumes-trans text old new f.0 bytes f.1 read, more f.0 f.2))

pub hashed_kept : (text old new : Option (List ℕ)) (hasher : Sha256) → Keeps old new → IsHashed text old hasher →
    IsHashed text new hasher
hashed_kept text old new hasher kept h = ∥∥₁_map h (λ (f : Front text old hasher).
    (f.0, Consumes-kept text old new f.0 f.1 kept, f.2))

whole : (text rest front : List ℕ) → text ≡ front ++ rest → rest ≡ [] → front ≡ text
whole text rest front e none = sym (append-nil front) ∙ ap (λ (l : List ℕ). front ++ l) (sym none) ∙ sym e

-- The first 64 bytes of a seal's end are the digits of the hash.
digits : (end part : List ℕ) → length end ≡ 65 → end ≡ seal_end part → take 64 end ≡ encode_lower (sha256 part)
digits end part size is =
    let all = encode_lower (sha256 part) in
    let long : length all ≡ 64 = omega (arith, size, ap length is, length-append all (10 ∷ [])) in
    ap (take 64) is ∙ ap (λ (n : ℕ). take n (all ++ 10 ∷ [])) (sym long) ∙ take-append_seam all (10 ∷ [])

pub hashed_whole : (text rest : Option (List ℕ)) (hasher : Sha256) (end : List ℕ) → length end ≡ 65 → IsAtEnd rest →
    ((part : List ℕ) → Holds256 hasher part → end ≡ seal_end part) → IsHashed text rest hasher →
    IsDigest text (take 64 end)
hashed_whole None rest hasher end size at_end is h = tt
hashed_whole (Some text) None hasher end size at_end is h =
    ∥∥₁_elim h (hlevel props) (λ (f : Front (Some text) None hasher). absurd f.1)
hashed_whole (Some text) (Some rest) hasher end size at_end is h =
    ∥∥₁_elim h (hlevel props) (λ (f : Front (Some text) (Some rest) hasher).
    digits end f.0 size (is f.0 f.2)
    ∙ ap (λ (l : List ℕ). encode_lower (sha256 l)) (whole text rest f.0 f.1 at_end))

nil_right : (a b : List ℕ) → a ++ b ≡ [] → b ≡ []
nil_right [] b h = h
nil_right (x ∷ a) b h = absurd cc

-- If a chain of two readers is at its end, the second reader is at its end.
pub second_at_end : (first second : Option (List ℕ)) (is_done : Bool) (bytes : List ℕ) → first ≡ Some bytes →
    IsAtEnd (cond is_done second (option_append first second)) → IsAtEnd second
second_at_end first second true bytes known h = h
second_at_end first None false bytes known h = tt
second_at_end first (Some rest) false bytes known h =
    nil_right bytes rest (subst (λ (o : Option (List ℕ)). IsAtEnd (option_append o (Some rest))) known h)

pub known_text : (text : Option (List ℕ)) (remaining : Option (List ℕ)) → remaining ≡ text →
    IfSome text (λ t. remaining ≡ Some t)
known_text None remaining is = tt
known_text (Some t) remaining is = is
