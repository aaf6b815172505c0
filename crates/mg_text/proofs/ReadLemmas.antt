-- The postconditions of reading a datagram.
use Rattle.std.proofs.Common.{◌≡◌, ◌≢◌, ℕ, ◌<◌, ◌≤◌, cond, ◌&&◌, Bool, true, false, eqb, List, length, Option, Some, None, Result, Ok, Err, refl, inl, inr, ◌⊎◌, sym, ap, subst, ◌∙◌}
use Rattle.std.specs.Prelude.{is_some, nat_le, IfOk}
use Rattle.std.proofs.lemmas.Bool.{eqb-true, ne_eqb, true≢false, and_parts, leb-true, le-leb, lt-leb}
use Rattle.std.proofs.lemmas.Bool.Decides.{leb_tells}
use Rattle.mg_scan.specs.declared.fault.ScanFault.{ScanFault}
use Rattle.mg_scan.specs.declared.token.Token.{Token}
use Rattle.mg_scan.specs.Span.{text_of}
use Rattle.mg_words.specs.Limits.{sender_limit}
use Rattle.mg_text.specs.declared.fault.ReadFault.{ReadFault}
use Rattle.mg_text.specs.declared.fault.ReadFault.TheVariants.{NoMemory, Syntax, Version, TooMany}
use Rattle.mg_text.specs.declared.body.MessageItem.{MessageItem}
use Rattle.mg_text.specs.declared.message.Message.{Message}
use Rattle.mg_text.specs.Head.{version_in_head}
use Rattle.mg_text.specs.aids.Reading.{Agrees}
use Rattle.mg_text.specs.aids.Text.{version_at, text_at, is_within, answer_of, fault_within, UnlessNoMemory, AgreesText, AgreesAfter, AgreesVersioned}
use Rattle.mg_text.specs.Grammar.{IsText, IsWorded}
use Rattle.mg_text.specs.Message.{AreTokens, IsTree, IsMessage, ExceedsLimits, IsTooMany, HasOtherVersion, requests_in, commands_in, items_of}
use Rattle.mg_text.specs.aids.Parts.{IsShort}
use Rattle.mg_text.specs.Proper.{are_proper}
use Rattle.mg_text.proofs.ProperLemmas.{tree_proper}
use Rattle.mg_text.proofs.ScanLemmas.{one_scan}
use Rattle.mg_text.proofs.SenderLemmas.{sender_short}
use Rattle.mg_text.proofs.Sound.{ok_is, worded_found}
use Rattle.mg_text.proofs.SoundItems.{text_found}
use Rattle.mg_text.proofs.CompleteItems.{head_read, text_read}

abbrev pub headed : ℕ → List Token → Result (ℕ × List Token) ℕ
headed n ts = Ok (n, ts)

same_rest : (n : ℕ) (a b : List Token) → headed n a ≡ headed n b → a ≡ b
same_rest n a b e = ap (λ (p : ℕ × List Token). p.1) (ok_is (n, a) (n, b) e)

abbrev pub told : Message → Result Message ℕ
told m = Ok m

same_message : (m n : Message) → told m ≡ told n → m ≡ n
same_message m n e = cc

-- The bytes have at most one tree.
pub at_most_one : (source : List ℕ) (m n : Message) → IsTree source m → IsTree source n → m ≡ n
at_most_one source m n h k =
    let tokens = (one_scan source h.tokens k.tokens None None h.are k.are).0 in
    let is = subst (IsText source m) tokens h.is in
    let rests = same_rest 1 is.0 k.is.0 (sym (head_read source 1 k.tokens is.0 is.1) ∙
    head_read source 1 k.tokens k.is.0 k.is.1) in
    same_message m n (sym (text_read source m k.tokens is) ∙ ap (text_at source) rests ∙
    text_read source n k.tokens k.is)

found_text : (source : List ℕ) (ts : List Token) (f : Option ScanFault) (m : Message) (n : ℕ) (rest : List Token)
    (one : Bool) → IsShort source → AreTokens source ts f → version_at source ts ≡ headed n rest → eqb n 1 ≡ one →
    AgreesText (Ok m) one (is_some f) n (text_at source rest) → IsTree source m
found_text source ts f m n rest false short are head is g = absurd cc
found_text source ts (Some f) m n rest true short are head is g = absurd (cc g.1)
found_text source ts None m n rest true short are head is g =
    let one = subst (λ (k : ℕ). IsWorded version_in_head source k ts rest) (eqb-true n 1 is)
    (worded_found version_in_head source ts (n, rest) head) in
    record { short = short; tokens = ts; are = are; is = text_found source ts rest m one g }

found_after : (source : List ℕ) (ts : List Token) (f : Option ScanFault) (m : Message) (v : Result (ℕ × List Token) ℕ)
    → IsShort source → AreTokens source ts f → version_at source ts ≡ v →
    AgreesAfter (Ok m) v (is_some f) (text_at source) → IsTree source m
found_after source ts f m (Ok v) short are head g = found_text source ts f m v.0 v.1 (eqb v.0 1) short are head refl g
found_after source ts f m (Err place) short are head g = absurd (cc g.1)

-- If a message is read, it is the tree of the bytes.
is_found : (source : List ℕ) (ts : List Token) (f : Option ScanFault) (m : Message) → IsShort source →
    AreTokens source ts f → AgreesVersioned (Ok m) (version_at source ts) (is_some f) (text_at source) → IsTree source m
is_found source ts f m short are g = found_after source ts f m (version_at source ts) short are refl g

-- The result is the wanted result, or memory ran out.
abbrev pub IsAnswered : Result Message ReadFault → Result Message ReadFault → Type 0
IsAnswered r want = (r ≡ Err NoMemory) ⊎ (r ≡ want)

only_cases : (m : Message) (r : Result Message ReadFault) → UnlessNoMemory r (Agrees (λ x. x) r (told m)) →
    IsAnswered r (Ok m)
only_cases m (Ok x) g = inr (ap (λ (y : Message). Ok y) (sym (same_message m x g)))
only_cases m (Err NoMemory) g = inl refl
only_cases m (Err (Syntax place)) g = absurd (cc g)
only_cases m (Err (Version n)) g = absurd g
only_cases m (Err TooMany) g = absurd g

-- If the bytes have a tree, the tree is read, unless memory runs out.
is_only : (source : List ℕ) (ts : List Token) (f : Option ScanFault) (r : Result Message ReadFault) →
    AreTokens source ts f → AgreesVersioned r (version_at source ts) (is_some f) (text_at source) → (m : Message) →
    IsTree source m → IsAnswered r (Ok m)
is_only source ts f r are g m h =
    let same = one_scan source ts h.tokens f None are h.are in
    let version : version_at source ts ≡ headed 1 h.is.0 = ap (version_at source) same.0 ∙
    head_read source 1 h.tokens h.is.0 h.is.1 in
    let one = subst (λ (v : Result (ℕ × List Token) ℕ). AgreesVersioned r v (is_some f) (text_at source)) version g in
    let two = subst (λ (f : Option ScanFault). AgreesVersioned r (headed 1 h.is.0) (is_some f) (text_at source))
    same.1 one in
    only_cases m r (subst (λ (t : Result Message ℕ). UnlessNoMemory r (Agrees (λ x. x) r t))
    (text_read source m h.tokens h.is) two)

version_cases : (n : ℕ) (r : Result Message ReadFault) → UnlessNoMemory r (r ≡ Err (Version n)) →
    IsAnswered r (Err (Version n))
version_cases n (Ok x) g = inr g
version_cases n (Err NoMemory) g = inl refl
version_cases n (Err (Syntax place)) g = inr g
version_cases n (Err (Version k)) g = inr g
version_cases n (Err TooMany) g = inr g

-- If the bytes have a head of another version, that version is returned, unless memory runs out.
is_version : (source : List ℕ) (ts : List Token) (f : Option ScanFault) (r : Result Message ReadFault) →
    AreTokens source ts f → AgreesVersioned r (version_at source ts) (is_some f) (text_at source) → (n : ℕ) →
    HasOtherVersion source n → IsAnswered r (Err (Version n))
is_version source ts f r are g n h =
    let same = one_scan source ts h.tokens f h.fault are h.are in
    let version : version_at source ts ≡ headed n h.rest = ap (version_at source) same.0 ∙
    head_read source n h.tokens h.rest h.head in
    let one = subst (λ (v : Result (ℕ × List Token) ℕ). AgreesVersioned r v (is_some f) (text_at source)) version g in
    version_cases n r (subst (λ (b : Bool). UnlessNoMemory r (AgreesText r b (is_some f) n (text_at source h.rest)))
    (ne_eqb n 1 h.other) one)

version_only_text : (source : List ℕ) (ts : List Token) (f : Option ScanFault) (n k : ℕ) (rest : List Token)
    (one faulty : Bool) → IsShort source → AreTokens source ts f → version_at source ts ≡ headed k rest →
    eqb k 1 ≡ one → AgreesText (Err (Version n)) one faulty k (text_at source rest) → HasOtherVersion source n
version_only_text source ts f n k rest false faulty short are head is g =
    let same : k ≡ n = cc g in
    let other : k ≢ 1 = λ e. true≢false (sym (ap (λ (x : ℕ). eqb x 1) e) ∙ is) in
    record {
      short = short;
      tokens = ts;
      rest = rest;
      fault = f;
      are = are;
      head =
          subst (λ (x : ℕ). IsWorded version_in_head source x ts rest) same
          (worded_found version_in_head source ts (k, rest) head);
      other = subst (λ (x : ℕ). x ≢ 1) same other;
    }
version_only_text source ts f n k rest true true short are head is g = absurd (cc g.1)
version_only_text source ts f n k rest true false short are head is g = absurd g

version_only_after : (source : List ℕ) (ts : List Token) (f : Option ScanFault) (n : ℕ)
    (v : Result (ℕ × List Token) ℕ) → IsShort source → AreTokens source ts f → version_at source ts ≡ v →
    AgreesAfter (Err (Version n)) v (is_some f) (text_at source) → HasOtherVersion source n
version_only_after source ts f n (Ok v) short are head g =
    version_only_text source ts f n v.0 v.1 (eqb v.0 1) (is_some f) short are head refl g
version_only_after source ts f n (Err place) short are head g = absurd (cc g.1)

abbrev failed : ReadFault → Result Message ReadFault
failed e = Err e

-- If another version is returned, the bytes have a head of that version.
is_version_only : (source : List ℕ) (ts : List Token) (f : Option ScanFault) (len : ℕ) (e : ReadFault) →
    IsShort source → AreTokens source ts f → AgreesVersioned (Err e) (version_at source ts) (is_some f)
    (text_at source) → (n : ℕ) → failed (fault_within len e) ≡ failed (Version n) → HasOtherVersion source n
is_version_only source ts f len NoMemory short are g n h = absurd cc
is_version_only source ts f len (Syntax place) short are g n h = absurd cc
is_version_only source ts f len (Version k) short are g n h =
    let same : k ≡ n = cc h in
    version_only_after source ts f n (version_at source ts) short are refl
    (subst (λ (x : ℕ). AgreesAfter (Err (Version x)) (version_at source ts) (is_some f) (text_at source)) same g)
is_version_only source ts f len TooMany short are g n h = absurd cc

abbrev is_served : Message → Bool
is_served m = is_within 4 64 (items_of m.body)

pub served_counts : (xs : List MessageItem) → is_within 4 64 xs ≡ true → (requests_in xs ≤ 4) × (commands_in xs ≤ 64)
served_counts xs e = let p = and_parts (nat_le (requests_in xs) 4) (nat_le (commands_in xs) 64) e in
    (leb-true _ _ p.0, leb-true _ _ p.1)

counts_served : (xs : List MessageItem) → requests_in xs ≤ 4 → commands_in xs ≤ 64 → is_within 4 64 xs ≡ true
counts_served xs r c = rw (le-leb _ _ r, le-leb _ _ c) refl

pub refused_counts : (xs : List MessageItem) → is_within 4 64 xs ≡ false → (4 < requests_in xs) ⊎ (64 < commands_in xs)
refused_counts xs e =
    elim (leb_tells (requests_in xs) 4) [
      | inr t ↦ inl t.1
      | inl t ↦ elim (leb_tells (commands_in xs) 64)
          [ inr u ↦ inr u.1 | inl u ↦ absurd (true≢false (sym (counts_served xs t.1 u.1) ∙ e)) ]
    ]

counts_refused : (xs : List MessageItem) → (4 < requests_in xs) ⊎ (64 < commands_in xs) → is_within 4 64 xs ≡ false
counts_refused xs (inl lt) = rw (lt-leb _ _ lt) refl
counts_refused xs (inr lt) = rw (lt-leb _ _ lt)
    (elim (nat_le (requests_in xs) 4) as (λ b. (b && false) ≡ false) [ true ↦ refl | false ↦ refl ])

-- The result for a message, given whether it is within the limits.
abbrev on_message : Bool → Message → Result Message ReadFault
on_message b m = cond b (Ok m) (Err TooMany)

message_found : (source : List ℕ) (b : Bool) (m : Message) → is_served m ≡ b → IsTree source m →
    IfOk (on_message b m) (λ n. IsMessage source n)
message_found source true m is tree = let counts = served_counts (items_of m.body) is in
    record { tree = tree; requests = counts.0; commands = counts.1 }
message_found source false m is tree = tt

message_is_proper : {source : List ℕ} (b : Bool) (m : Message) → IsTree source m →
    IfOk (on_message b m) (λ n. are_proper source (items_of n.body) ≡ true)
message_is_proper {source} true m tree = tree_proper source m tree
message_is_proper {source} false m tree = tt

message_sender : {source : List ℕ} (b : Bool) (m : Message) → IsTree source m →
    IfOk (on_message b m) (λ n. length (text_of source n.sender) ≤ sender_limit)
message_sender {source} true m tree = sender_short (text_of source m.sender) tree.is.2.1.0
message_sender {source} false m tree = tt

many_found : (source : List ℕ) (b : Bool) (m : Message) → is_served m ≡ b → IsTree source m →
    on_message b m ≡ failed TooMany → IsTooMany source
many_found source true m is tree e = absurd cc
many_found source false m is tree e = inr (m, tree, refused_counts (items_of m.body) is)

message_no_version : (b : Bool) (m : Message) (n : ℕ) → on_message b m ≡ failed (Version n) → ⊥
message_no_version true m n e = cc
message_no_version false m n e = cc

message_no_place : (b : Bool) (m : Message) (place : ℕ) → on_message b m ≡ failed (Syntax place) → ⊥
message_no_place true m place e = cc
message_no_place false m place e = cc

no_many_text : (one faulty : Bool) (n : ℕ) (text : Result Message ℕ) → AgreesText (Err TooMany) one faulty n text → ⊥
no_many_text false faulty n text g = cc g
no_many_text true true n text g = cc g.1
no_many_text true false n text g = g

no_many_after : (v : Result (ℕ × List Token) ℕ) (faulty : Bool) (text : List Token → Result Message ℕ) →
    AgreesAfter (Err TooMany) v faulty text → ⊥
no_many_after (Ok v) faulty text g = no_many_text (eqb v.0 1) faulty v.0 (text v.1) g
no_many_after (Err place) faulty text g = cc g.1

-- The postconditions of the final result, where r is the result of parsing these tokens.
module _ (source : List ℕ) (ts : List Token) (f : Option ScanFault) (len : ℕ) (short : IsShort source)
    (are : AreTokens source ts f) where
  pub answer_found : (r : Result Message ReadFault) →
      AgreesVersioned r (version_at source ts) (is_some f) (text_at source) →
      IfOk (answer_of len r) (λ m. IsMessage source m)
  answer_found (Ok m) g = message_found source (is_served m) m refl (is_found source ts f m short are g)
  answer_found (Err e) g = tt

  pub answer_proper : (r : Result Message ReadFault) →
      AgreesVersioned r (version_at source ts) (is_some f) (text_at source) →
      IfOk (answer_of len r) (λ m. are_proper source (items_of m.body) ≡ true)
  answer_proper (Ok m) g = message_is_proper (is_served m) m (is_found source ts f m short are g)
  answer_proper (Err e) g = tt

  pub answer_sender : (r : Result Message ReadFault) →
      AgreesVersioned r (version_at source ts) (is_some f) (text_at source) →
      IfOk (answer_of len r) (λ m. length (text_of source m.sender) ≤ sender_limit)
  answer_sender (Ok m) g = message_sender (is_served m) m (is_found source ts f m short are g)
  answer_sender (Err e) g = tt

  pub answer_many_only : (r : Result Message ReadFault) →
      AgreesVersioned r (version_at source ts) (is_some f) (text_at source) → answer_of len r ≡ failed TooMany →
      IsTooMany source
  answer_many_only (Ok m) g e = many_found source (is_served m) m refl (is_found source ts f m short are g) e
  answer_many_only (Err NoMemory) g e = absurd cc
  answer_many_only (Err (Syntax place)) g e = absurd cc
  answer_many_only (Err (Version n)) g e = absurd cc
  answer_many_only (Err TooMany) g e = absurd (no_many_after (version_at source ts) (is_some f) (text_at source) g)

  pub answer_version_only : (r : Result Message ReadFault) →
      AgreesVersioned r (version_at source ts) (is_some f) (text_at source) → (n : ℕ) →
      answer_of len r ≡ failed (Version n) → HasOtherVersion source n
  answer_version_only (Ok m) g n e = absurd (message_no_version (is_served m) m n e)
  answer_version_only (Err fault) g n e = is_version_only source ts f len fault short are g n e

-- If the result is the wanted result, or memory ran out, then the same holds after the limits are checked.
answered : (len : ℕ) (r want : Result Message ReadFault) → IsAnswered r want →
    IsAnswered (answer_of len r) (answer_of len want)
answered len r want (inl none) = inl (ap (answer_of len) none)
answered len r want (inr is) = inr (ap (answer_of len) is)

module _ (source : List ℕ) (ts : List Token) (f : Option ScanFault) (len : ℕ) (are : AreTokens source ts f)
    (r : Result Message ReadFault) (g : AgreesVersioned r (version_at source ts) (is_some f) (text_at source)) where
  tree_answered : (m : Message) (b : Bool) → IsTree source m → is_served m ≡ b →
      IsAnswered (answer_of len r) (on_message b m)
  tree_answered m b h is = subst (λ (b : Bool). IsAnswered (answer_of len r) (on_message b m)) is
      (answered len r (Ok m) (is_only source ts f r are g m h))

  pub answer_only : (m : Message) → IsMessage source m → IsAnswered (answer_of len r) (Ok m)
  answer_only m h = tree_answered m true h.tree (counts_served (items_of m.body) h.requests h.commands)

  pub answer_many : (m : Message) → IsTree source m → ExceedsLimits m → IsAnswered (answer_of len r) (Err TooMany)
  answer_many m h above = tree_answered m false h (counts_refused (items_of m.body) above)

  pub answer_version : (n : ℕ) → HasOtherVersion source n → IsAnswered (answer_of len r) (Err (Version n))
  answer_version n h = answered len r (Err (Version n)) (is_version source ts f r are g n h)

  pub answer_syntax : (place : ℕ) → answer_of len r ≡ failed (Syntax place) → (m : Message) → IsTree source m → ⊥
  answer_syntax place e m h =
      elim (tree_answered m (is_served m) h refl) [
        | inl none ↦ cc
        | inr is ↦ message_no_place (is_served m) m place (sym is ∙ e)
      ]
