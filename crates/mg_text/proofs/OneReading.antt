-- Each datagram has exactly one reading.
use Rattle.std.proofs.Common.{◌≡◌, ℕ, ◌≤◌, eqb, Bool, true, false, List, Option, Some, None, Result, Ok, Err, refl, inl, inr, sym, ap, subst, ◌∙◌, arith, length}
use Rattle.std.proofs.lemmas.Bool.{eqb-true, true≢false}
use Rattle.std.proofs.lemmas.Bool.Decides.{leb_tells}
use Rattle.mg_scan.specs.declared.fault.ScanFault.{ScanFault}
use Rattle.mg_scan.specs.declared.token.Token.{Token}
use Rattle.mg_text.specs.declared.message.Message.{Message}
use Rattle.mg_text.specs.Head.{version_in_head}
use Rattle.mg_text.specs.aids.Text.{version_at, text_at, is_within}
use Rattle.mg_text.specs.Message.{AreTokens, IsTree, IsMessage, ExceedsLimits, IsTooMany, HasOtherVersion, requests_in, commands_in, items_of}
use Rattle.mg_text.specs.MessageReading.{MessageReading, Read, TooMany, OtherVersion, NoMessage, IsNoMessage}
use Rattle.mg_text.specs.MessageReading.{IsMessageReading}
use Rattle.mg_text.proofs.ScanLemmas.{one_scan}
use Rattle.mg_text.proofs.Sound.{ok_is, worded_found}
use Rattle.mg_text.proofs.SoundItems.{text_found}
use Rattle.mg_text.proofs.CompleteItems.{head_read, text_read}
use Rattle.mg_text.proofs.ReadLemmas.{headed, told, at_most_one, served_counts, refused_counts}

-- ## A datagram has at most one reading

-- A head names at most one version.
version_is : (n k : ℕ) (a b : List Token) → headed n a ≡ headed k b → n ≡ k
version_is n k a b e = ap (λ (p : ℕ × List Token). p.0) (ok_is (n, a) (k, b) e)

-- Bytes with a tree do not have a head of another version.
tree_or_version : (source : List ℕ) (m : Message) (n : ℕ) → IsTree source m → HasOtherVersion source n → ⊥
tree_or_version source m n h k =
    let same = one_scan source h.tokens k.tokens None k.fault h.are k.are in
    let one = head_read source 1 h.tokens h.is.0 h.is.1 in
    let other = head_read source n k.tokens k.rest k.head in
    k.other (version_is n 1 k.rest h.is.0 (sym other ∙ ap (version_at source) (sym same.0) ∙ one))

one_version : (source : List ℕ) (n k : ℕ) → HasOtherVersion source n → HasOtherVersion source k → n ≡ k
one_version source n k h g =
    let same = one_scan source h.tokens g.tokens h.fault g.fault h.are g.are in
    version_is n k h.rest g.rest (sym (head_read source n h.tokens h.rest h.head) ∙ ap (version_at source) same.0 ∙
    head_read source k g.tokens g.rest g.head)

within_or_too_much : (m : Message) → requests_in (items_of m.body) ≤ 4 → commands_in (items_of m.body) ≤ 64 →
    ExceedsLimits m → ⊥
within_or_too_much m few little (inl many) = omega (arith, few, many)
within_or_too_much m few little (inr much) = omega (arith, little, much)

message_or_many : (source : List ℕ) (m : Message) → IsMessage source m → IsTooMany source → ⊥
message_or_many source m h (inl long) = let short = h.tree.short in omega (arith, short, long)
message_or_many source m h (inr (n, tree, asks)) =
    within_or_too_much m h.requests h.commands (subst ExceedsLimits (at_most_one source n m tree h.tree) asks)

many_or_version : (source : List ℕ) (n : ℕ) → IsTooMany source → HasOtherVersion source n → ⊥
many_or_version source n (inl long) k = let short = k.short in omega (arith, short, long)
many_or_version source n (inr (m, tree, asks)) k = tree_or_version source m n tree k

many_or_none : (source : List ℕ) → IsTooMany source → IsNoMessage source → ⊥
many_or_none source (inl long) k = let short = k.short in omega (arith, short, long)
many_or_none source (inr (m, tree, asks)) k = k.no_tree m tree

pub same_reading : (source : List ℕ) (a b : MessageReading) → IsMessageReading source a → IsMessageReading source b →
    a ≡ b
same_reading source (Read m) (Read n) h k = ap (λ (x : Message). Read x) (at_most_one source m n h.tree k.tree)
same_reading source (Read m) TooMany h k = absurd (message_or_many source m h k)
same_reading source (Read m) (OtherVersion n) h k = absurd (tree_or_version source m n h.tree k)
same_reading source (Read m) NoMessage h k = absurd (k.no_tree m h.tree)
same_reading source TooMany (Read m) h k = absurd (message_or_many source m k h)
same_reading source TooMany TooMany h k = refl
same_reading source TooMany (OtherVersion n) h k = absurd (many_or_version source n h k)
same_reading source TooMany NoMessage h k = absurd (many_or_none source h k)
same_reading source (OtherVersion n) (Read m) h k = absurd (tree_or_version source m n k.tree h)
same_reading source (OtherVersion n) TooMany h k = absurd (many_or_version source n k h)
same_reading source (OtherVersion n) (OtherVersion m) h k = ap (λ (x : ℕ). OtherVersion x) (one_version source n m h k)
same_reading source (OtherVersion n) NoMessage h k = absurd (k.no_version n h)
same_reading source NoMessage (Read m) h k = absurd (h.no_tree m k.tree)
same_reading source NoMessage TooMany h k = absurd (many_or_none source k h)
same_reading source NoMessage (OtherVersion n) h k = absurd (h.no_version n k)
same_reading source NoMessage NoMessage h k = refl

-- ## A datagram has at least one reading

abbrev pub Readable : List ℕ → Type 0
Readable source = (reading : MessageReading) × IsMessageReading source reading

abbrev failed_at : ℕ → Result (ℕ × List Token) ℕ
failed_at place = Err place

abbrev no_text : ℕ → Result Message ℕ
no_text place = Err place

abbrev fault_in : ScanFault → Option ScanFault
fault_in f = Some f

module _ (source : List ℕ) (ts : List Token) (f : Option ScanFault) (short : length source ≤ 8192)
    (are : AreTokens source ts f) where
  -- If the bytes have a tree, parsing their tokens yields a head with version 1.
  tree_head : (m : Message) (h : IsTree source m) → version_at source ts ≡ headed 1 h.is.0
  tree_head m h = ap (version_at source) (one_scan source ts h.tokens f None are h.are).0 ∙
      head_read source 1 h.tokens h.is.0 h.is.1

  other_head : (n : ℕ) (h : HasOtherVersion source n) → version_at source ts ≡ headed n h.rest
  other_head n h = ap (version_at source) (one_scan source ts h.tokens f h.fault are h.are).0 ∙
      head_read source n h.tokens h.rest h.head

  never_read : (place n : ℕ) (rest : List Token) → failed_at place ≡ headed n rest → ⊥
  never_read place n rest e = cc e

  no_head : (place : ℕ) → version_at source ts ≡ failed_at place → Readable source
  no_head place e = (
    NoMessage,
    record {
      short = short;
      no_version = λ n h. never_read place n h.rest (sym e ∙ other_head n h);
      no_tree = λ m h. never_read place 1 h.is.0 (sym e ∙ tree_head m h);
    },
  )

  other_version : (n : ℕ) (rest : List Token) → version_at source ts ≡ headed n rest → eqb n 1 ≡ false → Readable source
  other_version n rest head other = (
    OtherVersion n,
    record {
      short = short;
      tokens = ts;
      rest = rest;
      fault = f;
      are = are;
      head = worded_found version_in_head source ts (n, rest) head;
      other = λ e. true≢false (sym (ap (λ (x : ℕ). eqb x 1) e) ∙ other);
    },
  )

  no_other : (rest : List Token) → version_at source ts ≡ headed 1 rest → (n : ℕ) → HasOtherVersion source n → ⊥
  no_other rest head n h = h.other (version_is n 1 h.rest rest (sym (other_head n h) ∙ head))

  faulty : (g : ScanFault) (rest : List Token) → f ≡ Some g → version_at source ts ≡ headed 1 rest → Readable source
  faulty g rest is head = (
    NoMessage,
    record {
      short = short;
      no_version = no_other rest head;
      no_tree = λ m h. none (sym is ∙ (one_scan source ts h.tokens f None are h.are).1);
    },
  ) where
    none : fault_in g ≡ None → ⊥
    none e = cc e

  no_tree_after : (rest : List Token) (place : ℕ) → version_at source ts ≡ headed 1 rest →
      text_at source rest ≡ no_text place → (m : Message) → IsTree source m → ⊥
  no_tree_after rest place head none m h =
      let same = one_scan source ts h.tokens f None are h.are in
      let rests : h.is.0 ≡ rest = ap (λ (p : ℕ × List Token). p.1)
      (ok_is (1, h.is.0) (1, rest) (sym (tree_head m h) ∙ head)) in
      neither (sym (text_read source m h.tokens h.is) ∙ ap (text_at source) rests ∙ none) where
        neither : told m ≡ no_text place → ⊥
        neither e = cc e

  served : (m : Message) (b : Bool) → is_within 4 64 (items_of m.body) ≡ b → IsTree source m → Readable source
  served m true is tree = let counts = served_counts (items_of m.body) is in
      (Read m, record { tree = tree; requests = counts.0; commands = counts.1 })
  served m false is tree = (TooMany, inr (m, tree, refused_counts (items_of m.body) is))

  after_head : (rest : List Token) (text : Result Message ℕ) → f ≡ None → version_at source ts ≡ headed 1 rest →
      text_at source rest ≡ text → Readable source
  after_head rest (Ok m) clean head is =
      let tree : IsTree source m = record {
        short = short;
        tokens = ts;
        are = subst (λ (g : Option ScanFault). AreTokens source ts g) clean are;
        is = text_found source ts rest m (worded_found version_in_head source ts (1, rest) head) is;
      } in
      served m (is_within 4 64 (items_of m.body)) refl tree
  after_head rest (Err place) clean head is = (
    NoMessage,
    record {
      short = short;
      no_version = no_other rest head;
      no_tree = no_tree_after rest place head is;
    },
  )

  versioned : (g : Option ScanFault) (rest : List Token) → f ≡ g → version_at source ts ≡ headed 1 rest →
      Readable source
  versioned None rest is head = after_head rest (text_at source rest) is head refl
  versioned (Some g) rest is head = faulty g rest is head

  by_head : (n : ℕ) (rest : List Token) (b : Bool) → eqb n 1 ≡ b → version_at source ts ≡ headed n rest →
      Readable source
  by_head n rest true is head = versioned f rest refl (head ∙ ap (λ (x : ℕ). headed x rest) (eqb-true n 1 is))
  by_head n rest false is head = other_version n rest head is

  pub by_version : (v : Result (ℕ × List Token) ℕ) → version_at source ts ≡ v → Readable source
  by_version (Ok v) e = by_head v.0 v.1 (eqb v.0 1) refl e
  by_version (Err place) e = no_head place e

pub some_reading : (source : List ℕ) (ts : List Token) (f : Option ScanFault) → AreTokens source ts f → Readable source
some_reading source ts f are =
    elim (leb_tells (length source) 8192) [
      | inl t ↦ by_version source ts f t.1 are (version_at source ts) refl
      | inr t ↦ (TooMany, inl t.1)
    ]
