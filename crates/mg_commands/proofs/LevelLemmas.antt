-- The search level by level finds the first fault of the parts in text order.
use Rattle.std.proofs.lemmas.Bool.{or_parts}
use Rattle.std.proofs.Common.{◌≡◌, ℕ, ◌==◌, Bool, true, false, ◌&&◌, ◌||◌, List, [], ◌∷◌, ◌++◌, map, Option, Some, None, refl, sym, ap, ◌∙◌, append_assoc, append-nil, eq-eqb}
use Rattle.std.specs.List.{list_any, flat_map}
use Rattle.std.proofs.lemmas.List.{flat_map_more}
use Rattle.std.proofs.lemmas.List.Concat.{flat_map_single}
use Rattle.std.proofs.lemmas.List.Folds.{list_any-append}
use Rattle.mg_words.specs.declared.error_number.ErrorNumber.{ErrorNumber}
use Rattle.mg_text.specs.declared.descriptor.AuditWord.{AuditWord}
use Rattle.mg_text.specs.declared.descriptor.OtherWord.{OtherWord}
use Rattle.mg_text.specs.declared.descriptor.Descriptor.{Descriptor}
use Rattle.mg_text.specs.declared.descriptor.Descriptor.TheVariants as descriptors
use Rattle.mg_text.specs.declared.media.ControlPart.{ControlPart}
use Rattle.mg_text.specs.declared.media.StreamPart.{StreamPart}
use Rattle.mg_text.specs.declared.media.StreamPart.TheVariants as streams
use Rattle.mg_text.specs.declared.media.MediaPart.{MediaPart}
use Rattle.mg_text.specs.declared.media.MediaPart.TheVariants as media
use Rattle.mg_commands.specs.declared.part.Part.{Part}
use Rattle.mg_commands.specs.declared.part.Part.TheVariants.{Media, Audit, Audited, Other, TerminationState, Stream, LocalControl, Control}
use Rattle.mg_commands.specs.DescriptorFault.{is_same_part, same_control, fault_of, part_fault, descriptors_fault}
use Rattle.mg_commands.specs.Part.{stream_parts, media_parts, descriptor_parts, parts_of}
use Rattle.std.specs.Option.{option_or}
use Rattle.mg_commands.specs.Search.{first_after}
use Rattle.mg_commands.specs.aids.Levels.{control_level, is_same_word, appears_in, appeared_in_media, stream_level, is_state, media_level, is_same_descriptor, descriptor_level}
use Rattle.mg_commands.specs.aids.Words.{stream_word, controls_within, descriptor_word}

-- ## Tests

pub or_false : (a : Bool) → (a || false) ≡ a
or_false true = refl
or_false false = refl

and_false : (a : Bool) → (a && false) ≡ false
and_false true = refl
and_false false = refl

and_same : (a : Bool) → (a && a) ≡ a
and_same true = refl
and_same false = refl

-- ## The first answer in lists of lists

pub option_or-assoc : {A : Type 0} (a b c : Option A) → option_or (option_or a b) c ≡ option_or a (option_or b c)
option_or-assoc (Some x) b c = refl
option_or-assoc None b c = refl

pub first_after-append : {X A : Type 0} (f : List X → X → Option A) (b xs ys : List X) →
    first_after f b (xs ++ ys) ≡ option_or (first_after f b xs) (first_after f (b ++ xs) ys)
unfolding first_after
first_after-append f b [] ys = ap (λ (l : List _). first_after f l ys) (sym (append-nil b))
first_after-append f b (x ∷ xs) ys =
    ap (option_or (f b x)) (first_after-append f (b ++ x ∷ []) xs ys)
    ∙ sym (option_or-assoc (f b x) (first_after f (b ++ x ∷ []) xs) (first_after f ((b ++ x ∷ []) ++ xs) ys))
    ∙ ap (λ (l : List _). option_or (option_or (f b x) (first_after f (b ++ x ∷ []) xs)) (first_after f l ys))
    (append_assoc b (x ∷ []) xs)

-- If each level searches the parts of an element after the parts of earlier elements, all levels together search one
-- list.
pub first_after-flat_map : {X : Type 0} (f : List Part → Part → Option ErrorNumber) (g : X → List Part)
    (level : List X → X → Option ErrorNumber) (c : List Part)
    → ((bs : List X) (x : X) → level bs x ≡ first_after f (c ++ flat_map g bs) (g x))
    → (bs xs : List X) → first_after level bs xs ≡ first_after f (c ++ flat_map g bs) (flat_map g xs)
unfolding first_after
first_after-flat_map f g level c e bs [] = refl
first_after-flat_map f g level c e bs (x ∷ xs) =
    ap (λ (o : Option ErrorNumber). option_or o (first_after level (bs ++ x ∷ []) xs)) (e bs x)
    ∙ ap (option_or (first_after f (c ++ flat_map g bs) (g x)))
    (first_after-flat_map f g level c e (bs ++ x ∷ []) xs ∙
    ap (λ (l : List Part). first_after f l (flat_map g xs)) (sym (flat_map_more g c bs x)))
    ∙ sym (first_after-append f (c ++ flat_map g bs) (g x) (flat_map g xs))

none_or : (p : Part → Bool) (xs ys : List Part) → list_any p xs ≡ false → list_any p (xs ++ ys) ≡ list_any p ys
none_or p xs ys e = list_any-append p xs ys ∙ ap (λ (b : Bool). b || list_any p ys) e

or_none : (p : Part → Bool) (xs ys : List Part) → list_any p xs ≡ false → list_any p ys ≡ false →
    list_any p (xs ++ ys) ≡ false
or_none p xs ys e h = none_or p xs ys e ∙ h

-- If no part of any element passes a test, no part in the joined list passes it.
none_in_all : {X : Type 0} (p : Part → Bool) (g : X → List Part) → ((x : X) → list_any p (g x) ≡ false) →
    (xs : List X) → list_any p (flat_map g xs) ≡ false
none_in_all p g e [] = refl
none_in_all p g e (x ∷ xs) = or_none p (g x) (flat_map g xs) (e x) (none_in_all p g e xs)

-- If an element passes `q` exactly when one of its parts passes `p`, some part in the joined list passes `p` if and
-- only if some element passes `q`.
any_in_all : {X : Type 0} (p : Part → Bool) (g : X → List Part) (q : X → Bool) → ((x : X) → list_any p (g x) ≡ q x) →
    (xs : List X) → list_any p (flat_map g xs) ≡ list_any q xs
any_in_all p g q e [] = refl
any_in_all p g q e (x ∷ xs) = simp (list_any-append, e x, any_in_all p g q e xs)

none_in_map : {X : Type 0} (p : Part → Bool) (g : X → Part) → ((x : X) → p (g x) ≡ false) → (xs : List X) →
    list_any p (map g xs) ≡ false
none_in_map p g e [] = refl
none_in_map p g e (x ∷ xs) = rw (e x) (none_in_map p g e xs)

pub or_none_else : {A : Type 0} (o : Option A) → option_or o None ≡ o
or_none_else (Some x) = refl
or_none_else None = refl

-- The fault after a word counts only if the word has not occurred before.
unless_appeared : (b : Bool) (x : Part) (o w : Option ErrorNumber) → (b ≡ false → o ≡ w) →
    option_or (fault_of b x) o ≡ option_or (fault_of b x) w
unless_appeared true x o w e = refl
unless_appeared false x o w e = ap (option_or (fault_of false x)) (e refl)

module _ (source : List ℕ) where
  -- ## Within a LocalControl
  no_stream_twice : (n : ℕ) (c : List Part) → list_any (is_same_part source (Stream n)) c ≡ false
  no_stream_twice n [] = refl
  no_stream_twice n (x ∷ xs) = no_stream_twice n xs

  controls_among : (n : ℕ) (x : ControlPart) (xs : List ControlPart) →
      list_any (is_same_part source (Control n x)) (map (Control n) xs) ≡ list_any (same_control source x) xs
  controls_among n x [] = refl
  controls_among n x (y ∷ ys) = rw (eq-eqb n n refl, controls_among n x ys) refl

  control_flat : (n : ℕ) (c : List Part) → ((x : ControlPart) →
      list_any (is_same_part source (Control n x)) c ≡ false) → (bs : List ControlPart) (x : ControlPart) →
      control_level source n bs x ≡ first_after (part_fault source) (c ++ flat_map (λ y. Control n y ∷ []) bs)
      (Control n x ∷ [])
  unfolding first_after
  control_flat n c none bs x =
      simp (list_any-append, none x, flat_map_single (Control n) bs, controls_among n x bs, or_none_else)

  controls_flat : (n : ℕ) (c : List Part) → ((x : ControlPart) →
      list_any (is_same_part source (Control n x)) c ≡ false) → (xs : List ControlPart) →
      first_after (control_level source n) [] xs ≡ first_after (part_fault source) c (map (Control n) xs)
  controls_flat n c none xs = simp (append-nil, flat_map_single (Control n) xs) at (first_after-flat_map (part_fault source)
      (λ y. Control n y ∷ []) (control_level source n) c (control_flat n c none) [] xs)

  -- ## The keywords of streams

  no_word_among_controls : (n : ℕ) (x : StreamPart) (k : ℕ) (ys : List ControlPart) →
      list_any (is_same_part source (stream_word n x)) (map (Control k) ys) ≡ false
  no_word_among_controls n (streams.Local t) k ys = none_in_map _ _ (λ y. refl) ys
  no_word_among_controls n (streams.Remote t) k ys = none_in_map _ _ (λ y. refl) ys
  no_word_among_controls n (streams.LocalControl xs) k ys = none_in_map _ _ (λ y. refl) ys

  word_in_stream : (n : ℕ) (x : StreamPart) (k : ℕ) (y : StreamPart) →
      list_any (is_same_part source (stream_word n x)) (stream_parts k y) ≡ is_same_word source (stream_word n x) k y
  word_in_stream n x k (streams.Local t) = or_false _
  word_in_stream n x k (streams.Remote t) = or_false _
  word_in_stream n x k (streams.LocalControl ys) = simp (no_word_among_controls n x k ys, or_false)

  -- A word of a stream is repeated only within that stream.
  own_stream : (n : ℕ) (x : StreamPart) (k : ℕ) (y : StreamPart) →
      is_same_word source (stream_word n x) k y ≡ ((n == k) && is_same_word source (stream_word n x) k y)
  own_stream n (streams.Local t) k (streams.Local u) = sym (and_same (n == k))
  own_stream n (streams.Local t) k (streams.Remote u) = sym (and_false (n == k))
  own_stream n (streams.Local t) k (streams.LocalControl ys) = sym (and_false (n == k))
  own_stream n (streams.Remote t) k (streams.Local u) = sym (and_false (n == k))
  own_stream n (streams.Remote t) k (streams.Remote u) = sym (and_same (n == k))
  own_stream n (streams.Remote t) k (streams.LocalControl ys) = sym (and_false (n == k))
  own_stream n (streams.LocalControl xs) k (streams.Local u) = sym (and_false (n == k))
  own_stream n (streams.LocalControl xs) k (streams.Remote u) = sym (and_false (n == k))
  own_stream n (streams.LocalControl xs) k (streams.LocalControl ys) = sym (and_same (n == k))

  and_any : {X : Type 0} (b : Bool) (p : X → Bool) → ((x : X) → p x ≡ (b && p x)) → (xs : List X) →
      list_any p xs ≡ (b && list_any p xs)
  and_any true p e xs = refl
  and_any false p e [] = refl
  and_any false p e (x ∷ xs) = rw (e x) (and_any false p e xs)

  no_word_is_stream : (n : ℕ) (x : StreamPart) (k : ℕ) → is_same_part source (stream_word n x) (Stream k) ≡ false
  no_word_is_stream n (streams.Local t) k = refl
  no_word_is_stream n (streams.Remote t) k = refl
  no_word_is_stream n (streams.LocalControl xs) k = refl

  no_word_is_state : (n : ℕ) (x : StreamPart) (b : Bool) →
      is_same_part source (stream_word n x) (TerminationState b) ≡ false
  no_word_is_state n (streams.Local t) b = refl
  no_word_is_state n (streams.Remote t) b = refl
  no_word_is_state n (streams.LocalControl xs) b = refl

  word_in_media : (n : ℕ) (x : StreamPart) (p : MediaPart) →
      list_any (is_same_part source (stream_word n x)) (media_parts p) ≡ appears_in source (stream_word n x) n p
  word_in_media n x (media.Part y) = word_in_stream n x 1 y ∙ own_stream n x 1 y
  word_in_media n x (media.Stream k ys) = rw (no_word_is_stream n x k)
      (any_in_all _ _ _ (word_in_stream n x k) ys ∙ and_any (n == k) _ (own_stream n x k) ys)
  word_in_media n x (media.TerminationState b) = or_false _ ∙ no_word_is_state n x b

  -- ## A LocalControl comes before its parts

  abbrev IsGuarded : ℕ → List Part → Type 0
  IsGuarded n c = list_any (is_same_part source (LocalControl n)) c ≡ false → (y : ControlPart) →
      list_any (is_same_part source (Control n y)) c ≡ false

  guarded_both : (n : ℕ) (a b : List Part) → IsGuarded n a → IsGuarded n b → IsGuarded n (a ++ b)
  guarded_both n a b first second e y =
      let (h, k) = or_parts _ _ (sym (list_any-append (is_same_part source (LocalControl n)) a b) ∙ e) in
      or_none _ a b (first h y) (second k y)

  guarded_all : {X : Type 0} (n : ℕ) (g : X → List Part) → ((x : X) → IsGuarded n (g x)) → (xs : List X) →
      IsGuarded n (flat_map g xs)
  guarded_all n g e [] = λ none y. refl
  guarded_all n g e (x ∷ xs) = guarded_both n (g x) (flat_map g xs) (e x) (guarded_all n g e xs)

  other_controls : (n k : ℕ) (y : ControlPart) (zs : List ControlPart) → (n == k) ≡ false →
      list_any (is_same_part source (Control n y)) (map (Control k) zs) ≡ false
  other_controls n k y zs e = none_in_map _ _ (λ z. ap (λ (b : Bool). b && same_control source y z) e) zs

  guarded_stream : (n k : ℕ) (x : StreamPart) → IsGuarded n (stream_parts k x)
  guarded_stream n k (streams.Local t) e y = refl
  guarded_stream n k (streams.Remote t) e y = refl
  guarded_stream n k (streams.LocalControl zs) e y = other_controls n k y zs (or_parts (n == k) _ e).0

  guarded_media : (n : ℕ) (p : MediaPart) → IsGuarded n (media_parts p)
  guarded_media n (media.Part x) = guarded_stream n 1 x
  guarded_media n (media.Stream k xs) = guarded_all n (stream_parts k) (guarded_stream n k) xs
  guarded_media n (media.TerminationState b) = λ e y. refl

  -- ## Within a Media descriptor

  -- No part in this list is the same as a part within a Media descriptor.
  record IsOutside (c : List Part) : Type 0 where
    word : (n : ℕ) (x : StreamPart) → list_any (is_same_part source (stream_word n x)) c ≡ false
    control : (n : ℕ) (x : ControlPart) → list_any (is_same_part source (Control n x)) c ≡ false
    state : (b : Bool) → list_any (is_same_part source (TerminationState b)) c ≡ false

  -- The first fault in a part of a stream is the keyword's fault, if the keyword has one. Otherwise, in a LocalControl,
  -- it is the first fault of the parts inside.
  stream_step : (n : ℕ) (c : List Part) (x : StreamPart) → IsGuarded n c →
      option_or (part_fault source c (stream_word n x)) (first_after (control_level source n) [] (controls_within x))
      ≡ first_after (part_fault source) c (stream_parts n x)
  unfolding first_after
  stream_step n c (streams.Local t) guarded = refl
  stream_step n c (streams.Remote t) guarded = refl
  stream_step n c (streams.LocalControl xs) guarded = unless_appeared _ (LocalControl n) _ _
      (λ e. controls_flat n (c ++ LocalControl n ∷ []) (λ y. or_none _ c (LocalControl n ∷ []) (guarded e y) refl) xs)

  stream_flat : (n : ℕ) (c m : List Part) (parts : List MediaPart) → IsOutside c →
      ((x : StreamPart) → list_any (is_same_part source (stream_word n x)) m ≡ false) → IsGuarded n m
      → (bs : List StreamPart) (x : StreamPart) →
      stream_level source parts n bs x ≡ first_after (part_fault source)
      (((c ++ flat_map media_parts parts) ++ m) ++ flat_map (stream_parts n) bs) (stream_parts n x)
  stream_flat n c m parts outside no_word guarded bs x =
      let p = is_same_part source (stream_word n x) in
      let before = flat_map media_parts parts in
      let own = flat_map (stream_parts n) bs in
      let appeared : list_any p (((c ++ before) ++ m) ++ own) ≡ appeared_in_media source parts n bs (stream_word n x) =
      simp (
        list_any-append,
        outside.word n x,
        no_word x,
        or_false,
        any_in_all p media_parts _ (word_in_media n x) parts,
        any_in_all p (stream_parts n) _ (word_in_stream n x n) bs,
      ) in
      rw (sym appeared) (stream_step n (((c ++ before) ++ m) ++ own) x
      (guarded_both n ((c ++ before) ++ m) own
      (guarded_both n (c ++ before) m (guarded_both n c before (λ e. outside.control n)
      (guarded_all n media_parts (guarded_media n) parts)) guarded)
      (guarded_all n (stream_parts n) (guarded_stream n n) bs)))

  no_state_in_stream : (b : Bool) (n : ℕ) (x : StreamPart) →
      list_any (is_same_part source (TerminationState b)) (stream_parts n x) ≡ false
  no_state_in_stream b n (streams.Local t) = refl
  no_state_in_stream b n (streams.Remote t) = refl
  no_state_in_stream b n (streams.LocalControl xs) = none_in_map _ _ (λ y. refl) xs

  state_in_media : (b : Bool) (p : MediaPart) →
      list_any (is_same_part source (TerminationState b)) (media_parts p) ≡ is_state p
  state_in_media b (media.Part x) = no_state_in_stream b 1 x
  state_in_media b (media.Stream n xs) = none_in_all _ _ (no_state_in_stream b n) xs
  state_in_media b (media.TerminationState h) = refl

  media_flat : (c : List Part) → IsOutside c → (bs : List MediaPart) (x : MediaPart) →
      media_level source bs x ≡ first_after (part_fault source) (c ++ flat_map media_parts bs) (media_parts x)
  unfolding first_after
  media_flat c outside bs (media.Part x) =
      simp append-nil at (stream_flat 1 c [] bs outside (λ y. refl) (λ e y. refl) [] x)
  media_flat c outside bs (media.Stream n xs) =
      let flat = stream_flat n c (Stream n ∷ []) bs outside (λ y. or_false _ ∙ no_word_is_stream n y n) (λ e y. refl) in
      rw (no_stream_twice n (c ++ flat_map media_parts bs)) (simp append-nil at (first_after-flat_map (part_fault source)
      (stream_parts n) (stream_level source bs n) ((c ++ flat_map media_parts bs) ++ Stream n ∷ []) flat [] xs))
  media_flat c outside bs (media.TerminationState h) =
      let p = is_same_part source (TerminationState h) in
      simp (list_any-append, outside.state h, any_in_all p media_parts is_state (state_in_media h) bs, or_none_else)

  medias_flat : (c : List Part) → IsOutside c → (xs : List MediaPart) →
      first_after (media_level source) [] xs ≡ first_after (part_fault source) c (flat_map media_parts xs)
  medias_flat c outside xs = simp append-nil at
      (first_after-flat_map (part_fault source) media_parts (media_level source) c (media_flat c outside) [] xs)

  -- ## Descriptors

  none_outside : (p : Part → Bool) → p Audit ≡ false → ((w : AuditWord) → p (Audited w) ≡ false) →
      ((w : OtherWord) (b : Bool) → p (Other w b) ≡ false) → (bs : List Descriptor) →
      list_any (is_same_descriptor source Media) bs ≡ false → list_any p (parts_of bs) ≡ false
  none_outside p audit word other [] e = refl
  none_outside p audit word other (descriptors.Media xs ∷ bs) e = absurd (cc e)
  none_outside p audit word other (descriptors.Audit ws ∷ bs) e = or_none p (Audit ∷ map Audited ws) (parts_of bs)
      (rw audit (none_in_map p Audited word ws)) (none_outside p audit word other bs e)
  none_outside p audit word other (descriptors.Other w b ∷ bs) e = rw (other w b) (none_outside p audit word other bs e)

  none_with_media : (p : Part → Bool) → p Audit ≡ false → ((w : AuditWord) → p (Audited w) ≡ false) →
      ((w : OtherWord) (b : Bool) → p (Other w b) ≡ false) → p Media ≡ false → (bs : List Descriptor) →
      list_any (is_same_descriptor source Media) bs ≡ false → list_any p (parts_of bs ++ Media ∷ []) ≡ false
  none_with_media p audit word other same bs e =
      or_none p (parts_of bs) (Media ∷ []) (none_outside p audit word other bs e) (rw same refl)

  word_outside : (bs : List Descriptor) → list_any (is_same_descriptor source Media) bs ≡ false →
      (n : ℕ) (x : StreamPart) → list_any (is_same_part source (stream_word n x)) (parts_of bs ++ Media ∷ []) ≡ false
  word_outside bs e n (streams.Local t) = none_with_media _ refl (λ w. refl) (λ w b. refl) refl bs e
  word_outside bs e n (streams.Remote t) = none_with_media _ refl (λ w. refl) (λ w b. refl) refl bs e
  word_outside bs e n (streams.LocalControl xs) = none_with_media _ refl (λ w. refl) (λ w b. refl) refl bs e

  outside_before : (bs : List Descriptor) → list_any (is_same_descriptor source Media) bs ≡ false →
      IsOutside (parts_of bs ++ Media ∷ [])
  outside_before bs e = record {
    word = word_outside bs e;
    control = λ n x. none_with_media _ refl (λ w. refl) (λ w b. refl) refl bs e;
    state = λ b. none_with_media _ refl (λ w. refl) (λ w b. refl) refl bs e;
  }

  -- No part within a Media descriptor is the same as a descriptor's keyword.
  outer_in_stream : (d : Descriptor) (n : ℕ) (x : StreamPart) →
      list_any (is_same_part source (descriptor_word d)) (stream_parts n x) ≡ false
  outer_in_stream (descriptors.Media ms) n (streams.Local t) = refl
  outer_in_stream (descriptors.Media ms) n (streams.Remote t) = refl
  outer_in_stream (descriptors.Media ms) n (streams.LocalControl xs) = none_in_map _ _ (λ y. refl) xs
  outer_in_stream (descriptors.Audit ws) n (streams.Local t) = refl
  outer_in_stream (descriptors.Audit ws) n (streams.Remote t) = refl
  outer_in_stream (descriptors.Audit ws) n (streams.LocalControl xs) = none_in_map _ _ (λ y. refl) xs
  outer_in_stream (descriptors.Other w h) n (streams.Local t) = refl
  outer_in_stream (descriptors.Other w h) n (streams.Remote t) = refl
  outer_in_stream (descriptors.Other w h) n (streams.LocalControl xs) = none_in_map _ _ (λ y. refl) xs

  outer_in_media : (d : Descriptor) (x : MediaPart) →
      list_any (is_same_part source (descriptor_word d)) (media_parts x) ≡ false
  outer_in_media d (media.Part x) = outer_in_stream d 1 x
  outer_in_media (descriptors.Media ms) (media.Stream n xs) = none_in_all _ _ (outer_in_stream (descriptors.Media ms) n) xs
  outer_in_media (descriptors.Audit ws) (media.Stream n xs) = none_in_all _ _ (outer_in_stream (descriptors.Audit ws) n) xs
  outer_in_media (descriptors.Other w h) (media.Stream n xs) = none_in_all _ _ (outer_in_stream (descriptors.Other w h) n) xs
  outer_in_media (descriptors.Media ms) (media.TerminationState b) = refl
  outer_in_media (descriptors.Audit ws) (media.TerminationState b) = refl
  outer_in_media (descriptors.Other w h) (media.TerminationState b) = refl

  no_descriptor_is_audited : (d : Descriptor) (w : AuditWord) →
      is_same_part source (descriptor_word d) (Audited w) ≡ false
  no_descriptor_is_audited (descriptors.Media xs) w = refl
  no_descriptor_is_audited (descriptors.Audit xs) w = refl
  no_descriptor_is_audited (descriptors.Other v h) w = refl

  word_in_descriptor : (d e : Descriptor) → list_any (is_same_part source (descriptor_word d)) (descriptor_parts e) ≡
      is_same_descriptor source (descriptor_word d) e
  word_in_descriptor d (descriptors.Media xs) =
      let p = is_same_part source (descriptor_word d) in
      simp (none_in_all p media_parts (outer_in_media d) xs, or_false)
  word_in_descriptor d (descriptors.Audit ws) =
      simp (none_in_map (is_same_part source (descriptor_word d)) Audited (no_descriptor_is_audited d) ws, or_false)
  word_in_descriptor d (descriptors.Other w h) = or_false _

  word_before : (d : Descriptor) (bs : List Descriptor) →
      list_any (is_same_part source (descriptor_word d)) (parts_of bs) ≡
      list_any (is_same_descriptor source (descriptor_word d)) bs
  word_before d bs = any_in_all _ _ _ (word_in_descriptor d) bs

  audited_twice : (w : AuditWord) (c : List Part) → list_any (is_same_part source (Audited w)) c ≡ false
  audited_twice w [] = refl
  audited_twice w (x ∷ xs) = audited_twice w xs

  no_audited_fault : (c : List Part) (ws : List AuditWord) → first_after (part_fault source) c (map Audited ws) ≡ None
  unfolding first_after
  no_audited_fault c [] = refl
  no_audited_fault c (w ∷ ws) = rw (audited_twice w c) (no_audited_fault (c ++ Audited w ∷ []) ws)

  descriptor_flat : (bs : List Descriptor) (d : Descriptor) →
      descriptor_level source bs d ≡ first_after (part_fault source) (parts_of bs) (descriptor_parts d)
  unfolding first_after
  descriptor_flat bs (descriptors.Media xs) = rw (word_before (descriptors.Media xs) bs) (unless_appeared _ Media _ _
      (λ e. medias_flat (parts_of bs ++ Media ∷ []) (outside_before bs e) xs))
  descriptor_flat bs (descriptors.Audit ws) =
      rw (word_before (descriptors.Audit ws) bs, no_audited_fault (parts_of bs ++ Audit ∷ []) ws) refl
  descriptor_flat bs (descriptors.Other w h) = rw (word_before (descriptors.Other w h) bs) refl

  -- The search level by level finds the first fault of the parts.
  pub levels_are_parts : (xs : List Descriptor) →
      first_after (descriptor_level source) [] xs ≡ descriptors_fault source xs
  levels_are_parts xs = first_after-flat_map (part_fault source) descriptor_parts (descriptor_level source) []
      descriptor_flat [] xs
