-- A walk over descriptors has the same findings as searches through all of their parts.
use Rattle.std.proofs.Common.{◌≡◌, ℕ, ◌+◌, ◌<◌, ◌≤◌, Bool, true, false, ◌||◌, List, [], ◌∷◌, ◌++◌, length, get_or, take, drop, map, append-nil, Option, Some, None, Result, Ok, Err, refl, sym, ap, ◌∙◌}
use Rattle.std.specs.Prelude.{IfNone}
use Rattle.std.specs.List.{list_any, flat_map}
use Rattle.std.specs.Option.{option_or}
use Rattle.std.proofs.lemmas.List.{take_all, take_more, flat_map_more}
use Rattle.std.proofs.lemmas.List.Concat.{flat_map_single}
use Rattle.std.proofs.lemmas.Grind.{fold-append}
use Rattle.mg_words.specs.ResultSteps.{◌>>=◌}
use Rattle.mg_words.specs.declared.error_number.ErrorNumber.{ErrorNumber}
use Rattle.mg_text.specs.declared.descriptor.Descriptor.{Descriptor}
use Rattle.mg_text.specs.declared.descriptor.Descriptor.TheVariants as descriptors
use Rattle.mg_text.specs.declared.media.StreamPart.{StreamPart}
use Rattle.mg_text.specs.declared.media.StreamPart.TheVariants as streams
use Rattle.mg_commands.specs.declared.command_parameters.CommandParameters.{CommandParameters}
use Rattle.mg_commands.specs.declared.findings.Findings.{Findings}
use Rattle.mg_commands.specs.declared.part.Part.{Part}
use Rattle.mg_commands.specs.declared.part.Part.TheVariants.{Audit, Audited, LocalControl, Control}
use Rattle.mg_commands.specs.CommandParameters.{mode_in, depth_in, local_in, remote_in, is_audit, is_media_audit, is_statistics_audit, parameters_of}
use Rattle.mg_commands.specs.DescriptorFault.{descriptors_fault, properties_fault}
use Rattle.mg_commands.specs.Part.{stream_parts, media_parts, descriptor_parts, parts_of}
use Rattle.mg_commands.specs.Search.{first_of, first_after}
use Rattle.mg_commands.specs.Support.{property_fault}
use Rattle.mg_commands.specs.aids.Findings.{no_parameters, asked_with, nothing_found, with_part, with_parts, Reads}
use Rattle.mg_commands.specs.Outcome.{unless}
use Rattle.mg_commands.specs.aids.Steps.{check_descriptors}
use Rattle.mg_commands.specs.aids.Words.{stream_word, controls_within, descriptor_word, media_within, audit_words_within}
use Rattle.mg_commands.proofs.FaultSteps.{walk_next, walk_found, walk_end}
use Rattle.mg_commands.proofs.LevelLemmas.{option_or-assoc, or_false, or_none_else}

-- ## All parts

or_assoc : (a b c : Bool) → ((a || b) || c) ≡ (a || (b || c))
or_assoc true b c = refl
or_assoc false b c = refl

-- The findings after more parts.
abbrev after_others : List ℕ → Findings → List Part → Findings
after_others source a xs =
    let p = a.parameters in
    record {
      parameters = record {
        settings = record {
          mode = option_or p.settings.mode (first_of mode_in xs);
          depth = option_or p.settings.depth (first_of (depth_in source) xs);
          local = option_or p.settings.local (first_of (local_in source) xs);
          remote = option_or p.settings.remote (first_of (remote_in source) xs);
        };
        has_audit = p.has_audit || list_any is_audit xs;
        audits_media = p.audits_media || list_any is_media_audit xs;
        audits_statistics = p.audits_statistics || list_any is_statistics_audit xs;
      };
      fault = option_or a.fault (first_of (property_fault source) xs);
    }

-- The parameters of a command's descriptors, or the fault in them.
abbrev pub by_fault : Option ErrorNumber → Findings → Result CommandParameters ErrorNumber
by_fault (Some e) a = Err e
by_fault None a = Ok a.parameters

abbrev by_result : Findings → Result CommandParameters ErrorNumber
by_result a = by_fault a.fault a

abbrev found : CommandParameters → Option ErrorNumber → Findings
found p o = record { parameters = p; fault = o }

stays : (source : List ℕ) (p : CommandParameters) (e : ErrorNumber) (xs : List Part) →
    with_parts source (found p (Some e)) xs ≡ found p (Some e)
stays source p e [] = refl
stays source p e (x ∷ xs) = stays source p e xs

goes_on : (source : List ℕ) (p : CommandParameters) (o : Option ErrorNumber) (xs : List Part) →
    ((q : CommandParameters) → by_result (with_parts source (found q None) xs) ≡
    by_result (after_others source (found q None) xs)) →
    by_result (with_parts source (found p o) xs) ≡ by_result (after_others source (found p o) xs)
goes_on source p (Some e) xs h = ap by_result (stays source p e xs)
goes_on source p None xs h = h p

ends : (source : List ℕ) (p : CommandParameters) → found p None ≡ after_others source (found p None) []
unfolding first_of
ends source p = simp (or_none_else, or_false)

extends : (source : List ℕ) (p : CommandParameters) (x : Part) (xs : List Part) →
    after_others source (found (asked_with source p x) (property_fault source x)) xs ≡
    after_others source (found p None) (x ∷ xs)
unfolding first_of
extends source p x xs = simp (option_or-assoc, or_assoc)

all_after : (source : List ℕ) (p : CommandParameters) (xs : List Part) →
    by_result (with_parts source (found p None) xs) ≡ by_result (after_others source (found p None) xs)
all_after source p [] = ap by_result (ends source p)
all_after source p (x ∷ xs) =
    goes_on source (asked_with source p x) (property_fault source x) xs (λ q. all_after source q xs)
    ∙ ap by_result (extends source p x xs)

-- ## Parts that are read one after another

pub read_fault : {source : List ℕ} {p r : Option ErrorNumber} {xs : List Part} {a b : Findings} {e : ErrorNumber}
    (q : Option ErrorNumber) (ys : List Part) → Reads source p xs a b r → r ≡ Some e →
    Reads source (option_or p q) ys a b (Some e)
read_fault q ys h some = record { value = rw (sym h.value ∙ some) refl; found = tt }

found_after : (source : List ℕ) (xs ys : List Part) (a b c : Findings) (s : Option ErrorNumber) →
    b ≡ with_parts source a xs → IfNone s (c ≡ with_parts source b ys) → IfNone s (c ≡ with_parts source a (xs ++ ys))
found_after source xs ys a b c (Some e) first h = tt
found_after source xs ys a b c None first h =
    h ∙ ap (λ (f : Findings). with_parts source f ys) first ∙ sym (fold-append (with_part source) a xs ys)

pub read_after : {source : List ℕ} {q s : Option ErrorNumber} {ys : List Part} {b c : Findings}
    (a : Findings) (xs : List Part) → b ≡ with_parts source a xs → Reads source q ys b c s →
    Reads source q (xs ++ ys) a c s
read_after {source} {q} {s} {ys} {b} {c} a xs first h =
    record { value = h.value; found = found_after source xs ys a b c s first h.found }

pub read_then : {source : List ℕ} {p q r s : Option ErrorNumber} {xs ys : List Part} {a b c : Findings} →
    Reads source p xs a b r → r ≡ None → Reads source q ys b c s → Reads source (option_or p q) (xs ++ ys) a c s
read_then {source} {p} {q} {r} {s} {xs} {ys} {a} {b} {c} h none k =
    let first : b ≡ with_parts source a xs = rw none at h.found in
    record {
      value = k.value ∙ rw (sym h.value ∙ none) refl;
      found = found_after source xs ys a b c s first k.found;
    }

-- ## Parts split into keyword and content

pub stream_parts_are : (n : ℕ) (x : StreamPart) →
    stream_word n x ∷ flat_map (λ y. Control n y ∷ []) (controls_within x) ≡ stream_parts n x
stream_parts_are n (streams.Local t) = refl
stream_parts_are n (streams.Remote t) = refl
stream_parts_are n (streams.LocalControl xs) =
    ap (λ (l : List Part). LocalControl n ∷ l) (flat_map_single (Control n) xs)

pub descriptor_parts_are : (x : Descriptor) →
    descriptor_word x ∷ (map Audited (audit_words_within x) ++ flat_map media_parts (media_within x)) ≡ descriptor_parts x
descriptor_parts_are (descriptors.Media xs) = refl
descriptor_parts_are (descriptors.Audit ws) = ap (λ (l : List Part). Audit ∷ l) (append-nil (map Audited ws))
descriptor_parts_are (descriptors.Other w h) = refl

by_properties : (o : Option ErrorNumber) (p : CommandParameters) →
    by_fault o (record { parameters = p; fault = o }) ≡ (unless o >>= (λ _. Ok p))
by_properties (Some e) p = refl
by_properties None p = refl

pub checked : {source : List ℕ} {a : Findings} {r o : Option ErrorNumber} (xs : List Descriptor) →
    Reads source (descriptors_fault source xs) (parts_of xs) nothing_found a r → o ≡ option_or r a.fault →
    by_fault o a ≡ check_descriptors source xs
checked {source} {a} {r} xs h is = ap (λ (o : Option ErrorNumber). by_fault o a) is ∙ by_reading r h
  where
    by_reading : (r : Option ErrorNumber) →
        Reads source (descriptors_fault source xs) (parts_of xs) nothing_found a r →
        by_fault (option_or r a.fault) a ≡ check_descriptors source xs
    by_reading (Some e) h = rw (sym h.value) refl
    by_reading None h = rw (sym h.value) (ap by_result h.found ∙ all_after source no_parameters (parts_of xs)
        ∙ by_properties (properties_fault source xs) (parameters_of source xs))

-- ## Walks

-- The walk has reached the i-th element without a fault, and its findings are the findings for the first `i` elements.
pub record HasWalked {X : Type 0} (source : List ℕ) (f : List X → X → Option ErrorNumber) (g : X → List Part)
    (xs : List X) (i : ℕ) (a b : Findings) : Type 0 where
  pub walked : first_after f (take i xs) (drop i xs) ≡ first_after f [] xs
  pub found : b ≡ with_parts source a (flat_map g (take i xs))

here : {X : Type 0} (f : List X → X → Option ErrorNumber) (xs : List X) (i : ℕ) (x d : X) (before : List X)
    (r w : Option ErrorNumber) → x ≡ get_or xs i d → before ≡ take i xs → r ≡ f before x → r ≡ w →
    f (take i xs) (get_or xs i d) ≡ w
here f xs i x d before r w is front value end = rw (sym is, sym front) (sym value ∙ end)

pub walk_hit : {X : Type 0} {source : List ℕ} {f : List X → X → Option ErrorNumber} {g : X → List Part} {xs : List X}
    {i : ℕ} {a b c : Findings} {x : X} {before : List X} {r : Option ErrorNumber} {e : ErrorNumber} (d : X) →
    HasWalked source f g xs i a b → i < length xs → x ≡ get_or xs i d → before ≡ take i xs →
    Reads source (f before x) (g x) b c r → r ≡ Some e → Reads source (first_after f [] xs) (flat_map g xs) a c (Some e)
walk_hit {f = f} {xs = xs} {i = i} {x = x} {before = before} {r = r} {e = e} d h lt is front reads some = record {
  value = sym (walk_found f xs i d e lt (here f xs i x d before r (Some e) is front reads.value some)) ∙ h.walked;
  found = tt;
}

pub walk_pass : {X : Type 0} {source : List ℕ} {f : List X → X → Option ErrorNumber} {g : X → List Part} {xs : List X}
    {i : ℕ} {a b c : Findings} {x : X} {before : List X} {r : Option ErrorNumber} (d : X) →
    HasWalked source f g xs i a b → i < length xs → x ≡ get_or xs i d → before ≡ take i xs →
    Reads source (f before x) (g x) b c r → r ≡ None → HasWalked source f g xs (i + 1) a c
walk_pass {source = source} {f = f} {g = g} {xs = xs} {i = i} {a = a} {b = b} {c = c} {x = x} {before = before} {r = r} d
    h lt is front reads none =
    let found : c ≡ with_parts source b (g x) = rw none at reads.found in
    record {
      walked = walk_next f xs i d lt (here f xs i x d before r None is front reads.value none) ∙ h.walked;
      found = found
          ∙ ap (λ (y : Findings). with_parts source y (g x)) h.found
          ∙ sym (fold-append (with_part source) a (flat_map g (take i xs)) (g x))
          ∙ ap (with_parts source a) (flat_map_more g [] (take i xs) x)
          ∙ ap (λ (l : List _). with_parts source a (flat_map g l))
          (ap (λ (y : _). take i xs ++ y ∷ []) is ∙ sym (take_more xs i d lt));
    }

pub walk_ends : {X : Type 0} {source : List ℕ} {f : List X → X → Option ErrorNumber} {g : X → List Part} {xs : List X}
    {i : ℕ} {a b : Findings} → HasWalked source f g xs i a b → length xs ≤ i →
    Reads source (first_after f [] xs) (flat_map g xs) a b None
walk_ends {source = source} {f = f} {g = g} {xs = xs} {i = i} {a = a} h le = record {
  value = sym (walk_end f xs i le) ∙ h.walked;
  found = h.found ∙ ap (λ (l : List _). with_parts source a (flat_map g l)) (take_all i xs le);
}
