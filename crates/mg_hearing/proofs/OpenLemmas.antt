-- Opening several files, and reading them to their end.
use Rattle.std.proofs.Common.{◌≡◌, ◌∙◌, ℕ, List, [], ◌∷◌, ◌++◌, Option, Some, None, IfSome, ap, append_assoc, append-nil, get_or, inl, inr, length, map, refl, subst, sym, take, true}
use Rattle.std.proofs.KnownBytes.{prepend_known-nil}
use Rattle.std.proofs.lemmas.List.{map-append, take_more}
use Rattle.std.specs.Option.{option_map}
use Rattle.std.specs.Prelude.{◌+◌, ◌<◌, ◌==◌, if◌then◌else◌}
use Rattle.std.specs.Io.Buffered.{reader_buffer, reader_capacity, reader_inner, reader_remaining}
use Rattle.std.specs.Io.KnownBytes.{prepend_known}
use Rattle.std.specs.declared.io.buffered.BufReader.{BufReader}
use Rattle.mg_host.specs.declared.host_call.HostCall.{HostCall}
use Rattle.mg_host.specs.declared.host_call.HostCall.TheVariants.{OpenText}
use Rattle.mg_host.specs.HostCalls.{Grows, IsLogged}
use Rattle.mg_joined.specs.Joined.{are_following, joined}
use Rattle.mg_joined.specs.aids.Joining.{all_known, cons_known}
use Rattle.mg_options.specs.Status.{UnlessFault}
use Rattle.mg_options.specs.declared.status.Status.{Status}
use Rattle.mg_hearing.specs.Files.{ReadsAll}
use Rattle.mg_hearing.specs.aids.Opening.{AreJoined, OpensAll, OpensMore}

-- ## Opening

-- A new buffer has nothing of its reader.
pub buffered : {T A : Type 0} (remaining : T → Option (List ℕ)) (reader : BufReader T A) (inner : T) →
    reader_inner reader ≡ inner → reader_buffer reader ≡ [] → reader_capacity reader ≡ 8192 →
    reader_remaining remaining reader ≡ remaining inner
buffered remaining reader inner is empty large =
    ap (λ (n : ℕ). if n == 0 then None else prepend_known (reader_buffer reader) (remaining (reader_inner reader))) large
    ∙ ap (λ (l : List ℕ). prepend_known l (remaining (reader_inner reader))) empty
    ∙ prepend_known-nil (remaining (reader_inner reader)) ∙ ap remaining is

logged_more : (after : Option (List HostCall)) (left : Option (List ℕ)) (text : List ℕ) (old new : List (Option (List ℕ))) →
    new ≡ old ++ left ∷ [] → IsLogged after left text → IfSome after (λ calls. new ≡ old ++ Some text ∷ [])
logged_more None left text old new is logged = tt
logged_more (Some calls) left text old new is logged =
    is ∙ ap (λ (o : Option (List ℕ)). old ++ o ∷ []) logged

-- A file was opened and appended to the open files.
pub opens_more : {B : Type 0} (remaining : B → Option (List ℕ)) (path : List ℕ) (before after : Option (List HostCall))
    (old new : List B) (reader : B) (left : Option (List ℕ)) → new ≡ old ++ reader ∷ [] → remaining reader ≡ left →
    ((text : List ℕ) × Grows before after (OpenText path (Some text) ∷ []) × IsLogged after left text) →
    OpensMore path before after (map remaining old) (map remaining new)
opens_more remaining path before after old new reader left pushed is (text, grows, logged) = (
  text,
  grows,
  logged_more after left text (map remaining old) (map remaining new)
      (ap (map remaining) pushed ∙ map-append remaining old (reader ∷ [])
      ∙ ap (λ (o : Option (List ℕ)). map remaining old ++ o ∷ []) is) logged,
)

pub opens_none : (log : Option (List HostCall)) → OpensAll [] log log []
opens_none None = ([], refl, tt, tt)
opens_none (Some calls) = ([], refl, sym (append-nil calls), refl)

grows_more : (a b c : Option (List HostCall)) (calls more : List HostCall) → Grows a b calls → Grows b c more →
    Grows a c (calls ++ more)
grows_more a b None calls more first next = tt
grows_more a None (Some all) calls more first next = absurd next
grows_more None (Some mid) (Some all) calls more first next = absurd first
grows_more (Some old) (Some mid) (Some all) calls more first next =
    next ∙ ap (λ (l : List HostCall). l ++ more) first ∙ append_assoc old calls more

known_before : (b c : Option (List HostCall)) (more : List HostCall) (left news : List (Option (List ℕ)))
    (P Q : Type 0) → Grows b c more → IfSome b (λ calls. P) → IfSome c (λ calls. Q) → IfSome c (λ calls. P × Q)
known_before b None more left news P Q grows old new = tt
known_before None (Some all) more left news P Q grows old new = absurd grows
known_before (Some mid) (Some all) more left news P Q grows old new = (old, new)

if_some : (c : Option (List HostCall)) (P Q : Type 0) → (P → Q) → IfSome c (λ calls. P) → IfSome c (λ calls. Q)
if_some None P Q more h = tt
if_some (Some calls) P Q more h = more h

-- The next file was opened.
pub opens_next : (paths news : List (List ℕ)) (path : List ℕ) (a b c : Option (List HostCall))
    (lefts new : List (Option (List ℕ))) → news ≡ paths ++ path ∷ [] → OpensAll paths a b lefts →
    OpensMore path b c lefts new → OpensAll news a c new
opens_next paths news path a b c lefts new is (files, named, grows, logged) (text, more, added) =
    let call = λ (f : List ℕ × List ℕ). OpenText f.0 (Some f.1) in
    let name = λ (f : List ℕ × List ℕ). f.0 in
    let left = λ (f : List ℕ × List ℕ). Some f.1 in (
      files ++ (path, text) ∷ [],
      map-append name files ((path, text) ∷ []) ∙ ap (λ (l : List (List ℕ)). l ++ path ∷ []) named ∙ sym is,
      subst (λ (l : List HostCall). Grows a c l) (sym (map-append call files ((path, text) ∷ [])))
          (grows_more a b c (map call files) (OpenText path (Some text) ∷ []) grows more),
      if_some c ((lefts ≡ map left files) × (new ≡ lefts ++ Some text ∷ [])) (new ≡ map left (files ++ (path, text) ∷ []))
          (λ h. h.1 ∙ ap (λ (l : List (Option (List ℕ))). l ++ Some text ∷ []) h.0
          ∙ sym (map-append left files ((path, text) ∷ [])))
          (known_before b c (OpenText path (Some text) ∷ []) lefts new (lefts ≡ map left files)
          (new ≡ lefts ++ Some text ∷ []) more logged added),
    )

-- The paths so far, and one more.
pub paths_more : (path : List ℕ) (later : List (List ℕ)) (i : ℕ) (other d : List ℕ) → i < length later →
    other ≡ get_or later i d → path ∷ take (i + 1) later ≡ (path ∷ take i later) ++ other ∷ []
paths_more path later i other d within is = ap (λ (l : List (List ℕ)). path ∷ l)
    (take_more later i d within ∙ ap (λ (l : List ℕ). take i later ++ l ∷ []) (sym is))

-- ## Reading

knows_all : (files : List (List ℕ × List ℕ)) → all_known (map (λ f. Some f.1) files) ≡ Some (map (λ f. f.1) files)
knows_all [] = refl
knows_all (f ∷ files) = ap (λ (t : Option (List (List ℕ))). cons_known (Some f.1) t) (knows_all files)

reads_all : (paths : List (List ℕ)) (before after : Option (List HostCall)) (lefts : List (Option (List ℕ)))
    (text : Option (List ℕ)) → OpensAll paths before after lefts → AreJoined (all_known lefts) text →
    ReadsAll paths before after text
reads_all paths before None lefts text (files, named, grows, logged) are = (files, named, tt, tt, tt)
reads_all paths before (Some calls) lefts text (files, named, grows, logged) are =
    let known : AreJoined (Some (map (λ f. f.1) files)) text =
    subst (λ (t : Option (List (List ℕ))). AreJoined t text) (ap all_known logged ∙ knows_all files) are in
    (files, named, grows, known.0, known.1)

-- An answer about the script of open files is an answer about the script of files with these paths.
pub answers_all : (P : Option (List ℕ) → Type 0) (paths : List (List ℕ)) (before after : Option (List HostCall))
    (lefts : List (Option (List ℕ))) (status : Status) → OpensAll paths before after lefts →
    UnlessFault ((script : Option (List ℕ)) × AreJoined (all_known lefts) script × P script) status →
    UnlessFault ((script : Option (List ℕ)) × ReadsAll paths before after script × P script) status
answers_all P paths before after lefts status opened (inl fault) = inl fault
answers_all P paths before after lefts status opened (inr (script, are, p)) =
    inr (script, reads_all paths before after lefts script opened are, p)

-- ## The end

are_joined : (texts : Option (List (List ℕ))) (script : Option (List ℕ)) → script ≡ option_map joined texts →
    IfSome texts (λ known. are_following known ≡ true) → AreJoined texts script
are_joined None script is follow = tt
are_joined (Some texts) script is follow = (is, follow)

-- After an answer, the files are read to their end, and the status stays unless one doesn't follow.
pub ends_with : {E : Type 0} (P : Option (List ℕ) → E → Status → Type 0) (texts : Option (List (List ℕ)))
    (script : Option (List ℕ)) (mid new : E) (status result : Status) → script ≡ option_map joined texts →
    UnlessFault (P script mid status) status →
    UnlessFault ((result ≡ status) × (new ≡ mid) × IfSome texts (λ known. are_following known ≡ true)) result →
    UnlessFault ((s : Option (List ℕ)) × AreJoined texts s × P s new result) result
ends_with P texts script mid new status result is h (inl fault) = inl fault
ends_with P texts script mid new status result is h (inr (same, quiet, follow)) =
    subst (λ (s : Status). UnlessFault ((t : Option (List ℕ)) × AreJoined texts t × P t new s) s) (sym same)
    (subst (λ e. UnlessFault ((t : Option (List ℕ)) × AreJoined texts t × P t e status) status) (sym quiet) (at h))
  where
    at : UnlessFault (P script mid status) status →
        UnlessFault ((t : Option (List ℕ)) × AreJoined texts t × P t mid status) status
    at (inl fault) = inl fault
    at (inr p) = inr (script, are_joined texts script is follow, p)
