-- Journals that were renewed: a title, a checkpoint and a script.
use Rattle.std.proofs.Common.{◌≡◌, ◌≢◌, ℕ, List, [], ◌++◌, Option, Some, None, IfSome, inr, refl, sym, ap, subst, ◌∙◌, append_assoc}
use Rattle.std.specs.Prelude.{reverse, ◌==◌, if◌then◌else◌}
use Rattle.std.specs.Io.Buffered.{reader_buffer, reader_capacity, reader_inner, reader_remaining}
use Rattle.std.specs.Io.KnownBytes.{Consumes, prepend_known}
use Rattle.std.specs.declared.io.buffered.BufReader.{BufReader}
use Rattle.mg_checkpoint.specs.Checkpoint.{checkpoint_text, without_speech}
use Rattle.mg_core.specs.Base.{IsBase}
use Rattle.mg_core.specs.declared.state.CoreState.{CoreState}
use Rattle.mg_core.specs.aids.Resume.{IsResumed}
use Rattle.mg_core.specs.aids.Stands.{StandsFor}
use Rattle.mg_core.specs.Follow.{IsFollowed}
use Rattle.mg_core.specs.Note.{Note}
use Rattle.mg_core.specs.World.{World}
use Rattle.mg_dates.specs.declared.timeline.Timeline.{Timeline}
use Rattle.mg_dates.specs.Times.{timeline_of}
use Rattle.mg_engine.specs.declared.config.Config.{Config}
use Rattle.mg_fence.specs.Reached.{Reaches}
use Rattle.mg_service.specs.Title.{title_line}
use Rattle.mg_start.specs.aids.Starting.{CanResume, IsRestored}
use Rattle.mg_service.specs.Script.{HasScript}
use Rattle.mg_start.proofs.StartLemmas.{resumes_from}

-- If one text was read and then another, both were read.
pub reads_both : (a b c : Option (List ℕ)) (p q : List ℕ) → Consumes a b p → Consumes b c q → Consumes a c (p ++ q)
reads_both None b c p q h k = tt
reads_both (Some a) None c p q h k = absurd h
reads_both (Some a) (Some b) None p q h k = absurd k
reads_both (Some a) (Some b) (Some c) p q h k = h ∙ ap (λ (l : List ℕ). p ++ l) k ∙ sym (append_assoc p q c)

-- After its title and a checkpoint were read, a gateway was restored.
pub restored : (config : Config) (a b c : Option (List ℕ)) (title text items : List ℕ) (state : CoreState)
    → title ≡ title_line config → text ≡ items → Consumes a b title → Consumes b c items
    → (w : World) × IsBase w × (w.gateway.config ≡ config) × (without_speech w ≡ w) × (checkpoint_text w ≡ text)
    × StandsFor state w
    → IsRestored config a c state
restored config a b c title text items state titled same h k (w, base, config_is, quiet, is, stands) = record {
  base = w;
  is_base = base;
  config_is = config_is;
  quiet = quiet;
  read =
      subst (λ (l : List ℕ). Consumes a c l)
      (ap (λ (l : List ℕ). l ++ items) titled ∙ ap (λ (l : List ℕ). title_line config ++ l) (sym same ∙ sym is))
      (reads_both a b c title items h k);
  stands = stands;
}

-- What remains of a text, if the text is known.
abbrev left_of : (text left : Option (List ℕ)) → Option (List ℕ)
left_of None left = None
left_of (Some text) left = left

script_left : (text left : Option (List ℕ)) (config : Config) (base : World) → IsBase base
    → base.gateway.config ≡ config → without_speech base ≡ base
    → Consumes text left (title_line config ++ checkpoint_text base) → HasScript text config base (left_of text left)
script_left None left config base is_base config_is quiet read = inr (is_base, config_is, quiet, refl)
script_left (Some text) None config base is_base config_is quiet read = absurd read
script_left (Some text) (Some left) config base is_base config_is quiet read =
    inr (is_base, config_is, quiet, ap (λ (l : List ℕ). Some l) read)

resumed_left : (text left rest : Option (List ℕ)) (base : World) (state : CoreState) → IsResumed base left rest state
    → IsResumed base (left_of text left) rest state
resumed_left None left rest base state r = record {
  script = r.script;
  read = record { consumed = tt; at_end = r.read.at_end };
  events = r.events;
  are = r.are;
  sent = r.sent;
  world = r.world;
  history = r.history;
}
resumed_left (Some text) left rest base state r = r

followed_left : (text left rest : Option (List ℕ)) (base : World) (state : CoreState) (Follows : List Note → Type 0)
    → IsFollowed base left rest state Follows → IsFollowed base (left_of text left) rest state Follows
followed_left None left rest base state Follows f = record {
  script = f.script;
  read = record { consumed = tt; at_end = f.read.at_end };
  notes = f.notes;
  are = f.are;
  run = f.run;
  follows = f.follows;
}
followed_left (Some text) left rest base state Follows f = f

-- The script after a checkpoint was run and followed to its end, so a gateway can resume.
pub resumes_behind : (text input left rest : Option (List ℕ)) (config : Config) (first state : CoreState)
    (timeline : Timeline) (reached : ℕ) (r : IsRestored config input left first)
    → input ≡ text → IfSome text (λ t. t ≢ []) → IsResumed r.base left rest state
    → IsFollowed r.base left rest state (λ notes. (timeline ≡ timeline_of (reverse notes)) × Reaches 0 notes reached)
    → CanResume text (Some timeline) config state reached
resumes_behind text input left rest config first state timeline reached r same lines resumed followed =
    resumes_from text (left_of text left) rest config r.base state timeline reached lines
    (script_left text left config r.base r.is_base r.config_is r.quiet
    (subst (λ (t : Option (List ℕ)). Consumes t left (title_line config ++ checkpoint_text r.base)) same r.read))
    (resumed_left text left rest r.base state resumed)
    (followed_left text left rest r.base state
    (λ notes. (timeline ≡ timeline_of (reverse notes)) × Reaches 0 notes reached) followed)

nothing_before : (known : Option (List ℕ)) → prepend_known [] known ≡ known
nothing_before None = refl
nothing_before (Some text) = refl

-- A new buffered reader has what its inner reader has.
pub buffers_nothing : {T A : Type 0} (remaining : T → Option (List ℕ)) (r : BufReader T A) → reader_capacity r ≡ 8192
    → reader_buffer r ≡ [] → reader_remaining remaining r ≡ remaining (reader_inner r)
buffers_nothing remaining r capacity empty =
    ap (λ (n : ℕ). if n == 0 then None else prepend_known (reader_buffer r) (remaining (reader_inner r))) capacity
    ∙ (ap (λ (b : List ℕ). prepend_known b (remaining (reader_inner r))) empty
    ∙ nothing_before (remaining (reader_inner r)))
