-- A script whose beginning was read, and the rest of it.
use Rattle.std.proofs.Common.{◌≡◌, ◌∙◌, ℕ, Bool, List, [], ◌++◌, Option, Some, None, ap, append_assoc, inl, inr, refl, subst, sym}
use Rattle.std.proofs.KnownBytes.{Consumes-trans}
use Rattle.std.proofs.Math.Seq.{take-append_seam}
use Rattle.std.specs.Prelude.{IfSome}
use Rattle.std.specs.Fmt.{option_append}
use Rattle.std.specs.Io.{StartsWith}
use Rattle.std.specs.Io.KnownBytes.{Consumes, prepend_known}
use Rattle.mg_checkpoint.specs.Checkpoint.{checkpoint_text, without_speech}
use Rattle.mg_core.specs.Base.{IsBase}
use Rattle.mg_core.specs.Run.{HasRead}
use Rattle.mg_core.specs.World.{World, start_of}
use Rattle.mg_core.specs.aids.Stands.{StandsFor}
use Rattle.mg_core.specs.declared.state.CoreState.{CoreState}
use Rattle.mg_engine.specs.declared.config.Config.{Config}
use Rattle.mg_service.specs.Script.{HasScript}
use Rattle.mg_service.specs.Title.{title_line}
use Rattle.mg_hearing.specs.aids.Beginning.{BeginsWith, HasBegunWith}

-- ## The title

titled_text : (xs ys title more : List ℕ) → xs ≡ (title ++ more) ++ ys → StartsWith xs title
titled_text xs ys title more is =
    subst (λ (l : List ℕ). StartsWith l title) (sym (is ∙ append_assoc title more ys))
    (take-append_seam title (more ++ ys))

titled : (old mid : Option (List ℕ)) (title more : List ℕ) → Consumes old mid (title ++ more) →
    IfSome old (λ text. StartsWith text title)
titled None mid title more read = tt
titled (Some xs) None title more read = absurd read
titled (Some xs) (Some ys) title more read = titled_text xs ys title more read

pub is_titled : (config : Config) (checkpoint : Option (List ℕ)) (front : List ℕ) (old mid : Option (List ℕ)) →
    HasBegunWith config checkpoint front old mid → IfSome old (λ text. StartsWith text (title_line config))
is_titled config None front old mid (more, is, read) =
    titled old mid (title_line config) more (subst (λ (l : List ℕ). Consumes old mid l) is read)
is_titled config (Some text) front old mid (none, read) = titled old mid (title_line config) text read

pub begun : (config : Config) (line words front : List ℕ) (old mid new : Option (List ℕ)) → Consumes old mid line →
    line ≡ title_line config → Consumes mid new words → front ≡ line ++ words → HasBegunWith config None front old new
begun config line words front old mid new first is more front_is = (
  words,
  front_is ∙ ap (λ (l : List ℕ). l ++ words) is,
  subst (λ (l : List ℕ). Consumes old new l) (sym front_is) (Consumes-trans old mid new line words first more),
)

pub begun_behind : (config : Config) (line text : List ℕ) (old mid new : Option (List ℕ)) → Consumes old mid line →
    line ≡ title_line config → Consumes mid new text → Consumes old new (title_line config ++ text)
begun_behind config line text old mid new first is more =
    subst (λ (l : List ℕ). Consumes old new (l ++ text)) is (Consumes-trans old mid new line text first more)

-- ## The script

-- What remains of a text, if the text is known.
abbrev left_of : (text left : Option (List ℕ)) → Option (List ℕ)
left_of None left = None
left_of (Some text) left = left

-- The script of a text: the whole text or, behind a checkpoint, what remains of it.
abbrev pub script_of : (checkpoint text left : Option (List ℕ)) → Option (List ℕ)
script_of None text left = text
script_of (Some checkpoint) text left = left_of text left

script_left : (text left : Option (List ℕ)) (front : List ℕ) → Consumes text left front →
    text ≡ prepend_known front (left_of text left)
script_left None left front read = refl
script_left (Some text) None front read = absurd read
script_left (Some text) (Some left) front read = ap (λ (l : List ℕ). Some l) read

pub has_script : (config : Config) (checkpoint : Option (List ℕ)) (front : List ℕ) (old mid : Option (List ℕ))
    (base : World) → HasBegunWith config checkpoint front old mid → BeginsWith config checkpoint base →
    HasScript old config base (script_of checkpoint old mid)
has_script config None front old mid base begun begins = inl (begins, refl)
has_script config (Some text) front old mid base (none, read) (is_base, config_is, quiet, is) = inr (
  is_base,
  config_is,
  quiet,
  script_left old mid _ (subst (λ (l : List ℕ). Consumes old mid (title_line config ++ l)) (sym is) read),
)

-- ## Reading on

consumed_all : (old mid rest : Option (List ℕ)) (front script : List ℕ) → Consumes old mid front →
    Consumes (option_append (Some front) mid) rest script → Consumes old rest script
consumed_all None mid rest front script first all = tt
consumed_all (Some xs) None rest front script first all = absurd first
consumed_all (Some xs) (Some ys) rest front script first all =
    subst (λ (l : List ℕ). Consumes (Some l) rest script) (sym first) all

consumed_left : (old mid rest : Option (List ℕ)) (script : List ℕ) →
    Consumes (option_append (Some []) mid) rest script → Consumes (left_of old mid) rest script
consumed_left None mid rest script all = tt
consumed_left (Some xs) None rest script all = tt
consumed_left (Some xs) (Some ys) rest script all = all

consumed : (config : Config) (checkpoint : Option (List ℕ)) (front : List ℕ) (old mid rest : Option (List ℕ))
    (script : List ℕ) → HasBegunWith config checkpoint front old mid →
    Consumes (option_append (Some front) mid) rest script → Consumes (script_of checkpoint old mid) rest script
consumed config None front old mid rest script (more, is, read) all =
    consumed_all old mid rest front script read all
consumed config (Some text) front old mid rest script (none, read) all =
    consumed_left old mid rest script
    (subst (λ (l : List ℕ). Consumes (option_append (Some l) mid) rest script) none all)

-- What is read behind the beginning is read of the script.
pub read_script : (config : Config) (checkpoint : Option (List ℕ)) (front : List ℕ) (old mid rest : Option (List ℕ))
    (script : List ℕ) (ended : Bool) → HasBegunWith config checkpoint front old mid →
    HasRead (option_append (Some front) mid) rest script ended → HasRead (script_of checkpoint old mid) rest script ended
read_script config checkpoint front old mid rest script ended begun h = record {
  consumed = consumed config checkpoint front old mid rest script begun h.consumed;
  at_end = h.at_end;
}

-- ## The checkpoint

-- More of a text was read.
pub more_read : (first text new : List ℕ) (a b c : Option (List ℕ)) →
    ((more : List ℕ) × (text ≡ first ++ more) × Consumes a b more) →
    ((part : List ℕ) × Consumes b c part × (new ≡ text ++ part)) →
    (more : List ℕ) × (new ≡ first ++ more) × Consumes a c more
more_read first text new a b c (more, is, read) (part, reads, grows) = (
  more ++ part,
  grows ∙ ap (λ (l : List ℕ). l ++ part) is ∙ append_assoc first more part,
  Consumes-trans a b c more part read reads,
)

-- ## The gateway

pub new_stands : (config : Config) (checkpoint : Option (List ℕ)) (state : CoreState) (base : World) → checkpoint ≡ None →
    StandsFor state (start_of config) → BeginsWith config checkpoint base → StandsFor state base
new_stands config checkpoint state base is stands begins =
    let new : base ≡ start_of config = subst (λ (o : Option (List ℕ)). BeginsWith config o base) is begins in
    subst (λ (w : World). StandsFor state w) (sym new) stands

pub new_begins : (config : Config) (checkpoint : Option (List ℕ)) → checkpoint ≡ None →
    BeginsWith config checkpoint (start_of config)
new_begins config checkpoint is = subst (λ (o : Option (List ℕ)). BeginsWith config o (start_of config)) (sym is) refl

-- No RTP datagram has arrived at a new gateway.
pub new_sound : (config : Config) (checkpoint : Option (List ℕ)) (base : World) → checkpoint ≡ None →
    IsBase (start_of config) → BeginsWith config checkpoint base → IsBase base × (base.tally.media ≡ 0)
new_sound config checkpoint base is is_base begins =
    let new : base ≡ start_of config = subst (λ (o : Option (List ℕ)). BeginsWith config o base) is begins in
    (subst (λ (w : World). IsBase w) (sym new) is_base, ap (λ (w : World). w.tally.media) new)

pub restored_stands : (config : Config) (checkpoint : Option (List ℕ)) (text shown : List ℕ) (state : CoreState)
    (base : World) → checkpoint ≡ Some text → shown ≡ text →
    ((w : World) → IsBase w → w.gateway.config ≡ config → checkpoint_text w ≡ shown →
    StandsFor state (without_speech w)) → BeginsWith config checkpoint base → StandsFor state base
restored_stands config checkpoint text shown state base is same restored begins =
    let (is_base, config_is, quiet, text_is) = subst (λ (o : Option (List ℕ)). BeginsWith config o base) is begins in
    subst (λ (w : World). StandsFor state w) quiet (restored base is_base config_is (text_is ∙ sym same))

pub restored_begins : (config : Config) (checkpoint : Option (List ℕ)) (text shown : List ℕ) (base : World) →
    checkpoint ≡ Some text → shown ≡ text → IsBase base → base.gateway.config ≡ config → without_speech base ≡ base →
    checkpoint_text base ≡ shown → BeginsWith config checkpoint base
restored_begins config checkpoint text shown base is same is_base config_is quiet text_is =
    subst (λ (o : Option (List ℕ)). BeginsWith config o base) (sym is) (is_base, config_is, quiet, text_is ∙ same)

-- No RTP datagram has arrived at a gateway that goes on from a checkpoint.
pub restored_sound : (config : Config) (checkpoint : Option (List ℕ)) (text : List ℕ) (base : World) →
    checkpoint ≡ Some text → BeginsWith config checkpoint base → IsBase base × (base.tally.media ≡ 0)
restored_sound config checkpoint text base is begins =
    let (is_base, config_is, quiet, text_is) = subst (λ (o : Option (List ℕ)). BeginsWith config o base) is begins in
    (is_base, ap (λ (w : World). w.tally.media) (sym quiet))
