-- Scripts that begin with a title and a checkpoint.
use Rattle.std.proofs.Common.{◌≡◌, ◌∙◌, ℕ, List, ◌++◌, Option, Some, None, ap, refl, subst, sym}
use Rattle.std.specs.Prelude.{IfSome, codes, is_some, true}
use Rattle.std.specs.Io.{StartsWith}
use Rattle.std.specs.Io.KnownBytes.{Consumes}
use Rattle.mg_checkpoint.specs.Checkpoint.{checkpoint_text, without_speech}
use Rattle.mg_core.specs.Base.{IsBase}
use Rattle.mg_core.specs.World.{World}
use Rattle.mg_engine.specs.declared.config.Config.{Config}
use Rattle.mg_service.specs.Title.{title_line}
use Rattle.mg_hearing.specs.Resumed.{BeginsWithCheckpoint}
use Rattle.mg_hearing.specs.aids.Beginning.{HasBegunWith, LeavesBase}

abbrev pub IsTitleAndWords : List ℕ → Type 0
IsTitleAndWords text = (config : Config) × (text ≡ title_line config ++ codes "checkpoint after ")

pub title_and_words : (text line words : List ℕ) (found : Option Config) → text ≡ line ++ words →
    words ≡ codes "checkpoint after " → IfSome found (λ config. line ≡ title_line config) → is_some found ≡ true →
    IsTitleAndWords text
title_and_words text line words None cut are is some = cc
title_and_words text line words (Some config) cut are is some =
    (config, cut ∙ ap (λ (l : List ℕ). l ++ words) is ∙ ap (λ (l : List ℕ). title_line config ++ l) are)

pub begins : (text : Option (List ℕ)) (seen : List ℕ) → IfSome text (λ t. StartsWith t seen) → IsTitleAndWords seen →
    BeginsWithCheckpoint text
begins None seen next is = tt
begins (Some t) seen next (config, is) = (config, subst (λ (l : List ℕ). StartsWith t l) is next)

pub leaves_base : (config given : Config) (checkpoint : Option (List ℕ)) (front text : List ℕ)
    (old new : Option (List ℕ)) (base : World) → checkpoint ≡ Some text → config ≡ given →
    HasBegunWith config checkpoint front old new → IsBase base → base.gateway.config ≡ config →
    without_speech base ≡ base → checkpoint_text base ≡ text → LeavesBase given base old new
leaves_base config given checkpoint front text old new base is same begun is_base config_is quiet text_is =
    let (none, read) = subst (λ (o : Option (List ℕ)). HasBegunWith config o front old new) is begun in
    let behind : Consumes old new (title_line config ++ checkpoint_text base) =
    subst (λ (l : List ℕ). Consumes old new (title_line config ++ l)) (sym text_is) read in
    (is_base, config_is ∙ same, quiet, subst (λ (c : Config). Consumes old new (title_line c ++ checkpoint_text base)) same behind)
