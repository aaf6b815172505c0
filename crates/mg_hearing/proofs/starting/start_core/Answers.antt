use Rattle.std.proofs.Common.{◌≡◌, None, Some, refl}
use Rattle.mg_core.specs.World.{start_of}
use Rattle.mg_hearing.specs.aids.Beginning.{checkpoint_of}
use Rattle.mg_hearing.proofs.BeginningLemmas.{new_begins, new_sound, new_stands, restored_begins, restored_sound, restored_stands}
use Rattle.mg_hearing.proofs.starting.start_core.Goals as goal

pub returns-in-Ok-clause-started : goal.returns-in-Ok-clause-started
returns-in-Ok-clause-started c =
    let start = c.args.start.now in
    let is : checkpoint_of start ≡ Some c.in-Some.text.items = rw c.in-Some.is refl in
    λ base begins. restored_stands start.config (checkpoint_of start) c.in-Some.text.items c.as_slice.result.now
    c.in-Ok.core.state base is c.as_slice.ensures.value c.in-Ok.ensures.restored begins

pub returns-in-Ok-clause-base : goal.returns-in-Ok-clause-base
returns-in-Ok-clause-base c =
    let start = c.args.start.now in
    let is : checkpoint_of start ≡ Some c.in-Some.text.items = rw c.in-Some.is refl in
    let (base, is_base, config_is, quiet, text_is, stands) = c.in-Ok.ensures.base in (
      base,
      restored_begins start.config (checkpoint_of start) c.in-Some.text.items c.as_slice.result.now base is
          c.as_slice.ensures.value is_base config_is quiet text_is,
    )

pub returns-in-Ok-clause-sound : goal.returns-in-Ok-clause-sound
returns-in-Ok-clause-sound c =
    let start = c.args.start.now in
    let is : checkpoint_of start ≡ Some c.in-Some.text.items = rw c.in-Some.is refl in
    λ base begins. restored_sound start.config (checkpoint_of start) c.in-Some.text.items base is begins

pub returns-in-Ok-new_core-clause-started : goal.returns-in-Ok-new_core-clause-started
returns-in-Ok-new_core-clause-started c =
    let start = c.args.start.now in
    let is : checkpoint_of start ≡ None = rw c.in-None.is refl in
    λ base begins. new_stands start.config (checkpoint_of start) c.in-Ok-new_core.core.state base is
    c.in-Ok-new_core.ensures.started begins

pub returns-in-Ok-new_core-clause-base : goal.returns-in-Ok-new_core-clause-base
returns-in-Ok-new_core-clause-base c =
    let start = c.args.start.now in
    let is : checkpoint_of start ≡ None = rw c.in-None.is refl in
    (start_of start.config, new_begins start.config (checkpoint_of start) is)

pub returns-in-Ok-new_core-clause-sound : goal.returns-in-Ok-new_core-clause-sound
returns-in-Ok-new_core-clause-sound c =
    let start = c.args.start.now in
    let is : checkpoint_of start ≡ None = rw c.in-None.is refl in
    λ base begins. new_sound start.config (checkpoint_of start) base is c.in-Ok-new_core.ensures.base begins
