-- Short sequences of commands, evaluated by computation.
use Rattle.mg_rooms.proofs.Common.{Target, ErrorNumber, NoContextLeft, Settings, Limits, Record, Registry, record_at, context_at, members_at}
use Rattle.std.specs.Prelude.{option_map, ◌≡◌, ℕ, ◌+◌, ◌-◌, List, [], ◌∷◌, ◌++◌, Option, Some, None, Result, Ok, Err, refl, replicate}
use Rattle.mg_rooms.specs.declared.target.Target.TheVariants.{Null, New, Number}
use Rattle.mg_words.specs.Limits.{member_limit, context_limit, termination_limit}
use Rattle.mg_words.specs.declared.error_number.ErrorNumber.TheVariants.{UnknownContext, UnknownTermination, NoTerminationLeft, AlreadyInContext, ContextFull, NotInContext, NoMedia}
use Rattle.mg_words.specs.declared.mode.Mode.TheVariants.{SendOnly}
use Rattle.mg_rooms.specs.declared.media_setting.MediaSetting.TheVariants.{Offer as Offered}
use Rattle.mg_rooms.specs.Registry.{start_of}
use Rattle.mg_rooms.specs.Outcome.{add, modify, move_to, subtract}

abbrev limits : ℕ → ℕ → ℕ → Limits
limits slots first_termination first_context =
    record {
      address = 127 ∷ 0 ∷ 0 ∷ 1 ∷ [];
      base_port = 30000;
      slots = slots;
      first_termination = first_termination;
      first_context = first_context;
    }

-- A new gateway with this many slots.
abbrev with_slots : ℕ → Registry
with_slots slots = start_of (limits slots 1 1)

abbrev no_settings : Settings
no_settings = record { mode = None; depth = None; local = None; remote = None }

abbrev Command : Type 0
Command = Registry → Result (Registry × Record) ErrorNumber

abbrev adds : Target → Command
adds target w = add w target no_settings

abbrev modifies : Target → ℕ → Command
modifies target n w = modify w target n no_settings

abbrev moves : Target → ℕ → Command
moves target n w = move_to w target n no_settings

abbrev subtracts : Target → ℕ → Command
subtracts target n w = subtract w target n

abbrev after : Registry → Result (Registry × Record) ErrorNumber → Registry
after w (Ok (next, done)) = next
after w (Err refusal) = w

-- The registry after a sequence of commands. A refused command changes nothing.
abbrev run : List Command → Registry → Registry
run [] w = w
run (command ∷ commands) w = run commands (after w (command w))

abbrev answer_of : Result (Registry × Record) ErrorNumber → Result (ℕ × ℕ) ErrorNumber
answer_of (Ok (next, done)) = Ok (done.context, done.number)
answer_of (Err refusal) = Err refusal

-- For each command, the context and the termination after it, or the error.
abbrev answers : List Command → Registry → List (Result (ℕ × ℕ) ErrorNumber)
answers [] w = []
answers (command ∷ commands) w = answer_of (command w) ∷ answers commands (after w (command w))

-- The commands that create the context c and add n more terminations to it.
abbrev full : ℕ → ℕ → List Command
full c n = adds New ∷ replicate n (adds (Number c))

-- ## Numbers, slots and contexts

pub first_numbers : answers (adds New ∷ adds (Number 1) ∷ adds New ∷ []) (with_slots termination_limit) ≡ Ok (1, 1) ∷
    Ok (1, 2) ∷ Ok (2, 3) ∷ []
unfolding add
first_numbers = refl

pub no_slot_left : answers (adds New ∷ adds (Number 1) ∷ []) (with_slots 1) ≡ Ok (1, 1) ∷ Err NoTerminationLeft ∷ []
unfolding add
no_slot_left = refl

-- A slot is reused after its termination is removed, but a termination number is not.
pub slot_used_again : answers (full 1 1 ++ subtracts (Number 1) 2 ∷ adds (Number 1) ∷ [])
    (with_slots termination_limit) ≡ Ok (1, 1) ∷ Ok (1, 2) ∷ Ok (1, 2) ∷ Ok (1, 3) ∷ []
unfolding add subtract
slot_used_again = refl

pub least_slot : option_map (λ r. r.slot) (record_at (run (full 1 3 ++ subtracts (Number 1) 3 ∷ subtracts (Number 1) 2 ∷
    adds (Number 1) ∷ []) (with_slots termination_limit)) 5) ≡ Some 1
unfolding add subtract
least_slot = refl

pub last_termination : answers (adds New ∷ adds (Number 1) ∷ []) (start_of (limits termination_limit 4294967295 1)) ≡
    Ok (1, 4294967295) ∷ Err NoTerminationLeft ∷ []
unfolding add
last_termination = refl

pub last_context : answers (adds New ∷ adds New ∷ []) (start_of (limits termination_limit 1 4294967293)) ≡
    Ok (4294967293, 1) ∷ Err NoContextLeft ∷ []
unfolding add
last_context = refl

-- A context that has ended no longer exists, and its number is not reused.
pub ends_with_last_member : answers (adds New ∷ subtracts (Number 1) 1 ∷ adds (Number 1) ∷ adds New ∷ [])
    (with_slots termination_limit) ≡ Ok (1, 1) ∷ Ok (1, 1) ∷ Err UnknownContext ∷ Ok (2, 2) ∷ []
unfolding add subtract
ends_with_last_member = refl

-- ## Full contexts

-- The commands that fill the first context up to the limit on members.
abbrev filled : List Command
filled = full 1 (member_limit - 1)

pub full_context : answers (adds (Number 1) ∷ moves New 5 ∷ adds (Number 1) ∷ [])
    (run filled (with_slots termination_limit)) ≡ Err ContextFull ∷ Ok (2, 5) ∷ Ok (1, member_limit + 1) ∷ []
unfolding add move_to
full_context = refl

-- If the context is full and no slot is free, the error is `NoTerminationLeft`.
pub no_slot_before_full : answers (adds (Number 1) ∷ subtracts (Number 2) (member_limit + 1) ∷ adds (Number 2) ∷ [])
    (run (filled ++ full 2 1) (with_slots (member_limit + 2))) ≡ Err NoTerminationLeft ∷ Ok (2, member_limit + 1) ∷
    Ok (2, member_limit + 3) ∷ []
unfolding add subtract
no_slot_before_full = refl

pub slot_of_the_last : option_map (λ r. r.slot) (record_at (run
    (filled ++ (full 2 1 ++ subtracts (Number 2) (member_limit + 1) ∷ adds (Number 2) ∷ []))
    (with_slots (member_limit + 2))) (member_limit + 3)) ≡ Some member_limit
unfolding add subtract
slot_of_the_last = refl

-- If the limit on contexts is reached, no context can be created, not even for a termination that is alone in its
-- context.
pub no_context_left : answers (moves New 1 ∷ adds New ∷ [])
    (run (replicate context_limit (adds New)) (with_slots termination_limit)) ≡ Err NoContextLeft ∷
    Err NoContextLeft ∷ []
unfolding add move_to
no_context_left = refl

-- ## Names and contexts

pub wrong_contexts : answers (moves Null 1 ∷ moves (Number 1) 1 ∷ modifies Null 1 ∷ modifies (Number 7) 1 ∷
    modifies New 1 ∷ modifies New 9 ∷ modifies (Number 9) 9 ∷ subtracts (Number 2) 1 ∷ [])
    (run (adds New ∷ adds New ∷ []) (with_slots termination_limit))
    ≡ Err UnknownContext ∷ Err AlreadyInContext ∷ Err NotInContext ∷ Err UnknownContext ∷ Err UnknownContext ∷
    Err UnknownTermination ∷ Err UnknownTermination ∷ Err NotInContext ∷ []
unfolding add modify move_to subtract
wrong_contexts = refl

-- A termination that moves becomes the last member of its new context. Its old context ends if no member is left.
pub moves_in_last : members_at (run (full 1 2 ++ moves New 1 ∷ moves (Number 1) 1 ∷ [])
    (with_slots termination_limit)) 1 ≡ 2 ∷ 3 ∷ 1 ∷ []
unfolding add move_to
moves_in_last = refl

pub moved_out_of_its_own : context_at (run (full 1 2 ++ moves New 1 ∷ moves (Number 1) 1 ∷ [])
    (with_slots termination_limit)) 2 ≡ None
unfolding add move_to
moved_out_of_its_own = refl

-- ## Media

-- Settings with a Local whose only alternative is not supported.
abbrev unserved : Settings
unserved = record { mode = Some SendOnly; depth = None; local = Some (Offered (None ∷ [])); remote = None }

pub refused_media : modify (run (adds New ∷ []) (with_slots termination_limit)) (Number 1) 1 unserved ≡ Err NoMedia
unfolding add modify
refused_media = refl

pub refused_media_makes_nothing : answers ((λ w. add w New unserved) ∷ adds New ∷ []) (with_slots termination_limit) ≡
    Err NoMedia ∷ Ok (1, 1) ∷ []
unfolding add
refused_media_makes_nothing = refl
